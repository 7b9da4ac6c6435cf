-- A refusal's number is not that of acceptance.
use Prim.Native.Nat.{◌<◌}
use native.Mathlib.Omega.{arith}
use Rattle.analysis.specs.Result.{refusal_answer}
use Rattle.analysis.specs.declared.Refusal.{Refusal}
use Rattle.analysis.specs.declared.Refusal.TheVariants as refusal

pub refusal_number : (r : Refusal) → 0 < (refusal_answer r).number
refusal_number refusal.Long = omega arith
refusal_number (refusal.Broken at) = omega arith
refusal_number refusal.Count = omega arith
refusal_number refusal.Many = omega arith
refusal_number (refusal.Outside i) = omega arith
refusal_number (refusal.Loop i) = omega arith
refusal_number (refusal.Cycle u) = omega arith
refusal_number (refusal.Crossed a b c d) = omega arith
refusal_number refusal.RecordRoom = omega arith
refusal_number refusal.ArcRoom = omega arith
refusal_number refusal.NoRecord = omega arith
refusal_number refusal.HoursLength = omega arith
refusal_number (refusal.HoursLarge j) = omega arith
refusal_number refusal.NoJob = omega arith
