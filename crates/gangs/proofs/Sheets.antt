-- The record that an accepted sheet or pair list gets.
use Prim.Native.Nat.{ℕ}
use mathlib.Core.Path.{◌≡◌}
use mathlib.Core.List.{List}
use Rattle.poset.specs.Order.{Arc, before}
use Rattle.record.specs.Layout.{hours_of}
use Rattle.analysis.specs.Answer.{answer}
use Rattle.analysis.specs.Outcome.{Outcome}
use Rattle.analysis.specs.Claims.{Yield}
use Rattle.analysis.proofs.Asked.{ask_yield}
use Rattle.gangs.specs.Outcome.{gang_outcome, IsPlan}
use Rattle.gangs.proofs.Records.{plans, record_plan}

module _ {n : ℕ} {hours : List ℕ} {arcs : List Arc} {o : Outcome} (y : Yield n hours arcs o) where
  pub yield_told : (gang_outcome o.bytes).verdict ≡ answer 0 0 0 0 0
  unfolding gang_outcome
  yield_told = ask_yield plans y

  pub yield_plan : IsPlan n (before n arcs) (hours_of hours) (gang_outcome o.bytes)
  yield_plan = record_plan o.bytes n y.tree hours y.spells (before n arcs) y.means
