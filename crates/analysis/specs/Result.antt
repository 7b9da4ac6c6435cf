-- What a call hands back and leaves in the areas, by the outcome.
use Rattle.std.specs.Prelude.{ℕ, ◌≤◌, ◌<◌, ◌≡◌, List, Option, None, Some, Result, Ok, Err, IfOk, IfErr, ltb, length}
use Rattle.poset.specs.Order.{Arc, Rel, Four, Strict, before, first_on_cycle_of, first_n_of}
use Rattle.poset.specs.Tree.{Tree}
use Rattle.poset.specs.Decompose.{tree_of}
use Rattle.poset.specs.Areas.{overlay, padded, arc_bytes}
use Rattle.relation.specs.Arcs.{place}
use Rattle.relation.specs.Table.{holds, Inside}
use Rattle.record.specs.Layout.{most_hours}
use Rattle.writer.specs.Written.{record_of}
use Rattle.writer.specs.declared.writing.Written.{Written}
use Rattle.analysis.specs.Answer.{Answer, answer}
use Rattle.analysis.specs.Outcome.{Rooms, Outcome, refuse, ordered, timed, arc_outcome}
use Rattle.analysis.specs.declared.answer.Answer.{Answer as Told}
use Rattle.analysis.specs.declared.Accepted.{Accepted}
use Rattle.analysis.specs.declared.Refusal.{Refusal}
use Rattle.analysis.specs.declared.Refusal.TheVariants as refusal
use Rattle.analysis.specs.declared.Analysis.{Analysis}

-- the answer that the code tells
abbrev pub answer_told : Told → Answer
answer_told a = answer a.number a.first a.second a.third a.fourth

-- the papers' number and places of an acceptance
abbrev pub accepted_answer : Accepted → Answer
accepted_answer a = answer 0 a.bytes a.arcs a.groups 0

-- of a refusal
abbrev pub refusal_answer : Refusal → Answer
refusal_answer refusal.Long = answer 1 0 0 0 0
refusal_answer (refusal.Broken at) = answer 2 at 0 0 0
refusal_answer refusal.Count = answer 3 0 0 0 0
refusal_answer refusal.Many = answer 4 0 0 0 0
refusal_answer (refusal.Outside i) = answer 5 i 0 0 0
refusal_answer (refusal.Loop i) = answer 6 i 0 0 0
refusal_answer (refusal.Cycle u) = answer 7 u 0 0 0
refusal_answer (refusal.Crossed a b c d) = answer 8 a b c d
refusal_answer refusal.RecordRoom = answer 9 0 0 0 0
refusal_answer refusal.ArcRoom = answer 10 0 0 0 0
refusal_answer refusal.NoRecord = answer 11 0 0 0 0
refusal_answer refusal.HoursLength = answer 12 0 0 0 0
refusal_answer (refusal.HoursLarge j) = answer 13 j 0 0 0
refusal_answer refusal.NoJob = answer 14 0 0 0 0

-- of either
abbrev pub answer_of : Result Accepted Refusal → Answer
answer_of (Ok a) = accepted_answer a
answer_of (Err r) = refusal_answer r

-- what a refusal makes of a call: nothing is written, and there are no sequences and no hours
abbrev pub refused : Refusal → Outcome
refused r = let a = refusal_answer r in refuse a.number a.first a.second a.third a.fourth

-- the refusal of an order that no tree means, by its first N
abbrev pub crossed_by : Option Four → Refusal
crossed_by (Some q) = refusal.Crossed q.0 q.1 q.2 q.3
crossed_by None = refusal.Crossed 0 0 0 0

-- the room of two areas
abbrev pub rooms : List ℕ → List ℕ → Rooms
rooms bytes area = record { record_room = length bytes; arc_room = length area }

-- the answer of an analysis
abbrev pub analysis_answer : Result Analysis Refusal → Answer
analysis_answer (Ok a) = accepted_answer a.accepted
analysis_answer (Err r) = refusal_answer r

-- the answer, both areas after the call, and both sequences and the hours, or the refusal
pub record Gives (o : Outcome) (bytes area : List ℕ) (r : Result Analysis Refusal) (bytes' area' : List ℕ) : Type 0 where
  pub answers : analysis_answer r ≡ o.verdict
  pub record_is : bytes' ≡ overlay o.bytes bytes
  pub arcs_are : area' ≡ overlay (arc_bytes o.arcs) area
  pub forward_is : IfOk r (λ a. a.forward ≡ padded o.forward)
  pub reverse_is : IfOk r (λ a. a.reverse ≡ padded o.reverse)
  pub hours_is : IfOk r (λ a. a.hours ≡ padded o.hours)
  pub refusal_is : IfErr r (λ e. o ≡ refused e)

-- What the steps of an analysis give. A step that refuses has the outcome that its refusal makes, whatever the rooms.

-- 3 and 4: a count and so many arcs
abbrev pub Counts : ℕ → ℕ → Result (Unit {0}) Refusal → Type 0
Counts n count (Ok _) = (0 < n) × (n ≤ 128) × (count ≤ 4096)
Counts n count (Err r) = (rs : Rooms) (hours : List ℕ) (arcs : List Arc) → length arcs ≡ count → arc_outcome rs n hours arcs ≡ refused r

-- 12 and 13: the hours of n jobs
abbrev pub Hours : ℕ → List ℕ → Result (Unit {0}) Refusal → Type 0
Hours n hours (Ok _) = (length hours ≡ n) × (place (ltb most_hours) hours ≡ None)
Hours n hours (Err r) = (rs : Rooms) (arcs : List Arc) → timed rs n hours arcs ≡ refused r
