-- As many entries as an area has room for, and what an analysis gives, told with its sequences.
use Prim.Native.Nat.{ℕ, ◌≤◌, ◌<◌}
use mathlib.Core.Path.{◌≡◌, refl, sym, ap, ◌∙◌}
use mathlib.Core.List.{List, [], ◌++◌}
use native.Mathlib.Decide.{dec_lt}
use native.Mathlib.Omega.{arith}
use lib.ListN.{length, take, drop, drop_of_length-le}
use lib.Seq.{length-take-le, take_all}
use Rattle.std.specs.Prelude.{Result, Ok, Err}
use Rattle.poset.specs.Areas.{overlay, padded}
use Rattle.analysis.specs.Outcome.{Outcome, refuse}
use Rattle.analysis.specs.Result.{analysis_answer, Gives}
use Rattle.analysis.specs.declared.Analysis.{Analysis}
use Rattle.analysis.specs.declared.Refusal.{Refusal}
use Rattle.desk.specs.Packed.{packed, cut}
use Rattle.desk.proofs.Packing.{Narrow}
use Rattle.desk.proofs.Telling.{gives_told}
use Rattle.desk_tests.specs.Shown.{forward_of, reverse_of, hours_of, entered, Shown}

-- what a call of `enter` leaves in an area

rest : (entries area : List ℕ) → drop (length entries) area ≡ drop (length (take (length area) entries)) area
rest entries area =
    elim (dec_lt (length area) (length entries)) [
      | yes l ↦
          drop_of_length-le area (omega arith)
          ∙ sym (drop_of_length-le area (omega (arith, length-take-le (length area) entries (omega arith))))
      | no l ↦ ap (λ (k : List ℕ). drop (length k) area) (sym (take_all (length area) entries (omega arith)))
    ]

pub entered_is
    : (entries area : List ℕ) {area' : List ℕ} → area' ≡ take (length area) entries ++ drop (length entries) area → area' ≡ entered entries area
unfolding entered overlay
entered_is entries area e = e ∙ ap (λ l. take (length area) entries ++ l) (rest entries area)

-- the sequences and the hours are those of the outcome
module _ {o : Outcome} {bytes area bytes' area' : List ℕ} where
  pub forward_same : (r : Result Analysis Refusal) → Gives o bytes area r bytes' area' → forward_of r ≡ padded o.forward
  unfolding refuse
  forward_same (Ok a) g = g.forward_is
  forward_same (Err e) g = ap (λ (o : Outcome). padded o.forward) (sym g.refusal_is)

  pub reverse_same : (r : Result Analysis Refusal) → Gives o bytes area r bytes' area' → reverse_of r ≡ padded o.reverse
  unfolding refuse
  reverse_same (Ok a) g = g.reverse_is
  reverse_same (Err e) g = ap (λ (o : Outcome). padded o.reverse) (sym g.refusal_is)

  pub hours_same : (r : Result Analysis Refusal) → Gives o bytes area r bytes' area' → hours_of r ≡ padded o.hours
  unfolding refuse
  hours_same (Ok a) g = g.hours_is
  hours_same (Err e) g = ap (λ (o : Outcome). padded o.hours) (sym g.refusal_is)

  pub gives_shown
      : {a : Result Analysis Refusal} {r : ℕ} {forward reverse forward' reverse' : List ℕ} → Gives o bytes area a bytes' area' → Narrow o.verdict
      → (r ≡ packed (cut (analysis_answer a))) × (forward' ≡ entered (forward_of a) forward) × (reverse' ≡ entered (reverse_of a) reverse)
      → Shown o bytes area forward reverse r bytes' area' forward' reverse'
  gives_shown {a} {forward = forward} {reverse = reverse} g w s = record {
    told = gives_told g w s.0;
    forward_is = s.1 ∙ ap (λ xs. entered xs forward) (forward_same a g);
    reverse_is = s.2 ∙ ap (λ xs. entered xs reverse) (reverse_same a g);
  }
