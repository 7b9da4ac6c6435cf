-- What a call hands back and leaves in the areas, the sequences too, by the outcome.
use Rattle.std.specs.Prelude.{ℕ, ◌≡◌, List, [], Result, Ok, Err, length, take}
use Rattle.poset.specs.Areas.{overlay, padded}
use Rattle.analysis.specs.Outcome.{Outcome}
use Rattle.analysis.specs.declared.Analysis.{Analysis}
use Rattle.analysis.specs.declared.Refusal.{Refusal}
use Rattle.desk.specs.Told.{Told}

-- the sequences and the hours that are handed out: of a refusal zeros

abbrev pub forward_of : Result Analysis Refusal → List ℕ
forward_of (Ok a) = a.forward
forward_of (Err r) = padded []

abbrev pub reverse_of : Result Analysis Refusal → List ℕ
reverse_of (Ok a) = a.reverse
reverse_of (Err r) = padded []

abbrev pub hours_of : Result Analysis Refusal → List ℕ
hours_of (Ok a) = a.hours
hours_of (Err r) = padded []

-- as many of the 128 entries as an area has room for
unfoldable pub entered : List ℕ → List ℕ → List ℕ
entered entries area = overlay (take (length area) entries) area

-- what the desk's call tells, and both sequences
pub record Shown (o : Outcome) (bytes area forward reverse : List ℕ) (r : ℕ) (bytes' area' forward' reverse' : List ℕ) : Type 0 where
  pub told : Told o bytes area r bytes' area'
  pub forward_is : forward' ≡ entered (padded o.forward) forward
  pub reverse_is : reverse' ≡ entered (padded o.reverse) reverse
