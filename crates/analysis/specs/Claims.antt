-- What the demands claim of an outcome, of an answer's places and of an accepted input: what a reader of them must believe.
use Rattle.std.specs.Prelude.{ℕ, ◌≤◌, ◌<◌, ◌≡◌, true, false, cond, ◌⊎◌, ◌↔◌, ltb, length}
use mathlib.Core.List.{List, [], ◌∷◌, ◌++◌, Memᴰ}
use Rattle.poset.specs.Lists.{member, occurrences, ahead_in}
use Rattle.poset.specs.Order.{Arc, Run, before, Four, NAt, SmallerFour, reduction, Ascending}
use Rattle.poset.specs.Tree.{Tree, leaves, reversed, groups, precedes, Means, canonical}
use Rattle.record.specs.Layout.{most_hours, layout, IsRecord}
use Rattle.analysis.specs.Answer.{Answer, answer}
use Rattle.analysis.specs.Outcome.{Outcome}
use Rattle.analysis.specs.Sentences.{Check}

-- no sentence of the checks holds
abbrev pub NoneHolds : List Check → Type 0
NoneHolds [] = Unit {0}
NoneHolds (c ∷ cs) = (c.1 → ⊥) × NoneHolds cs

-- nothing is written, and the sequences and the hours are empty
abbrev pub Untouched : Outcome → Type 0
Untouched o = (o.bytes ≡ []) × (o.arcs ≡ []) × (o.forward ≡ []) × (o.reverse ≡ []) × (o.hours ≡ [])

-- the element at place i is the first with P
abbrev pub FirstAt {ℓ κ} : {A : Type ℓ} → (A → Type κ) → List A → ℕ → Type (ℓ ⊔ κ)
FirstAt {A = A} P xs i =
    (ls : List A) × (x : A) × (rs : List A) × (xs ≡ ls ++ x ∷ rs) × (length ls ≡ i) × P x × ((y : A) → Memᴰ y ls → P y → ⊥)

-- the N that is lexicographically the first
abbrev pub FirstN : ℕ → List Arc → Four → Type 0
FirstN n arcs q = NAt n (before n arcs) q × ((p : Four) → NAt n (before n arcs) p → SmallerFour p q → ⊥)

abbrev pub places : Answer → Four
places a = (a.first, a.second, a.third, a.fourth)

-- the places that an answer on a count, its hours and its arcs names
pub record Named (n : ℕ) (hours : List ℕ) (arcs : List Arc) (a : Answer) : Type 0 where
  pub outside_at : a.number ≡ 5 → FirstAt (λ (x : Arc). (n ≤ x.0) ⊎ (n ≤ x.1)) arcs a.first
  pub loop_at : a.number ≡ 6 → FirstAt (λ (x : Arc). x.0 ≡ x.1) arcs a.first
  pub cycle_at : a.number ≡ 7 → Run arcs a.first a.first × ((v : ℕ) → v < a.first → Run arcs v v → ⊥)
  pub n_at : a.number ≡ 8 → FirstN n arcs (places a)
  pub hours_at : a.number ≡ 13 → FirstAt (λ (h : ℕ). most_hours < h) hours a.first

-- the places that it does not name are 0
abbrev pub Unnamed : Answer → Type 0
Unnamed a =
    (member a.number (0 ∷ 2 ∷ 5 ∷ 6 ∷ 7 ∷ 8 ∷ 13 ∷ []) ≡ false → a.first ≡ 0)
    × (member a.number (0 ∷ 8 ∷ []) ≡ false → (a.second ≡ 0) × (a.third ≡ 0) × (a.fourth ≡ 0))

-- what an accepted count, its hours and its arcs yield
pub record Yield (n : ℕ) (hours : List ℕ) (arcs : List Arc) (o : Outcome) : Type 0 where
  pub tree : Tree
  pub means : Means n tree (before n arcs)
  pub plain : canonical tree ≡ true
  pub only : (t : Tree) → Means n t (before n arcs) → canonical t ≡ true → t ≡ tree
  pub verdict_is : o.verdict ≡ answer 0 (length o.bytes) (length o.arcs) (groups tree) 0
  pub bytes_are : o.bytes ≡ layout n hours tree
  pub spells : IsRecord o.bytes n tree hours
  pub hours_are : o.hours ≡ hours
  pub arcs_are : o.arcs ≡ reduction n (before n arcs)
  pub ascending : Ascending o.arcs
  pub reduced : (u v : ℕ) → Memᴰ (u, v) o.arcs ↔ (Run arcs u v × ((w : ℕ) → Run arcs u w → Run arcs w v → ⊥))
  pub forward_is : o.forward ≡ leaves tree
  pub reverse_is : o.reverse ≡ reversed tree
  pub forward_once : (u : ℕ) → occurrences u o.forward ≡ cond (ltb u n) 1 0
  pub reverse_once : (u : ℕ) → occurrences u o.reverse ≡ cond (ltb u n) 1 0
  pub realized : (u v : ℕ) → u < n → v < n → Run arcs u v ↔ ((ahead_in u v o.forward ≡ true) × (ahead_in u v o.reverse ≡ true))

-- what bytes that are a record yield
pub record RecordYield (bytes : List ℕ) (o : Outcome) : Type 0 where
  pub jobs : ℕ
  pub tree : Tree
  pub hours : List ℕ
  pub spells : IsRecord bytes jobs tree hours
  pub verdict_is : o.verdict ≡ answer 0 (length bytes) (length o.arcs) (groups tree) 0
  pub arcs_are : o.arcs ≡ reduction jobs (precedes tree)
  pub forward_is : o.forward ≡ leaves tree
  pub reverse_is : o.reverse ≡ reversed tree
  pub hours_are : o.hours ≡ hours

-- no job has more hours than it may have
abbrev pub Moderate : List ℕ → Type 0
Moderate hours = (h : ℕ) → Memᴰ h hours → h ≤ most_hours

-- the same answer, reduced arcs and sequences
pub record AlikeButHours (a b : Outcome) : Type 0 where
  pub same_verdict : a.verdict ≡ b.verdict
  pub same_arcs : a.arcs ≡ b.arcs
  pub same_forward : a.forward ≡ b.forward
  pub same_reverse : a.reverse ≡ b.reverse

-- and the same hours
pub record Alike (a b : Outcome) : Type 0 where
  pub but_hours : AlikeButHours a b
  pub same_hours : a.hours ≡ b.hours
