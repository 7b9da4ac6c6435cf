-- What is told of bytes and two jobs.
use Prim.Native.Nat.{ℕ, ◌+◌, ◌≤◌, ◌<◌}
use mathlib.Core.Path.{◌≡◌, refl, ap, ◌∙◌}
use mathlib.Core.Bool.{Bool, true, false, ◌&&◌, cond}
use mathlib.Core.List.{List, [], ◌∷◌}
use mathlib.Core.Logic.{◌⊎◌, inl, inr, ⊎_elim, ◌≢◌}
use native.Mathlib.Decide.{dec_lt}
use native.Mathlib.Omega.{arith}
use lib.Dec.{ltb}
use Rattle.poset.specs.Order.{Rel}
use Rattle.poset.specs.Tree.{Tree, groups, Means}
use Rattle.record.specs.Bits.{AllBelow}
use Rattle.record.specs.Layout.{IsRecord}
use Rattle.record.proofs.Asked.{asked_either}
use Rattle.analysis.specs.Answer.{answer}
use Rattle.analysis.specs.Sentences.{First, accepted}
use Rattle.analysis.proofs.Asked.{Question, ask_told, ask_number}
use Rattle.reason.specs.Claims.{IsReason}
use Rattle.reason.specs.Outcome.{ReasonOutcome, turned_away, tree_reason, reason_outcome, ReasonNumber}
use Rattle.reason.proofs.Answering.{both_below, not_below}
use Rattle.reason.proofs.Tree.{tree_reason_lem, position_small, jobs_small, jobs_two}

module _ (u v : ℕ) where
  -- the question for the reason between them

  abbrev pub told_if : Bool → Tree → ReasonOutcome
  told_if inside t = cond inside (tree_reason t u v) (turned_away 14)

  abbrev pub tree_told : ℕ → Tree → List ℕ → ReasonOutcome
  tree_told n t hours = told_if (ltb u n && ltb v n) t

  pub if_not_11 : (inside : Bool) (t : Tree) → (told_if inside t).verdict.number ≢ 11
  unfolding tree_reason
  if_not_11 true t e = omega (arith, e)
  if_not_11 false t e = omega (arith, e)

  abbrev pub reasons : Question ReasonOutcome
  reasons =
      record {
        refused = turned_away 11;
        told = tree_told;
        verdict = λ o. o.verdict;
        refuses = refl;
        not_11 = λ n t hours. if_not_11 (ltb u n && ltb v n) t;
      }

  -- 14 exactly where one of them is not below the count

  outside_or_in : (n : ℕ) → ((n ≤ u) ⊎ (n ≤ v)) ⊎ ((u < n) × (v < n))
  outside_or_in n =
      elim (dec_lt u n) [
        | yes p ↦ elim (dec_lt v n) [ yes q ↦ inr (p, q) | no q ↦ inl (inr (omega arith)) ]
        | no p ↦ inl (inl (omega arith))
      ]

  tree_number : (n : ℕ) (t : Tree) (hours : List ℕ) → First ((14, (n ≤ u) ⊎ (n ≤ v)) ∷ []) accepted (tree_told n t hours).verdict.number
  unfolding tree_reason
  tree_number n t hours = by (outside_or_in n)
    where
      by : ((n ≤ u) ⊎ (n ≤ v)) ⊎ ((u < n) × (v < n)) → First ((14, (n ≤ u) ⊎ (n ≤ v)) ∷ []) accepted (tree_told n t hours).verdict.number
      by (inl h) = inl (h, ap (λ (b : Bool). (told_if b t).verdict.number) (not_below u v n h))
      by (inr (p, q)) = inr (
        ⊎_elim (λ h. omega arith) (λ h. omega arith),
        ap (λ (b : Bool). (told_if b t).verdict.number) (both_below u v n p q),
      )

  pub reason_number : (bytes : List ℕ) → AllBelow 256 bytes → ReasonNumber bytes u v (reason_outcome bytes u v).verdict.number
  unfolding reason_outcome
  reason_number = ask_number reasons (λ n t hours. First ((14, (n ≤ u) ⊎ (n ≤ v)) ∷ []) accepted) tree_number

  -- what is told

  pub reason_told : (bytes : List ℕ) (n : ℕ) (t : Tree) (hours : List ℕ) → IsRecord bytes n t hours → u < n → v < n
      → reason_outcome bytes u v ≡ tree_reason t u v
  unfolding reason_outcome
  reason_told bytes n t hours r p q = ask_told reasons bytes n t hours r ∙ ap (λ (b : Bool). told_if b t) (both_below u v n p q)

  pub reason_14 : (bytes : List ℕ) (n : ℕ) (t : Tree) (hours : List ℕ) → IsRecord bytes n t hours → (n ≤ u) ⊎ (n ≤ v)
      → reason_outcome bytes u v ≡ turned_away 14
  unfolding reason_outcome
  reason_14 bytes n t hours r h = ask_told reasons bytes n t hours r ∙ ap (λ (b : Bool). told_if b t) (not_below u v n h)

  -- one of the refusals, or the reason of a tree
  pub data Ways (o : ReasonOutcome) : Type 0 where
    no_record : o ≡ turned_away 11 → Ways o
    no_job : o ≡ turned_away 14 → Ways o
    reasoned : (t : Tree) → o ≡ tree_reason t u v → Ways o

  if_ways : (inside : Bool) (t : Tree) (o : ReasonOutcome) → o ≡ told_if inside t → Ways o
  if_ways true t o e = reasoned t e
  if_ways false t o e = no_job e

  pub reason_ways : (bytes : List ℕ) → Ways (reason_outcome bytes u v)
  unfolding reason_outcome
  reason_ways bytes =
      ⊎_elim
      (λ (h : (n : ℕ) × (t : Tree) × (hours : List ℕ) × (reason_outcome bytes u v ≡ tree_told n t hours)).
      let (n, t, hours, e) = h in if_ways (ltb u n && ltb v n) t (reason_outcome bytes u v) e)
      (λ (h : reason_outcome bytes u v ≡ turned_away 11). no_record h)
      (asked_either (turned_away 11) tree_told bytes)

  ways_empty : (o : ReasonOutcome) → Ways o → o.verdict.number ≢ 0 → o ≡ turned_away o.verdict.number
  unfolding tree_reason
  ways_empty o (no_record e) bad = rw e
  ways_empty o (no_job e) bad = rw e
  ways_empty o (reasoned t e) bad = absurd (bad (ap (λ (x : ReasonOutcome). x.verdict.number) e))

  pub reason_empty : (bytes : List ℕ) → (reason_outcome bytes u v).verdict.number ≢ 0
      → reason_outcome bytes u v ≡ turned_away (reason_outcome bytes u v).verdict.number
  reason_empty bytes = ways_empty (reason_outcome bytes u v) (reason_ways bytes)

-- the reason of a record, in the order that its tree means

module _ (bytes : List ℕ) (n : ℕ) (t : Tree) (hours : List ℕ) (spells : IsRecord bytes n t hours) (u v : ℕ) (p : u < n) (q : v < n) where
  told : reason_outcome bytes u v ≡ tree_reason t u v
  told = reason_told u v bytes n t hours spells p q

  pub record_verdict : (reason_outcome bytes u v).verdict ≡ answer 0 0 0 0 0
  unfolding tree_reason
  record_verdict = ap (λ (o : ReasonOutcome). o.verdict) told

  pub record_reason : (r : Rel) → Means n t r → IsReason t r u v (reason_outcome bytes u v)
  record_reason r means = rw told (tree_reason_lem n r t means u v p q)

  pub position_below : ((reason_outcome bytes u v).position < n + groups t) × (groups t < n)
  position_below = rw told (position_small n t spells.spans u v p q)

  pub jobs_within : ((reason_outcome bytes u v).jobs ≤ n) × (u ≢ v → 2 ≤ (reason_outcome bytes u v).jobs)
  jobs_within = rw told (jobs_small n t spells.spans u v p q, jobs_two n t spells.spans u v p q)
