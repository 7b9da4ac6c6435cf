-- The number and the places of a preview.
use Prim.Native.Nat.{ℕ, ◌/◌, ◌%◌, ◌≤◌, ◌<◌}
use mathlib.Core.Path.{◌≡◌, sym, ap, ap₂, subst, ◌∙◌}
use mathlib.Core.Bool.{true}
use mathlib.Core.List.{List, [], ◌∷◌, ◌++◌}
use mathlib.Core.Logic.{◌⊎◌, inl, inr, ⊎_elim, ◌≢◌}
use native.Mathlib.Omega.{arith}
use lib.ListN.{length, length-append}
use Rattle.poset.specs.Order.{Arc, before, reduction}
use Rattle.poset.specs.Tree.{Tree, groups, Means, canonical}
use Rattle.relation.specs.Arcs.{pairs}
use Rattle.record.specs.Layout.{layout}
use Rattle.analysis.specs.Answer.{answer}
use Rattle.analysis.specs.Claims.{NoneHolds, Named, Unnamed, Yield}
use Rattle.analysis.specs.Outcome.{roomy, pair_outcome, arc_outcome}
use Rattle.analysis.specs.Sentences.{Check, First, PairNumber, limits, crossing, accepted}
use Rattle.analysis.proofs.Checks.{Other, unheld}
use Rattle.analysis.proofs.Demands.{number_pairs, places_pairs, unnamed_pairs, yield_pairs}
use Rattle.analysis.proofs.Enough.{never_9_or_10_pairs}
use Rattle.analysis.proofs.Steps.{pairs_length, pairs_odd, pairs_even, count_none, count_above, count_many}
use Rattle.preview.specs.Outcome.{with_order, previewed, orders_with, PreviewNumber}
use Rattle.preview.proofs.Answering.{told_refused}
use Rattle.preview.proofs.Joining.{pairs_append}

-- what has room is not refused with 9 or 10
module _ (H A B : Type 0) (k : ℕ) (not_9 : k ≢ 9) (not_10 : k ≢ 10) where
  with_room : (cs : List Check) → First (cs ++ (8, H) ∷ (9, A) ∷ (10, B) ∷ []) accepted k → First (cs ++ (8, H) ∷ []) accepted k
  with_room [] (inl h) = inl h
  with_room [] (inr (z, inl h)) = absurd (not_9 h.1)
  with_room [] (inr (z, inr (_, inl h))) = absurd (not_10 h.1)
  with_room [] (inr (z, inr (_, inr (_, e)))) = inr (z, e)
  with_room (c ∷ cs) (inl h) = inl h
  with_room (c ∷ cs) (inr h) = inr (h.0, with_room cs h.1)

not_zero : (k : ℕ) → 0 < k → 0 ≢ k
not_zero k l e = omega (arith, l, e)

-- an accepted list has no half order, and no sentence tested ahead of 8 holds
pub accepted_clear
    : (n : ℕ) (hours list : List ℕ) → (pair_outcome roomy n hours list).verdict.number ≡ 0
    → (length list % 2 ≡ 0) × NoneHolds (limits n hours (pairs list))
accepted_clear n hours list zero = by (subst (PairNumber roomy n hours list) zero (number_pairs roomy n hours list))
  where
    others : Other 0 (limits n hours (pairs list))
    others = (
      not_zero 3 (omega arith),
      (
        not_zero 4 (omega arith),
        (
          not_zero 12 (omega arith),
          (not_zero 13 (omega arith), (not_zero 5 (omega arith), (not_zero 6 (omega arith), (not_zero 7 (omega arith), tt)))),
        ),
      ),
    )

    by : PairNumber roomy n hours list 0 → (length list % 2 ≡ 0) × NoneHolds (limits n hours (pairs list))
    by (inl h) = absurd (not_zero 2 (omega arith) h.1)
    by (inr (even, f)) = (omega arith, unheld accepted 0 (limits n hours (pairs list)) (crossing roomy n hours (pairs list)) others f)

module _ (n : ℕ) (hours list : List ℕ) (first second : ℕ) where
  even_too : length (with_order list first second) % 2 ≡ length list % 2
  even_too = omega (arith, length-append list (first ∷ second ∷ []))

  orders_with_lem : length list % 2 ≡ 0 → pairs (with_order list first second) ≡ orders_with list first second
  unfolding pairs
  orders_with_lem even = pairs_append list (first ∷ second ∷ []) even

  -- what is told before the orders are looked at

  pub preview_odd : length list % 2 ≡ 1 → previewed n hours list first second ≡ answer 2 0 0 0 0
  unfolding previewed
  preview_odd odd = sym (told_refused (pairs_odd roomy n hours (with_order list first second) (λ e. omega (arith, even_too, e))))

  module _ (even : length list % 2 ≡ 0) where
    pub preview_arcs : pair_outcome roomy n hours (with_order list first second) ≡ arc_outcome roomy n hours (orders_with list first second)
    preview_arcs =
        pairs_even roomy n hours (with_order list first second) (omega (arith, even_too)) ∙ ap (arc_outcome roomy n hours) (orders_with_lem even)

    pub preview_count : (n ≡ 0) ⊎ (128 < n) → previewed n hours list first second ≡ answer 3 0 0 0 0
    unfolding previewed
    preview_count h = sym (told_refused (preview_arcs ∙ ⊎_elim (count_none roomy n hours _) (count_above roomy n hours _) h))

    pub preview_full : 0 < n → n ≤ 128 → 4096 ≤ length list / 2 → previewed n hours list first second ≡ answer 4 0 0 0 0
    unfolding previewed
    preview_full some few full =
        sym (told_refused (preview_arcs ∙ count_many roomy n hours _ some few
        (omega (arith, length-append (pairs list) ((first, second) ∷ []), pairs_length list))))

  -- the number, and the places

  pub preview_number : PreviewNumber n hours list first second (previewed n hours list first second).number
  unfolding previewed
  preview_number = by (never_9_or_10_pairs n hours (with_order list first second)) (number_pairs roomy n hours (with_order list first second))
    where
      by : {k : ℕ} → (k ≢ 9) × (k ≢ 10) → PairNumber roomy n hours (with_order list first second) k → PreviewNumber n hours list first second k
      by r (inl h) = inl (omega (arith, even_too, h.0), h.1)
      by {k} r (inr h) =
          let even : length list % 2 ≡ 0 = omega (arith, even_too, h.0) in
          inr (
            (λ odd. omega arith),
            with_room _ _ _ k r.0 r.1 (limits n hours (orders_with list first second))
                (subst (λ (arcs : List Arc). First (limits n hours arcs ++ crossing roomy n hours arcs) accepted k) (orders_with_lem even) h.1),
          )

  pub preview_places : length list % 2 ≡ 0 → Named n hours (orders_with list first second) (previewed n hours list first second)
  unfolding previewed
  preview_places even =
      subst (λ (arcs : List Arc). Named n hours arcs (previewed n hours list first second)) (orders_with_lem even)
      (places_pairs roomy n hours (with_order list first second))

  pub preview_unnamed : Unnamed (previewed n hours list first second)
  unfolding previewed
  preview_unnamed = unnamed_pairs roomy n hours (with_order list first second)

  pub preview_yield
      : (previewed n hours list first second).number ≡ 0
      → (t : Tree) × Means n t (before n (orders_with list first second)) × (canonical t ≡ true)
      × (previewed n hours list first second
      ≡ answer 0 (length (layout n hours t)) (length (reduction n (before n (orders_with list first second)))) (groups t) 0)
  unfolding previewed
  preview_yield zero =
      let even = (accepted_clear n hours (with_order list first second) zero).0 in
      let y = subst (λ (arcs : List Arc). Yield n hours arcs (pair_outcome roomy n hours (with_order list first second)))
      (orders_with_lem (omega (arith, even_too, even))) (yield_pairs roomy n hours (with_order list first second) zero) in (
        y.tree,
        y.means,
        y.plain,
        y.verdict_is
            ∙ ap₂ (λ (bytes : List ℕ) (arcs : List Arc). answer 0 (length bytes) (length arcs) (groups y.tree) 0) y.bytes_are y.arcs_are,
      )
