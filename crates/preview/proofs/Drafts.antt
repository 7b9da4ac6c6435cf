-- A list that is accepted, and one more order.
use Prim.Native.Nat.{ℕ, ◌/◌, ◌%◌, ◌≤◌, ◌<◌}
use mathlib.Core.Path.{◌≡◌, sym, ap, fun_ext, ◌∙◌}
use mathlib.Core.List.{List, [], ◌∷◌}
use Rattle.std.specs.Prelude.{None, Some}
use mathlib.Core.Logic.Iff
use mathlib.Core.Logic.{◌⊎◌, inl, inr, ⊎_elim, ◌≢◌, ◌↔◌}
use native.Mathlib.Omega.{arith}
use lib.ListN.{length, take, length-append}
use Rattle.poset.specs.Order.{Arc, Within, Run, before, HasN}
use Rattle.poset.proofs.Laws.{false_unless, same_test}
use Rattle.poset.proofs.Growing.{grown, kept, circle, none_new}
use Rattle.poset.proofs.Theorems.{before_is_run}
use Rattle.relation.specs.Arcs.{pairs, place, outside, loop}
use Rattle.relation.proofs.Chain.{outside_none}
use Rattle.analysis.specs.Answer.{answer}
use Rattle.analysis.specs.Claims.{NoneHolds}
use Rattle.analysis.specs.Outcome.{roomy, pair_outcome, arc_outcome, listed, ordered}
use Rattle.analysis.specs.Sentences.{First, limits, accepted}
use Rattle.analysis.proofs.Aside.{none_large}
use Rattle.analysis.proofs.Checks.{after}
use Rattle.analysis.proofs.Fates.{clear_within, clear_count, clear_each, clear_low}
use Rattle.analysis.proofs.Places.{place_none, no_place, outside_is, loop_is}
use Rattle.analysis.proofs.Steps.{pairs_length, pairs_even, count_timed, timed_listed, listed_5, listed_6, listed_order}
use Rattle.preview.specs.Outcome.{with_order, previewed, PreviewNumber}
use Rattle.preview.proofs.Answering.{same_answer, told_refused}
use Rattle.preview.proofs.Numbers.{accepted_clear, preview_arcs, preview_number}
use Rattle.preview.proofs.Joining.{place_last, place_nowhere}

-- what the last two checks say of the number
two_checks
    : {C H : Type 0} {k : ℕ} → First ((7, C) ∷ (8, H) ∷ []) accepted k
    → ((k ≡ 7) ↔ C) × ((C → ⊥) → (k ≡ 8) ↔ H) × ((C → ⊥) → (k ≡ 0) ↔ (H → ⊥))
two_checks (inl (c, e)) = ((λ _. c, λ _. e), (λ z. absurd (z c)), λ z. absurd (z c))
two_checks (inr (z, inl (h, e))) = (
  ((λ q. absurd (omega (arith, e, q))), λ c. absurd (z c)),
  (λ _. (λ _. h, λ _. e)),
  λ _. ((λ q. absurd (omega (arith, e, q))), λ w. absurd (w h)),
)
two_checks (inr (z, inr (w, e))) = (
  ((λ q. absurd (omega (arith, e, q))), λ c. absurd (z c)),
  (λ _. ((λ q. absurd (omega (arith, e, q))), λ h. absurd (w h))),
  λ _. (λ _. w, λ _. e),
)

module _ (n : ℕ) (hours list : List ℕ) (drafted : (pair_outcome roomy n hours list).verdict.number ≡ 0) where
  abbrev arcs : List Arc
  arcs = pairs list

  even : length list % 2 ≡ 0
  even = (accepted_clear n hours list drafted).0

  clear : NoneHolds (limits n hours arcs)
  clear = (accepted_clear n hours list drafted).1

  none_outside : place (outside n) arcs ≡ None
  none_outside = no_place (outside n) _ (outside_is n) arcs clear.1.1.1.1.0

  none_loops : place loop arcs ≡ None
  none_loops = no_place loop _ loop_is arcs clear.1.1.1.1.1.0

  -- more arcs, not too many
  passed : (more : List Arc) → length more ≤ 4096 → arc_outcome roomy n hours more ≡ listed roomy n hours more
  passed more few =
      let Some = clear_count n hours arcs clear in
      count_timed roomy n hours more Some.0 Some.1 few
      ∙ timed_listed roomy n hours more (clear_each n hours arcs clear) (none_large hours (clear_low n hours arcs clear))

  few_arcs : length arcs ≤ 4096
  few_arcs = let h = clear.1.0 in omega arith

  list_ordered : pair_outcome roomy n hours list ≡ ordered roomy n hours (before n arcs)
  list_ordered = pairs_even roomy n hours list even ∙ passed arcs few_arcs ∙ listed_order roomy n hours arcs none_outside none_loops

  module _ (room : length list / 2 < 4096) (a b : ℕ) where
    abbrev more : List Arc
    more = grown arcs a b

    size : length arcs ≡ length list / 2
    size = pairs_length list

    draft_listed : pair_outcome roomy n hours (with_order list a b) ≡ listed roomy n hours more
    draft_listed =
        preview_arcs n hours list a b even
        ∙ passed more (omega (arith, length-append arcs ((a, b) ∷ []), size, room))

    pub draft_5 : (n ≤ a) ⊎ (n ≤ b) → previewed n hours list a b ≡ answer 5 (length list / 2) 0 0 0
    unfolding previewed
    draft_5 far =
        sym (told_refused (draft_listed ∙ listed_5 roomy n hours more (length list / 2)
        (place_last (outside n) arcs (a, b) none_outside ((outside_is n (a, b)).1 far) ∙ ap Some size)))

    module _ (first_job : a < n) (second_job : b < n) where
      inside : place (outside n) more ≡ None
      inside =
          place_nowhere (outside n) arcs (a, b) none_outside
          (false_unless (outside n (a, b)) (λ t. ⊎_elim (λ (l : n ≤ a). omega arith) (λ (l : n ≤ b). omega arith) ((outside_is n (a, b)).0 t)))

      pub draft_6 : a ≡ b → previewed n hours list a b ≡ answer 6 (length list / 2) 0 0 0
      unfolding previewed
      draft_6 same =
          sym (told_refused (draft_listed ∙ listed_6 roomy n hours more (length list / 2) inside
          (place_last loop arcs (a, b) none_loops ((loop_is (a, b)).1 same) ∙ ap Some size)))

      module _ (differ : a ≢ b) where
        no_loops : place loop more ≡ None
        no_loops = place_nowhere loop arcs (a, b) none_loops (false_unless (loop (a, b)) (λ t. differ ((loop_is (a, b)).0 t)))

        draft_ordered : pair_outcome roomy n hours (with_order list a b) ≡ ordered roomy n hours (before n more)
        draft_ordered = draft_listed ∙ listed_order roomy n hours more inside no_loops

        within : Within n more
        within = outside_none n more inside

        pub draft_same : Run arcs a b → previewed n hours list a b ≡ (pair_outcome roomy n hours list).verdict
        unfolding previewed
        draft_same run = same_answer (draft_ordered ∙ ap (ordered roomy n hours) (fun_ext λ u. fun_ext λ v. alike u v) ∙ sym list_ordered)
          where
            alike : (u v : ℕ) → before n more u v ≡ before n arcs u v
            alike u v =
                let new = before_is_run n more within u v in
                let old = before_is_run n arcs (clear_within n hours arcs clear) u v in
                same_test (before n more u v) (before n arcs u v) (λ h. old.1 (none_new arcs a b run (new.0 h))) (λ h. new.1 (kept arcs a b (old.0 h)))

        -- the sentences ahead of 7 do not hold
        ahead : NoneHolds (take 6 (limits n hours more))
        ahead = (
          clear.0,
          (
            (λ l. omega (arith, length-append arcs ((a, b) ∷ []), size, room)),
            (
              clear.1.1.0,
              (
                clear.1.1.1.0,
                (
                  (λ x. place_none (outside n) _ (outside_is n) more inside x.0 x.1 x.2),
                  ((λ x. place_none loop _ loop_is more no_loops x.0 x.1 x.2), tt),
                ),
              ),
            ),
          ),
        )

        left : First ((7, (u : ℕ) × Run more u u) ∷ (8, HasN n (before n more)) ∷ []) accepted (previewed n hours list a b).number
        left = by (preview_number n hours list a b)
          where
            by : {k : ℕ} → PreviewNumber n hours list a b k → First ((7, (u : ℕ) × Run more u u) ∷ (8, HasN n (before n more)) ∷ []) accepted k
            by (inl h) = absurd (omega (arith, h.0, even))
            by {k} (inr h) = after accepted k (take 6 (limits n hours more)) ((7, (u : ℕ) × Run more u u) ∷ (8, HasN n (before n more)) ∷ []) ahead h.1

        -- a circle is new
        new : ((u : ℕ) × Run more u u) ↔ Run arcs b a
        new = circle arcs a b clear.1.1.1.1.1.1.0 differ

        pub draft_7 : ((previewed n hours list a b).number ≡ 7) ↔ Run arcs b a
        draft_7 = Iff.trans (two_checks left).0 new

        pub draft_8 : (Run arcs b a → ⊥) → ((previewed n hours list a b).number ≡ 8) ↔ HasN n (before n more)
        draft_8 free = (two_checks left).1 (λ c. free (new.0 c))

        pub draft_0 : (Run arcs b a → ⊥) → ((previewed n hours list a b).number ≡ 0) ↔ (HasN n (before n more) → ⊥)
        draft_0 free = (two_checks left).2 (λ c. free (new.0 c))
