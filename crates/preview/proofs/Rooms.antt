-- What the analysis answers in any areas, by what it answers in areas long enough.
use Prim.Native.Nat.{ℕ, ◌*◌, ◌%◌, ◌≤◌, ◌<◌}
use mathlib.Core.Path.{◌≡◌, refl, sym, ap, subst, ◌∙◌}
use mathlib.Core.List.{List}
use mathlib.Core.Bool.{Bool, true, false, ◌||◌}
use Rattle.std.specs.Prelude.{Option, None, Some}
use mathlib.Core.Logic.{◌≢◌}
use native.Mathlib.Decide.{dec_lt}
use native.Mathlib.Omega.{arith}
use lib.Dec.{eqb, ltb}
use lib.ListN.{length}
use Rattle.poset.specs.Order.{Arc, Rel, Strict, before, first_on_cycle_of, first_n_of}
use Rattle.poset.specs.Tree.{Tree, Spans}
use Rattle.poset.specs.Decompose.{tree_of}
use Rattle.poset.proofs.Laws.{clash, or_right, lt_true}
use Rattle.poset.proofs.Theorems.{before_is_strict, tree_of_sound}
use Rattle.relation.specs.Arcs.{pairs, place, outside, loop}
use Rattle.record.specs.Layout.{most_hours}
use Rattle.analysis.specs.Answer.{answer}
use Rattle.analysis.specs.Outcome.{Rooms, roomy, Outcome, refuse, accept, fitted, decomposed, ordered, listed, timed, arc_outcome, pair_outcome}
use Rattle.analysis.proofs.Enough.{enough}
use Rattle.analysis.proofs.Taking.{short_record, long_record, short_arcs, long_arcs}

module _ (rs : Rooms) (o : Outcome) where
  pub fitting : length o.bytes ≤ rs.record_room → 2 * length o.arcs ≤ rs.arc_room → fitted rs o ≡ o
  fitting l m = long_record rs o l ∙ long_arcs rs.arc_room o m

-- areas long enough are so for every order
pub fits_roomy : (n : ℕ) (hours : List ℕ) (r : Rel) (t : Tree) → n ≤ 128 → Strict n r → Spans n t → fitted roomy (accept n hours r t) ≡ accept n hours r t
unfolding accept
fits_roomy n hours r t few strict spans =
    let e = enough n hours r t few strict spans in
    fitting roomy (accept n hours r t) e.0 e.1

-- the outcome in areas long enough, and in these
pub data InRooms (rs : Rooms) : Outcome → Outcome → Type 0 where
  refused : {o : Outcome} → o.verdict.number ≢ 0 → InRooms rs o o
  accepted : {o : Outcome} {k : ℕ} → o.verdict ≡ answer 0 (length o.bytes) (length o.arcs) k 0 → InRooms rs o (fitted rs o)

module _ (rs : Rooms) where
  away : (k a b c d : ℕ) → 0 < k → InRooms rs (refuse k a b c d) (refuse k a b c d)
  unfolding refuse
  away k a b c d l = refused (λ (e : k ≡ 0). omega arith)

  in_test
      : {x y u v : Outcome} (b : Bool) → (b ≡ true → InRooms rs x u) → (b ≡ false → InRooms rs y v)
      → InRooms rs (elim b [ true ↦ x | false ↦ y ]) (elim b [ true ↦ u | false ↦ v ])
  in_test true p q = p refl
  in_test false p q = q refl

  in_search
      : {A : Type 0} {x u : A → Outcome} {y v : Outcome} (o : Option A) → ((a : A) → o ≡ Some a → InRooms rs (x a) (u a)) → (o ≡ None → InRooms rs y v)
      → InRooms rs (elim o [ Some a ↦ x a | None ↦ y ]) (elim o [ Some a ↦ u a | None ↦ v ])
  in_search (Some a) p q = p a refl
  in_search None p q = q refl

  module _ (n : ℕ) (hours : List ℕ) where
    module _ (few : n ≤ 128) where
      fitted_in : (r : Rel) (t : Tree) → Strict n r → Spans n t → InRooms rs (fitted roomy (accept n hours r t)) (fitted rs (accept n hours r t))
      unfolding accept
      fitted_in r t strict spans =
          subst (λ (o : Outcome). InRooms rs o (fitted rs (accept n hours r t))) (sym (fits_roomy n hours r t few strict spans)) (accepted refl)

      ordered_in : (arcs : List Arc) → InRooms rs (ordered roomy n hours (before n arcs)) (ordered rs n hours (before n arcs))
      unfolding ordered decomposed
      ordered_in arcs =
          let r = before n arcs in
          in_search (first_on_cycle_of n r) (λ u _. away 7 u 0 0 0 (omega arith))
          λ e. in_search (first_n_of n r) (λ q _. away 8 q.0 q.1 q.2 q.3 (omega arith))
          λ _. in_search (tree_of n r)
          (λ t f. let strict = before_is_strict n arcs e in fitted_in r t strict (tree_of_sound n r t strict f).0.spans)
          (λ _. away 8 0 0 0 0 (omega arith))

      timed_in : (arcs : List Arc) → InRooms rs (timed roomy n hours arcs) (timed rs n hours arcs)
      unfolding timed listed
      timed_in arcs =
          in_test (eqb (length hours) n)
          (λ _. in_search (place (ltb most_hours) hours) (λ j _. away 13 j 0 0 0 (omega arith))
          λ _. in_search (place (outside n) arcs) (λ i _. away 5 i 0 0 0 (omega arith))
          λ _. in_search (place loop arcs) (λ i _. away 6 i 0 0 0 (omega arith)) (λ _. ordered_in arcs))
          (λ _. away 12 0 0 0 0 (omega arith))

    arcs_in : (arcs : List Arc) → InRooms rs (arc_outcome roomy n hours arcs) (arc_outcome rs n hours arcs)
    unfolding arc_outcome
    arcs_in arcs =
        in_test (eqb n 0 || ltb 128 n) (λ _. away 3 0 0 0 0 (omega arith))
        λ e. in_test (ltb 4096 (length arcs)) (λ _. away 4 0 0 0 0 (omega arith))
        λ _. timed_in (few e) arcs
      where
        few : (eqb n 0 || ltb 128 n) ≡ false → n ≤ 128
        few e = elim (dec_lt 128 n) [ yes l ↦ absurd (clash (or_right (eqb n 0) (ltb 128 n) (lt_true 128 n l)) e) | no l ↦ omega arith ]

    pub pairs_in : (list : List ℕ) → InRooms rs (pair_outcome roomy n hours list) (pair_outcome rs n hours list)
    unfolding pair_outcome
    pairs_in list = in_test (eqb (length list % 2) 0) (λ _. arcs_in (pairs list)) (λ _. away 2 0 0 0 0 (omega arith))

-- So a refusal is the same in any areas, and acceptance where the record and the reduced arcs have room; else 9, or 10.

number_of : {o : Outcome} {k : ℕ} → o ≡ refuse k 0 0 0 0 → o.verdict.number ≡ k
unfolding refuse
number_of e = ap (λ (o : Outcome). o.verdict.number) e

module _ {rs : Rooms} where
  pub refused_anyhow : {o p : Outcome} → InRooms rs o p → o.verdict.number ≢ 0 → p ≡ o
  refused_anyhow (refused z) h = refl
  refused_anyhow (accepted e) h = absurd (h (ap (λ a. a.number) e))

  pub accepted_fits
      : {o p : Outcome} → InRooms rs o p → o.verdict.number ≡ 0 → o.verdict.first ≤ rs.record_room → 2 * o.verdict.second ≤ rs.arc_room
      → p ≡ o
  accepted_fits (refused z) h l m = absurd (z h)
  accepted_fits (accepted {o = o} e) h l m =
      fitting rs o (omega (arith, ap (λ a. a.first) e, l)) (omega (arith, ap (λ a. a.second) e, m))

  pub accepted_9 : {o p : Outcome} → InRooms rs o p → o.verdict.number ≡ 0 → rs.record_room < o.verdict.first → p ≡ refuse 9 0 0 0 0
  accepted_9 (refused z) h l = absurd (z h)
  accepted_9 (accepted {o = o} e) h l = short_record rs o (omega (arith, ap (λ a. a.first) e, l))

  pub accepted_10
      : {o p : Outcome} → InRooms rs o p → o.verdict.number ≡ 0 → o.verdict.first ≤ rs.record_room → rs.arc_room < 2 * o.verdict.second
      → p ≡ refuse 10 0 0 0 0
  accepted_10 (refused z) h l m = absurd (z h)
  accepted_10 (accepted {o = o} e) h l m =
      long_record rs o (omega (arith, ap (λ a. a.first) e, l)) ∙ short_arcs rs.arc_room o (omega (arith, ap (λ a. a.second) e, m))

  -- an answer other than 9 and 10 is the same
  pub agrees : {o p : Outcome} → InRooms rs o p → p.verdict.number ≢ 9 → p.verdict.number ≢ 10 → p ≡ o
  agrees (refused z) h k = refl
  agrees (accepted {o = o} e) h k =
      elim (dec_lt rs.record_room (length o.bytes)) [
        | yes l ↦ absurd (h (number_of (short_record rs o l)))
        | no l ↦ long_record rs o (omega arith) ∙ elim (dec_lt rs.arc_room (2 * length o.arcs)) [
          | yes m ↦ absurd (k (number_of (long_record rs o (omega arith) ∙ short_arcs rs.arc_room o m)))
          | no m ↦ long_arcs rs.arc_room o (omega arith)
        ]
      ]
