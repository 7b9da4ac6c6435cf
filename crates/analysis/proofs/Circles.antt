-- An order with a circle, and one without.
use Prim.Native.Nat.{ℕ}
use mathlib.Core.Path.{◌≡◌, refl, sym, ap, ◌∙◌}
use mathlib.Core.List.{List}
use Rattle.std.specs.Prelude.{Option, None, Some}
use Rattle.poset.specs.Order.{Arc, Rel, Strict, arc, via, before, first_on_cycle_of}
use Rattle.relation.specs.Table.{holds, Inside}
use Rattle.relation.proofs.Chain.{closure_before, closure_strict, closure_inside}
use Rattle.analysis.specs.Outcome.{Rooms, Outcome, refuse, decomposed, ordered}

abbrev after_circle : Rooms → ℕ → List ℕ → Rel → Option ℕ → Outcome
after_circle rs n hours r (Some u) = refuse 7 u 0 0 0
after_circle rs n hours r None = decomposed rs n hours r

ordered_is : (rs : Rooms) (n : ℕ) (hours : List ℕ) (r : Rel) → ordered rs n hours r ≡ after_circle rs n hours r (first_on_cycle_of n r)
unfolding ordered
ordered_is rs n hours r = go (first_on_cycle_of n r)
  where
    go : (o : Option ℕ) → elim o [ Some u ↦ refuse 7 u 0 0 0 | None ↦ decomposed rs n hours r ] ≡ after_circle rs n hours r o
    go (Some u) = refl
    go None = refl

-- a job is before itself, or none is
module _ (rs : Rooms) (n : ℕ) (hours : List ℕ) (r : Rel) where
  pub circle_outcome : {u : ℕ} → first_on_cycle_of n r ≡ Some u → ordered rs n hours r ≡ refuse 7 u 0 0 0
  circle_outcome e = ordered_is rs n hours r ∙ ap (after_circle rs n hours r) e

  pub order_outcome : first_on_cycle_of n r ≡ None → ordered rs n hours r ≡ decomposed rs n hours r
  order_outcome e = ordered_is rs n hours r ∙ ap (after_circle rs n hours r) e

-- arcs, their table and its closure
module _
    (n : ℕ) (arcs : List Arc) (t c : List (List ℕ)) (table : (u v : ℕ) → holds t u v ≡ arc arcs u v)
    (closed : (u v : ℕ) → holds c u v ≡ via (holds t) n u v) where
  pub closes : holds c ≡ before n arcs
  closes = closure_before n arcs t table c closed

  pub circle_of : {o : Option ℕ} → o ≡ first_on_cycle_of n (holds c) → first_on_cycle_of n (before n arcs) ≡ o
  circle_of e = ap (first_on_cycle_of n) (sym closes) ∙ sym e

  -- and what is asked of an order is so of the closure
  pub order_asks : Inside n t → None ≡ first_on_cycle_of n (holds c) → Strict n (holds c) × Inside n c
  order_asks within e = (closure_strict n arcs t table c closed (sym e), closure_inside n t c n within closed)
