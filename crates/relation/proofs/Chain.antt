-- What each step gives the next: from arcs that are checked to their table, its closure and its reduction.
use Prim.Native.Nat.{ℕ, suc, ◌<◌}
use mathlib.Core.Path.{◌≡◌, sym, ap, fun_ext, ◌∙◌}
use mathlib.Core.List.{List, Memᴰ}
use mathlib.Core.Bool.{Bool, true, false}
use Rattle.std.specs.Prelude.{None}
use mathlib.Core.Logic.{⊎_elim}
use borrow.Author.Tests.{leb-false}
use lib.Dec.{leb}
use Rattle.poset.specs.Order.{Arc, Rel, Within, arc, via, before, covers, Strict, first_on_cycle_of}
use Rattle.poset.proofs.Laws.{decided, clash, false_unless, found_clash, or_left, or_right}
use Rattle.poset.proofs.Closure.{via_ind, arc_mem, before_is_strict}
use Rattle.relation.specs.Table.{holds, Inside}
use Rattle.relation.proofs.Covers.{covers_inside}
use Rattle.relation.specs.Arcs.{place_from, place, outside}

-- nothing passes a test that has no place
place_none : (p : Arc → Bool) {a : Arc} (k : ℕ) {arcs : List Arc} → Memᴰ a arcs → place_from k p arcs ≡ None → p a ≡ false
unfolding place_from
place_none p k (Memᴰ.head {x = x} {xs = xs} e) h = ap p e ∙ false_unless (p x) (λ t. found_clash {a = k} (rw (place_from, t)) h)
place_none p k (Memᴰ.tail {x = x} {xs = xs} m) h =
    ⊎_elim
    (λ (t : p x ≡ true). absurd (found_clash {a = k} (rw (place_from, t)) h))
    (λ (t : p x ≡ false). place_none p (suc k) m (rw (place_from, t) at h))
    (decided (p x))

pub outside_none : (n : ℕ) (arcs : List Arc) → place (outside n) arcs ≡ None → Within n arcs
unfolding place outside
outside_none n arcs h a m =
    let e = place_none (outside n) 0 m h in
    let x = leb n a.0 in
    (leb-false n a.0 (false_unless x (λ t. clash (or_left x _ t) e)), leb-false n a.1 (false_unless _ (λ t. clash (or_right x _ t) e)))

module _ (n : ℕ) (arcs : List Arc) (t : List (List ℕ)) (table : (u v : ℕ) → holds t u v ≡ arc arcs u v) where
  pub table_arcs : holds t ≡ arc arcs
  table_arcs = fun_ext λ u. fun_ext λ v. table u v

  pub table_inside : Within n arcs → Inside n t
  table_inside w u v e = w (u, v) ((arc_mem arcs u v).0 (sym (table u v) ∙ e))

  -- the closure of the table is that of the arcs
  pub closure_before : (c : List (List ℕ)) → ((u v : ℕ) → holds c u v ≡ via (holds t) n u v) → holds c ≡ before n arcs
  unfolding before
  closure_before c h = fun_ext λ u. fun_ext λ v. h u v ∙ ap (λ r. via r n u v) table_arcs

  pub closure_strict
      : (c : List (List ℕ)) → ((u v : ℕ) → holds c u v ≡ via (holds t) n u v) → first_on_cycle_of n (holds c) ≡ None → Strict n (holds c)
  closure_strict c h f =
      let e = closure_before c h in
      rw e (before_is_strict n arcs (rw e at f))

-- the runs of a relation are inside where it is
module _ (n : ℕ) (r : Rel) (inside : (u v : ℕ) → r u v ≡ true → (u < n) × (v < n)) where
  pub via_inside : (k u v : ℕ) → via r k u v ≡ true → (u < n) × (v < n)
  via_inside = via_ind r (λ u v. (u < n) × (v < n)) inside (λ u w v p q. (p.0, q.1))

pub closure_inside : (n : ℕ) (t r : List (List ℕ)) (k : ℕ) → Inside n t → ((u v : ℕ) → holds r u v ≡ via (holds t) k u v) → Inside n r
closure_inside n t r k inside h u v e = via_inside n (holds t) inside k u v (sym (h u v) ∙ e)

-- the reduction of what is inside is inside
pub reduced_inside : (n : ℕ) (t r : List (List ℕ)) → Inside n t → ((u v : ℕ) → holds r u v ≡ covers n (holds t) u v) → Inside n r
reduced_inside n t r inside h u v e = covers_inside t n inside u v (sym (h u v) ∙ e)
