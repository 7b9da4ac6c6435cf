-- The rule of a group: which of its children have the two jobs; and of the lowest node over both, that it says how they stand.
use Prim.Native.Nat.{ℕ, zero, suc, ◌≤◌, ◌<◌}
use mathlib.Core.Path.{◌≡◌, refl, sym, ap, ap₂, subst, ◌∙◌}
use mathlib.Core.List.{Memᴰ}
use mathlib.Core.Bool.{Bool, true, false, cond}
use Rattle.std.specs.Prelude.{Some}
use mathlib.Core.Logic.{◌⊎◌, inl, inr, ⊎_elim, ◌↔◌}
use native.Mathlib.Omega.{arith}
use lib.Dec.{ltb}
use lib.ListN.{drop}
use Rattle.std.specs.Prelude.{slice_get}
use Rattle.poset.specs.Lists.{member, ahead_in}
use Rattle.poset.specs.Order.{Rel}
use Rattle.poset.specs.Tree.{Kind, series, parallel, Tree, leaf, node, Forest, last, more, trees, leaves, forest_leaves}
use Rattle.poset.specs.Inner.{In, InForest}
use Rattle.poset.proofs.Laws.{clash, false_unless, ltb-true, lt_true, member_mem, mem_member, mem_count, count_append, flat_map_mem, found_clash}
use Rattle.poset.proofs.Ahead.{ahead_right, ahead_cross, ahead_back}
use Rattle.poset.proofs.Distinct.{Distinct}
use Rattle.poset.proofs.Standing.{Stands, Free, free, is_free, free_sym, stands_differ}
use Rattle.poset.proofs.Shape.{in_leaves, leaves_in, in_forest_leaves, forest_leaves_in, trees_leaves, Good, GoodForest, good_forest_once}
use Rattle.reason.specs.Claims.{IsRule, LowestAt}
use Rattle.reason.specs.Lowest.{preorder, forest_preorder, over, child_of, rule}
use Rattle.reason.proofs.Lowest.{element_mem, tree_first, stands_node, node_good, over_in, in_over, NoneOver}

pub two_or_three : (b : Bool) → (2 ≤ cond b 2 3) × (cond b 2 3 ≤ 3)
two_or_three true = omega arith
two_or_three false = omega arith

-- which child has a job

module _ (u : ℕ) (t : Tree) (f : Forest) where
  child_first : In t u → child_of u (more t f) ≡ 0
  unfolding child_of
  child_first p = rw (mem_member (in_leaves t p))

  child_later : (In t u → ⊥) → child_of u (more t f) ≡ suc (child_of u f)
  unfolding child_of
  child_later lacks = rw (false_unless (member u (leaves t)) (λ h. lacks (leaves_in t (member_mem u (leaves t) h))))

pub child_is : (f : Forest) → Distinct (forest_leaves f) → (i : ℕ) (c : Tree) → slice_get (trees f) i ≡ Some c
    → (u : ℕ) → Memᴰ u (leaves c) → child_of u f ≡ i
unfolding trees leaves child_of
child_is (last t) d zero c e u m = refl
child_is (last t) d (suc i) c e u m = absurd (found_clash e refl)
child_is (more t f) d zero c e u m =
    let q : c ≡ t = cc in
    child_first u t f (leaves_in t (subst (λ (x : Tree). Memᴰ u (leaves x)) q m))
child_is (more t f) d (suc i) c e u m =
    let here : Memᴰ u (forest_leaves f) = subst (Memᴰ u) (trees_leaves f) (flat_map_mem leaves (element_mem (trees f) i e) m) in
    child_later u t f (λ p. omega (arith, d u, count_append u (leaves t) (forest_leaves f), mem_count (in_leaves t p), mem_count here))
    ∙ ap suc (child_is f (λ w. omega (arith, d w, count_append w (leaves t) (forest_leaves f))) i c e u m)

pub rule_series : (t : Tree) (f : Forest) → Distinct (leaves (node series t f)) → (i j : ℕ) (c d : Tree)
    → slice_get (trees (more t f)) i ≡ Some c → slice_get (trees (more t f)) j ≡ Some d
    → (u v : ℕ) → Memᴰ u (leaves c) → Memᴰ v (leaves d) → rule u v (node series t f) ≡ cond (ltb i j) 2 3
unfolding leaves rule
rule_series t f once i j c d p q u v a b = rw (child_is (more t f) once i c p u a, child_is (more t f) once j d q v b)

-- two jobs in different children of a group

module _ (r : Rel) (k : Kind) where
  -- the child with u comes earlier, and so does u among the leaves
  pub record Ahead (f : Forest) (u v : ℕ) : Type 0 where
    pub earlier : child_of u f < child_of v f
    pub stands : Stands k r u v
    pub forth : ahead_in u v (forest_leaves f) ≡ true
    pub back : ahead_in v u (forest_leaves f) ≡ false

  module _ (t : Tree) (f : Forest) (g : GoodForest r k (more t f)) where
    lacks : (w : ℕ) → In t w → InForest f w → ⊥
    lacks = (good_forest_once r k (more t f) g).2

    lists_apart : (w : ℕ) → Memᴰ w (leaves t) → Memᴰ w (forest_leaves f) → ⊥
    lists_apart w p q = lacks w (leaves_in t p) (forest_leaves_in f q)

    in_later : (w : ℕ) → InForest f w → child_of w (more t f) ≡ suc (child_of w f)
    in_later w q = child_later w t f (λ p. lacks w p q)

    first_ahead : (u v : ℕ) → In t u → InForest f v → Ahead (more t f) u v
    unfolding leaves
    first_ahead u v p q =
        record {
          earlier = omega (arith, child_first u t f p, in_later v q);
          stands = g.2 u v p q;
          forth = ahead_cross u v (leaves t) (forest_leaves f) lists_apart (in_leaves t p) (in_forest_leaves f q);
          back = ahead_back v u (leaves t) (forest_leaves f) lists_apart (in_forest_leaves f q) (in_leaves t p);
        }

    later_ahead : (u v : ℕ) → InForest f u → InForest f v → Ahead f u v → Ahead (more t f) u v
    unfolding leaves
    later_ahead u v p q s =
        record {
          earlier = omega (arith, s.earlier, in_later u p, in_later v q);
          stands = s.stands;
          forth = ahead_right u v (leaves t) (forest_leaves f) lists_apart (in_forest_leaves f p) ∙ s.forth;
          back = ahead_right v u (leaves t) (forest_leaves f) lists_apart (in_forest_leaves f q) ∙ s.back;
        }

-- a tree is a node of its own
root : (t : Tree) → Memᴰ t (preorder t)
root t = subst (Memᴰ t) (sym (tree_first t)) (mathlib.Core.List.Memᴰ.head refl)

module _ (r : Rel) (u v : ℕ) where
  -- where no node of a group is over both jobs, one of them is ahead
  split : (k : Kind) (f : Forest) → GoodForest r k f → NoneOver u v (forest_preorder f) → InForest f u → InForest f v
      → Ahead r k f u v ⊎ Ahead r k f v u
  unfolding preorder
  split k (last t) g none p q = absurd (clash (in_over u v t p q) (none t (root t)))
  split k (more t f) g none (inl p) (inl q) = absurd (clash (in_over u v t p q) (none t (mathlib.Core.List.Memᴰ.append_left (forest_preorder f) (root t))))
  split k (more t f) g none (inl p) (inr q) = inl (first_ahead r k t f g u v p q)
  split k (more t f) g none (inr p) (inl q) = inr (first_ahead r k t f g v u q p)
  split k (more t f) g none (inr p) (inr q) =
      ⊎_elim
      (λ s. inl (later_ahead r k t f g u v p q s))
      (λ s. inr (later_ahead r k t f g v u q p s))
      (split k f g.1 (λ x m. none x (mathlib.Core.List.Memᴰ.append_right (preorder t) m)) p q)

-- each rule where it holds, and of the others neither the number nor what it says

never : {A B : Type 0} → (A → ⊥) → (B → ⊥) → A ↔ B
never f g = (λ a. absurd (f a), λ b. absurd (g b))

module _ (r : Rel) (u v : ℕ) where
  is_same : u ≡ v → r u v ≡ false → r v u ≡ false → IsRule r u v 1
  is_same e p q =
      record {
        same = (λ _. e, λ _. refl);
        forth = never (λ k. omega arith) (λ h. clash h p);
        back = never (λ k. omega arith) (λ h. clash h q);
        free = never (λ k. omega arith) (λ h. (free r u v h).differ e);
      }

  is_forth : Stands series r u v → IsRule r u v 2
  is_forth s =
      record {
        same = never (λ k. omega arith) (stands_differ series r u v s);
        forth = (λ _. s.0, λ _. refl);
        back = never (λ k. omega arith) (λ h. clash h s.1);
        free = never (λ k. omega arith) (λ h. clash s.0 (free r u v h).forth);
      }

  is_back : Stands series r v u → IsRule r u v 3
  is_back s =
      record {
        same = never (λ k. omega arith) (λ e. stands_differ series r v u s (sym e));
        forth = never (λ k. omega arith) (λ h. clash h s.1);
        back = (λ _. s.0, λ _. refl);
        free = never (λ k. omega arith) (λ h. clash s.0 (free r u v h).back);
      }

  is_neither : Free r u v → IsRule r u v 4
  is_neither s =
      record {
        same = never (λ k. omega arith) s.differ;
        forth = never (λ k. omega arith) (λ h. clash h s.forth);
        back = never (λ k. omega arith) (λ h. clash h s.back);
        free = (λ _. is_free r u v s, λ _. refl);
      }

  -- a series by which child comes earlier

  series_forth : (t : Tree) (f : Forest) → Ahead r series (more t f) u v → rule u v (node series t f) ≡ 2
  unfolding rule
  series_forth t f s = rw (lt_true (child_of u (more t f)) (child_of v (more t f)) s.earlier)

  series_back : (t : Tree) (f : Forest) → Ahead r series (more t f) v u → rule u v (node series t f) ≡ 3
  unfolding rule
  series_back t f s =
      let i = child_of u (more t f) in
      let j = child_of v (more t f) in
      rw (false_unless (ltb i j) (λ h. omega (arith, ltb-true i j h, s.earlier)))

  group_rule : (k : Kind) (t : Tree) (f : Forest) → Ahead r k (more t f) u v ⊎ Ahead r k (more t f) v u → IsRule r u v (rule u v (node k t f))
  unfolding rule
  group_rule series t f (inl s) = rw (series_forth t f s) (is_forth s.stands)
  group_rule series t f (inr s) = rw (series_back t f s) (is_back s.stands)
  group_rule parallel t f (inl s) = is_neither s.stands
  group_rule parallel t f (inr s) = is_neither (free_sym r v u s.stands)

  -- a series by which job comes earlier among its leaves
  pub series_rule : (t : Tree) (f : Forest) → Good r (node series t f) → over u v (node series t f) ≡ true
      → NoneOver u v (drop 1 (preorder (node series t f)))
      → rule u v (node series t f) ≡ cond (ahead_in u v (leaves (node series t f))) 2 3
  unfolding preorder leaves
  series_rule t f g h none =
      let (p, q) = over_in u v (node series t f) h in
      ⊎_elim
      (λ (s : Ahead r series (more t f) u v). series_forth t f s ∙ sym (ap (λ (b : Bool). cond b 2 3) s.forth))
      (λ (s : Ahead r series (more t f) v u). series_back t f s ∙ sym (ap (λ (b : Bool). cond b 2 3) s.back))
      (split r u v series (more t f) g none p q)

  pub node_rule : (s : Tree) → Good r s → over u v s ≡ true → NoneOver u v (drop 1 (preorder s)) → IsRule r u v (rule u v s)
  unfolding preorder rule
  node_rule (leaf j) g h none = let (p, q) = over_in u v (leaf j) h in is_same (p ∙ sym q) (ap₂ r p q ∙ g) (ap₂ r q p ∙ g)
  node_rule (node k t f) g h none = let (p, q) = over_in u v (node k t f) h in group_rule k t f (split r u v k (more t f) g none p q)

  -- the lowest node over both gives the rule
  pub lowest_rule : {t : Tree} {p : ℕ} {s : Tree} → Good r t → LowestAt u v t p s → IsRule r u v (rule u v s)
  lowest_rule {t} {p} {s} g l = node_rule s (node_good r series (stands_node t p l.stands) g) l.both l.none_below
