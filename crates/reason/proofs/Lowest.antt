-- The lowest node of a tree over two jobs: `lowest` finds it, and there is no other. And the nodes of a tree, counted and by position.
use Prim.Native.Nat.{ℕ, zero, suc, ◌+◌, ◌-◌, ◌≤◌, ◌<◌}
use mathlib.Core.Path.{◌≡◌, refl, sym, ap, ap₂, subst, ◌∙◌}
use mathlib.Core.List.Memᴰ
use mathlib.Core.List.{List, [], ◌∷◌, ◌++◌, map, flat_map, map-append, append-nil, Memᴰ}
use mathlib.Core.Bool.{true, false}
use Rattle.std.specs.Prelude.{Option, None, Some, option_map}
use Rattle.std.proofs.lemmas.Option.{same_Some}
use mathlib.Core.Logic.{◌⊎◌, inl, inr, ⊎_elim}
use native.Mathlib.Nat.{zero-add, suc-add}
use native.Mathlib.Omega.{arith}
use lib.ListN.{length, length-append, length-map, drop}
use Rattle.std.specs.Prelude.{slice_get}
use Rattle.poset.specs.Lists.{member, only_if}
use Rattle.poset.specs.Order.{Rel}
use Rattle.poset.specs.Tree.{Kind, Tree, leaf, node, Forest, last, more, leaves, forest_leaves, groups}
use Rattle.poset.specs.Inner.{In, InForest, Once, OnceForest, Apart}
use Rattle.poset.proofs.Laws.{decided, clash, false_unless, and_left, and_right, and_intro, member_mem, mem_member, found_clash, flat_map_append}
use Rattle.poset.proofs.Shape.{in_leaves, leaves_in, Good, GoodForest}
use Rattle.record.specs.Bits.{bits, bytes_of}
use Rattle.record.specs.Layout.{kind_bit, more_children, tree_bits, forest_bits, layout, IsRecord}
use Rattle.record.specs.Tokens.{group_token, tokens, forest_tokens}
use Rattle.record.proofs.Tokens.{tokens_length}
use Rattle.reason.specs.Claims.{node_bits, LowestAt}
use Rattle.reason.specs.Lowest.{preorder, forest_preorder, over, Placed, after, found_in, lowest, forest_lowest}

-- what stands at a position of a list

module _ {A : Type 0} where
  pub element_mem : (xs : List A) (i : ℕ) {x : A} → slice_get xs i ≡ Some x → Memᴰ x xs
  element_mem [] i e = absurd (found_clash e refl)
  element_mem (y ∷ xs) zero {x} e = Memᴰ.head (sym (same_Some y x e))
  element_mem (y ∷ xs) (suc i) e = Memᴰ.tail (element_mem xs i e)

  element_below : (xs : List A) (i : ℕ) {x : A} → slice_get xs i ≡ Some x → i < length xs
  element_below [] i e = absurd (found_clash e refl)
  element_below (y ∷ xs) zero e = omega arith
  element_below (y ∷ xs) (suc i) e = omega (arith, element_below xs i e)

  element_append : (xs ys : List A) (i : ℕ) {x : A} → slice_get (xs ++ ys) i ≡ Some x
      → (slice_get xs i ≡ Some x) ⊎ ((j : ℕ) × (i ≡ length xs + j) × (slice_get ys j ≡ Some x))
  element_append [] ys i e = inr (i, omega arith, e)
  element_append (y ∷ xs) ys zero e = inl e
  element_append (y ∷ xs) ys (suc i) e =
      ⊎_elim (λ h. inl h) (λ h. let (j, place, l) = h in inr (j, omega (arith, place), l)) (element_append xs ys i e)

pub stands_below : (t : Tree) (p : ℕ) {s : Tree} → slice_get (preorder t) p ≡ Some s → p < length (preorder t)
stands_below t = element_below (preorder t)

-- a token for each node, so as many as leaves and groups

abbrev pub token : Tree → ℕ
token (leaf j) = j
token (node k t f) = group_token k (more_children f)

mutual
  unfolding preorder

  pub node_tokens : (t : Tree) → map token (preorder t) ≡ tokens t
  node_tokens (leaf j) = refl
  node_tokens (node k t f) = rw (map-append token, node_tokens t, forest_tokens_lem f)

  forest_tokens_lem : (f : Forest) → map token (forest_preorder f) ≡ forest_tokens f
  forest_tokens_lem (last t) = node_tokens t
  forest_tokens_lem (more t f) = rw (map-append token, node_tokens t, forest_tokens_lem f)

pub nodes_counted : (t : Tree) → length (preorder t) ≡ length (leaves t) + groups t
nodes_counted t = sym (length-map (preorder t) token) ∙ ap length (node_tokens t) ∙ tokens_length t

-- a tree is its own first node
pub tree_first : (s : Tree) → preorder s ≡ s ∷ drop 1 (preorder s)
unfolding preorder
tree_first (leaf j) = refl
tree_first (node k t f) = refl

-- the nodes of a forest; those of a tree t are those of `last t`

pub data NodeOf (x : Tree) : Forest → Type 0 where
  whole : NodeOf x (last x)
  first : {t : Tree} {f : Forest} → NodeOf x (last t) → NodeOf x (more t f)
  others : {t : Tree} {f : Forest} → NodeOf x f → NodeOf x (more t f)
  inside : {k : Kind} {t : Tree} {f : Forest} → NodeOf x (more t f) → NodeOf x (last (node k t f))

mutual
  unfolding preorder

  tree_node : {x : Tree} (t : Tree) → Memᴰ x (preorder t) → NodeOf x (last t)
  tree_node (leaf j) m = rw (Memᴰ.eq_of_singleton m) whole
  tree_node {x} (node k t f) m =
      ⊎_elim
      (λ (e : x ≡ node k t f). rw e whole)
      (λ (i : Memᴰ x (preorder t ++ forest_preorder f)).
      inside (⊎_elim (λ a. first (tree_node t a)) (λ b. others (forest_node f b)) (Memᴰ.append_cases (preorder t) i)))
      (Memᴰ.cases_cons m)

  forest_node : {x : Tree} (f : Forest) → Memᴰ x (forest_preorder f) → NodeOf x f
  forest_node (last t) m = tree_node t m
  forest_node (more t f) m = ⊎_elim (λ a. first (tree_node t a)) (λ b. others (forest_node f b)) (Memᴰ.append_cases (preorder t) m)

pub stands_node : (t : Tree) (p : ℕ) {s : Tree} → slice_get (preorder t) p ≡ Some s → NodeOf s (last t)
stands_node t p e = tree_node t (element_mem (preorder t) p e)

-- the jobs of a node are the forest's, and so are its groups

pub node_in : {x : Tree} {f : Forest} (u : ℕ) → NodeOf x f → In x u → InForest f u
node_in u whole p = p
node_in u (first n) p = inl (node_in u n p)
node_in u (others n) p = inr (node_in u n p)
node_in u (inside n) p = node_in u n p

pub node_few : {x : Tree} {f : Forest} → NodeOf x f → length (leaves x) ≤ length (forest_leaves f)
unfolding leaves
node_few whole = omega arith
node_few (first {t} {f} n) = omega (arith, node_few n, length-append (leaves t) (forest_leaves f))
node_few (others {t} {f} n) = omega (arith, node_few n, length-append (leaves t) (forest_leaves f))
node_few (inside n) = node_few n

pub node_good : {x : Tree} {f : Forest} (r : Rel) (k : Kind) → NodeOf x f → GoodForest r k f → Good r x
node_good r k whole g = g
node_good r k (first n) g = node_good r k n g.0
node_good r k (others n) g = node_good r k n g.1
node_good r k (inside {k = j} n) g = node_good r j n g

-- the nodes over both jobs

module _ (u v : ℕ) where
  pub over_in : (t : Tree) → over u v t ≡ true → In t u × In t v
  unfolding over
  over_in t h =
      let p = and_left (member u (leaves t)) (member v (leaves t)) h in
      let q = and_right (member u (leaves t)) (member v (leaves t)) h in
      (leaves_in t (member_mem u (leaves t) p), leaves_in t (member_mem v (leaves t) q))

  pub in_over : (t : Tree) → In t u → In t v → over u v t ≡ true
  unfolding over
  in_over t p q = and_intro (member u (leaves t)) (member v (leaves t)) (mem_member (in_leaves t p)) (mem_member (in_leaves t q))

  -- no node of a list is over both
  abbrev pub NoneOver : List Tree → Type 0
  NoneOver xs = (x : Tree) → Memᴰ x xs → over u v x ≡ false

  pub none_append : (xs ys : List Tree) → NoneOver xs → NoneOver ys → NoneOver (xs ++ ys)
  none_append xs ys a b x m = ⊎_elim (a x) (b x) (Memᴰ.append_cases xs m)

  -- a forest without both has none
  pub none_under : (f : Forest) → (InForest f u → InForest f v → ⊥) → NoneOver (forest_preorder f)
  none_under f lacks x m =
      let n = forest_node f m in
      false_unless (over u v x) (λ h. let (p, q) = over_in x h in lacks (node_in u n p) (node_in v n q))

  -- s at position p is the last of a list that is over both, and no node below s is
  data LastOver : List Tree → ℕ → Tree → Type 0 where
    here : {x : Tree} {xs : List Tree} → over u v x ≡ true → NoneOver (drop 1 (preorder x)) → NoneOver xs → LastOver (x ∷ xs) 0 x
    there : {x s : Tree} {xs : List Tree} {p : ℕ} → LastOver xs p s → LastOver (x ∷ xs) (suc p) s

  last_left : {xs : List Tree} {p : ℕ} {s : Tree} (ys : List Tree) → LastOver xs p s → NoneOver ys → LastOver (xs ++ ys) p s
  last_left ys (here {xs = xs} h b a) c = here h b (none_append xs ys a c)
  last_left ys (there l) c = there (last_left ys l c)

  last_right : (xs : List Tree) {ys : List Tree} {p : ℕ} {s : Tree} → LastOver ys p s → LastOver (xs ++ ys) (length xs + p) s
  last_right [] l = rw zero-add l
  last_right (x ∷ xs) l = rw suc-add (there (last_right xs l))

  -- what a search of a list gives
  abbrev Sought : List Tree → Option Placed → Type 0
  Sought xs None = NoneOver xs
  Sought xs (Some s) = LastOver xs s.0 s.1

  -- what a search of a tree gives, where it is over both
  abbrev Found : Tree → Placed → Type 0
  Found t s = over u v t ≡ true → LastOver (preorder t) s.0 s.1

  pub none_here : (t : Tree) → over u v t ≡ false → NoneOver (preorder t)
  unfolding preorder
  none_here t e = none_under (last t) (λ p q. clash (in_over t p q) e)

  later_sought : (xs ys : List Tree) (o : Option Placed) → NoneOver xs → Sought ys o → Sought (xs ++ ys) (option_map (after (length xs)) o)
  unfolding after
  later_sought xs ys None a b = none_append xs ys a b
  later_sought xs ys (Some s) a b = last_right xs b

  group_sought : (t : Tree) (f : Forest) (h : Placed) (o : Option Placed) → Apart t f → Found t h → Sought (forest_preorder f) o
      → Sought (preorder t ++ forest_preorder f) (found_in u v t h o)
  unfolding found_in
  group_sought t f h o apart x y =
      ⊎_elim
      (λ (e : over u v t ≡ true). rw e (last_left (forest_preorder f) (x e) (none_under f (λ p q. apart u (over_in t e).0 p))))
      (λ (e : over u v t ≡ false). rw e (later_sought (preorder t) (forest_preorder f) o (none_here t e) y))
      (decided (over u v t))

  node_sought : (k : Kind) (t : Tree) (f : Forest) (o : Option Placed) → Sought (preorder t ++ forest_preorder f) o
      → Found (node k t f) (elim o [ Some s ↦ after 1 s | None ↦ (0, node k t f) ])
  unfolding preorder after
  node_sought k t f None x h = here h x x
  node_sought k t f (Some s) x h = last_right (node k t f ∷ []) x

  only_sought : (t : Tree) (h : Placed) → Found t h → Sought (preorder t) (only_if (over u v t) h)
  unfolding only_if
  only_sought t h x =
      ⊎_elim (λ (e : over u v t ≡ true). rw e (x e)) (λ (e : over u v t ≡ false). rw e (none_here t e)) (decided (over u v t))

  mutual
    unfolding preorder lowest

    lowest_found : (t : Tree) → Once t → Found t (lowest u v t)
    lowest_found (leaf j) o = let nothing : NoneOver [] = λ x m. absurd (Memᴰ.not-nil m) in λ h. here h nothing nothing
    lowest_found (node k t f) o =
        node_sought k t f (found_in u v t (lowest u v t) (forest_lowest u v f))
        (group_sought t f (lowest u v t) (forest_lowest u v f) o.2 (lowest_found t o.0) (forest_sought f o.1))

    forest_sought : (f : Forest) → OnceForest f → Sought (forest_preorder f) (forest_lowest u v f)
    forest_sought (last t) o = only_sought t (lowest u v t) (lowest_found t o)
    forest_sought (more t f) o = group_sought t f (lowest u v t) (forest_lowest u v f) o.2 (lowest_found t o.0) (forest_sought f o.1)

  -- what is found stands there, is over both, and none below it is

  last_stands : {xs : List Tree} {p : ℕ} {s : Tree} → LastOver xs p s → slice_get xs p ≡ Some s
  last_stands (here h b a) = refl
  last_stands (there l) = last_stands l

  last_both : {xs : List Tree} {p : ℕ} {s : Tree} → LastOver xs p s → (over u v s ≡ true) × NoneOver (drop 1 (preorder s))
  last_both (here h b a) = (h, b)
  last_both (there l) = last_both l

  pub lowest_at : (t : Tree) → Once t → In t u → In t v → LowestAt u v t (lowest u v t).0 (lowest u v t).1
  lowest_at t o p q =
      let l = lowest_found t o (in_over t p q) in
      record { stands = last_stands l; both = (last_both l).0; none_below = (last_both l).1 }

  -- a node over both is the last that is, where none below it is: in another part of the tree its jobs would stand again

  module _ (s : Tree) (both : over u v s ≡ true) (none_below : NoneOver (drop 1 (preorder s))) where
    abbrev IsLast : List Tree → Type 0
    IsLast xs = (p : ℕ) → slice_get xs p ≡ Some s → LastOver xs p s

    own_last : (t : Tree) → t ≡ s → LastOver (preorder t) 0 s
    own_last t e = subst (λ (xs : List Tree). LastOver xs 0 s) (sym (ap preorder e ∙ tree_first s)) (here both none_below none_below)

    group_last : (t : Tree) (f : Forest) → Apart t f → IsLast (preorder t) → IsLast (forest_preorder f) → IsLast (preorder t ++ forest_preorder f)
    group_last t f apart x y p e =
        ⊎_elim
        (λ (l : slice_get (preorder t) p ≡ Some s).
        let under = node_in u (stands_node t p l) (over_in s both).0 in
        last_left (forest_preorder f) (x p l) (none_under f (λ i j. apart u under i)))
        (λ (l : (q : ℕ) × (p ≡ length (preorder t) + q) × (slice_get (forest_preorder f) q ≡ Some s)).
        let (q, place, i) = l in
        subst (λ (k : ℕ). LastOver (preorder t ++ forest_preorder f) k s) (sym place) (last_right (preorder t) (y q i)))
        (element_append (preorder t) (forest_preorder f) p e)

    mutual
      unfolding preorder

      tree_last : (t : Tree) → Once t → IsLast (preorder t)
      tree_last (leaf j) o zero e = own_last (leaf j) (same_Some (leaf j) s e)
      tree_last (leaf j) o (suc p) e = absurd (found_clash e refl)
      tree_last (node k t f) o zero e = own_last (node k t f) (same_Some (node k t f) s e)
      tree_last (node k t f) o (suc p) e = there (group_last t f o.2 (λ q h. tree_last t o.0 q h) (λ q h. forest_last f o.1 q h) p e)

      forest_last : (f : Forest) → OnceForest f → IsLast (forest_preorder f)
      forest_last (last t) o p e = tree_last t o p e
      forest_last (more t f) o p e = group_last t f o.2 (λ q h. tree_last t o.0 q h) (λ q h. forest_last f o.1 q h) p e

  -- there is one last

  none_again : {xs : List Tree} {p : ℕ} {s : Tree} → NoneOver xs → LastOver xs p s → ⊥
  none_again {xs} {p} {s} a l = clash (last_both l).0 (a s (element_mem xs p (last_stands l)))

  last_only : {xs : List Tree} {p q : ℕ} {s x : Tree} → LastOver xs p s → LastOver xs q x → (p ≡ q) × (s ≡ x)
  last_only (here h b a) (here i c d) = (refl, refl)
  last_only (here h b a) (there l) = absurd (none_again a l)
  last_only (there l) (here h b a) = absurd (none_again a l)
  last_only (there l) (there k) = let (place, same) = last_only l k in (ap suc place, same)

  pub lowest_only : (t : Tree) → Once t → {p q : ℕ} {s x : Tree} → LowestAt u v t p s → LowestAt u v t q x → (p ≡ q) × (s ≡ x)
  lowest_only t o {p} {q} {s} {x} a b =
      last_only (tree_last s a.both a.none_below t o p a.stands) (tree_last x b.both b.none_below t o q b.stands)

-- a record's bits are those of its nodes, in their order

module _ (hours : List ℕ) where
  both_bits : (t : Tree) (f : Forest) → tree_bits hours t ≡ flat_map (node_bits hours) (preorder t)
      → forest_bits hours f ≡ flat_map (node_bits hours) (forest_preorder f)
      → tree_bits hours t ++ forest_bits hours f ≡ flat_map (node_bits hours) (preorder t ++ forest_preorder f)
  both_bits t f p q = ap₂ ◌++◌ p q ∙ sym (flat_map_append (node_bits hours) (preorder t) (forest_preorder f))

  mutual
    unfolding preorder tree_bits node_bits flat_map

    node_bits_lem : (t : Tree) → tree_bits hours t ≡ flat_map (node_bits hours) (preorder t)
    node_bits_lem (leaf j) = sym (append-nil (node_bits hours (leaf j)))
    node_bits_lem (node k t f) = ap (λ (l : List ℕ). 1 ∷ kind_bit k ∷ bits 7 (more_children f) ++ l) (both_bits t f (node_bits_lem t) (forest_bits_lem f))

    forest_bits_lem : (f : Forest) → forest_bits hours f ≡ flat_map (node_bits hours) (forest_preorder f)
    forest_bits_lem (last t) = node_bits_lem t
    forest_bits_lem (more t f) = both_bits t f (node_bits_lem t) (forest_bits_lem f)

pub nodes_in_order : (bytes : List ℕ) (n : ℕ) (t : Tree) (hours : List ℕ) → IsRecord bytes n t hours
    → bytes ≡ bytes_of (bits 7 (n - 1) ++ flat_map (node_bits hours) (preorder t))
unfolding layout
nodes_in_order bytes n t hours r = sym r.spelt ∙ ap (λ (l : List ℕ). bytes_of (bits 7 (n - 1) ++ l)) (node_bits_lem hours t)
