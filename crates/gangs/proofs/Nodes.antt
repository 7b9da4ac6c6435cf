-- All nodes of a tree, taken in their order.
use Prim.Native.Nat.{ℕ, suc, ◌+◌, ◌≤◌, ◌<◌}
use mathlib.Core.Path.{◌≡◌, refl, sym, ap, ap₂, subst, ◌∙◌}
use mathlib.Core.List.Memᴰ
use mathlib.Core.List.{List, [], ◌∷◌, ◌++◌, flat_map, append-nil}
use borrow.Author.Tests.{lt-ltb, le-ltb}
use native.Mathlib.Omega.{arith}
use lib.ListN.{length, get_or, drop, replicate, length-append, drop_of_length-le}
use lib.Seq.{drop-cons, get_or-take}
use Rattle.poset.specs.Lists.{keep}
use Rattle.poset.specs.Tree.{Kind, series, Tree, leaf, node, Forest, last, more, leaves, forest_leaves}
use Rattle.poset.proofs.Laws.{keep_yes, keep_not}
use Rattle.relation.proofs.Lists.{keep_append}
use Rattle.record.specs.Layout.{more_children}
use Rattle.record.specs.Tokens.{tokens, forest_tokens, group_token, Small}
use Rattle.record.proofs.Sizes.{small_left, small_right, groups_lt}
use Rattle.record.proofs.Tokens.{tokens_length}
use Rattle.record.proofs.Entries.{entry_padded}
use Rattle.reader.specs.Nodes.{Listed}
use Rattle.gangs.specs.Gangs.{gang_count}
use Rattle.gangs.specs.Places.{Taken, no_group, to_come, At, begins, ended, is_leaf, Written, Ready, AllNumbered}

-- the leaves among a tree's nodes

leaf_token : (j : ℕ) (xs : List ℕ) → j < 128 → keep is_leaf (j ∷ xs) ≡ j ∷ keep is_leaf xs
leaf_token j xs low = keep_yes is_leaf j xs (lt-ltb j 256 (omega arith))

group_token_lem : (k : Kind) (m : ℕ) (xs : List ℕ) → keep is_leaf (group_token k m ∷ xs) ≡ keep is_leaf xs
group_token_lem k m xs = keep_not is_leaf (group_token k m) xs (le-ltb (group_token k m) 256 (omega arith))

both_leaves : (xs ys : List ℕ) {js ks : List ℕ} → (Small js → keep is_leaf xs ≡ js) → (Small ks → keep is_leaf ys ≡ ks) → Small (js ++ ks)
    → keep is_leaf (xs ++ ys) ≡ js ++ ks
both_leaves xs ys {js} {ks} p q small =
    keep_append is_leaf xs ys ∙ ap₂ (λ (a b : List ℕ). a ++ b) (p (small_left js ks small)) (q (small_right js ks small))

mutual
  unfolding leaves keep

  token_leaves : (t : Tree) → Small (leaves t) → keep is_leaf (tokens t) ≡ leaves t
  token_leaves (leaf j) small = leaf_token j [] (small.0 j (Memᴰ.head refl))
  token_leaves (node k t f) small =
      group_token_lem k (more_children f) (tokens t ++ forest_tokens f)
      ∙ both_leaves (tokens t) (forest_tokens f) (λ h. token_leaves t h) (λ h. forest_leaves_lem f h) small

  forest_leaves_lem : (f : Forest) → Small (forest_leaves f) → keep is_leaf (forest_tokens f) ≡ forest_leaves f
  forest_leaves_lem (last t) small = token_leaves t small
  forest_leaves_lem (more t f) small = both_leaves (tokens t) (forest_tokens f) (λ h. token_leaves t h) (λ h. forest_leaves_lem f h) small

module _ (t : Tree) (list : List ℕ) (count : ℕ) (l : Listed t list count) (jobs : List ℕ) where
  -- the node at i, and those after it
  pub ready_node : (w : Taken) (i : ℕ) → i < count → (x : ℕ) → x ≡ get_or list i 0
      → Ready t jobs w (drop i (tokens t)) → Ready t jobs w (x ∷ drop (i + 1) (tokens t))
  ready_node w i inside x is =
      let one : suc i ≡ i + 1 = omega arith in
      let here : get_or (tokens t) i 0 ≡ x =
      ap (λ (xs : List ℕ). get_or xs i 0) (sym l.these) ∙ get_or-take count list i 0 inside ∙ sym is in
      subst (λ (xs : List ℕ). Ready t jobs w xs)
      (drop-cons (tokens t) i 0 (omega (arith, l.number)) ∙ ap (λ (y : ℕ). y ∷ drop (suc i) (tokens t)) here
      ∙ ap (λ (n : ℕ). x ∷ drop n (tokens t)) one)

  -- the whole tree begins, and nothing is written
  pub ready_first
      : Ready t jobs (record {
        groups = record { present = no_group; depth = 0; around = replicate 128 no_group };
        gangs = replicate 128 0;
        hours = replicate 128 0;
      }) (drop 0 (tokens t))
  unfolding flat_map
  ready_first =
      record {
        small = l.small;
        at =
            begins t (record { kind = series; at = 0; end = 0; rest = [] }) []
            (record {
              group =
                  record {
                    sized = refl;
                    held = tt;
                    depth_is = refl;
                    present = record { kind_is = refl; coming_is = refl; at_is = refl; end_is = refl };
                    shallow = omega arith;
                  };
              numbers = record { once = l.once; small = l.small; each = λ u i. omega arith };
              coming = omega arith;
              shallow = omega (arith, groups_lt t, l.small.1);
            })
            (sym (append-nil (tokens t)));
        written =
            record {
              seen = [];
              all = token_leaves t l.small;
              gangs_size = refl;
              hours_size = refl;
              these = λ u m. absurd (Memᴰ.not-nil m);
              others = λ u no. entry_padded [] 128 u;
              loads = λ g. entry_padded [] 128 g;
            };
      }

  -- all nodes are taken
  pub ready_last : (w : Taken) (i : ℕ) → count ≤ i → Ready t jobs w (drop i (tokens t))
      → AllNumbered t jobs w.groups.present.end w.gangs w.hours
  ready_last w i past r =
      record { count_is = go r.at; written = subst (λ (xs : List ℕ). Written t jobs xs w.gangs w.hours) none r.written }
    where
      none : drop i (tokens t) ≡ []
      none = drop_of_length-le (tokens t) {i = i} (omega (arith, l.number))

      go : At t w.groups (drop i (tokens t)) → w.groups.present.end ≡ gang_count t
      go (begins s o os b e) = absurd (omega (arith, ap length (sym none ∙ e), length-append (tokens s) (to_come (o ∷ os)), tokens_length s, groups_lt s))
      go (ended end e) = end
