-- A child of a group of kind k: a leaf, or a group of the other kind.
use Prim.Native.Nat.{ℕ, suc, ◌+◌, ◌^◌, ◌≤◌, ◌<◌}
use mathlib.Core.Path.{◌≡◌, refl, sym, ap, subst, ◌∙◌}
use mathlib.Core.List.{List, [], ◌∷◌, ◌++◌, Memᴰ}
use mathlib.Core.Bool.{true, false}
use Rattle.std.specs.Prelude.{Option, None, Some}
use native.Mathlib.Omega.{arith}
use lib.ListN.{length, get_or, set, length-append, length-set}
use lib.Seq.{get_or-set_same, get_or-set_other}
use Rattle.poset.specs.Tree.{Kind, series, parallel, Tree, leaf, node, Forest, last, more, leaves, reversed, least, groups, alternates}
use Rattle.poset.proofs.Laws.{clash}
use Rattle.poset.proofs.Standing.{other}
use Rattle.record.specs.Bits.{AllBelow, bits}
use Rattle.record.specs.Layout.{hours_bits, more_children, hours_of, tree_bits, forest_bits}
use Rattle.record.specs.Tokens.{Small}
use Rattle.record.proofs.Below.{below_set}
use Rattle.record.proofs.Fields.{length_bits}
use Rattle.record.proofs.Sizes.{forest_groups_lem}
use Rattle.reader.specs.Fields.{At, NoTree, BeginsLeaf, BeginsGroup, NodeAt, leaf_fields, header}
use Rattle.reader.specs.declared.nodes.Node.{Node}
use Rattle.reader.specs.declared.nodes.Node.TheVariants.{Leaf, Chain, Side}
use Rattle.reader.specs.Parts.{Lists, alone, place, Ready, Free, Placed, Found, LeafRead, ChildRead, ChildrenRead}
use Rattle.reader.specs.Parts.{Plain, PlainUnder, PlainChildren, of_tree, of_forest}
use Rattle.reader.specs.declared.parts.Part.{Part}
use Rattle.reader.proofs.Positions.{at_join}
use Rattle.reader.proofs.Marks.{free_small}
use Rattle.reader.proofs.Inversion.{only_leaf, only_group}

under_other : (k : Kind) (t : Tree) (f : Forest) → alternates k (node (other k) t f) ≡ true
unfolding alternates
under_other series t f = refl
under_other parallel t f = refl

under_same : (k : Kind) (t : Tree) (f : Forest) → alternates k (node k t f) ≡ false
unfolding alternates
under_same series t f = refl
under_same parallel t f = refl

group_placed : (bs : List ℕ) (done gone : ℕ) (w v : Lists) (q : Part) (k : Kind) (t : Tree) (f : Forest)
    → At bs (place done gone) (header k (more_children f)) → Placed bs done (gone + 1) w v q (of_forest k (more t f))
    → Placed bs done gone w v q (of_tree (node k t f))
unfolding tree_bits leaves reversed least groups
group_placed bs done gone w v q k t f s r =
    let head : List ℕ = header k (more_children f) in
    let body : List ℕ = tree_bits v.hours t ++ forest_bits v.hours f in
    let size : length head ≡ 9 = omega (arith, length_bits 7 (more_children f)) in
    let after : place done (gone + 1) ≡ place done gone + length head = omega (arith, size) in
    record {
      stands = at_join head body s (subst (λ (i : ℕ). At bs i body) after r.stands);
      end = omega (arith, r.end, size, length-append head body);
      number = r.number;
      groups = omega (arith, r.groups);
      least = r.least;
      seen = r.seen;
      forward = r.forward;
      strand = r.strand;
      others = r.others;
      room = r.room;
      low = r.low;
      kept = r.kept;
      entries = r.entries;
    }

module _ {n done gone : ℕ} {s : List ℕ} (k : Kind) (t : Tree) (f : Forest) where
  children_free : Free n done gone s (of_tree (node k t f)) → Free n done (gone + 1) s (of_forest k (more t f))
  unfolding leaves groups
  children_free r = record { inside = r.inside; unseen = r.unseen; room = r.room; fewer = omega (arith, r.fewer) }

  group_free : Free n done (gone + 1) s (of_forest k (more t f)) → Free n done gone s (of_tree (node k t f))
  unfolding leaves groups
  group_free r = record { inside = r.inside; unseen = r.unseen; room = r.room; fewer = omega (arith, r.fewer) }

-- a group is one of the groups
group_counts : (k : Kind) (t : Tree) (f : Forest) → 0 < groups (node k t f)
unfolding groups
group_counts k t f = omega arith

module _ (k : Kind) (bs : List ℕ) (n done gone : ℕ) (few : n ≤ 128) (w : Lists) where
  module _ (j x : ℕ) (h : BeginsLeaf bs (place done gone) j x) where
    -- the lists with a leaf of this job, and its part

    abbrev named : Lists
    named = record { seen = set w.seen j 1; forward = set w.forward done j; next = w.next; hours = set w.hours j x }

    abbrev leaf_part : Part
    leaf_part = record { done = done + 1; groups = gone; least = j; first = j; last = j }

    leaf_placed : {bytes : List ℕ} → Ready bytes n done gone w → j < n → Placed bs done gone w named leaf_part (of_tree (leaf j))
    unfolding tree_bits leaves reversed least groups
    leaf_placed ready inside =
        let time : hours_of named.hours j ≡ x = get_or-set_same w.hours j x 0 (omega (arith, ready.entries)) in
        record {
          stands = subst (At bs (place done gone)) (ap (leaf_fields j) (sym time)) h.stands;
          end = omega (
            arith,
            length-append (bits 7 j) (bits hours_bits (hours_of named.hours j)),
            length_bits 7 j,
            length_bits hours_bits
                (hours_of named.hours j),
          );
          number = omega arith;
          groups = omega arith;
          least = refl;
          seen = refl;
          forward = refl;
          strand = alone j;
          others = λ u _. refl;
          room = refl;
          low = below_set w.hours j x ready.low h.low;
          kept = λ u out. get_or-set_other w.hours j u x 0 (λ q. out (mathlib.Core.List.Memᴰ.head q));
          entries = length-set w.hours j x;
        }

    pub child_leaf : {bytes : List ℕ} → Ready bytes n done gone w → (v : Lists) (o : Option Part) → LeafRead n j x done gone w v o
        → ChildRead k bs n done gone w v o
    unfolding leaves groups alternates
    child_leaf ready v o r = record {
      some = λ p e.
          let (inside, unseen, room, lists, same) = r.some p e in (
            leaf j,
            (refl, (tt, tt)),
            record {
              inside = λ u m. subst (λ (v : ℕ). v < n) (sym (mathlib.Core.List.Memᴰ.eq_of_singleton m)) inside;
              unseen = λ u m. ap (λ (v : ℕ). get_or w.seen v 0) (mathlib.Core.List.Memᴰ.eq_of_singleton m) ∙ unseen;
              room = omega arith;
              fewer = omega (arith, ready.opened);
            },
            subst (λ (q : Part). Placed bs done gone w v q (of_tree (leaf j))) (sym same)
                (subst (λ (u : Lists). Placed bs done gone w u leaf_part (of_tree (leaf j))) (sym lists) (leaf_placed ready inside)),
          );
      none = λ bad t may free g _ s.
          subst (λ (t : Tree). Free n done gone w.seen (of_tree t) → ⊥)
          (sym (only_leaf g j x t h.small (free_small few free) h.stands s))
          (λ free.
          let here : Memᴰ j (j ∷ []) = mathlib.Core.List.Memᴰ.head refl in
          r.none bad (free.inside j here) (free.unseen j here) (omega (arith, free.room)))
          free;
    }

  -- no node
  pub child_none : NoTree bs (place done gone) → (v : Lists) → ChildRead k bs n done gone w v None
  child_none h v = record { some = λ p e. absurd (cc); none = λ _ t may free g low s. h t (free_small few free) g low s }

  -- a kind directly in its kind
  pub child_same : (c : ℕ) → BeginsGroup bs (place done gone) k c → (v : Lists) → ChildRead k bs n done gone w v None
  child_same c h v = record {
    some = λ p e. absurd (cc);
    none = λ _ t may free g _ s.
        let i = only_group g k c t h.small (free_small few free) h.stands s in
        clash (sym (ap (alternates k) i.same) ∙ may.0) (under_same k i.first i.others);
  }

  module _ (c : ℕ) (h : BeginsGroup bs (place done gone) (other k) c) (v : Lists) where
    -- a group too many
    pub child_full : n ≤ gone + 1 → ChildRead k bs n done gone w v None
    child_full full = record {
      some = λ p e. absurd (cc);
      none = λ _ t may free g _ s.
          let i = only_group g (other k) c t h.small (free_small few free) h.stands s in
          omega (arith, free.fewer, ap groups i.same, group_counts (other k) i.first i.others);
    }

    -- a group: its children stand after its own bits
    pub child_group : (o : Option Part) → ChildrenRead (other k) c bs n done (gone + 1) w v o → ChildRead k bs n done gone w v o
    unfolding tree_bits leaves more_children
    child_group o r = record { some = found; none = missing }
      where
        l : Kind
        l = other k

        -- the children are those of a group
        as_group : (p : Part) (f : Forest) → PlainChildren l c f → Placed bs done (gone + 1) w v p (of_forest l f) → (s : Tree) × (o : Forest)
            × (f ≡ more s o) × Placed bs done gone w v p (of_tree (node l s o))
        as_group p (last s) may q = absurd (omega (arith, may.0, h.several))
        as_group p (more s o) may q =
            let number : c ≡ more_children o = omega (arith, may.0) in
            (s, o, refl, group_placed bs done gone w v p l s o (subst (λ (m : ℕ). At bs (place done gone) (header l m)) number h.stands) q)

        found : (p : Part) → o ≡ Some p
            → (t : Tree) × PlainUnder k t × Free n done gone w.seen (of_tree t) × Placed bs done gone w v p (of_tree t)
        found p e =
            let (f, may, free, q) = r.some p e in
            let (s, o, split, placed) = as_group p f may q in
            let may_more : PlainChildren l c (more s o) = subst (PlainChildren l c) split may in
            let free_more : Free n done (gone + 1) w.seen (of_forest l (more s o)) =
            subst (λ (x : Forest). Free n done (gone + 1) w.seen (of_forest l x)) split free in
            (node l s o, (under_other k s o, (may_more.1, may_more.2)), group_free l s o free_more, placed)

        missing : o ≡ None → (t : Tree) → PlainUnder k t → Free n done gone w.seen (of_tree t)
            → (g : List ℕ) → AllBelow (2 ^ hours_bits) g → At bs (place done gone) (tree_bits g t) → ⊥
        missing bad t may free x low stands =
            let i = only_group x l c t h.small (free_small few free) h.stands stands in
            let s : Tree = node l i.first i.others in
            let may_s : PlainUnder k s = subst (PlainUnder k) i.same may in
            let free_s : Free n done gone w.seen (of_tree s) = subst (λ (y : Tree). Free n done gone w.seen (of_tree y)) i.same free in
            let after : place done gone + 9 ≡ place done (gone + 1) = omega arith in
            r.none bad (more i.first i.others) (ap suc i.number, may_s.1.0, may_s.1.1) (children_free l i.first i.others free_s)
            x low (subst (λ (a : ℕ). At bs a (forest_bits x (more i.first i.others))) after i.children)

-- a tree that stands in no group

-- a tree there may stand in a chain
abbrev UnderSeries : List ℕ → ℕ → ℕ → Type 0
UnderSeries bs done gone =
    (t : Tree) → Small (leaves t) → (g : List ℕ) → At bs (place done gone) (tree_bits g t) → alternates series t ≡ true

-- one that is no chain
pub under_series : (bs : List ℕ) (done gone : ℕ) (m : Node) → ((c : ℕ) → m ≡ Chain c → ⊥) → NodeAt bs (place done gone) (Some m) → UnderSeries bs done gone
unfolding alternates
under_series bs done gone (Leaf j x) other h t small g s = ap (alternates series) (only_leaf g j x t h.small small h.stands s)
under_series bs done gone (Side c) other h t small g s =
    let i = only_group g parallel c t h.small small h.stands s in
    ap (alternates series) i.same ∙ under_other series i.first i.others
under_series bs done gone (Chain c) other h t small g s = absurd (other c refl)

module _ (bs : List ℕ) (n done gone : ℕ) (few : n ≤ 128) (w v : Lists) where
  pub tree_none : NoTree bs (place done gone) → Found of_tree Plain bs n done gone w v None
  tree_none h = record { some = λ p e. absurd (cc); none = λ _ t may free g low s. h t (free_small few free) g low s }

  -- one that may stand in a chain is read as its only child
  pub tree_child : UnderSeries bs done gone → (o : Option Part) → Found (of_forest series) (PlainChildren series 0) bs n done gone w v o
      → Found of_tree Plain bs n done gone w v o
  unfolding tree_bits leaves reversed least groups more_children
  tree_child under o r = record {
    some = λ p e. let (f, may, free, placed) = r.some p e in only p f may free placed;
    none = λ bad t may free g low s. r.none bad (last t) (refl, (under t (free_small few free) g s, may.0), may.1) free g low s;
  }
    where
      only : (p : Part) (f : Forest) → PlainChildren series 0 f → Free n done gone w.seen (of_forest series f)
          → Placed bs done gone w v p (of_forest series f)
          → (t : Tree) × Plain t × Free n done gone w.seen (of_tree t) × Placed bs done gone w v p (of_tree t)
      only p (last t) may free placed = (t, (may.1.1, may.2), free, placed)
      only p (more t f) may free placed = absurd (omega (arith, may.0, forest_groups_lem f))

  module _ (c : ℕ) (h : BeginsGroup bs (place done gone) series c) where
    pub tree_chain : (o : Option Part) → Found of_tree (PlainUnder parallel) bs n done gone w v o → Found of_tree Plain bs n done gone w v o
    tree_chain o r = record {
      some = λ p e. let (t, may, free, placed) = r.some p e in (t, may.1, free, placed);
      none = λ bad t may free g low s.
          let i = only_group g series c t h.small (free_small few free) h.stands s in
          r.none bad t (ap (alternates parallel) i.same ∙ under_other parallel i.first i.others, may) free g low s;
    }

    -- a chain where there can be no group
    pub tree_full : n ≤ gone + 1 → Found of_tree Plain bs n done gone w v None
    tree_full full = record {
      some = λ p e. absurd (cc);
      none = λ _ t may free g _ s.
          let i = only_group g series c t h.small (free_small few free) h.stands s in
          omega (arith, free.fewer, ap groups i.same, group_counts series i.first i.others);
    }
