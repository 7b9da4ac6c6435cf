-- The children of a group of kind k, read one after another.
use Prim.Native.Nat.{ℕ, suc, ◌+◌, ◌-◌, ◌^◌, ◌≤◌, ◌<◌, min}
use mathlib.Core.Path.{◌≡◌, refl, sym, ap, ap₂, subst, ◌∙◌}
use mathlib.Core.List.{List, ◌++◌, Memᴰ}
use mathlib.Core.Bool.{true}
use Rattle.std.specs.Prelude.{Option, None, Some}
use native.Mathlib.Omega.{arith}
use lib.ListN.{length, set, length-append, length-set}
use lib.Seq.{sets, get_or-set_other}
use Rattle.poset.specs.Tree.{Kind, series, parallel, Tree, Forest, last, more, leaves, forest_leaves, joined, reversed, least, groups, ahead}
use Rattle.poset.specs.Inner.{OnceForest, first_of, CanonForest}
use Rattle.poset.proofs.Laws.{same_count_mem}
use Rattle.poset.proofs.Shape.{leaves_in, forest_leaves_in}
use Rattle.poset.proofs.Realizer.{reversed_count}
use Rattle.record.specs.Bits.{AllBelow, bits_of}
use Rattle.record.specs.Layout.{hours_bits, more_children, tree_bits, forest_bits}
use Rattle.record.proofs.Sizes.{length_tree_bits}
use Rattle.reader.specs.Fields.{At}
use Rattle.reader.specs.Parts.{Piece, Lists, marked, Strand, place, Ready, Free, Placed, Found, PlainUnder, PlainChildren, of_tree, of_forest}
use Rattle.reader.specs.Parts.{front, behind, linked_part, linked_lists}
use Rattle.reader.specs.declared.parts.Part.{Part}
use Rattle.reader.proofs.Positions.{at_left, at_right, at_join}
use Rattle.reader.proofs.Strands.{strand_last, strand_kept, strand_link}
use Rattle.reader.proofs.Pieces.{both, Sound, back_in, back_once, sound_tree, sound_forest, goes_ahead, kept, Follows, kept_ahead}
use Rattle.reader.proofs.Pieces.{snoc, last_of, piece_snoc, snoc_number, snoc_last, canon_snoc, once_snoc}
use Rattle.reader.proofs.Marks.{length_marked, marked_append, sets_append, free_left, free_right, free_apart, free_join, free_small}
use Rattle.reader.proofs.Inversion.{one_tree}

pub reversed_in : (t : Tree) {u : ℕ} → Memᴰ u (reversed t) → Memᴰ u (leaves t)
reversed_in t {u} m = same_count_mem (reversed_count t u) m

-- a piece and the one after it, linked

joined_strand : {next : List ℕ} (k : Kind) (x y : Piece) (p q : Part) → Sound x → Sound y
    → ((u : ℕ) → Memᴰ u x.forth → Memᴰ u y.forth → ⊥) → (front k p q).last < length next
    → Strand next p.first x.back p.last → Strand next q.first y.back q.last
    → Strand (set next (front k p q).last (behind k p q).first) (front k p q).first (joined k x.back y.back) (behind k p q).last
unfolding joined
joined_strand series x y p q a b apart l s r =
    strand_link (back_once a p.last) (back_once b q.last) (λ m. apart p.last (back_in a (strand_last s)) (back_in b m)) l s r
joined_strand parallel x y p q a b apart l s r =
    strand_link (back_once b q.last) (back_once a p.last) (λ m. apart q.last (back_in a m) (back_in b (strand_last r))) l r s

-- what holds at both ends of a link holds at either
front_last : (k : Kind) (X : ℕ → Type 0) (p q : Part) → X p.last → X q.last → X (front k p q).last
front_last series X p q x y = x
front_last parallel X p q x y = y

module _ (k : Kind) (bs : List ℕ) (done gone : ℕ) (w v v' : Lists) (x y : Piece) (p q : Part) where
  joined_placed : Placed bs done gone w v p x → Placed bs p.done p.groups v v' q y → Sound x → Sound y
      → ((u : ℕ) → Memᴰ u x.forth → Memᴰ u y.forth → ⊥) → ((u : ℕ) → Memᴰ u (x.forth ++ y.forth) → u < length w.next)
      → Placed bs done gone w (linked_lists k v' p q) (linked_part k p q) (both k x y)
  joined_placed a b sound_x sound_y apart inside =
      let rooms : length v'.next ≡ length w.next = b.room ∙ a.room in
      let last_in : Memᴰ (front k p q).last (x.forth ++ y.forth) =
      front_last k (λ u. Memᴰ u (x.forth ++ y.forth)) p q
      (mathlib.Core.List.Memᴰ.append_left y.forth (back_in sound_x (strand_last a.strand)))
      (mathlib.Core.List.Memᴰ.append_right x.forth (back_in sound_y (strand_last b.strand))) in
      let end : ℕ = (front k p q).last in
      let first : List ℕ = x.spelt v'.hours in
      let second : List ℕ = y.spelt v'.hours in
      let same : x.spelt v.hours ≡ first = sound_x.agrees v.hours v'.hours (λ u m. sym (b.kept u (apart u m))) in
      let here : place p.done p.groups ≡ place done gone + length first = a.end ∙ ap (λ (l : List ℕ). place done gone + length l) same in
      record {
        stands = at_join first second (subst (At bs (place done gone)) same a.stands) (subst (λ (i : ℕ). At bs i second) here b.stands);
        end = omega (arith, here, b.end, length-append first second);
        number = omega (arith, a.number, b.number, length-append x.forth y.forth);
        groups = omega (arith, a.groups, b.groups);
        least = ap₂ min a.least b.least;
        seen = b.seen ∙ ap (λ (s : List ℕ). marked s y.forth) a.seen ∙ sym (marked_append w.seen x.forth y.forth);
        forward =
            b.forward
            ∙ ap₂ (λ (l : List ℕ) (i : ℕ). sets l i y.forth) a.forward a.number
            ∙ sym (sets_append w.forward done x.forth y.forth);
        strand =
            joined_strand k x y p q sound_x sound_y apart (omega (arith, inside end last_in))
            (strand_kept (back_once sound_x p.last) (λ u m _. b.others u (λ i. apart u (back_in sound_x m) i)) a.strand)
            b.strand;
        others = λ u out.
            get_or-set_other v'.next end u (behind k p q).first 0 (λ e. out (subst (λ (i : ℕ). Memᴰ i (x.forth ++ y.forth)) (sym e) last_in))
            ∙ b.others u (λ m. out (mathlib.Core.List.Memᴰ.append_right x.forth m))
            ∙ a.others u (λ m. out (mathlib.Core.List.Memᴰ.append_left y.forth m));
        room = length-set v'.next end (behind k p q).first ∙ rooms;
        low = b.low;
        kept = λ u out. b.kept u (λ m. out (mathlib.Core.List.Memᴰ.append_right x.forth m))
            ∙ a.kept u (λ m. out (mathlib.Core.List.Memᴰ.append_left y.forth m));
        entries = b.entries ∙ a.entries;
      }

-- what a child that was found is bounded by

pub record Bounded (done : ℕ) (p : Part) : Type 0 where
  pub lasts : p.last < 128
  pub onward : done ≤ p.done

pub child_bounded : (k : Kind) {bs : List ℕ} {n done gone : ℕ} {w v : Lists} {p : Part} → n ≤ 128
    → Found of_tree (PlainUnder k) bs n done gone w v (Some p) → Bounded done p
child_bounded k {p = p} small r =
    let (t, may, free, placed) = r.some p refl in
    record {
      lasts = omega (arith, free.inside p.last (reversed_in t (strand_last placed.strand)));
      onward = omega (arith, placed.number);
    }

-- no c + 1 children stand there of which the first is as asked
abbrev NoneFrom : Kind → ℕ → List ℕ → (Tree → Type 0) → (n done gone : ℕ) → List ℕ → Type 0
NoneFrom k c bs Asked n done gone seen =
    (f : Forest) → PlainChildren k c f → Asked (first_of f) → Free n done gone seen (of_forest k f)
    → (hours : List ℕ) → AllBelow (2 ^ hours_bits) hours → At bs (place done gone) (forest_bits hours f) → ⊥

-- the first of some children
first_free : (k : Kind) {n done gone : ℕ} {seen : List ℕ} (f : Forest) → Free n done gone seen (of_forest k f) → Free n done gone seen (of_tree (first_of f))
unfolding leaves tree_bits reversed least groups
first_free k (last t) free = free
first_free k (more t f) free = free_left k (of_tree t) (of_forest k f) free

first_at : {bs : List ℕ} {i : ℕ} (hours : List ℕ) (f : Forest) → At bs i (forest_bits hours f) → At bs i (tree_bits hours (first_of f))
unfolding tree_bits
first_at hours (last t) s = s
first_at hours (more t f) s = at_left (tree_bits hours t) (forest_bits hours f) s

first_plain : (k : Kind) (c : ℕ) (f : Forest) → PlainChildren k c f → PlainUnder k (first_of f)
first_plain k c (last t) may = (may.1.0, (may.1.1, may.2))
first_plain k c (more t f) may = (may.1.0, (may.1.1, may.2.0))

-- as no child does
none_first : (k : Kind) (bs : List ℕ) (n done gone : ℕ) (w v : Lists) (Asked : Tree → Type 0)
    → Found of_tree (PlainUnder k) bs n done gone w v None → (c : ℕ) → NoneFrom k c bs Asked n done gone w.seen
none_first k bs n done gone w v Asked child c f may asked free g low s =
    child.none refl (first_of f) (first_plain k c f may) (first_free k f free) g low (first_at g f s)

module _ (k : Kind) (bs : List ℕ) (n done gone : ℕ) (few : n ≤ 128) (w v : Lists) (p : Part) (Asked : Tree → Type 0)
    (child : Found of_tree (PlainUnder k) bs n done gone w v (Some p)) where
  -- the child that was read is the first
  is_first : (t : Tree) → Free n done gone w.seen (of_tree t) → Placed bs done gone w v p (of_tree t) → (f : Forest)
      → Free n done gone w.seen (of_forest k f) → (g : List ℕ) → AllBelow (2 ^ hours_bits) g → At bs (place done gone) (forest_bits g f) → first_of f ≡ t
  is_first t free_t placed f free g low s =
      one_tree g v.hours low placed.low (first_of f) t (free_small few (first_free k f free)) (free_small few free_t) (first_at g f s) placed.stands

  -- as the child that does is not as asked
  none_asked : (t : Tree) → Free n done gone w.seen (of_tree t) → Placed bs done gone w v p (of_tree t) → (Asked t → ⊥) → (c : ℕ)
      → NoneFrom k c bs Asked n done gone w.seen
  none_asked t free_t placed other c f may asked free g low s = other (subst Asked (is_first t free_t placed f free g low s) asked)

  -- as none do after the child
  none_after : (t : Tree) → Free n done gone w.seen (of_tree t) → Placed bs done gone w v p (of_tree t) → (c : ℕ)
      → NoneFrom k c bs (λ s. ahead k t s ≡ true) n p.done p.groups v.seen → NoneFrom k (suc c) bs Asked n done gone w.seen
  unfolding leaves tree_bits reversed least groups more_children
  none_after t free_t placed c none (last x) may asked free g low s = omega (arith, may.0)
  none_after t free_t placed c none (more x f) may_x asked free_x g low s_x =
      let same : x ≡ t = is_first t free_t placed (more x f) free_x g low s_x in
      let may : PlainChildren k (suc c) (more t f) = subst (λ (y : Tree). PlainChildren k (suc c) (more y f)) same may_x in
      let free : Free n done gone w.seen (both k (of_tree t) (of_forest k f)) =
      subst (λ (y : Tree). Free n done gone w.seen (both k (of_tree y) (of_forest k f))) same free_x in
      let s : At bs (place done gone) (tree_bits g t ++ forest_bits g f) =
      subst (λ (y : Tree). At bs (place done gone) (tree_bits g y ++ forest_bits g f)) same s_x in
      let here : place done gone + length (tree_bits g t) ≡ place p.done p.groups =
      omega (arith, placed.end, length_tree_bits g t, length_tree_bits v.hours t) in
      let (_, _, canon, leads) = may.1 in
      let (_, once, apart) = may.2 in
      none f (omega (arith, may.0), canon, once) leads
      (free_right k (of_tree t) (of_forest k f) placed free (λ u i j. apart u (leaves_in t i) (forest_leaves_in f j)))
      g low (subst (λ (i : ℕ). At bs i (forest_bits g f)) here (at_right (tree_bits g t) (forest_bits g f) s))

-- some children that were read, and what is kept of the last
record Prefix (k : Kind) (bs : List ℕ) (n done gone : ℕ) (w v : Lists) (p : Part) (number m x : ℕ) : Type 0 where
  forest : Forest
  trees : more_children forest ≡ number
  canon : CanonForest k forest
  once : OnceForest forest
  free : Free n done gone w.seen (of_forest k forest)
  placed : Placed bs done gone w v p (of_forest k forest)
  ground : (t : Tree) → Follows k m x t → ahead k (last_of forest) t ≡ true

module _ (k : Kind) (bs : List ℕ) (n done gone : ℕ) (w : Lists) where
  module _ (v : Lists) (q : Part) (t : Tree) (may : PlainUnder k t) (free : Free n done gone w.seen (of_tree t))
      (placed : Placed bs done gone w v q (of_tree t)) where
    prefix_first : Prefix k bs n done gone w v q 1 (kept k (q.done - done)) (kept k q.least)
    unfolding leaves tree_bits reversed least groups more_children
    prefix_first =
        record {
          forest = last t;
          trees = refl;
          canon = (may.0, may.1.0);
          once = may.1.1;
          free = free;
          placed = placed;
          ground = λ s h. sym (kept_ahead k t s (q.done - done) q.least (omega (arith, placed.number)) placed.least) ∙ h;
        }

  module _ (v : Lists) (p : Part) (number m x : ℕ) (y : Prefix k bs n done gone w v p number m x) where
    prefix_more : (v' : Lists) (q : Part) (t : Tree) → n ≤ length w.next → n ≤ length w.seen → PlainUnder k t
        → Free n p.done p.groups v.seen (of_tree t) → Placed bs p.done p.groups v v' q (of_tree t) → Follows k m x t
        → Prefix k bs n done gone w (linked_lists k v' p q) (linked_part k p q) (suc number) (kept k (q.done - p.done)) (kept k q.least)
    prefix_more v' q t next_size seen_size may free_t placed_t follows =
        let f : Forest = y.forest in
        let a : Piece = of_forest k f in
        let b : Piece = of_tree t in
        let apart = free_apart k a b y.placed seen_size y.free free_t in
        let free_both = free_join k a b y.placed seen_size y.free free_t in
        let same : of_forest k (snoc f t) ≡ both k a b = piece_snoc k f t in
        record {
          forest = snoc f t;
          trees = snoc_number f t ∙ ap suc y.trees;
          canon = canon_snoc k t may.0 may.1.0 f y.canon (y.ground t follows);
          once = once_snoc f t y.once may.1.1 apart;
          free = subst (Free n done gone w.seen) (sym same) free_both;
          placed =
              subst (Placed bs done gone w (linked_lists k v' p q) (linked_part k p q)) (sym same)
              (joined_placed k bs done gone w v v' a b p q y.placed placed_t (sound_forest k f y.once) (sound_tree t may.1.1) apart
              (λ u m. omega (arith, free_both.inside u m)));
          ground = λ s h.
              ap (λ (i : Tree). ahead k i s) (snoc_last f t)
              ∙ sym (kept_ahead k t s (q.done - p.done) q.least (omega (arith, placed_t.number)) placed_t.least)
              ∙ h;
        }

    prefix_ready : {bytes : List ℕ} → Ready bytes n done gone w → Ready bytes n p.done p.groups v
    prefix_ready r = record {
      short = r.short;
      few = r.few;
      named = omega (arith, y.placed.number, y.free.room);
      opened = omega (arith, y.placed.groups, y.free.fewer);
      marks = ap length y.placed.seen ∙ length_marked w.seen (forest_leaves y.forest) ∙ r.marks;
      links = y.placed.room ∙ r.links;
      entries = y.placed.entries ∙ r.entries;
      low = y.placed.low;
    }

    prefix_last : n ≤ 128 → p.last < 128
    prefix_last few = omega (arith, y.free.inside p.last (back_in (sound_forest k y.forest y.once) (strand_last y.placed.strand)))

-- what is asked of the next child: after those read, of which the last has m jobs, the smallest x, that it may follow; of the first nothing
abbrev May : Kind → Option Part → ℕ → ℕ → Tree → Type 0
May k None m x t = Unit {0}
May k (Some p) m x t = Follows k m x t

-- the loop of a reader: of c + 1 children i are read, as the part o, and end at `here` and `there`; the last has m jobs, the smallest x
pub record Run (k : Kind) (bytes : List ℕ) (n c done gone : ℕ) (w : Lists) (i m x : ℕ) (v : Lists) (here there : ℕ) (o : Option Part)
    : Type 0 where
  pub within : i ≤ c + 1
  pub ready : Ready bytes n here there v
  pub onward : (done ≤ here) × (gone ≤ there)
  begun : (p : Part) → o ≡ Some p → (p.done ≡ here) × (p.groups ≡ there) × Prefix k (bits_of bytes) n done gone w v p i m x
  unbegun : o ≡ None → (here ≡ done) × (there ≡ gone) × (v ≡ w) × (i ≡ 0)
  missing : (l : ℕ) → i + l ≡ c → NoneFrom k l (bits_of bytes) (May k o m x) n here there v.seen
      → NoneFrom k c (bits_of bytes) (May k None m x) n done gone w.seen

module _ (k : Kind) (bytes : List ℕ) (n c done gone : ℕ) (w : Lists) (r : Ready bytes n done gone w) where
  pub run_begin : (m x : ℕ) → Run k bytes n c done gone w 0 m x w done gone None
  run_begin m x = record {
    within = omega arith;
    ready = r;
    onward = omega arith;
    begun = λ p e. absurd (cc);
    unbegun = λ _. (refl, refl, refl, refl);
    missing = λ l e none f may. none f (subst (λ (i : ℕ). PlainChildren k i f) (omega arith) may);
  }

  module _ (i m x : ℕ) (v : Lists) (here there : ℕ) (o : Option Part) (run : Run k bytes n c done gone w i m x v here there o) where
    -- all are read
    pub run_end : c + 1 ≤ i → Found (of_forest k) (PlainChildren k c) (bits_of bytes) n done gone w v o
    run_end all = record {
      some = λ p e.
          let y = (run.begun p e).2 in
          (y.forest, (omega (arith, y.trees, run.within), y.canon, y.once), y.free, y.placed);
      none = λ e. absurd (omega (arith, (run.unbegun e).3));
    }

    module _ (v' : Lists) (some : i < c + 1) where
      rest_is : i + (c - i) ≡ c
      rest_is = omega arith

      -- no child stands there
      pub run_none : Found of_tree (PlainUnder k) (bits_of bytes) n here there v v' None
          → Found (of_forest k) (PlainChildren k c) (bits_of bytes) n done gone w v' None
      run_none child = record {
        some = λ p e. absurd (cc);
        none = λ _ f may.
            run.missing (c - i) rest_is
            (none_first k (bits_of bytes) n here there v v' (May k o m x) child (c - i)) f may tt;
      }

      module _ (q : Part) (child : Found of_tree (PlainUnder k) (bits_of bytes) n here there v v' (Some q)) where
        -- as far as the child tells, it may follow
        abbrev Told : Type 0
        Told = goes_ahead k m x (q.done - here) q.least ≡ true

        -- which is the child's own
        told_is : (t : Tree) → Placed (bits_of bytes) here there v v' q (of_tree t)
            → goes_ahead k m x (q.done - here) q.least ≡ goes_ahead k m x (length (leaves t)) (least t)
        told_is t placed = ap₂ (goes_ahead k m x) (omega (arith, placed.number)) placed.least

        -- one stands there, and may not follow
        pub run_behind : (p : Part) → o ≡ Some p → (Told → ⊥) → Found (of_forest k) (PlainChildren k c) (bits_of bytes) n done gone w v' None
        run_behind p e other = record {
          some = λ p e. absurd (cc);
          none = λ _ f may.
              let (t, plain, free_t, placed) = child.some q refl in
              run.missing (c - i) rest_is
              (none_asked k (bits_of bytes) n here there r.few v v' q (May k o m x) child t free_t placed
              (λ h. other (told_is t placed ∙ subst (λ (u : Option Part). May k u m x t) e h)) (c - i))
              f may tt;
        }

        abbrev m' : ℕ
        m' = kept k (q.done - here)

        abbrev x' : ℕ
        x' = kept k q.least

        -- with a child more, as the part p of these lists
        run_with : (lists : Lists) (p : Part) → (p.done ≡ q.done) × (p.groups ≡ q.groups) → lists.seen ≡ v'.seen
            → Prefix k (bits_of bytes) n done gone w lists p (i + 1) m' x'
            → Run k bytes n c done gone w (i + 1) m' x' lists q.done q.groups (Some p)
        run_with lists p same marks y =
            let ready = prefix_ready k (bits_of bytes) n done gone w lists p (i + 1) m' x' y r in
            let at_done = subst (λ (d : ℕ). Ready bytes n d p.groups lists) same.0 ready in
            record {
              within = omega arith;
              ready = subst (λ (g : ℕ). Ready bytes n q.done g lists) same.1 at_done;
              onward = omega (arith, y.placed.number, y.placed.groups, same.0, same.1);
              begun = λ p' e.
                  let one : p ≡ p' = cc in
                  subst (λ (u : Part). (u.done ≡ q.done) × (u.groups ≡ q.groups) × Prefix k (bits_of bytes) n done gone w lists u (i + 1) m' x') one
                  (same.0, same.1, y);
              unbegun = λ e. absurd (cc);
              missing = λ l e none f may.
                  let (t, _, free, placed) = child.some q refl in
                  run.missing (suc l) (omega arith)
                  (none_after k (bits_of bytes) n here there r.few v v' q (May k o m x) child t free placed l
                  (λ f plain leads.
                  subst (λ (s : List ℕ). NoneFrom k l (bits_of bytes) (Follows k m' x') n q.done q.groups s) marks none
                  f plain (kept_ahead k t (first_of f) (q.done - here) q.least (omega (arith, placed.number)) placed.least ∙ leads)))
                  f may;
            }

        -- the first child
        pub run_first : o ≡ None → Run k bytes n c done gone w (i + 1) m' x' v' q.done q.groups (Some q)
        run_first e =
            let (d, g, l, z) = run.unbegun e in
            let moved = subst (λ (i : Lists). Found of_tree (PlainUnder k) (bits_of bytes) n here there i v' (Some q)) l child in
            let at_done = subst (λ (i : ℕ). Found of_tree (PlainUnder k) (bits_of bytes) n i there w v' (Some q)) d moved in
            let (t, may, free, placed) =
            (subst (λ (i : ℕ). Found of_tree (PlainUnder k) (bits_of bytes) n done i w v' (Some q)) g at_done).some q refl in
            run_with v' q (refl, refl) refl
            (subst (λ (i : ℕ). Prefix k (bits_of bytes) n done gone w v' q (i + 1) m' x') (sym z)
            (subst (λ (i : ℕ). Prefix k (bits_of bytes) n done gone w v' q 1 (kept k (q.done - i)) x') (sym d)
            (prefix_first k (bits_of bytes) n done gone w v' q t may free placed)))

        module _ (p : Part) (e : o ≡ Some p) where
          pub run_last : p.last < 128
          run_last = prefix_last k (bits_of bytes) n done gone w v p i m x (run.begun p e).2 r.few

          -- a child more
          pub run_more : Told
              → Run k bytes n c done gone w (i + 1) m' x' (linked_lists k v' p q) q.done q.groups (Some (linked_part k p q))
          run_more told =
              let (d, g, y) = run.begun p e in
              let moved = subst (λ (i : ℕ). Found of_tree (PlainUnder k) (bits_of bytes) n i there v v' (Some q)) (sym d) child in
              let (t, may, free, placed) =
              (subst (λ (i : ℕ). Found of_tree (PlainUnder k) (bits_of bytes) n p.done i v v' (Some q)) (sym g) moved).some q refl in
              let more =
              prefix_more k (bits_of bytes) n done gone w v p i m x y v' q t
              (omega (arith, r.links, r.few)) (omega (arith, r.marks, r.few)) may free placed
              (sym (ap₂ (goes_ahead k m x) (omega (arith, placed.number, d)) placed.least) ∙ told) in
              let one : suc i ≡ i + 1 = omega arith in
              run_with (linked_lists k v' p q) (linked_part k p q) (refl, refl) refl
              (subst (λ (j : ℕ). Prefix k (bits_of bytes) n done gone w (linked_lists k v' p q) (linked_part k p q) j m' x') one
              (subst (λ (j : ℕ). Prefix k (bits_of bytes) n done gone w (linked_lists k v' p q) (linked_part k p q) (suc i) (kept k (q.done - j)) x') d more))
