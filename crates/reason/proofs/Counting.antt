-- The leaves under a node, counted from its place on.
use Prim.Native.Nat.{ℕ, ◌+◌, ◌-◌, ◌%◌, ◌≤◌, ◌<◌}
use mathlib.Core.Path.{◌≡◌, refl, sym, ap, subst, ◌∙◌}
use mathlib.Core.List.Memᴰ
use mathlib.Core.List.{List, [], ◌∷◌, ◌++◌, flat_map}
use native.Mathlib.Omega.{arith}
use lib.ListN.{length, get_or, drop, length-append, length-drop}
use lib.Seq.{get_or-drop, drop-drop}
use Rattle.poset.specs.Tree as Tree
use Rattle.poset.specs.Tree.{Kind, Tree, leaf, node, Forest, leaves, forest_leaves}
use Rattle.poset.proofs.Shape.{trees_leaves}
use Rattle.record.specs.Layout.{more_children}
use Rattle.record.specs.Tokens.{group_token, tokens, Small}
use Rattle.record.proofs.Sizes.{small_left, small_right, kind_below, groups_lt, trees_length}
use Rattle.record.proofs.Tokens.{tokens_length, children_few}
use Rattle.reader.proofs.Pending.{trees_tokens, children_row, row_length}
use Rattle.reason.specs.Rows.{Ahead}

-- the first of the trees to come, and then what comes after its node

module _ (list : List ℕ) (i : ℕ) where
  next : {a : ℕ} {zs : List ℕ} → drop i list ≡ a ∷ zs → (get_or list i 0 ≡ a) × (drop (i + 1) list ≡ zs)
  next {a} {zs} e = (
    let same : i + 0 ≡ i = omega arith in
        ap (λ (k : ℕ). get_or list k 0) (sym same) ∙ sym (get_or-drop i list 0 0) ∙ ap (λ (l : List ℕ). get_or l 0 0) e,
    sym (drop-drop 1 i list) ∙ ap (drop 1) e,
  )

  ahead_leaf : (j : ℕ) (ts : List Tree) → Ahead list i (leaf j ∷ ts) → (get_or list i 0 ≡ j) × (j < 128) × Ahead list (i + 1) ts
  unfolding leaves flat_map
  ahead_leaf j ts a =
      let (here, after) = next a.these in (
        here,
        a.small.0 j (Memᴰ.head refl),
        record {
          after = a.after;
          these = after;
          room = omega (arith, a.room);
          small = small_right (j ∷ []) (flat_map leaves ts) a.small;
        },
      )

  ahead_group : (k : Kind) (t : Tree) (f : Forest) (ts : List Tree) → Ahead list i (node k t f ∷ ts)
      → (get_or list i 0 ≡ group_token k (more_children f)) × (more_children f < 128) × Ahead list (i + 1) (t ∷ Tree.trees f ++ ts)
  unfolding leaves flat_map
  ahead_group k t f ts a =
      let (here, after) = next a.these in
      let nodes = children_row tokens t f ts (trees_tokens f) in (
        here,
        children_few t f (small_left (leaves t ++ forest_leaves f) (flat_map leaves ts) a.small),
        record {
          after = a.after;
          these = after ∙ ap (λ (l : List ℕ). l ++ a.after) nodes;
          room = omega (arith, a.room, ap length nodes);
          small = subst Small (children_row leaves t f ts (trees_leaves f)) a.small;
        },
      )

  pub ahead_room : (t : Tree) (ts : List Tree) → Ahead list i (t ∷ ts) → i < length list
  unfolding flat_map
  ahead_room t ts a =
      omega (
        arith,
        ap length a.these,
        length-drop i list,
        length-append (flat_map tokens (t ∷ ts)) a.after,
        length-append (tokens t) (flat_map tokens ts),
        tokens_length t,
        groups_lt t,
      )

  -- in the part from there on
  pub ahead_part : (ts : List Tree) → Ahead list i ts → Ahead (drop i list) 0 ts
  ahead_part ts a = record { after = a.after; these = a.these; room = omega (arith, a.room); small = a.small }

module _ (list : List ℕ) (s : Tree) where
  -- so many trees to come from node i on, and the jobs counted so far
  pub record Counted (i trees jobs : ℕ) : Type 0 where
    pub coming : List Tree
    pub number : length coming ≡ trees
    pub ahead : Ahead list i coming
    pub all : jobs + length (flat_map leaves coming) ≡ length (leaves s)

  pub counted_none : (at : ℕ) → Ahead list at (s ∷ []) → Counted at 1 0
  unfolding flat_map
  counted_none at a = record { coming = s ∷ []; number = refl; ahead = a; all = omega (arith, length-append (leaves s) []) }

  pub jobs_few : (at : ℕ) → Ahead list at (s ∷ []) → length (leaves s) ≤ 128
  unfolding flat_map
  jobs_few at a = omega (arith, a.small.1, length-append (leaves s) [])

  -- by the first of the trees to come

  module _ (i trees jobs : ℕ) where
    abbrev Coming : List Tree → Type 0
    Coming ts = (length ts ≡ trees) × Ahead list i ts × (jobs + length (flat_map leaves ts) ≡ length (leaves s))

    none_coming : (ts : List Tree) → Coming ts → trees ≤ 0 → jobs ≡ length (leaves s)
    unfolding flat_map
    none_coming [] (number, a, all) none = omega (arith, all)
    none_coming (t ∷ ts) (number, a, all) none = absurd (omega (arith, number))

    room_coming : (ts : List Tree) → Coming ts → 0 < trees → i < length list
    unfolding flat_map
    room_coming [] (number, a, all) some = absurd (omega (arith, number))
    room_coming (t ∷ ts) (number, a, all) some = ahead_room list i t ts a

    leaf_coming : (ts : List Tree) → Coming ts → 0 < trees → get_or list i 0 < 256 → Counted (i + 1) (trees - 1) (jobs + 1)
    unfolding leaves flat_map
    leaf_coming [] (number, a, all) some low = absurd (omega (arith, number))
    leaf_coming (leaf j ∷ ts) (number, a, all) some low =
        record { coming = ts; number = omega (arith, number); ahead = (ahead_leaf list i j ts a).2; all = omega (arith, all) }
    leaf_coming (node k t f ∷ ts) (number, a, all) some low = absurd (omega (arith, (ahead_group list i k t f ts a).0))

    group_coming : (ts : List Tree) → Coming ts → 0 < trees → 256 ≤ get_or list i 0 → Counted (i + 1) (trees + get_or list i 0 % 128) jobs
    unfolding leaves flat_map
    group_coming [] (number, a, all) some high = absurd (omega (arith, number))
    group_coming (leaf j ∷ ts) (number, a, all) some high =
        let (here, low, _) = ahead_leaf list i j ts a in
        absurd (omega (arith, here, low))
    group_coming (node k t f ∷ ts) (number, a, all) some high =
        let (here, few, after) = ahead_group list i k t f ts a in
        record {
          coming = t ∷ Tree.trees f ++ ts;
          number = omega (arith, number, here, few, kind_below k, length-append (Tree.trees f) ts, trees_length f);
          ahead = after;
          all = omega (arith, all, ap length (children_row leaves t f ts (trees_leaves f)));
        }

  module _ (i trees jobs : ℕ) (c : Counted i trees jobs) where
    coming_is : Coming i trees jobs c.coming
    coming_is = (c.number, c.ahead, c.all)

    pub counted_few : length (leaves s) ≤ 128 → (trees ≤ 128) × (jobs ≤ 128)
    counted_few few = (omega (arith, row_length c.coming, c.ahead.small.1, c.number), omega (arith, c.all))

    pub counted_all : trees ≤ 0 → jobs ≡ length (leaves s)
    counted_all = none_coming i trees jobs c.coming coming_is

    pub counted_room : 0 < trees → i < length list
    counted_room = room_coming i trees jobs c.coming coming_is

    pub counted_leaf : 0 < trees → get_or list i 0 < 256 → Counted (i + 1) (trees - 1) (jobs + 1)
    counted_leaf = leaf_coming i trees jobs c.coming coming_is

    pub counted_group : 0 < trees → 256 ≤ get_or list i 0 → Counted (i + 1) (trees + get_or list i 0 % 128) jobs
    counted_group = group_coming i trees jobs c.coming coming_is
