-- The tokens of a tree are its bits.
use Prim.Native.Nat.{ℕ, zero, suc, ◌+◌, ◌*◌, ◌%◌, ◌^◌, ◌≤◌, ◌<◌}
use mathlib.Core.Path.{◌≡◌, refl, sym, ap, ap₂, subst, ◌∙◌}
use mathlib.Core.List.Memᴰ
use mathlib.Core.List.{List, [], ◌∷◌, ◌++◌, flat_map, append-nil}
use mathlib.Core.Logic.{◌⊎◌, inl, inr, ⊎_elim}
use native.Mathlib.Omega.{arith}
use lib.Dec.{ltb}
use lib.ListN.{length, get_or, length-append}
use Rattle.poset.specs.Tree.{Kind, Tree, leaf, node, Forest, last, more, leaves, forest_leaves, groups, forest_groups}
use Rattle.poset.proofs.Laws.{lt_true, ltb-true, false_unless, flat_map_append}
use Rattle.record.specs.declared.Token.{Token}
use Rattle.record.specs.declared.Token.TheVariants.{Chain, Side}
use Rattle.record.specs.Bits.{bits}
use Rattle.record.specs.Layout.{hours_bits, leaf_bits, kind_bit, more_children, hours_of, tree_bits, forest_bits}
use Rattle.record.specs.Tokens.{Tells, group_token, tokens, forest_tokens, field_bits, node_room, Small}
use Rattle.record.proofs.Fields.{length_bits, bits_cons}
use Rattle.record.proofs.Sizes.{groups_lt, forest_groups_lem, kind_below, small_left, small_right}

-- a token is a leaf and its hours, or a 1 and a byte
module _ (hours : List ℕ) (x : ℕ) where
  pub leaf_is : x < 128 → field_bits hours x ≡ bits 8 x ++ bits hours_bits (hours_of hours x)
  unfolding field_bits
  leaf_is h = rw (lt_true x 128 h, field_bits)

  pub group_is : 128 ≤ x → field_bits hours x ≡ 1 ∷ bits 8 (x % 256)
  unfolding field_bits
  group_is h = rw (false_unless (ltb x 128) (λ e. omega (arith, ltb-true x 128 e)), field_bits)

  pub group_bits : 128 ≤ x → bits 9 (256 + x % 256) ≡ field_bits hours x
  group_bits h = bits_cons 8 1 (x % 256) (omega arith) (omega arith) ∙ sym (group_is h)

  pub leaf_length : x < 128 → length (field_bits hours x) ≡ leaf_bits
  leaf_length h =
      omega (
        arith,
        ap length (leaf_is h),
        length-append (bits 8 x) (bits hours_bits (hours_of hours x)),
        length_bits 8 x,
        length_bits hours_bits (hours_of hours x),
      )

  pub group_length : 128 ≤ x → length (field_bits hours x) ≡ 9
  group_length h =
      omega (arith, ap length (group_bits h), length_bits 9 (256 + x % 256))

module _ (hours : List ℕ) where
  leaf_token : (j : ℕ) → j < 128 → field_bits hours j ≡ 0 ∷ bits 7 j ++ bits hours_bits (hours_of hours j)
  leaf_token j l =
      let e : j ≡ 0 * 2 ^ 7 + j = omega arith in
      leaf_is hours j l ∙ ap (λ x. x ++ bits hours_bits (hours_of hours j)) (ap (bits 8) e ∙ bits_cons 7 0 j (omega arith) (omega arith))

  group_token_lem : (k : Kind) (m : ℕ) → m < 128 → field_bits hours (group_token k m) ≡ 1 ∷ kind_bit k ∷ bits 7 m
  group_token_lem k m l =
      let e : group_token k m % 256 ≡ kind_bit k * 2 ^ 7 + m = omega (arith, kind_below k) in
      group_is hours (group_token k m) (omega arith) ∙ ap (λ l. 1 ∷ l) (ap (bits 8) e ∙ bits_cons 7 (kind_bit k) m (kind_below k) (omega arith))

-- a group has at most 128 children
pub children_few : (t : Tree) (f : Forest) → Small (leaves t ++ forest_leaves f) → more_children f < 128
children_few t f h = omega (arith, h.1, length-append (leaves t) (forest_leaves f), groups_lt t, forest_groups_lem f)

module _ (hours : List ℕ) where
  mutual
    unfolding leaves tree_bits flat_map

    pub token_bits : (t : Tree) → Small (leaves t) → flat_map (field_bits hours) (tokens t) ≡ tree_bits hours t
    token_bits (leaf j) h = append-nil (field_bits hours j) ∙ leaf_token hours j (h.0 j (Memᴰ.head refl))
    token_bits (node k t f) h =
        ap₂ ◌++◌ (group_token_lem hours k (more_children f) (children_few t f h))
        (flat_map_append (field_bits hours) (tokens t) (forest_tokens f)
        ∙ ap₂ ◌++◌ (token_bits t (small_left (leaves t) (forest_leaves f) h)) (forest_token_bits f (small_right (leaves t) (forest_leaves f) h)))

    forest_token_bits : (f : Forest) → Small (forest_leaves f) → flat_map (field_bits hours) (forest_tokens f) ≡ forest_bits hours f
    forest_token_bits (last t) h = token_bits t h
    forest_token_bits (more t f) h =
        flat_map_append (field_bits hours) (tokens t) (forest_tokens f)
        ∙ ap₂ ◌++◌ (token_bits t (small_left (leaves t) (forest_leaves f) h)) (forest_token_bits f (small_right (leaves t) (forest_leaves f) h))

-- a token for each leaf and group

both : (xs ys ls ms : List ℕ) (g h : ℕ) → length xs ≡ length ls + g → length ys ≡ length ms + h → length (xs ++ ys) ≡ length (ls ++ ms) + (g + h)
both xs ys ls ms g h p q = omega (arith, p, q, length-append xs ys, length-append ls ms)

mutual
  unfolding leaves groups

  pub tokens_length : (t : Tree) → length (tokens t) ≡ length (leaves t) + groups t
  tokens_length (leaf j) = refl
  tokens_length (node k t f) =
      omega (arith, both (tokens t) (forest_tokens f) (leaves t) (forest_leaves f) (groups t) (forest_groups f) (tokens_length t) (forest_tokens_length f))

  forest_tokens_length : (f : Forest) → length (forest_tokens f) ≡ length (forest_leaves f) + forest_groups f
  forest_tokens_length (last t) = tokens_length t
  forest_tokens_length (more t f) =
      both (tokens t) (forest_tokens f) (leaves t) (forest_leaves f) (groups t) (forest_groups f) (tokens_length t) (forest_tokens_length f)

pub tokens_few : (t : Tree) → Small (leaves t) → length (tokens t) ≤ node_room
tokens_few t small = omega (arith, tokens_length t, groups_lt t, small.1)

-- each is a leaf's, or a group's in 9 bits; so is the 0 after them

abbrev pub IsToken : ℕ → Type 0
IsToken x = (x < 128) ⊎ ((256 ≤ x) × (x < 512))

abbrev pub AllTokens : List ℕ → Type 0
AllTokens xs = (i : ℕ) → IsToken (get_or xs i 0)

first_and : (x : ℕ) (xs : List ℕ) → IsToken x → AllTokens xs → AllTokens (x ∷ xs)
first_and x xs p q zero = p
first_and x xs p q (suc i) = q i

all_both : (xs ys : List ℕ) → AllTokens xs → AllTokens ys → AllTokens (xs ++ ys)
all_both [] ys p q i = q i
all_both (x ∷ xs) ys p q zero = p 0
all_both (x ∷ xs) ys p q (suc i) = all_both xs ys (λ j. p (suc j)) q i

mutual
  unfolding leaves

  pub tokens_are : (t : Tree) → Small (leaves t) → AllTokens (tokens t)
  tokens_are (leaf j) h = first_and j [] (inl (h.0 j (Memᴰ.head refl))) (λ i. inl (omega arith))
  tokens_are (node k t f) h =
      first_and (group_token k (more_children f)) (tokens t ++ forest_tokens f)
      (inr (omega (arith, kind_below k, children_few t f h)))
      (all_both (tokens t) (forest_tokens f)
      (tokens_are t (small_left (leaves t) (forest_leaves f) h)) (forest_tokens_are f (small_right (leaves t) (forest_leaves f) h)))

  forest_tokens_are : (f : Forest) → Small (forest_leaves f) → AllTokens (forest_tokens f)
  forest_tokens_are (last t) h = tokens_are t h
  forest_tokens_are (more t f) h =
      all_both (tokens t) (forest_tokens f)
      (tokens_are t (small_left (leaves t) (forest_leaves f) h)) (forest_tokens_are f (small_right (leaves t) (forest_leaves f) h))

-- what a token says of a group of either kind
pub tells_group : {x c : ℕ} (m : Token) → Tells x m → (m ≡ Chain c) ⊎ (m ≡ Side c) → (256 ≤ x) × (c ≡ x % 128)
tells_group {x} m told kind =
    ⊎_elim
    (λ (e : m ≡ Chain _). let t = subst (Tells x) e told in (t.0, t.2))
    (λ (e : m ≡ Side _). let t = subst (Tells x) e told in (omega (arith, t.0), t.1))
    kind
