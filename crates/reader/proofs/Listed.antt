-- The nodes of a record, listed from its bits.
use Prim.Native.Nat.{ℕ, suc, ◌+◌, ◌-◌, ◌*◌, ◌/◌, ◌%◌, ◌^◌, ◌≤◌, ◌<◌}
use mathlib.Core.Path.{◌≡◌, refl, sym, ap, subst, ◌∙◌}
use mathlib.Core.List.{List, ◌∷◌, ◌++◌, flat_map}
use mathlib.Core.Logic.{◌⊎◌, inl, inr, ⊎_elim}
use native.Mathlib.Nat.{mod-lt}
use native.Mathlib.Omega.{arith}
use lib.ListN.{length, get_or, set, take, drop, replicate, length-append}
use lib.Seq.{drop-cons, append_snoc}
use Rattle.poset.specs.Tree.{Tree, leaves}
use Rattle.record.specs.Bits.{bits, bits_of}
use Rattle.record.specs.Layout.{hours_bits, leaf_bits, most_record_bytes, hours_of}
use Rattle.record.specs.Tokens.{tokens, field_bits, node_room, listing, Small}
use Rattle.record.proofs.Fields.{length_bits, bits_snoc}
use Rattle.record.proofs.Bytes.{length_bits_of}
use Rattle.record.proofs.Sizes.{spans_small}
use Rattle.record.proofs.Theorems.{layout_length}
use Rattle.record.proofs.Tokens.{leaf_is, group_bits, leaf_length, group_length, token_bits, tokens_few, IsToken, tokens_are}
use Rattle.reader.specs.Fields.{At, FieldAt}
use Rattle.reader.specs.Nodes.{HasNodes}
use Rattle.reader.proofs.Positions.{at_left, at_right, at_same, bits_injective}
use Rattle.reader.proofs.Whole.{record_spelt}
use Rattle.reader.proofs.Written.{written_all, written_more}

-- 9 bits of a leaf are its job and one bit of its hours
leaf_nine
    : (hours : List ℕ) (x : ℕ) → x < 128
    → (b : ℕ) × (b < 2) × (field_bits hours x ≡ bits 9 (x * 2 + b) ++ bits (hours_bits - 1) (hours_of hours x))
unfolding bits
leaf_nine hours x h =
    let y : ℕ = hours_of hours x in
    let b : ℕ = y / 2 ^ (hours_bits - 1) % 2 in
    let rest : List ℕ = bits (hours_bits - 1) y in
    let small : b < 2 = mod-lt (y / 2 ^ (hours_bits - 1)) (omega arith) in
    (b, small, leaf_is hours x h ∙ sym (append_snoc (bits 8 x) b rest) ∙ ap (λ (l : List ℕ). l ++ rest) (sym (bits_snoc 8 x b small)))

module _ {bs : List ℕ} {at : ℕ} (hours : List ℕ) (y : ℕ) (f : FieldAt bs at 9 y) where
  same_nine : (z : ℕ) → z < 512 → At bs at (bits 9 z) → y ≡ z
  same_nine z small s =
      bits_injective 9 y z f.small small (at_same (bits 9 y) (bits 9 z) (length_bits 9 y ∙ sym (length_bits 9 z)) f.stands s)

  -- so they tell the token of the node that begins there
  token_read : (x : ℕ) → IsToken x → At bs at (field_bits hours x) → ((x < 128) × (y / 2 ≡ x)) ⊎ ((256 ≤ x) × (y ≡ x))
  token_read x (inl h) s =
      let (b, small, e) = leaf_nine hours x h in
      let same : y ≡ x * 2 + b = same_nine (x * 2 + b) (omega arith) (at_left (bits 9 (x * 2 + b)) _ (subst (At bs at) e s)) in
      inl (h, omega arith)
  token_read x (inr h) s =
      let same : y ≡ 256 + x % 256 = same_nine (256 + x % 256) (omega arith) (subst (At bs at) (sym (group_bits hours x (omega (arith, h.0)))) s) in
      inr (h.0, omega (arith, h))

-- after i nodes: those written, and those to come in the bits
pub record Listed (bs hours xs : List ℕ) (i at : ℕ) (ys : List ℕ) : Type 0 where
  pub inside : i ≤ length xs
  pub written : ys ≡ take i xs ++ replicate (node_room - i) 0
  pub come : At bs at (flat_map (field_bits hours) (drop i xs))

module _ (bytes : List ℕ) (count : ℕ) (t : Tree) (h : HasNodes bytes count t) where
  small : Small (leaves t)
  small = spans_small h.jobs t h.spelt.most h.spelt.spans

  nodes_few : count ≤ node_room
  nodes_few = omega (arith, h.number, tokens_few t (spans_small h.jobs t h.spelt.most h.spelt.spans))

  pub listed_none : Listed (bits_of bytes) h.hours (tokens t) 0 7 (replicate node_room 0)
  listed_none = record {
    inside = omega arith;
    written = refl;
    come = subst (At (bits_of bytes) 7) (sym (token_bits h.hours t small)) (record_spelt bytes h.jobs t h.hours h.spelt).tree_at;
  }

  module _ (i at : ℕ) (ys : List ℕ) (l : Listed (bits_of bytes) h.hours (tokens t) i at ys) where
    pub listed_all : count ≤ i → ys ≡ listing (tokens t)
    listed_all done = written_all node_room (tokens t) i ys l.written (omega (arith, h.number, l.inside))

    module _ (more : i < count) where
      abbrev x : ℕ
      x = get_or (tokens t) i 0

      abbrev field : List ℕ
      field = field_bits h.hours x

      abbrev rest : List ℕ
      rest = flat_map (field_bits h.hours) (drop (i + 1) (tokens t))

      here : At (bits_of bytes) at (field ++ rest)
      unfolding flat_map
      here =
          let one : suc i ≡ i + 1 = omega arith in
          subst (λ (r : List ℕ). At (bits_of bytes) at (flat_map (field_bits h.hours) r))
          (drop-cons (tokens t) i 0 (omega (arith, h.number)) ∙ ap (λ (k : ℕ). x ∷ drop k (tokens t)) one) l.come

      -- there is room for its token, and there are 9 bits
      pub room_left : (i < node_room) × (at + 9 ≤ 8 * length bytes) × (length bytes ≤ most_record_bytes)
      room_left =
          let long : 9 ≤ length field = ⊎_elim
          (λ (p : x < 128). omega (arith, leaf_length h.hours x p))
          (λ (p : (256 ≤ x) × (x < 512)). omega (arith, p.0, group_length h.hours x (omega (arith, p.0))))
          (tokens_are t small i) in (
            omega (arith, nodes_few),
            omega (arith, here.within, length-append field rest, length_bits_of bytes),
            omega (arith, ap length h.spelt.spelt, (layout_length h.jobs h.hours t h.spelt.most h.spelt.spans).2),
          )

      -- one node more
      listed_next : (y k : ℕ) → x ≡ y → length field ≡ k → Listed (bits_of bytes) h.hours (tokens t) (i + 1) (at + k) (set ys i y)
      listed_next y k same size = record {
        inside = omega (arith, h.number);
        written = written_more node_room (tokens t) i ys l.written (omega (arith, h.number)) (omega (arith, nodes_few)) y same;
        come = subst (λ (p : ℕ). At (bits_of bytes) (at + p) rest) size (at_right field rest here);
      }

      module _ (y : ℕ) (f : FieldAt (bits_of bytes) at 9 y) where
        told : ((x < 128) × (y / 2 ≡ x)) ⊎ ((256 ≤ x) × (y ≡ x))
        told = token_read h.hours y f x (tokens_are t small i) (at_left field rest here)

        pub listed_leaf : y < 256 → Listed (bits_of bytes) h.hours (tokens t) (i + 1) (at + leaf_bits) (set ys i (y / 2))
        listed_leaf low =
            ⊎_elim
            (λ (p : (x < 128) × (y / 2 ≡ x)). listed_next (y / 2) leaf_bits (sym p.1) (leaf_length h.hours x p.0))
            (λ (p : (256 ≤ x) × (y ≡ x)). absurd (omega (arith, p.0, p.1)))
            told

        pub listed_group : 256 ≤ y → Listed (bits_of bytes) h.hours (tokens t) (i + 1) (at + 9) (set ys i y)
        listed_group high =
            ⊎_elim
            (λ (p : (x < 128) × (y / 2 ≡ x)). absurd (omega (arith, p.0, p.1)))
            (λ (p : (256 ≤ x) × (y ≡ x)). listed_next y 9 (sym p.1) (group_length h.hours x (omega (arith, p.0))))
            told
