-- The fields of a tree are packed to its record.
use Prim.Native.Nat.{ℕ, ◌+◌, ◌*◌, ◌-◌, ◌≤◌}
use mathlib.Core.Path.{◌≡◌, refl, sym, ap, ◌∙◌}
use mathlib.Core.List.{List, ◌++◌, flat_map}
use Rattle.std.specs.Prelude.{Option, None, Some, option_map}
use native.Mathlib.Omega.{arith}
use lib.ListN.{length, take, replicate, length-append, length-replicate}
use lib.Seq.{take_at}
use Rattle.poset.specs.Order.{Rel, Strict}
use Rattle.poset.specs.Tree.{Tree, Spans}
use Rattle.poset.specs.Decompose.{tree_of}
use Rattle.poset.proofs.Theorems.{tree_of_sound}
use Rattle.record.specs.Bits.{bits, bytes_of}
use Rattle.record.specs.Layout.{tree_bits, layout, most_record_bytes}
use Rattle.record.specs.Tokens.{tokens, field_bits, node_room}
use Rattle.record.proofs.Records.{layout_length}
use Rattle.record.proofs.Sizes.{groups_lt, length_tree_bits, length_leaves, spans_small}
use Rattle.record.proofs.Tokens.{token_bits, tokens_few}
use Rattle.writer.specs.Packing.{Ends}
use Rattle.writer.specs.Shapes.{shape_of}
use Rattle.writer.specs.Written.{filled, record_of, written}
use Rattle.writer.specs.declared.tree.Shape.{Shape}
use Rattle.writer.specs.declared.writing.Written.{Written}

-- what packing asks of the fields of an order's tree, and what it gives
pub record Spells (hours : List ℕ) (t : Tree) (fields : List ℕ) : Type 0 where
  pub room : 7 + length (flat_map (field_bits hours) fields) ≤ 8 * most_record_bytes
  pub these : flat_map (field_bits hours) fields ≡ tree_bits hours t

-- what is made of a tree or none is there where the tree is
module _ {A : Type 0} (f : Tree → A) where
  pub mapped_some : (o : Option Tree) (a : A) → Some a ≡ option_map f o → (t : Tree) × (o ≡ Some t) × (a ≡ f t)
  mapped_some None a e = absurd (cc)
  mapped_some (Some t) a e = (t, refl, cc)

  pub mapped_none : (o : Option Tree) → None ≡ option_map f o → o ≡ None
  mapped_none None e = refl
  mapped_none (Some t) e = absurd (cc)

pub written_some : (n : ℕ) (hours : List ℕ) (o : Option Tree) (w : Written) → Some w ≡ written n hours o
    → (t : Tree) × (o ≡ Some t) × (w ≡ record_of n hours t)
written_some n hours = mapped_some (record_of n hours)

pub written_none : (n : ℕ) (hours : List ℕ) (o : Option Tree) → None ≡ written n hours o → o ≡ None
written_none n hours = mapped_none (record_of n hours)

module _ (n : ℕ) (few : n ≤ 128) (r : Rel) (strict : Strict n r) (t : Tree) (e : tree_of n r ≡ Some t) where
  spans : Spans n t
  spans = (tree_of_sound n r t strict e).0.spans

  -- the fields of a shape
  module _ (s : Shape) (is : s ≡ shape_of t) where
    count_is : s.count ≡ length (tokens t)
    count_is = ap (λ (s : Shape). s.count) is

    pub count_fits : s.count ≤ node_room
    count_fits = omega (arith, count_is, tokens_few t (spans_small n t few spans))

    pub fields_size : length s.fields ≡ node_room
    fields_size =
        ap (λ (s : Shape). length s.fields) is
        ∙ length-append (tokens t) (replicate (node_room - length (tokens t)) 0)
        ∙ omega (arith, length-replicate {A = ℕ} (256 - length (tokens t)) 0, count_fits, count_is)

    fields_are : take s.count s.fields ≡ tokens t
    fields_are = ap (λ (s : Shape). take s.count s.fields) is ∙ take_at (tokens t) (replicate (node_room - length (tokens t)) 0) (length (tokens t)) refl

    module _ (hours : List ℕ) where
      pub spells : Spells hours t (take s.count s.fields)
      spells =
          let same = ap (flat_map (field_bits hours)) fields_are ∙ token_bits hours t (spans_small n t few spans) in
          record {
            room = omega (arith, ap length same, length_tree_bits hours t, groups_lt t, length_leaves n t spans);
            these = same;
          }

      -- the packed fields are the record
      pub wrote : (bytes : List ℕ) (count : ℕ) → Ends (bits 7 (n - 1) ++ flat_map (field_bits hours) (take s.count s.fields)) bytes count
          → Some (record { bytes = bytes; count = count; groups = s.groups; forward = s.forward; reverse = s.reverse }) ≡ written n hours (tree_of n r)
      unfolding layout
      wrote bytes count p =
          let same : bytes_of (bits 7 (n - 1) ++ flat_map (field_bits hours) (take s.count s.fields)) ≡ layout n hours t =
          ap (λ l. bytes_of (bits 7 (n - 1) ++ l)) spells.these in
          let eb = p.these ∙ ap filled same in
          let ec = p.number ∙ ap length same in
          (λ i. Some (record { bytes = eb i; count = ec i; groups = (is i).groups; forward = (is i).forward; reverse = (is i).reverse }))
          ∙ ap (written n hours) (sym e)

  -- the bytes that are written
  module _ (hours : List ℕ) (w : Written) (is : w ≡ record_of n hours t) where
    pub bytes_count : w.count ≡ length (layout n hours t)
    bytes_count = ap (λ (w : Written). w.count) is

    pub bytes_few : w.count ≤ most_record_bytes
    bytes_few = omega (arith, bytes_count, (layout_length n hours t few spans).2)

    pub bytes_size : length w.bytes ≡ most_record_bytes
    bytes_size =
        ap (λ (w : Written). length w.bytes) is
        ∙ length-append (layout n hours t) (replicate (most_record_bytes - length (layout n hours t)) 0)
        ∙ omega (arith, length-replicate {A = ℕ} (most_record_bytes - length (layout n hours t)) 0, (layout_length n hours t few spans).2)

    pub bytes_are : take w.count w.bytes ≡ layout n hours t
    bytes_are =
        ap (λ (w : Written). take w.count w.bytes) is
        ∙ take_at (layout n hours t) (replicate (most_record_bytes - length (layout n hours t)) 0) (length (layout n hours t)) refl
