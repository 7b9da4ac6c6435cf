-- A record as a whole: the job count, the tree, and the bits left over.
use Prim.Native.Nat.{ℕ, suc, ◌+◌, ◌-◌, ◌*◌, ◌^◌, ◌≤◌, ◌<◌}
use mathlib.Core.Path.{◌≡◌, refl, sym, ap, ap₂, subst, ◌∙◌}
use mathlib.Core.List.{List, ◌++◌, Memᴰ}
use mathlib.Core.Bool.{true, false}
use Rattle.std.specs.Prelude.{None, Some}
use native.Mathlib.Omega.{arith}
use lib.ListN.{length, get_or, take, drop, replicate, length-append, length-replicate, get_or-replicate}
use lib.Seq.{drop_at}
use mir.Syntax.{w8}
use mir.Val.{Fits}
use Rattle.poset.specs.Tree.{Tree, leaves, reversed}
use Rattle.poset.proofs.Laws.{clash}
use Rattle.poset.proofs.Canonical.{canon, canon_canonical}
use Rattle.poset.proofs.Meaning.{spans_holds}
use Rattle.record.specs.Bits.{AllBelow, bits, bits_of}
use Rattle.record.specs.Layout.{hours_bits, most_record_bytes, tree_bits, IsRecord}
use Rattle.record.specs.Decode.{decode, fills}
use Rattle.record.proofs.Fields.{length_bits}
use Rattle.record.proofs.Bytes.{Filled, length_bits_of, filled_unique}
use Rattle.record.proofs.Sizes.{leaves_below, length_leaves, length_spans, length_tree_bits, groups_lt}
use Rattle.record.proofs.Tests.{fills_zeros, zeros_fill}
use Rattle.record.proofs.Records.{layout_filled}
use Rattle.record.proofs.Theorems.{decode_record, decode_none, layout_length}
use Rattle.reader.specs.Fields.{At, FieldAt}
use Rattle.reader.specs.Parts.{Lists, walk, place, Ready, Free, Placed, Found, Plain, of_tree}
use Rattle.reader.specs.Whole.{Blank, Holds, WholeRead}
use Rattle.poset.specs.Areas.{padded}
use Rattle.reader.specs.declared.parts.Part.{Part}
use Rattle.reader.proofs.Positions.{at_of, at_left, at_right, at_join, at_same, bits_injective}
use Rattle.reader.proofs.Marks.{free_small}
use Rattle.reader.proofs.Inversion.{one_tree}
use Rattle.reader.proofs.Sequences.{forward_leaves, walk_reversed, walk_below}
use Rattle.reader.proofs.Hours.{zeros_at, below_take, hours_each, hours_padded, hours_spelt}

-- a list whose elements are small
all_below_lem : (m x : ℕ) (xs : List ℕ) → ((i : ℕ) → get_or xs i 0 < m) → Memᴰ x xs → x < m
all_below_lem m x xs h (Memᴰ.head {x = y} {xs = ys} e) = subst (λ (z : ℕ). z < m) (sym e) (h 0)
all_below_lem m x xs h (Memᴰ.tail {x = y} {xs = ys} i) = all_below_lem m x ys (λ j. h (suc j)) i

-- any slice of bytes
pub slice_below : (bytes : List ℕ) → ((i : ℕ) → Fits w8 (get_or bytes i 0)) → AllBelow 256 bytes
slice_below bytes fit x = all_below_lem 256 x bytes (λ i. (fit i).fits)

-- what the bits of a record are
pub record Spelt (bytes : List ℕ) (n : ℕ) (t : Tree) (hours : List ℕ) : Type 0 where
  pub count_at : At (bits_of bytes) 0 (bits 7 (n - 1))
  pub tree_at : At (bits_of bytes) 7 (tree_bits hours t)
  pub rest : fills (drop (7 + length (tree_bits hours t)) (bits_of bytes)) ≡ true

pub record_spelt : (bytes : List ℕ) (n : ℕ) (t : Tree) (hours : List ℕ) → IsRecord bytes n t hours → Spelt bytes n t hours
record_spelt bytes n t hours r =
    let f = layout_filled n hours t in
    let head : List ℕ = bits 7 (n - 1) in
    let body : List ℕ = tree_bits hours t in
    let zeros : List ℕ = replicate f.fill 0 in
    let same : bits_of bytes ≡ (head ++ body) ++ zeros = sym (ap bits_of r.spelt) ∙ f.same in
    let both : At (bits_of bytes) 0 (head ++ body) = at_of (head ++ body) zeros (omega arith) same in
    let size : 0 + length head ≡ 7 = omega (arith, length_bits 7 (n - 1)) in
    record {
      count_at = at_left head body both;
      tree_at = subst (λ (i : ℕ). At (bits_of bytes) i body) size (at_right head body both);
      rest =
          ap fills
          (ap (drop (7 + length body)) same ∙ drop_at (head ++ body) zeros (7 + length body) (omega (arith, length-append head body)))
          ∙ fills_zeros f.fill f.few;
    }

-- the bytes are no record
abbrev NoRecord : List ℕ → Type 0
NoRecord bytes = (n : ℕ) (t : Tree) (hours : List ℕ) → IsRecord bytes n t hours → ⊥

-- the readers are given lists of zeros
pub ready_first
    : (bytes : List ℕ) (m : ℕ) → length bytes ≤ most_record_bytes → FieldAt (bits_of bytes) 0 7 m → (w : Lists) → Blank w → Ready bytes (m + 1) 0 0 w
ready_first bytes m short count w blank =
    let small : m < 128 = count.small in
    record {
      short = short;
      few = omega arith;
      named = omega arith;
      opened = omega arith;
      marks = ap length blank.seen_is ∙ length-replicate {A = ℕ} 128 0;
      links = ap length blank.next_is ∙ length-replicate {A = ℕ} 128 0;
      entries = ap length blank.hours_is ∙ length-replicate {A = ℕ} 128 0;
      low =
          λ x.
          all_below_lem (2 ^ hours_bits) x w.hours
          (λ i. omega (arith, ap (λ (l : List ℕ). get_or l i 0) blank.hours_is, zeros_at 128 i));
    }

-- no record is empty, or too long

pub none_empty : (bytes : List ℕ) → length bytes ≡ 0 → NoRecord bytes
none_empty bytes e n t hours r = omega (arith, (record_spelt bytes n t hours r).count_at.within, length_bits 7 (n - 1), length_bits_of bytes)

pub none_long : (bytes : List ℕ) → most_record_bytes < length bytes → NoRecord bytes
none_long bytes l n t hours r = omega (arith, ap length r.spelt, (layout_length n hours t r.most r.spans).2)

-- a count, and the tree after it, if one was read, over lists of zeros
module _ (bytes : List ℕ) (m : ℕ) (count : FieldAt (bits_of bytes) 0 7 m) (w : Lists) (blank : Blank w) (v : Lists) where
  few : m + 1 ≤ 128
  few = let small : m < 128 = count.small in omega arith

  module _ (n : ℕ) (t : Tree) (hours : List ℕ) (q : IsRecord bytes n t hours) where
    spelt : Spelt bytes n t hours
    spelt = record_spelt bytes n t hours q

    same_count : n ≡ m + 1
    same_count =
        let same : bits 7 (n - 1) ≡ bits 7 m =
        at_same (bits 7 (n - 1)) (bits 7 m) (length_bits 7 (n - 1) ∙ sym (length_bits 7 m)) spelt.count_at count.stands in
        omega (arith, bits_injective 7 (n - 1) m (omega (arith, q.most)) count.small same, q.least)

    free : Free (m + 1) 0 0 w.seen (of_tree t)
    free = record {
      inside = λ u i. omega (arith, same_count, leaves_below n t q.spans u i);
      unseen = λ u i.
          ap (λ (l : List ℕ). get_or l u 0) blank.seen_is
          ∙ get_or-replicate 128 u 0 0 (omega (arith, q.most, leaves_below n t q.spans u i));
      room = omega (arith, same_count, length_leaves n t q.spans);
      fewer = omega (arith, same_count, length_leaves n t q.spans, groups_lt t);
    }

  pub none_tree : Found of_tree Plain (bits_of bytes) (m + 1) 0 0 w v None → NoRecord bytes
  none_tree r n t hours q =
      r.none refl t (canon t q.plain, (spans_holds n t q.spans).0) (free n t hours q) hours q.small (spelt n t hours q).tree_at

  module _ (p : Part) (r : Found of_tree Plain (bits_of bytes) (m + 1) 0 0 w v (Some p)) where
    -- the tree that was read
    found : (t : Tree) × Plain t × Free (m + 1) 0 0 w.seen (of_tree t) × Placed (bits_of bytes) 0 0 w v p (of_tree t)
    found = r.some p refl

    -- is the record's, if there is one
    read_same : (n : ℕ) (t : Tree) (hours : List ℕ) → IsRecord bytes n t hours → found.0 ≡ t
    read_same n t hours q =
        let (s, _, free_s, placed) = found in
        one_tree v.hours hours placed.low q.small s t (free_small few free_s) (free_small few (free n t hours q)) placed.stands
        (spelt n t hours q).tree_at

    pub none_count : (p.done ≡ m + 1 → ⊥) → NoRecord bytes
    none_count fewer n t hours q =
        let same : length (leaves found.0) ≡ length (leaves t) = ap (λ (s : Tree). length (leaves s)) (read_same n t hours q) in
        fewer (omega (arith, found.3.number, length_leaves n t q.spans, same_count n t hours q))

    pub none_filled : fills (drop (place p.done p.groups) (bits_of bytes)) ≡ false → NoRecord bytes
    none_filled bad n t hours q =
        let same : length (tree_bits v.hours found.0) ≡ length (tree_bits v.hours t) =
        ap (λ (s : Tree). length (tree_bits v.hours s)) (read_same n t hours q) in
        let end : place p.done p.groups ≡ 7 + length (tree_bits hours t) =
        omega (arith, found.3.end, length_tree_bits v.hours t, length_tree_bits hours t) in
        clash (ap (λ (i : ℕ). fills (drop i (bits_of bytes))) end ∙ (spelt n t hours q).rest) bad

    read_whole : AllBelow 256 bytes → p.done ≡ m + 1 → fills (drop (place p.done p.groups) (bits_of bytes)) ≡ true
        → IsRecord bytes (m + 1) found.0 (take (m + 1) v.hours)
    read_whole small all filled =
        let (t, plain, free_t, placed) = found in
        let rest : List ℕ = drop (place p.done p.groups) (bits_of bytes) in
        let (spare, zeros) = zeros_fill rest filled in
        let head : List ℕ = bits 7 m in
        let size : 7 ≡ 0 + length head = omega (arith, length_bits 7 m) in
        let hours : List ℕ = take (m + 1) v.hours in
        let body : List ℕ = tree_bits hours t in
        let spelt : tree_bits v.hours t ≡ body = hours_spelt t few blank.hours_is free_t placed in
        let both : At (bits_of bytes) 0 (head ++ body) =
        at_join head body count.stands
        (subst (λ (i : ℕ). At (bits_of bytes) i body) size (subst (At (bits_of bytes) 7) spelt placed.stands)) in
        let end : 0 + length (head ++ body) ≡ place p.done p.groups =
        omega (arith, length-append head body, placed.end, ap length spelt) in
        let less : m ≡ m + 1 - 1 = omega arith in
        let as_filled : Filled (bits 7 (m + 1 - 1) ++ body) bytes = record {
          fill = length rest;
          few = spare;
          same =
              both.these
              ∙ ap₂ (λ (a b : List ℕ). (a ++ body) ++ b) (ap (bits 7) less) (ap (λ (i : ℕ). drop i (bits_of bytes)) end ∙ zeros);
          small = small;
        } in
        record {
          least = omega arith;
          most = few;
          spans = length_spans (m + 1) t plain.1 free_t.inside (omega (arith, placed.number));
          plain = canon_canonical t plain.0;
          each = hours_each t few blank.hours_is free_t placed;
          small = below_take (m + 1) v.hours placed.low;
          spelt = filled_unique (layout_filled (m + 1) hours t) as_filled;
        }

    pub tree_within : place p.done p.groups ≤ 8 * length bytes
    tree_within = omega (arith, found.3.end, found.3.stands.within, length_bits_of bytes)

    -- what was read is the record
    pub whole_some : AllBelow 256 bytes → p.done ≡ m + 1 → fills (drop (place p.done p.groups) (bits_of bytes)) ≡ true
        → WholeRead bytes v (Some p)
    whole_some small all filled =
        let (t, _, free_t, placed) = found in
        let Told : ℕ → Type 0 = λ n.
        (decode bytes ≡ Some (n, t, take n v.hours)) × (n ≤ 128) × (walk v.next n p.first ≡ reversed t)
        × AllBelow 128 (walk v.next n p.first) × (v.hours ≡ padded (take n v.hours)) in
        let told : Told (m + 1) = (
          (decode_record bytes (m + 1) t (take (m + 1) v.hours) small).1 (read_whole small all filled),
          few,
          walk_reversed t few all free_t placed,
          walk_below t few all free_t placed,
          hours_padded t few blank.hours_is free_t placed,
        ) in
        let (decoded, most, back, inside, times) = subst Told (sym all) told in
        let holds : Holds bytes v p t = record {
          decoded = decoded;
          few = most;
          inner = omega (arith, placed.groups);
          forth = forward_leaves t few all free_t placed blank.forward_is;
          back = back;
          inside = inside;
          times = times;
        } in
        record {
          some = λ p' e.
              let one : p ≡ p' = cc in
              (t, subst (λ (u : Part). Holds bytes v u t) one holds);
          none = λ e. absurd (cc);
        }

pub whole_none : (bytes : List ℕ) (v : Lists) → AllBelow 256 bytes → NoRecord bytes → WholeRead bytes v None
whole_none bytes v small other = record { some = λ p e. absurd (cc); none = λ _. (decode_none bytes small).1 other }
