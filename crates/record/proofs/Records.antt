-- The decoder and the layout: each undoes the other.
use Prim.Native.Nat.{ℕ, suc, ◌+◌, ◌-◌, ◌*◌, ◌/◌, ◌^◌, ◌≤◌, ◌<◌}
use mathlib.Core.Path.{◌≡◌, sym, ap, ap₂, subst, ◌∙◌}
use mathlib.Core.List.Memᴰ
use mathlib.Core.List.{List, ◌++◌, map, append_assoc}
use mathlib.Core.Bool.{Bool, true, ◌&&◌, and-true}
use Rattle.std.specs.Prelude.{None, Some}
use Rattle.std.proofs.lemmas.Option.{same_Some}
use mathlib.Core.Logic.{◌↔◌, ⊎_elim}
use native.Mathlib.Decide.{dec_lt}
use native.Mathlib.Omega.{arith}
use lib.ListN.{length, length-append, replicate}
use Rattle.poset.specs.Lists.{occurrences, below, only_if}
use Rattle.poset.specs.Tree.{Tree, leaves, groups, Spans, canonical}
use Rattle.poset.proofs.Laws.{and_left, and_right, only_if_some, found_or_none, found_clash, count_mem, count_zero, mem_below}
use Rattle.record.specs.Bits.{AllBelow, bits, bits_of}
use Rattle.record.specs.Layout.{hours_bits, leaf_bits, most_record_bytes, hours_of, tree_bits, layout, IsRecord}
use Rattle.record.specs.Decode.{read_bits, read_tree, fills, spanning, beside, decode}
use Rattle.record.proofs.Below.{below_append, below_rest}
use Rattle.record.proofs.Fields.{length_bits, bits_below, read_back, after, Read, bits_read}
use Rattle.record.proofs.Bytes.{Filled, bits_of_below, bytes_filled, filled_length, filled_unique}
use Rattle.record.proofs.Sizes.{leaves_below, leaf_once, length_leaves, groups_lt, length_tree_bits, tree_bits_below, spans_small}
use Rattle.record.proofs.Reading.{leaf_hours, TreeRead, read_tree_lem, tree_read}
use Rattle.record.proofs.Entries.{map_agree, entries, made, length_below, beside_map, beside_below, beside_each}
use Rattle.record.proofs.Tests.{fills_zeros, zeros_fill, spanning_spans}

-- the bits of a layout
abbrev fields : ℕ → List ℕ → Tree → List ℕ
fields n hours t = bits 7 (n - 1) ++ tree_bits hours t

pub layout_filled : (n : ℕ) (hours : List ℕ) (t : Tree) → Filled (fields n hours t) (layout n hours t)
unfolding layout
layout_filled n hours t = bytes_filled (fields n hours t) (below_append (bits_below 7 (n - 1)) (tree_bits_below hours t))

pub layout_below : (n : ℕ) (hours : List ℕ) (t : Tree) → AllBelow 256 (layout n hours t)
layout_below n hours t = (layout_filled n hours t).small

-- the count that bytes begin with
pub count_read
    : (n : ℕ) (bs : List ℕ) {bytes : List ℕ} → 0 < n → n ≤ 128 → (f : Filled (bits 7 (n - 1) ++ bs) bytes)
    → read_bits 7 (bits_of bytes) ≡ Some (n - 1, bs ++ replicate f.fill 0)
count_read n bs p l f =
    let rest : List ℕ = bs ++ replicate f.fill 0 in
    ap (read_bits 7) (f.same ∙ append_assoc (bits 7 (n - 1)) bs (replicate f.fill 0)) ∙ read_back 7 (n - 1) rest (omega arith)

-- the bytes of a record

pub layout_length
    : (n : ℕ) (hours : List ℕ) (t : Tree) → n ≤ 128 → Spans n t
    → (length (layout n hours t) ≡ (7 + leaf_bits * n + 9 * groups t + 7) / 8) × (groups t < n) × (length (layout n hours t) ≤ most_record_bytes)
layout_length n hours t l s =
    let f = layout_filled n hours t in
    let whole : 8 * length (layout n hours t) ≡ 7 + (leaf_bits * length (leaves t) + 9 * groups t) + f.fill =
    omega (arith, filled_length f, length-append (bits 7 (n - 1)) (tree_bits hours t), length_bits 7 (n - 1), length_tree_bits hours t) in
    let leaves_n : length (leaves t) ≡ n = length_leaves n t s in
    let few_groups : groups t < length (leaves t) = groups_lt t in
    let few : f.fill < 8 = f.few in
    omega arith

-- which do not depend on the hours
pub layout_size : (n : ℕ) (hours others : List ℕ) (t : Tree) → length (layout n hours t) ≡ length (layout n others t)
layout_size n hours others t =
    let f = layout_filled n hours t in
    let g = layout_filled n others t in
    omega (
      arith,
      filled_length f,
      filled_length g,
      f.few,
      g.few,
      length-append (bits 7 (n - 1)) (tree_bits hours t),
      length-append (bits 7 (n - 1)) (tree_bits others t),
      length_tree_bits hours t,
      length_tree_bits others t,
    )

-- there

-- the decoder's last test
abbrev accepted : ℕ → Tree → List ℕ → Bool
accepted n t rest = fills rest && (canonical t && spanning n t)

-- the hours of the jobs below n by those of the leaves
abbrev by_job : ℕ → Tree → List ℕ → List ℕ
by_job n t hs = map (λ j. beside j (leaves t) hs) (below n)

decode_steps
    : (bytes after_count left : List ℕ) (m : ℕ) (t : Tree) (hs : List ℕ) → read_bits 7 (bits_of bytes) ≡ Some (m, after_count)
    → read_tree (length after_count) after_count ≡ Some ((t, hs), left)
    → decode bytes ≡ only_if (accepted (suc m) t left) (suc m, t, by_job (suc m) t hs)
unfolding decode
decode_steps bytes after_count left m t hs p q = rw (p, q)

module _ (n : ℕ) (t : Tree) (s : Spans n t) where
  by_job_lem : (hours : List ℕ) → length hours ≡ n → by_job n t (leaf_hours hours (leaves t)) ≡ hours
  by_job_lem hours e =
      map_agree (λ j. beside j (leaves t) (leaf_hours hours (leaves t))) (hours_of hours) (below n)
      (λ j m. beside_map (hours_of hours) j (leaves t) (count_mem j (leaves t) (omega (arith, leaf_once n t s j (mem_below n m)))))
      ∙ ap (λ (k : ℕ). map (hours_of hours) (below k)) (sym e)
      ∙ entries hours

  leaf_few : (u : ℕ) → occurrences u (leaves t) ≤ 1
  leaf_few u = elim (dec_lt u n) [
    | yes l ↦ omega (arith, leaf_once n t s u l)
    | no l ↦ omega (arith, count_zero u (leaves t) (λ m. l (leaves_below n t s u m)))
  ]

  by_leaf : (hs : List ℕ) → length hs ≡ length (leaves t) → leaf_hours (by_job n t hs) (leaves t) ≡ hs
  by_leaf hs e =
      map_agree (hours_of (by_job n t hs)) (λ j. beside j (leaves t) hs) (leaves t)
      (λ j m. made (λ i. beside i (leaves t) hs) n j (leaves_below n t s j m))
      ∙ beside_each (leaves t) hs leaf_few e

-- the layout of a tree, canonical or not
pub decode_any
    : (n : ℕ) (hours : List ℕ) (t : Tree) → 0 < n → n ≤ 128 → Spans n t → length hours ≡ n → AllBelow (2 ^ hours_bits) hours
    → decode (layout n hours t) ≡ only_if (canonical t) (n, t, hours)
decode_any n hours t p l s each low =
    let f = layout_filled n hours t in
    let zeros : List ℕ = replicate f.fill 0 in
    let one_less : suc (n - 1) ≡ n = omega arith in
    let enough : groups t < length (tree_bits hours t ++ zeros) =
    omega (arith, length-append (tree_bits hours t) zeros, length_tree_bits hours t, groups_lt t) in
    decode_steps (layout n hours t) (tree_bits hours t ++ zeros) zeros (n - 1) t (leaf_hours hours (leaves t))
    (count_read n (tree_bits hours t) p l f)
    (read_tree_lem hours low t (length (tree_bits hours t ++ zeros)) (spans_small n t l s) enough zeros)
    ∙ ap₂ only_if
    (ap₂ (λ (a b : Bool). a && (canonical t && b)) (fills_zeros f.fill f.few) (rw one_less ((spanning_spans n t).1 s)) ∙ and-true (canonical t))
    (ap (λ (k : ℕ). (k, t, by_job k t (leaf_hours hours (leaves t)))) one_less ∙ ap (λ (x : List ℕ). (n, t, x)) (by_job_lem n t s hours each))

pub decode_layout
    : (n : ℕ) (hours : List ℕ) (t : Tree) → 0 < n → n ≤ 128 → Spans n t → canonical t ≡ true → length hours ≡ n → AllBelow (2 ^ hours_bits) hours
    → decode (layout n hours t) ≡ Some (n, t, hours)
unfolding only_if
decode_layout n hours t p l s c each low = decode_any n hours t p l s each low ∙ ap (λ (b : Bool). only_if b (n, t, hours)) c

-- and back

-- the bytes were read to the end
found
    : (bytes after_count left : List ℕ) (m : ℕ) (t : Tree) (hs : List ℕ) → AllBelow 256 bytes → Read 7 (bits_of bytes) m after_count
    → TreeRead after_count t hs left → accepted (suc m) t left ≡ true → IsRecord bytes (suc m) t (by_job (suc m) t hs)
found bytes after_count left m t hs b count tree a =
    let tests = and_right (fills left) (canonical t && spanning (suc m) t) a in
    let (few, zeros) = zeros_fill left (and_left (fills left) (canonical t && spanning (suc m) t) a) in
    let same_count : m ≡ suc m - 1 = omega arith in
    let count_small : m < 2 ^ 7 = count.small in
    let spans = (spanning_spans (suc m) t).0 (and_right (canonical t) (spanning (suc m) t) tests) in
    let hours : List ℕ = by_job (suc m) t hs in
    let filled : Filled (fields (suc m) hours t) bytes = record {
      fill = length left;
      few = few;
      same =
          count.these
          ∙ ap₂ ◌++◌ (ap (bits 7) same_count)
          (tree.these hours (by_leaf (suc m) t spans hs tree.size) ∙ ap (λ (l : List ℕ). tree_bits hours t ++ l) zeros)
          ∙ sym (append_assoc (bits 7 (suc m - 1)) (tree_bits hours t) (replicate (length left) 0));
      small = b;
    } in
    record {
      least = omega arith;
      most = omega arith;
      spans = spans;
      plain = and_left (canonical t) (spanning (suc m) t) tests;
      each = length_below (λ j. beside j (leaves t) hs) (suc m);
      small = λ x i.
          let (j, _, is) = Memᴰ.of_map (λ j. beside j (leaves t) hs) (below (suc m)) i in
          subst (λ (y : ℕ). y < 2 ^ hours_bits) is (beside_below j (2 ^ hours_bits) (leaves t) hs (omega arith) tree.low);
      spelt = filled_unique (layout_filled (suc m) hours t) filled;
    }

pub layout_decode
    : (bytes : List ℕ) (n : ℕ) (t : Tree) (hours : List ℕ) → AllBelow 256 bytes → decode bytes ≡ Some (n, t, hours) → IsRecord bytes n t hours
unfolding decode
layout_decode bytes n t hours b e =
    after _ _ e λ c got_count then_tree.
    after _ _ then_tree λ r got_tree then_tests.
    let count = bits_read 7 (bits_of bytes) (bits_of_below bytes) got_count in
    let tree = tree_read (length c.1) c.1 r.0.0 r.0.1 r.1 (below_rest (bits 7 c.0) (bits_of_below bytes) count.these) got_tree in
    let (passed, same) = only_if_some (accepted (suc c.0) r.0.0 r.1) then_tests in
    subst (λ (q : ℕ × Tree × List ℕ). IsRecord bytes q.0 q.1 q.2) same (found bytes c.1 r.1 c.0 r.0.0 r.0.1 b count tree passed)

-- both

module _ (bytes : List ℕ) where
  pub record_decodes : (n : ℕ) (t : Tree) (hours : List ℕ) → IsRecord bytes n t hours → decode bytes ≡ Some (n, t, hours)
  record_decodes n t hours r =
      subst (λ (b : List ℕ). decode b ≡ Some (n, t, hours)) r.spelt
      (decode_layout n hours t r.least r.most r.spans r.plain r.each r.small)

  pub decode_record
      : (n : ℕ) (t : Tree) (hours : List ℕ) → AllBelow 256 bytes → (decode bytes ≡ Some (n, t, hours)) ↔ IsRecord bytes n t hours
  decode_record n t hours b = (layout_decode bytes n t hours b, record_decodes n t hours)

  pub decode_none : AllBelow 256 bytes → (decode bytes ≡ None) ↔ ((n : ℕ) (t : Tree) (hours : List ℕ) → IsRecord bytes n t hours → ⊥)
  decode_none b = (
    λ e n t hours r. found_clash (record_decodes n t hours r) e,
    λ h.
        ⊎_elim (λ f. absurd (h f.0.0 f.0.1 f.0.2 (layout_decode bytes f.0.0 f.0.1 f.0.2 b f.1)))
        (λ e. e) (found_or_none (decode bytes)),
  )

  pub layout_injective
      : (n m : ℕ) (t s : Tree) (hours others : List ℕ) → IsRecord bytes n t hours → IsRecord bytes m s others
      → (n ≡ m) × (t ≡ s) × (hours ≡ others)
  layout_injective n m t s hours others p q =
      let e = same_Some _ _ (sym (record_decodes n t hours p) ∙ record_decodes m s others q) in
      (ap (λ (r : ℕ × Tree × List ℕ). r.0) e, ap (λ (r : ℕ × Tree × List ℕ). r.1) e, ap (λ (r : ℕ × Tree × List ℕ). r.2) e)
