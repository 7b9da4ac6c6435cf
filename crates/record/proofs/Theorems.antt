-- All that this crate promises. Each theorem is stated in full and cited.
use Prim.Native.Nat.{ℕ, ◌+◌, ◌*◌, ◌/◌, ◌^◌, ◌≤◌, ◌<◌}
use mathlib.Core.Path.{◌≡◌}
use mathlib.Core.List.{List, [], ◌∷◌, map}
use mathlib.Core.Bool.{true, false}
use Rattle.std.specs.Prelude.{None, Some}
use mathlib.Core.Logic.{◌↔◌}
use lib.ListN.{length}
use Rattle.poset.specs.Lists.{only_if}
use Rattle.poset.specs.Tree.{Tree, groups, Spans, canonical}
use Rattle.record.specs.Bits.{AllBelow}
use Rattle.record.specs.Layout.{hours_bits, leaf_bits, most_record_bytes, layout, IsRecord}
use Rattle.record.specs.Decode.{decode}
use Rattle.record.proofs.Records
use Rattle.record.proofs.Former
use Rattle.record.proofs.Former.{formerly_canonical, WasRecord}
use Rattle.record.proofs.Older
use Rattle.record.proofs.Older.{older_layout, WasOlder}
use Rattle.record.proofs.Examples
use Rattle.record.proofs.Examples.{Example, examples, sample, largest_first, smallest_first, older}

-- the decoder gives a canonical tree on 1 to 128 jobs and their hours back from the layout
pub decode_layout
    : (n : ℕ) (hours : List ℕ) (t : Tree) → 0 < n → n ≤ 128 → Spans n t → canonical t ≡ true → length hours ≡ n → AllBelow (2 ^ hours_bits) hours
    → decode (layout n hours t) ≡ Some (n, t, hours)
decode_layout = Records.decode_layout

-- bytes that decode are the record of the tree and the hours that they decode to
pub layout_decode
    : (bytes : List ℕ) (n : ℕ) (t : Tree) (hours : List ℕ) → AllBelow 256 bytes → decode bytes ≡ Some (n, t, hours) → IsRecord bytes n t hours
layout_decode = Records.layout_decode

-- so the decoder finds a tree and hours exactly where the bytes are their record, and none exactly where they are no tree's
pub decode_record
    : (bytes : List ℕ) (n : ℕ) (t : Tree) (hours : List ℕ) → AllBelow 256 bytes → (decode bytes ≡ Some (n, t, hours)) ↔ IsRecord bytes n t hours
decode_record = Records.decode_record

pub decode_none
    : (bytes : List ℕ) → AllBelow 256 bytes → (decode bytes ≡ None) ↔ ((n : ℕ) (t : Tree) (hours : List ℕ) → IsRecord bytes n t hours → ⊥)
decode_none = Records.decode_none

-- the layout of any tree decodes exactly where the tree is canonical; so a record of the former plain form is a record exactly where its tree is in this one,
-- and then of the same tree, jobs and hours

pub decode_any
    : (n : ℕ) (hours : List ℕ) (t : Tree) → 0 < n → n ≤ 128 → Spans n t → length hours ≡ n → AllBelow (2 ^ hours_bits) hours
    → decode (layout n hours t) ≡ only_if (canonical t) (n, t, hours)
decode_any = Records.decode_any

pub former_decode : (bytes : List ℕ) (n : ℕ) (t : Tree) (hours : List ℕ) → WasRecord bytes n t hours → decode bytes ≡ only_if (canonical t) (n, t, hours)
former_decode = Former.former_decode

-- no layout without hours is a record, of whatever tree
pub older_none : (bytes : List ℕ) (n : ℕ) (t : Tree) → WasOlder bytes n t → (m : ℕ) (s : Tree) (hours : List ℕ) → IsRecord bytes m s hours → ⊥
older_none = Older.older_none

-- no bytes are the record of two trees, at two job counts, or with two lists of hours
pub layout_injective
    : (bytes : List ℕ) (n m : ℕ) (t s : Tree) (hours others : List ℕ) → IsRecord bytes n t hours → IsRecord bytes m s others
    → (n ≡ m) × (t ≡ s) × (hours ≡ others)
layout_injective = Records.layout_injective

-- 7 bits for the count, `leaf_bits` for each leaf, 9 for each group, and what fills the last byte
pub layout_length
    : (n : ℕ) (hours : List ℕ) (t : Tree) → n ≤ 128 → Spans n t
    → (length (layout n hours t) ≡ (7 + leaf_bits * n + 9 * groups t + 7) / 8) × (groups t < n) × (length (layout n hours t) ≤ most_record_bytes)
layout_length = Records.layout_length

-- whatever the hours are
pub layout_size : (n : ℕ) (hours others : List ℕ) (t : Tree) → length (layout n hours t) ≡ length (layout n others t)
layout_size = Records.layout_size

-- a layout is bytes
pub layout_below : (n : ℕ) (hours : List ℕ) (t : Tree) → AllBelow 256 (layout n hours t)
layout_below = Records.layout_below

-- records of document 01 with hours of 0 at each leaf, one with other hours, branches of equally many jobs, and bytes that are none
pub decoded : map (λ (e : Example). decode e.0) examples ≡ map (λ (e : Example). e.1) examples
decoded = Examples.decoded

-- the two plain forms told apart, and a record of the former one
pub told_apart
    : (canonical largest_first ≡ true) × (formerly_canonical largest_first ≡ false) × (canonical smallest_first ≡ false)
    × (formerly_canonical smallest_first ≡ true)
told_apart = Examples.told_apart

pub was_record
    : WasRecord (0x05 ∷ 0x81 ∷ 0x00 ∷ 0x00 ∷ 0x08 ∷ 0x08 ∷ 0x08 ∷ 0x00 ∷ 0x01 ∷ 0x00 ∷ 0x00 ∷ []) 3 smallest_first (0 ∷ 0 ∷ 0 ∷ [])
was_record = Examples.was_record

-- the records of document 01 as it prints them, without hours
pub laid_out_before : map (λ (e : ℕ × Tree × List ℕ). older_layout e.0 e.1) older ≡ map (λ (e : ℕ × Tree × List ℕ). e.2) older
laid_out_before = Examples.laid_out_before

pub was_older : WasOlder (0x09 ∷ 0x81 ∷ 0x81 ∷ 0x00 ∷ 0x60 ∷ 0x40 ∷ 0x40 ∷ 0x80 ∷ 0xc1 ∷ 0x00 ∷ []) 5 sample
was_older = Examples.was_older
