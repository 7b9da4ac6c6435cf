-- What the readers' calls ask: that the lists serve the callee, and that fewer bits are left.
use Prim.Native.Nat.{ℕ, suc, ◌+◌, ◌-◌, ◌*◌, ◌≤◌, ◌<◌}
use mathlib.Core.Path.{◌≡◌}
use mathlib.Core.List.{List}
use native.Mathlib.Omega.{arith}
use lib.ListN.{length}
use Rattle.std.specs.Prelude.{Option}
use Rattle.record.specs.Bits.{bits_of}
use Rattle.record.specs.Layout.{most_record_bytes}
use Rattle.record.proofs.Bytes.{length_bits_of}
use Rattle.record.proofs.Fields.{length_bits}
use Rattle.reader.specs.Fields.{BeginsGroup}
use Rattle.reader.specs.Parts.{Lists, place, Ready}
use Rattle.reader.specs.declared.parts.Part.{Part}
use Rattle.poset.specs.Tree.{Kind}
use Rattle.reader.proofs.Children.{Run}

-- twice the bits left of the bytes, and one more for the children of a group

abbrev pub child_measure : List ℕ → ℕ → ℕ → ℕ
child_measure bytes done gone = 2 * (8 * length bytes - place done gone)

abbrev pub children_measure : List ℕ → ℕ → ℕ → ℕ
children_measure bytes done gone = suc (child_measure bytes done gone)

-- a child of a group: it begins where the children do, or further on
pub call_child : (k : Kind) {bytes : List ℕ} {n c done gone : ℕ} {w : Lists} {i size least : ℕ} {v : Lists} {here there : ℕ} {o : Option Part} (m : ℕ)
    → Run k bytes n c done gone w i size least v here there o → children_measure bytes done gone ≡ m
    → (child_measure bytes here there < m) × Ready bytes n here there v
call_child k m r e = (omega (arith, r.onward), r.ready)

-- the children of a group of kind k: the group's own bits are among those left
pub call_children : (k : Kind) {bytes : List ℕ} {n done gone : ℕ} {w : Lists} (c m : ℕ)
    → BeginsGroup (bits_of bytes) (place done gone) k c → Ready bytes n done gone w → gone + 1 < n → child_measure bytes done gone ≡ m
    → (children_measure bytes done (gone + 1) < m) × ((c < 128) × Ready bytes n done (gone + 1) w)
call_children k {bytes} c m h r less e = (
  omega (arith, h.stands.within, length_bits 7 c, length_bits_of bytes),
  (
    h.small,
    record {
      short = r.short;
      few = r.few;
      named = r.named;
      opened = less;
      marks = r.marks;
      links = r.links;
      entries = r.entries;
      low = r.low;
    },
  ),
)

-- the next node
pub node_place : {bytes : List ℕ} {n done gone : ℕ} {w : Lists} → Ready bytes n done gone w → place done gone ≤ 8 * most_record_bytes
node_place r = omega (arith, r.few, r.named, r.opened)
