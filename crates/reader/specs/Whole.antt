-- What is owed of a record as a whole: its tree's part, and the lists that are filled beside it.
-- For inner contracts alone: who reads the promises of read_record, read_nodes and order_of need not believe it, but specs/Answer.antt.
use Rattle.std.specs.Prelude.{◌≤◌, ◌≡◌, List, ℕ, Option, take, replicate}
use Rattle.std.specs.Prelude.{None, Some}
use Rattle.poset.specs.Areas.{padded}
use Rattle.poset.specs.Tree.{Tree, leaves, reversed, groups}
use Rattle.record.specs.Bits.{AllBelow}
use Rattle.record.specs.Decode.{decode}
use Rattle.reader.specs.Parts.{Lists, walk}
use Rattle.reader.specs.declared.parts.Part.{Part}

-- the lists are zeros
pub record Blank (w : Lists) : Type 0 where
  pub seen_is : w.seen ≡ replicate 128 0
  pub forward_is : w.forward ≡ replicate 128 0
  pub next_is : w.next ≡ replicate 128 0
  pub hours_is : w.hours ≡ replicate 128 0

-- the bytes are the record of this tree, whose part and lists these are; the reverse sequence is the walk from the part's first job
pub record Holds (bytes : List ℕ) (v : Lists) (p : Part) (t : Tree) : Type 0 where
  pub decoded : decode bytes ≡ Some (p.done, t, take p.done v.hours)
  pub few : p.done ≤ 128
  pub inner : p.groups ≡ groups t
  pub forth : v.forward ≡ padded (leaves t)
  pub back : walk v.next p.done p.first ≡ reversed t
  pub inside : AllBelow 128 (walk v.next p.done p.first)
  pub times : v.hours ≡ padded (take p.done v.hours)

-- the part is that of the record's tree, or the bytes are none
pub record WholeRead (bytes : List ℕ) (v : Lists) (o : Option Part) : Type 0 where
  pub some : (p : Part) → o ≡ Some p → (t : Tree) × Holds bytes v p t
  pub none : o ≡ None → decode bytes ≡ None
