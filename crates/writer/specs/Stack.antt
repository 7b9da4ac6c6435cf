-- The sets still to be taken apart, the next one first.
-- An inner contract: who reads the promise of write_record need not believe it, but specs/Written.antt alone.
use Rattle.std.specs.Prelude.{ℕ, ◌+◌, ◌-◌, List, [], ◌∷◌, Bool, true, false, not, length, reverse, take}
use Rattle.poset.specs.Lists.{sum}
use Rattle.relation.specs.Table.{members}
use Rattle.writer.specs.Parts.{size_of}
use Rattle.writer.specs.declared.stack.Entry.{Entry}

-- the entries of a stack of this height, the top first
abbrev pub held : List Entry → ℕ → List Entry
held es height = reverse (take height es)

-- how many jobs some sets have together
abbrev pub jobs_of : List (List ℕ) → ℕ
jobs_of ps = sum size_of ps

-- where a part begins in the reverse sequence of its group, by the jobs of the parts after it
abbrev pub start_at : Bool → ℕ → ℕ → ℕ → ℕ → ℕ
start_at true start whole later size = start + whole - later - size
start_at false start whole later size = start + later

-- the parts of a group as entries: each is to become a group of the other kind
abbrev pub spread_out : Bool → ℕ → ℕ → List (List ℕ) → List Entry
spread_out series start whole [] = []
spread_out series start whole (p ∷ ps) =
    record { set = p; start = start_at series start whole (jobs_of ps) (length (members p)); series = not series } ∷ spread_out series start whole ps

-- an entry that becomes a group: its parts
abbrev pub opened : Entry → List (List ℕ) → List Entry
opened e ps = spread_out e.series e.start (length (members e.set)) ps

-- the field of a group: a series or a parallel one, by its children minus 1
abbrev pub group_field_of : Bool → ℕ → ℕ
group_field_of true more = 256 + more
group_field_of false more = 384 + more
