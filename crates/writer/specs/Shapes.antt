-- What is found of a tree that is to be written: its fields, which are its tokens, its groups and its sequences.
-- An inner contract: who reads the promise of write_record need not believe it, but specs/Written.antt alone.
use Rattle.std.specs.Prelude.{ℕ, ◌+◌, ◌-◌, [], Bool, Option, option_map, length, replicate, set}
use Rattle.poset.specs.Areas.{padded}
use Rattle.poset.specs.Tree.{Tree, leaves, reversed, groups}
use Rattle.record.specs.Tokens.{tokens, listing}
use Rattle.writer.specs.Stack.{group_field_of}
use Rattle.writer.specs.declared.tree.Shape.{Shape}

-- nothing of a tree: all zero
abbrev pub no_shape : Shape
no_shape = record { fields = listing []; count = 0; groups = 0; forward = replicate 128 0; reverse = replicate 128 0 }

-- a job more: its field, and its place in both sequences
abbrev pub with_leaf : ℕ → ℕ → ℕ → Shape → Shape
with_leaf job placed start s =
    record s {
      fields = set s.fields s.count job;
      count = s.count + 1;
      forward = set s.forward placed job;
      reverse = set s.reverse start job;
    }

-- a group of so many children more: its field
abbrev pub with_group : Bool → ℕ → Shape → Shape
with_group series children s =
    record s { fields = set s.fields s.count (group_field_of series (children - 1)); count = s.count + 1; groups = s.groups + 1 }

-- the shape of a tree
abbrev pub shape_of : Tree → Shape
shape_of t =
    record {
      fields = listing (tokens t);
      count = length (tokens t);
      groups = groups t;
      forward = padded (leaves t);
      reverse = padded (reversed t);
    }

-- of a tree or none
abbrev pub shape : Option Tree → Option Shape
shape = option_map shape_of
