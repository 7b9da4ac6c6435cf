-- What is written of an order.
use Rattle.std.specs.Prelude.{ℕ, ◌-◌, List, ◌++◌, Option, option_map, length, replicate}
use Rattle.poset.specs.Areas.{padded}
use Rattle.poset.specs.Tree.{Tree, leaves, reversed, groups}
use Rattle.record.specs.Layout.{layout, most_record_bytes}
use Rattle.writer.specs.declared.writing.Written.{Written}

-- the bytes of a record in the first entries of its room, the others 0
abbrev pub filled : List ℕ → List ℕ
filled xs = xs ++ replicate (most_record_bytes - length xs) 0

-- the record of a tree on n jobs with these hours, its groups and its sequences
abbrev pub record_of : ℕ → List ℕ → Tree → Written
record_of n hours t =
    record {
      bytes = filled (layout n hours t);
      count = length (layout n hours t);
      groups = groups t;
      forward = padded (leaves t);
      reverse = padded (reversed t);
    }

-- and no record, where there is no tree
abbrev pub written : ℕ → List ℕ → Option Tree → Option Written
written n hours = option_map (record_of n hours)
