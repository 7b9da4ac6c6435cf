-- What reading a record gives, where the bytes decode to one.
use Rattle.std.specs.Prelude.{ℕ, List, length}
use Rattle.poset.specs.Areas.{padded}
use Rattle.poset.specs.Tree.{Tree, leaves, reversed, groups}
use Rattle.record.specs.Tokens.{tokens, listing}
use Rattle.reader.specs.declared.NodeList.{NodeList}
use Rattle.reader.specs.declared.Reading.{Reading}

-- the job count, the groups, and the forward and the reverse sequence of the tree that the bytes decode to, and the hours of each job
abbrev pub reading : ℕ × Tree × List ℕ → Reading
reading (n, t, hours) =
    record { count = n; groups = groups t; forward = padded (leaves t); reverse = padded (reversed t); hours = padded hours }

-- the job count, the nodes of that tree in their order, and the hours of each job
abbrev pub nodes : ℕ × Tree × List ℕ → NodeList
nodes (n, t, hours) = record { jobs = n; count = length (tokens t); tokens = listing (tokens t); hours = padded hours }
