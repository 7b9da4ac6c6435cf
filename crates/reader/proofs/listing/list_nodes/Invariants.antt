-- The invariant of `list_nodes`: the nodes passed are written, and those to come stand in the bits from the present place on.
use Prim.Native.Nat.{◌-◌}
use Rattle.poset.specs.Tree.{Tree}
use Rattle.record.specs.Bits.{bits_of}
use Rattle.record.specs.Tokens.{tokens}
use Rattle.reader.specs.Nodes.{HasNodes}
use Rattle.reader.proofs.Listed.{Listed}
use Rattle.reader.proofs.listing.list_nodes.Given as goal

abbrev pub invariant-loop-i : goal.invariant-loop-i
invariant-loop-i l = (t : Tree) (h : HasNodes l.bytes l.count t) → Listed (bits_of l.bytes) h.hours (tokens t) l.i l.at l.tokens

abbrev pub decreases-loop-i : goal.decreases-loop-i
decreases-loop-i l = l.count - l.i
