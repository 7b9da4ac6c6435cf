-- `numbering::numbered` meets its contract. The invariant: the nodes from the present one on are to come.
use lib.ListN.{length, drop}
use Rattle.poset.specs.Tree.{Tree}
use Rattle.record.specs.Tokens as Tokens
use Rattle.reader.specs.Nodes.{Listed}
use Rattle.gangs.specs.Places.{taken, Ready}
use Rattle.gangs.proofs.numbering.numbered.Given as goal

abbrev pub invariant-loop-token : goal.invariant-loop-token
invariant-loop-token l =
    (t : Tree) → Listed t l.nodes (length l.nodes) → Ready t l.jobs (taken l.present l.numbering) (drop l.token-index (Tokens.tokens t))
