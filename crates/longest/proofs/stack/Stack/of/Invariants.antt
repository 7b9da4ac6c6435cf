-- `Stack::of` meets its contract. The invariant: the stack has the runs of the trees in a row from the node that was taken last on.
use Prim.Native.Nat.{◌-◌}
use lib.ListN.{length}
use Rattle.poset.specs.Tree.{Tree}
use Rattle.record.specs.Layout.{hours_of}
use Rattle.reader.specs.Nodes.{Listed}
use Rattle.reader.proofs.Pending.{spells, pending}
use Rattle.longest.specs.Stack.{Stacked}
use Rattle.longest.proofs.stack.Stack.of.Given as goal

abbrev pub invariant-loop-token : goal.invariant-loop-token
invariant-loop-token l =
    (t : Tree) → Listed t l.nodes (length l.nodes)
    → Stacked (hours_of l.hours) (pending (length l.nodes - length l.yielded) (spells t)) l.stack
