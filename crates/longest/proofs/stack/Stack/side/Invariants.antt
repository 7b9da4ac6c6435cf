-- `Stack::side` meets its contract. The invariant: the first run with the greatest total from the entry that was taken last on.
use Prim.Native.Nat.{◌-◌}
use mathlib.Core.List.{List}
use lib.ListN.{length}
use Rattle.longest.specs.Longest.{WorkRun}
use Rattle.longest.specs.Stack.{Beside}
use Rattle.longest.proofs.Folding.{Chosen}
use Rattle.longest.proofs.stack.Stack.side.Given as goal

abbrev pub invariant-loop-run : goal.invariant-loop-run
invariant-loop-run l =
    (rs : List WorkRun) (b : Beside rs l.end l.fn.self) → Chosen rs l.end l.fn.self b l.best (l.end - length l.yielded)
