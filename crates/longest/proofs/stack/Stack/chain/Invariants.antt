-- `Stack::chain` meets its contract. The invariant: the runs from k on stand as one, and those ahead of them as they did.
use mathlib.Core.List.{List}
use Rattle.longest.specs.Longest.{WorkRun}
use Rattle.longest.specs.Stack.{Beside}
use Rattle.longest.proofs.Folding.{Chained}
use Rattle.longest.proofs.stack.Stack.chain.Given as goal

abbrev pub invariant-loop-k : goal.invariant-loop-k
invariant-loop-k l =
    (rs : List WorkRun) (b : Beside rs l.end l.initial.self) → Chained rs l.end l.initial.self b l.self l.whole l.k
