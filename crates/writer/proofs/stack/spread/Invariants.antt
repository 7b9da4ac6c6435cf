-- `stack::spread`: from the last part to the first.
use Prim.Native.Nat.{◌+◌}
use mathlib.Core.Path.{◌≡◌}
use lib.ListN.{length}
use Rattle.writer.specs.Stack.{held}
use Rattle.writer.proofs.Stacking.{Pushing}
use Rattle.writer.proofs.stack.spread.Given as goal

abbrev pub invariant-loop-i : goal.invariant-loop-i
invariant-loop-i l =
    (length l.entries ≡ 128) × (l.top + l.i ≡ l.height + length l.parts)
    × Pushing l.parts l.e (held l.initial.entries l.height) (held l.entries l.top) l.i l.later
