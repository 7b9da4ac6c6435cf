-- The invariant of `ahead::order_of`: the jobs of the reverse sequence from the one that was taken last on are passed.
use Prim.Native.Nat.{◌-◌}
use lib.ListN.{length, take}
use Rattle.poset.specs.Lists.{ahead_in}
use Rattle.reader.proofs.Later.{Passed, both_from}
use Rattle.reader.proofs.ahead.order_of.Given as goal

abbrev pub invariant-loop-job : goal.invariant-loop-job
invariant-loop-job l =
    Passed (both_from (λ u v. ahead_in u v (take l.n l.forward)) (take l.n l.reverse)) (take l.n l.reverse) (l.n - length l.yielded) l.rows l.behind
