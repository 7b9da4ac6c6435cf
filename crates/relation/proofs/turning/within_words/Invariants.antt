-- `relation::turning::within_words` meets its contract.
use Prim.Native.Nat.{◌-◌}
use Rattle.relation.proofs.Exchanging.{Paired}
use Rattle.relation.proofs.turning.within_words.Given as goal

abbrev pub invariant-loop-m : goal.invariant-loop-m
invariant-loop-m l = Paired l.e l.initial.t l.t l.pairs l.m

abbrev pub decreases-loop-m : goal.decreases-loop-m
decreases-loop-m l = l.pairs - l.m
