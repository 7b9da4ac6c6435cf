-- `relation::turning::across_words` meets its contract.
use Prim.Native.Nat.{◌-◌}
use Rattle.relation.proofs.Exchanging.{Paired}
use Rattle.relation.proofs.turning.across_words.Given as goal

abbrev pub invariant-loop-u : goal.invariant-loop-u
invariant-loop-u l = Paired 6 l.initial.t l.t 64 l.u

abbrev pub decreases-loop-u : goal.decreases-loop-u
decreases-loop-u l = 64 - l.u
