-- `relation_bench::bench_passes` meets its contract.
use Prim.Native.Nat.{◌-◌}
use mathlib.Core.Path.{◌≡◌}
use Rattle.relation.specs.Table.{holds}
use Rattle.closure.specs.Joins.{pass_joins}
use Rattle.relation_bench.proofs.bench_passes.Given as goal

abbrev pub invariant-loop : goal.invariant-loop
invariant-loop l = l.joins ≡ pass_joins l.n (holds l.table)

abbrev pub decreases-loop : goal.decreases-loop
decreases-loop l = l.again - l.counter
