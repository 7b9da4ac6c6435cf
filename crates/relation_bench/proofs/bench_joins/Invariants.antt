-- `relation_bench::bench_joins` meets its contract.
use Prim.Native.Nat.{◌-◌}
use mathlib.Core.Path.{◌≡◌}
use Rattle.relation.specs.Table.{holds}
use Rattle.closure.specs.Joins.{join_count}
use Rattle.relation_bench.proofs.bench_joins.Given as goal

abbrev pub invariant-loop : goal.invariant-loop
invariant-loop l = l.joins ≡ join_count l.n (holds l.table)

abbrev pub decreases-loop : goal.decreases-loop
decreases-loop l = l.again - l.counter
