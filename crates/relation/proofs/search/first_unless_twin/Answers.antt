-- `relation::search::first_unless_twin` meets its contract.
use Prim.Native.Nat.{◌-◌}
use native.Mathlib.Omega.{arith}
use Rattle.relation.specs.Table.{holds}
use Rattle.relation.proofs.Twins.{twin_none}
use Rattle.relation.proofs.search.first_unless_twin.Goals as goal

pub returns-then-twin : goal.returns-then-twin
returns-then-twin c =
    let a = c.args.a in
    let t = c.twin.ensures c.if-twin.true in
    twin_none c.args.n (holds c.args.after.now) (a - 1) a c.requires.n_bound.0 t.1 (c.requires.by_index_3 (a - 1) (omega (arith, t.0)))
