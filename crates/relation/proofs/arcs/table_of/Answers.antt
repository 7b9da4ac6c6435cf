-- `relation::arcs::table_of` meets its contract.
use Prim.Native.Nat.{◌+◌, ◌-◌, ◌*◌, ◌/◌}
use mathlib.Core.Path.{◌≡◌, subst}
use native.Mathlib.Omega.{arith}
use lib.ListN.{length}
use Rattle.relation.proofs.Flat.{Built, built_none, built_next, built_last, built_end}
use Rattle.relation.proofs.arcs.table_of.Goals as goal

pub loop-i-init : goal.loop-i-init
loop-i-init c = built_none c.args.arcs.now _ (omega arith)

pub put-requires : goal.put-requires
put-requires c = record {
  within = c.requires;
  k_in_bounds = omega arith;
}

pub put-requires-in-loop-i : goal.put-requires-in-loop-i
put-requires-in-loop-i c = record {
  within = c.requires;
  k_in_bounds = omega arith;
}

pub put-requires-in-loop-i-2 : goal.put-requires-in-loop-i-2
put-requires-in-loop-i-2 c = record {
  within = c.requires;
  k_in_bounds = omega arith;
}

pub put-requires-in-loop-i-3 : goal.put-requires-in-loop-i-3
put-requires-in-loop-i-3 c = record {
  within = c.requires;
  k_in_bounds = omega arith;
}

pub loop-i-preserved : goal.loop-i-preserved
loop-i-preserved c =
    built_next c.args.arcs.now _ c.loop-i.t c.loop-i.i c.loop-i.invariant (omega arith) _ _ _
    c.put.ensures c.put-in-loop-i.ensures c.put-in-loop-i-2.ensures (omega arith) _
    c.put-in-loop-i-3.ensures

pub put-requires-then-last-quarter : goal.put-requires-then-last-quarter
put-requires-then-last-quarter c =
    record {
      within = c.requires;
      k_in_bounds = omega arith;
    }

pub put-requires-then-last-quarter-2 : goal.put-requires-then-last-quarter-2
put-requires-then-last-quarter-2 c = record {
  within = c.requires;
  k_in_bounds = omega arith;
}

pub put-requires-then-last-quarter-3 : goal.put-requires-then-last-quarter-3
put-requires-then-last-quarter-3 c = record {
  within = c.requires;
  k_in_bounds = omega arith;
}

pub returns-then-last-quarter : goal.returns-then-last-quarter
returns-then-last-quarter c =
    let arcs = c.args.arcs.now in
    let quarter = (length arcs / 2 + 1) / 4 in
    let at_last : c.loop-i.i ≡ length arcs / 2 - 3 * quarter = omega (arith, c.loop-i.invariant.within, c.loop-i-test.false) in
    built_last arcs quarter c.loop-i.t _ (subst (Built arcs quarter c.loop-i.t) at_last c.loop-i.invariant) (omega arith) _ _ _
    c.put-then-last-quarter.ensures c.put-then-last-quarter-2.ensures c.put-then-last-quarter-3.ensures (omega arith)
    (omega arith)

pub returns-else-last-quarter : goal.returns-else-last-quarter
returns-else-last-quarter c =
    built_end c.args.arcs.now _ c.loop-i.t c.loop-i.i c.loop-i.invariant (omega arith) (omega arith)
