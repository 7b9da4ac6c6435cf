-- `seeking::lowest` meets its contract.
use Prim.Native.Nat.{◌-◌}
use mathlib.Core.Logic.{inl, ⊎_elim}
use native.Mathlib.Omega.{arith}
use lib.ListN.{length}
use Rattle.poset.specs.Tree.{Tree}
use Rattle.reader.proofs.Pending.{spells, pending, row_fits}
use Rattle.reason.specs.Rows.{Sought}
use Rattle.reason.proofs.Searching.{Searched, searched_none, not_first, step, searched_more, decided_at}
use Rattle.reason.proofs.seeking.lowest.Goals.{After-take-row}
use Rattle.reason.proofs.seeking.lowest.Goals as goal

pub loop-position-init : goal.loop-position-init
loop-position-init c = (inl (omega arith), λ t x. searched_none _ _ t _ _ x)

pub take-row-requires : goal.take-row-requires
take-row-requires c =
    let (t, x) = c.requires in
    let (on, row) = c.loop-position.invariant in
    let found = row t x in (
      pending c.loop-position.position (spells t),
      pending (c.loop-position.position - 1) (spells t),
      step _ _ t _ _ x _ _ found on,
      row_fits t _ _ x.nodes (c.loop-position.position - 1),
      found.rowed,
    )

-- with the node that is taken
more : (c : goal.After-take-row) (t : Tree) (x : Sought c.args.first c.args.second t c.args.nodes.now (length c.args.nodes.now))
    → Searched c.args.first c.args.second t c.args.nodes.now (length c.args.nodes.now) x (c.loop-position.position - 1) c.take-row.result
more c t x =
    let (on, row) = c.loop-position.invariant in
    let found = row t x in
    searched_more _ _ t _ _ x _ _ found on _
    (c.take-row.ensures _ _ (step _ _ t _ _ x _ _ found on) (row_fits t _ _ x.nodes (c.loop-position.position - 1)) found.rowed)

pub returns-in-Some : goal.returns-in-Some
returns-in-Some c = λ t x.
    let end = c.in-Some.ensures in
    decided_at _ _ t _ _ x _ _ (more (goal.at.returns-in-Some c).After-take-row t x)
    (λ on. ⊎_elim (λ h. omega (arith, end.both, end.stand_is)) (λ h. omega (arith, end.whole)) on) _
    (rw end.stand_is at c.rule_at.ensures)

pub loop-position-preserved : goal.loop-position-preserved
loop-position-preserved c = (c.in_default.ensures, more (goal.at.loop-position-preserved c).After-take-row)

pub unreachable-requires : goal.unreachable-requires
unreachable-requires c =
    let (t, x) = c.requires in
    let (on, row) = c.loop-position.invariant in
    omega (arith, not_first _ _ t _ _ x _ _ (row t x) on)
