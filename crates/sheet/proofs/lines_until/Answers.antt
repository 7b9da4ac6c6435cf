-- `sheet::lines_until` meets its contract. The loop's invariant: the arcs ahead of `at` are read and listed. Assumes nothing.
use Rattle.std.proofs.Common.{◌≡◌, Err, arith, rules}
use Rattle.sheet.proofs.Reading.{arc_within}
use Rattle.sheet.proofs.Lines.{going_start, going_on, going_broken}
use Rattle.sheet.proofs.lines_until.Goals as goal

pub loop-at-init : goal.loop-at-init
loop-at-init c = let a = c.args in going_start a.s.now a.ahead a.list.now

pub returns-in_err-line : goal.returns-in_err-line
returns-in_err-line c =
    let e : c.from_residual.result ≡ Err c.in_err-line.field-0.0 = search rules in
    rw e (going_broken c.loop-at.invariant c.loop-at-test.true c.in_err-line.ensures)

pub overflow_add-at : goal.overflow_add-at
overflow_add-at c = omega (arith, arc_within c.loop-at.invariant.within c.in_ok-line.ensures)

pub loop-at-smaller : goal.loop-at-smaller
loop-at-smaller c = omega (arith, arc_within c.loop-at.invariant.within c.in_ok-line.ensures)

pub loop-at-preserved : goal.loop-at-preserved
loop-at-preserved c = going_on c.loop-at.invariant (search rules) c.in_ok-line.ensures c.put_arc.ensures
