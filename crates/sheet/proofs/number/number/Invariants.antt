-- `sheet::number::number` meets its contract. The loop's invariant: the digits ahead of place `i` are read. Assumes nothing.
use Rattle.sheet.proofs.Numeral.{Begun}
use Rattle.sheet.proofs.number.number.Given as goal

abbrev pub invariant-loop-i : goal.invariant-loop-i
invariant-loop-i g l = Begun g.row.MOST l.s l.at l.i l.value
