-- `sheet::number::number` meets its contract. Assumes nothing.
use Rattle.std.proofs.Common.{◌∙◌, arith}
use Rattle.sheet.proofs.Numeral.{no_digit, zero_alone, begun_one, begun_more, begun_last, begun_all}
use Rattle.sheet.proofs.number.number.Goals as goal

pub returns-then-s-at-eq48 : goal.returns-then-s-at-eq48
returns-then-s-at-eq48 g c = let a = c.args in zero_alone g.row.MOST a.s.now a.at c.if-s-at-eq48.true

pub returns-in_err-value : goal.returns-in_err-value
returns-in_err-value g c =
    let a = c.args in c.from_residual.ensures ∙ no_digit g.row.MOST a.s.now a.at c.in_err-value.ensures

pub loop-i-init : goal.loop-i-init
loop-i-init g c =
    let a = c.args in begun_one g.row.MOST a.s.now a.at (omega (arith, c.requires)) c.in_ok-value.ensures c.if-s-at-eq48.false

pub returns-in_default : goal.returns-in_default
returns-in_default g c = let a = c.args in begun_last g.row.MOST a.s.now a.at c.loop-i.invariant c.in_default.ensures

pub loop-i-preserved : goal.loop-i-preserved
loop-i-preserved g c =
    let a = c.args in begun_more g.row.MOST a.s.now a.at c.loop-i.invariant c.loop-i-test.true c.in-Some.ensures

pub returns : goal.returns
returns g c = let a = c.args in begun_all g.row.MOST a.s.now a.at c.loop-i.invariant c.loop-i-test.false
