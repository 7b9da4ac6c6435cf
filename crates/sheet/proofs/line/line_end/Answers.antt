-- `sheet::line::line_end` meets its contract. Assumes nothing.
use Rattle.sheet.proofs.Reading.{ends_feed, ends_none, ends_return, ends_stray}
use Rattle.sheet.proofs.line.line_end.Goals as goal

pub returns-then-s-at-eq10 : goal.returns-then-s-at-eq10
returns-then-s-at-eq10 c = let a = c.args in ends_feed a.s.now a.at c.if-s-at-eq10.true

pub returns-then-s-next-eq10 : goal.returns-then-s-next-eq10
returns-then-s-next-eq10 c =
    ends_return c.args.s.now c.args.at c.if-s-at-eq13.true c.if-s-next-eq10.true

pub returns-then-s-at-eq13 : goal.returns-then-s-at-eq13
returns-then-s-at-eq13 c =
    ends_stray c.args.s.now c.args.at c.if-s-at-eq13.true c.if-s-next-eq10.false

pub returns : goal.returns
returns c =
    ends_none c.args.s.now c.args.at c.if-s-at-eq10.false c.if-s-at-eq13.false
