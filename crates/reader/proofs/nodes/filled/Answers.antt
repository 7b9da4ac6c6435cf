-- `nodes::filled` meets its contract.
use Rattle.reader.proofs.Filling.{fills_none, fills_many, fills_field}
use Rattle.reader.proofs.nodes.filled.Goals as goal

pub returns-then-left-eq0 : goal.returns-then-left-eq0
returns-then-left-eq0 c = let a = c.args in fills_none a.bytes.now a.at c.if-left-eq0.true

pub returns-then-left-ge8 : goal.returns-then-left-ge8
returns-then-left-ge8 c = let a = c.args in fills_many a.bytes.now a.at c.if-left-ge8.true

pub returns : goal.returns
returns c =
    fills_field c.args.bytes.now c.args.at c.field.result c.if-left-ge8.false c.requires.0 c.field.ensures
