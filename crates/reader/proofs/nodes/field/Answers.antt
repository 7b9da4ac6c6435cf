-- `nodes::field` meets its contract: one byte holds the bits, or two do.
use Prim.Native.Nat.{◌/◌}
use native.Mathlib.Omega.{arith}
use Rattle.reader.proofs.Windows.{byte_field, divisor, window_shl}
use Rattle.reader.proofs.nodes.field.Goals as goal

pub nonzero_rem-result : goal.nonzero_rem-result
nonzero_rem-result c = divisor c.args.width c.requires.1

pub returns-then-end-le8 : goal.returns-then-end-le8
returns-then-end-le8 c =
    let x = c.from in
    let i = c.args.at / 8 in
    window_shl c.args.at c.args.width 8 x.result c.requires.1
    (byte_field c.args.bytes.now i x.result (omega (arith, c.requires.0, c.requires.2)) x.ensures (c.type_inv.bytes i).fits)
    c.if-end-le8.true

pub nonzero_rem-result-2 : goal.nonzero_rem-result-2
nonzero_rem-result-2 c = divisor c.args.width c.requires.1

pub returns : goal.returns
returns c =
    window_shl c.args.at c.args.width 16 c.pair.result c.requires.1 c.pair.ensures (omega (arith, c.requires.1))
