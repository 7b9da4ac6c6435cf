-- `nodes::pair` meets its contract.
use Prim.Native.Nat.{◌+◌}
use native.Mathlib.Omega.{arith}
use Rattle.reader.proofs.Windows.{byte_field, further}
use Rattle.reader.proofs.nodes.pair.Goals as goal

pub returns : goal.returns
returns c =
    let x = c.from in
    let y = c.from-2 in
    let bytes = c.args.bytes.now in
    further c.args.i 1 8 x.result y.result
    (byte_field bytes c.args.i x.result (omega (arith, c.requires.0)) x.ensures (c.type_inv.bytes c.args.i).fits)
    (byte_field bytes (c.args.i + 1) y.result (omega (arith, c.requires.0)) y.ensures (c.type_inv.bytes (c.args.i + 1)).fits)
