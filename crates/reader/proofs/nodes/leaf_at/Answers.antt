-- `nodes::leaf_at` meets its contract: four bytes hold the bits, or the last three do, or they end.
use Prim.Native.Nat.{◌+◌, ◌/◌}
use native.Mathlib.Omega.{arith}
use Rattle.record.specs.Layout.{leaf_bits}
use Rattle.record.proofs.Bytes.{length_bits_of}
use Rattle.reader.proofs.Windows.{byte_field, further, window}
use Rattle.reader.proofs.nodes.leaf_at.Goals as goal

pub returns-then-i-bytes : goal.returns-then-i-bytes
returns-then-i-bytes c =
    let at = c.args.at in
    let x = c.pair in
    let y = c.pair-low in
    window at leaf_bits 32 _ (further (at / 8) 2 16 x.result y.result x.ensures y.ensures) (omega arith)

pub returns-then-bytes-at : goal.returns-then-bytes-at
returns-then-bytes-at c = omega (arith, length_bits_of c.args.bytes.now, c.if-bytes-at.true)

pub returns : goal.returns
returns c =
    let at = c.args.at in
    let x = c.pair-2 in
    let y = c.from in
    let inside = c.if-bytes-at.false in
    let z = byte_field c.args.bytes.now (at / 8 + 2) y.result (omega (arith, inside)) y.ensures (c.type_inv.bytes (at / 8 + 2)).fits in
    window at leaf_bits 24 _ (further (at / 8) 2 8 x.result y.result x.ensures z) (omega (arith, inside, c.if-i-bytes.false))
