-- `list_nodes` meets its contract.
use Prim.Native.Nat.{ℕ, ◌+◌, ◌*◌, ◌≤◌, ◌<◌}
use mathlib.Core.Path.{sym, subst₂}
use mathlib.Core.List.{List}
use native.Mathlib.Omega.{arith}
use lib.ListN.{length}
use Rattle.record.specs.Bits.{bits_of}
use Rattle.record.specs.Layout.{most_record_bytes}
use Rattle.record.specs.Tokens.{tokens, node_room}
use Rattle.reader.proofs.Listed.{Listed, listed_none, listed_all, room_left, listed_leaf, listed_group}
use Rattle.reader.proofs.listing.list_nodes.Goals.{In-loop-i, then-x-lt256, else-x-lt256}
use Rattle.reader.proofs.listing.list_nodes.Goals as goal

-- there is room for a node, and there are 9 bits
in-room
    : (c : goal.In-loop-i)
    → (c.loop-i.i < node_room) × (c.loop-i.at + 9 ≤ 8 * length c.args.bytes.now) × (length c.args.bytes.now ≤ most_record_bytes)
in-room c =
    let (t, h) = c.requires in
    room_left c.args.bytes.now c.args.count t h c.loop-i.i c.loop-i.at c.loop-i.tokens (c.loop-i.invariant t h) c.loop-i-test.true

pub loop-i-init : goal.loop-i-init
loop-i-init c t h = listed_none c.args.bytes.now c.args.count t h

pub field-x-requires : goal.field-x-requires
field-x-requires c =
    let r = in-room (goal.at.field-x-requires c).In-loop-i in
    (omega arith, omega arith, r.1, r.2)

pub offset_bounds-tokens-i : goal.offset_bounds-tokens-i
offset_bounds-tokens-i c = omega (arith, in-room (goal.at.offset_bounds-tokens-i c).In-loop-i)

pub bounds-tokens-i : goal.bounds-tokens-i
bounds-tokens-i c = (in-room (goal.at.bounds-tokens-i c).In-loop-i).0

pub overflow_add-at : goal.overflow_add-at
overflow_add-at c = omega (arith, in-room (goal.at.overflow_add-at c).In-loop-i)

pub offset_bounds-tokens-i-else-x-lt256 : goal.offset_bounds-tokens-i-else-x-lt256
offset_bounds-tokens-i-else-x-lt256 c = omega (arith, in-room (goal.at.offset_bounds-tokens-i-else-x-lt256 c).In-loop-i)

pub bounds-tokens-i-else-x-lt256 : goal.bounds-tokens-i-else-x-lt256
bounds-tokens-i-else-x-lt256 c = (in-room (goal.at.bounds-tokens-i-else-x-lt256 c).In-loop-i).0

pub overflow_add-at-else-x-lt256 : goal.overflow_add-at-else-x-lt256
overflow_add-at-else-x-lt256 c = omega (arith, in-room (goal.at.overflow_add-at-else-x-lt256 c).In-loop-i)

pub overflow_step-i : goal.overflow_step-i
overflow_step-i c = omega (arith, in-room (goal.at.overflow_step-i c).In-loop-i)

pub loop-i-preserved : goal.loop-i-preserved
loop-i-preserved c t h =
    let l = c.loop-i in
    let b = c.args.bytes.now in
    let Next : List ℕ → ℕ → Type 0 = λ ys at. Listed (bits_of b) h.hours (tokens t) (l.i + 1) at ys in
    elim c.if-x-lt256.branch [
      | then-x-lt256 w ↦
          subst₂ Next (sym w.tokens-is) (sym w.at-is)
          (listed_leaf b c.args.count t h l.i l.at l.tokens (l.invariant t h) c.loop-i-test.true c.field-x.result c.field-x.ensures w.if-x-lt256.true)
      | else-x-lt256 w ↦
          subst₂ Next (sym w.tokens-is) (sym w.at-is)
          (listed_group b c.args.count t h l.i l.at l.tokens (l.invariant t h) c.loop-i-test.true c.field-x.result c.field-x.ensures w.if-x-lt256.false)
    ]

pub returns : goal.returns
returns c t h = listed_all c.args.bytes.now c.args.count t h c.loop-i.i c.loop-i.at c.loop-i.tokens (c.loop-i.invariant t h) c.loop-i-test.false
