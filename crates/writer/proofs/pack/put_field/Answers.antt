-- `pack::put_field`: the bits of a leaf with its hours, or of a group, and the bytes that they complete.
use native.Mathlib.Omega.{arith}
use Prim.Native.Nat.{◌+◌, ◌*◌, ◌^◌, ◌≤◌, ◌<◌}
use mathlib.Core.Path.{ap, sym, subst, ◌∙◌}
use mathlib.Core.List.{◌++◌}
use Rattle.record.specs.Bits.{bits}
use Rattle.record.specs.Layout.{hours_bits, leaf_bits, most_record_bytes}
use Rattle.record.specs.Tokens.{field_bits}
use Rattle.record.proofs.Fields.{length_bits}
use Rattle.record.proofs.Entries.{entry_below}
use Rattle.record.proofs.Tokens.{leaf_is, group_bits, leaf_length, group_length}
use Rattle.writer.specs.Packing.{Takes}
use Rattle.writer.proofs.Packs.{takes_both, takes_room, puts_after, Moves-both}
use Rattle.writer.proofs.pack.put_field.Goals.{After-taken-group, After-taken-leaf}
use Rattle.writer.proofs.pack.put_field.Goals as goal

-- a leaf
module _ (q : goal.After-taken-leaf) where
  leaf-takes : Takes (field_bits q.args.hours.now q.args.field) q.args.p q.taken-leaf.result
  leaf-takes =
      let a = q.args in
      subst (λ l. Takes l a.p q.taken-leaf.result)
      (ap (λ h. bits 8 a.field ++ bits hours_bits h) q.from.ensures ∙ sym (leaf_is a.hours.now a.field q.if-field-lt128.true))
      (takes_both q.taken-job.ensures q.taken-leaf.ensures)

  leaf_room
      : (leaf_bits ≤ q.taken-leaf.result.have) × (q.taken-leaf.result.have < 8 + leaf_bits)
      × (8 * q.taken-leaf.result.at + q.taken-leaf.result.have ≤ 8 * most_record_bytes)
  leaf_room =
      takes_room (leaf_length q.args.hours.now q.args.field q.if-field-lt128.true) q.requires.ready leaf-takes

-- a group
module _ (q : goal.After-taken-group) where
  group-takes : Takes (field_bits q.args.hours.now q.args.field) q.args.p q.taken-group.result
  group-takes =
      let a = q.args in
      subst (λ l. Takes l a.p q.taken-group.result) (group_bits a.hours.now a.field q.if-field-lt128.false) q.taken-group.ensures

  group_room
      : (9 ≤ q.taken-group.result.have) × (q.taken-group.result.have < 8 + 9)
      × (8 * q.taken-group.result.at + q.taken-group.result.have ≤ 8 * most_record_bytes)
  group_room =
      takes_room (group_length q.args.hours.now q.args.field q.if-field-lt128.false) q.requires.ready group-takes

pub taken-job-requires : goal.taken-job-requires
taken-job-requires c = omega (arith, c.requires.ready.few, c.if-field-lt128.true)

pub taken-leaf-requires : goal.taken-leaf-requires
taken-leaf-requires c = (
  omega (arith, c.taken-job.ensures.more, length_bits 8 c.args.field, c.requires.ready.few),
  subst (λ h. h < 2 ^ hours_bits) (sym c.from.ensures)
      (entry_below c.args.hours.now c.args.field (2 ^ hours_bits) (omega arith) c.requires.all_below),
)

pub moved-one-requires : goal.moved-one-requires
moved-one-requires c = omega (arith, leaf_room (goal.at.moved-one-requires c).After-taken-leaf)

pub moved-two-requires : goal.moved-two-requires
moved-two-requires c = let one = c.moved-one.ensures in omega (arith, leaf_room (goal.at.moved-two-requires c).After-taken-leaf, one.place, one.fewer)

pub moved_if_full-requires : goal.moved_if_full-requires
moved_if_full-requires c =
    let room = leaf_room (goal.at.moved_if_full-requires c).After-taken-leaf in
    let one = c.moved-one.ensures in
    let two = c.moved-two.ensures in
    (omega (arith, room, one.fewer, two.fewer), λ many. omega (arith, room, one.fewer, one.place, two.fewer, two.place))

pub taken-group-requires : goal.taken-group-requires
taken-group-requires c = (omega (arith, c.requires.ready.few), omega arith)

pub moved-one-requires-else-field-lt128 : goal.moved-one-requires-else-field-lt128
moved-one-requires-else-field-lt128 c = omega (arith, group_room (goal.at.moved-one-requires-else-field-lt128 c).After-taken-group)

pub moved_if_full-requires-else-field-lt128 : goal.moved_if_full-requires-else-field-lt128
moved_if_full-requires-else-field-lt128 c =
    let room = group_room (goal.at.moved_if_full-requires-else-field-lt128 c).After-taken-group in
    let one = c.moved-one-else-field-lt128.ensures in
    (omega (arith, room, one.fewer), λ many. omega (arith, room, one.fewer, one.place))

pub returns-then-field-lt128 : goal.returns-then-field-lt128
returns-then-field-lt128 c =
    puts_after (leaf-takes (goal.at.returns-then-field-lt128 c).After-taken-leaf) c.moved-one.ensures
    (Moves-both c.moved-two.ensures c.moved_if_full.ensures)

pub returns-else-field-lt128 : goal.returns-else-field-lt128
returns-else-field-lt128 c = puts_after (group-takes (goal.at.returns-else-field-lt128 c).After-taken-group) c.moved-one-else-field-lt128.ensures
    c.moved_if_full-else-field-lt128.ensures
