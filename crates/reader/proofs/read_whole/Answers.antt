-- `read_whole` meets its contract: each refusal is a law that no tree's record is these bytes.
use Prim.Native.Nat.{ℕ, ◌*◌, ◌≤◌}
use mathlib.Core.Path.{sym, ap, subst, ◌∙◌}
use lib.ListN.{length, drop}
use Rattle.record.specs.Bits.{bits_of}
use Rattle.record.specs.Decode.{fills}
use Rattle.reader.proofs.Whole.{
  slice_below,
  ready_first,
  none_empty,
  none_long,
  none_tree,
  none_count,
  none_filled,
  tree_within,
  whole_some,
  whole_none,
}
use Rattle.reader.proofs.read_whole.Goals.{then-bytes-eq0-via-then-bytes-eq0, then-bytes-eq0-via-else-bytes-eq0+then-bytes-gt-RECORD_ROOM}
use Rattle.reader.proofs.read_whole.Goals as goal

pub returns-then-bytes-eq0 : goal.returns-then-bytes-eq0
returns-then-bytes-eq0 c =
    whole_none _ _ (slice_below c.args.bytes.now c.type_inv.bytes)
    (elim c.then-bytes-eq0.branch [
      | then-bytes-eq0-via-then-bytes-eq0 w ↦ none_empty _ w.if-bytes-eq0.true
      | then-bytes-eq0-via-else-bytes-eq0+then-bytes-gt-RECORD_ROOM w ↦ none_long _ w.if-bytes-gt-RECORD_ROOM.true
    ])

pub tree-requires : goal.tree-requires
tree-requires c = ready_first _ _ c.if-bytes-gt-RECORD_ROOM.false c.field-count.ensures _ c.requires

pub returns-in_err-part : goal.returns-in_err-part
returns-in_err-part c =
    rw c.from_residual.ensures
    (whole_none _ _ (slice_below c.args.bytes.now c.type_inv.bytes)
    (none_tree _ _ c.field-count.ensures _ c.requires _ c.in_err-part.ensures))

pub returns-then-from-count : goal.returns-then-from-count
returns-then-from-count c =
    whole_none _ _ (slice_below c.args.bytes.now c.type_inv.bytes)
    (none_count _ _ c.field-count.ensures _ c.requires _ _ c.in_ok-part.ensures
    (λ e. c.if-from-count.true (c.from.ensures ∙ e)))

pub filled-requires : goal.filled-requires
filled-requires c =
    let b = c.args.bytes.now in
    let within = tree_within _ _ c.field-count.ensures _ c.requires _ _ c.in_ok-part.ensures in
    (subst (λ (i : ℕ). i ≤ 8 * length b) (sym c.place.ensures) within, c.if-bytes-gt-RECORD_ROOM.false)

pub returns-then-not-filled : goal.returns-then-not-filled
returns-then-not-filled c =
    let b = c.args.bytes.now in
    whole_none _ _ (slice_below c.args.bytes.now c.type_inv.bytes)
    (none_filled _ _ c.field-count.ensures _ c.requires _ _ c.in_ok-part.ensures
    (ap (λ (i : ℕ). fills (drop i (bits_of b))) (sym c.place.ensures) ∙ sym c.filled.ensures
    ∙ c.if-not-filled.true))

pub returns : goal.returns
returns c =
    let b = c.args.bytes.now in
    whole_some _ _ c.field-count.ensures _ c.requires _ _ c.in_ok-part.ensures (slice_below c.args.bytes.now c.type_inv.bytes)
    (sym c.from.ensures ∙ c.if-from-count.false)
    (ap (λ (i : ℕ). fills (drop i (bits_of b))) (sym c.place.ensures) ∙ sym c.filled.ensures
    ∙ c.if-not-filled.false)
