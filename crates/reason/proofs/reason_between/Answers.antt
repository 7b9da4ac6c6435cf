-- `reason_between` meets its contract: the nodes that were read are those of the tree that the bytes decode to.
use Prim.Native.Nat.{ℕ}
use mathlib.Core.Path.{sym, subst}
use mathlib.Core.List.{List, [], ◌∷◌}
use mathlib.Core.Logic.{inl, inr}
use borrow.Rule.Slice.PartAt.{part_to_end}
use native.Mathlib.Omega.{arith}
use lib.ListN.{length, take}
use Rattle.reader.proofs.Decoded.{Decoded, decoded, undecoded}
use Rattle.reader.proofs.Whole.{slice_below}
use Rattle.reason.specs.Rows.{Sought, Ahead}
use Rattle.reason.proofs.Answering.{shows_11, shows_14, sought, shows_reason}
use Rattle.reason.proofs.Counting.{ahead_room, ahead_part}
use Rattle.reason.proofs.reason_between.Goals.{In-Some, Else-v-read, then-u-read-via-then-u-read, then-u-read-via-else-u-read+then-v-read}
use Rattle.reason.proofs.reason_between.Goals as goal

-- the tree of the bytes, where they are a record
read_tree_lem : (c : goal.In-Some) → Decoded c.args.bytes.now c.in-Some.read
read_tree_lem c =
    decoded _ c.in-Some.ensures (slice_below _ c.type_inv.bytes)

-- both job numbers are below the count
seeks : (c : goal.Else-v-read) (d : Decoded c.args.bytes.now c.in-Some.read)
    → let nodes = take c.in-Some.read.count c.in-Some.read.tokens in Sought c.from-u.result c.from-v.result d.tree nodes (length nodes)
seeks c d = sought d _ _ c.if-u-read.false c.if-v-read.false

pub returns-in_default : goal.returns-in_default
returns-in_default c = shows_11 _ _ _ (undecoded _ c.in_default.ensures)

pub returns-then-u-read : goal.returns-then-u-read
returns-then-u-read c =
    rw (c.from-u.ensures, c.from-v.ensures) at
    (shows_14 (read_tree_lem (goal.at.returns-then-u-read c).In-Some) _ _
    (elim c.then-u-read.branch [
      | then-u-read-via-then-u-read w ↦ inl w.if-u-read.true
      | then-u-read-via-else-u-read+then-v-read w ↦ inr w.if-v-read.true
    ]))

pub lowest-found-requires : goal.lowest-found-requires
lowest-found-requires c =
    let at = goal.at.lowest-found-requires c in
    (_, seeks at.Else-v-read (read_tree_lem at.In-Some))

pub offset_bounds-nodes-found : goal.offset_bounds-nodes-found
offset_bounds-nodes-found c =
    let at = goal.at.offset_bounds-nodes-found c in
    let found = c.lowest-found.ensures _ (seeks at.Else-v-read (read_tree_lem at.In-Some)) in
    omega (arith, found.ahead.room)

pub slice_bounds-jobs_under-count : goal.slice_bounds-jobs_under-count
slice_bounds-jobs_under-count c =
    let at = goal.at.slice_bounds-jobs_under-count c in
    let found = c.lowest-found.ensures _ (seeks at.Else-v-read (read_tree_lem at.In-Some)) in
    omega (arith, ahead_room _ _ _ _ found.ahead)

pub slice_bounds-jobs_under-start : goal.slice_bounds-jobs_under-start
slice_bounds-jobs_under-start c =
    let at = goal.at.slice_bounds-jobs_under-start c in
    let found = c.lowest-found.ensures _ (seeks at.Else-v-read (read_tree_lem at.In-Some)) in
    omega (arith, ahead_room _ _ _ _ found.ahead)

pub jobs_under-requires : goal.jobs_under-requires
jobs_under-requires c =
    let at = goal.at.jobs_under-requires c in
    let found = c.lowest-found.ensures _ (seeks at.Else-v-read (read_tree_lem at.In-Some)) in
    (_, subst (λ (l : List ℕ). Ahead l 0 (found.lowest ∷ [])) (sym (part_to_end _ c.lowest-found.result.position)) (ahead_part _ _ _ found.ahead))

pub returns : goal.returns
returns c =
    let at = goal.at.returns c in
    let d = read_tree_lem at.In-Some in
    let found = c.lowest-found.ensures _ (seeks at.Else-v-read d) in
    rw (c.from-u.ensures, c.from-v.ensures) at
    (shows_reason d _ _ c.if-u-read.false c.if-v-read.false found _
    (c.jobs_under.ensures _
    (subst (λ (l : List ℕ). Ahead l 0 (found.lowest ∷ [])) (sym (part_to_end _ c.lowest-found.result.position)) (ahead_part _ _ _ found.ahead))))
