-- `longest_run` meets its contract: the nodes that were read are those of the tree that the bytes decode to.
use Rattle.record.specs.Layout.{hours_of}
use Rattle.reader.proofs.Backward.{listed_part}
use Rattle.reader.proofs.Whole.{slice_below}
use Rattle.reader.proofs.Decoded.{Decoded, decoded, undecoded, hours_low, listed}
use Rattle.longest.specs.Stack.{Found}
use Rattle.longest.proofs.Answering.{run, linked, shows_11, shows_run}
use Rattle.longest.proofs.longest_run.Goals.{In-Some, After-run-run}
use Rattle.longest.proofs.longest_run.Goals as goal

-- the tree of the bytes, where they are a record
read_tree_lem : (c : goal.In-Some) → Decoded c.args.bytes.now c.in-Some.read
read_tree_lem c =
    decoded _ c.in-Some.ensures (slice_below _ c.type_inv.bytes)

pub returns-in_default : goal.returns-in_default
returns-in_default c = shows_11 _ (undecoded _ c.in_default.ensures)

pub of-stack-requires : goal.of-stack-requires
of-stack-requires c =
    let d = read_tree_lem (goal.at.of-stack-requires c).In-Some in
    (hours_low d, (d.tree, listed_part (listed d)))

pub run-run-requires : goal.run-run-requires
run-run-requires c =
    let d = read_tree_lem (goal.at.run-run-requires c).In-Some in
    (hours_of _, d.tree, c.of-stack.ensures d.tree (listed_part (listed d)))

-- the run of that tree
found_lem : (c : goal.After-run-run) (d : Decoded c.args.bytes.now c.in-Some.read) → Found (run d) c.of-stack.result.next c.run-run.result
found_lem c d = rw c.run-run.ensures (c.of-stack.ensures d.tree (listed_part (listed d))).entries.0

pub shown-shown-requires : goal.shown-shown-requires
shown-shown-requires c =
    let d = read_tree_lem (goal.at.shown-shown-requires c).In-Some in
    (_, linked d _ _ (found_lem (goal.at.shown-shown-requires c).After-run-run d))

pub returns : goal.returns
returns c =
    let d = read_tree_lem (goal.at.returns c).In-Some in
    let found = found_lem (goal.at.returns c).After-run-run d in
    shows_run d _ _ _ found (c.shown-shown.ensures _ (linked d _ _ found))
