-- `fewest_gangs` meets its contract: the nodes that were read are those of the tree that the bytes decode to.
use Rattle.reader.proofs.Backward.{listed_part}
use Rattle.reader.proofs.Decoded.{Decoded, decoded, undecoded, hours_low, listed}
use Rattle.reader.proofs.Whole.{slice_below}
use Rattle.gangs.proofs.Answering.{shows_11, shows_gangs}
use Rattle.gangs.proofs.fewest_gangs.Goals.{In-Some}
use Rattle.gangs.proofs.fewest_gangs.Goals as goal

-- the tree of the bytes, where they are a record
read_tree_lem : (c : goal.In-Some) → Decoded c.args.bytes.now c.in-Some.read
read_tree_lem c =
    decoded _ c.in-Some.ensures (slice_below _ c.type_inv.bytes)

pub returns-in_default : goal.returns-in_default
returns-in_default c = shows_11 _ (undecoded _ c.in_default.ensures)

pub numbered-requires : goal.numbered-requires
numbered-requires c =
    let d = read_tree_lem (goal.at.numbered-requires c).In-Some in
    (hours_low d, (d.tree, listed_part (listed d)))

pub returns : goal.returns
returns c =
    let d = read_tree_lem (goal.at.returns c).In-Some in
    shows_gangs d (c.numbered.ensures d.tree (listed_part (listed d)))
