-- `read_nodes` meets its contract.
use mathlib.Core.Path.{refl, sym, ap}
use Rattle.std.specs.Prelude.{option_map}
use Rattle.reader.specs.Answer.{nodes}
use Rattle.reader.proofs.Gives.{has_nodes, gives_nodes}
use Rattle.reader.proofs.Whole.{slice_below}
use Rattle.reader.proofs.read_nodes.Goals as goal

pub returns-in_err-part : goal.returns-in_err-part
returns-in_err-part c = rw c.from_residual.ensures (sym (ap (option_map nodes) (c.in_err-part.ensures.none refl)))

pub list_nodes-tokens-requires : goal.list_nodes-tokens-requires
list_nodes-tokens-requires c =
    let (t, h) = c.in_ok-part.ensures.some _ refl in
    rw (c.from-jobs.ensures, c.from-groups.ensures) (t, has_nodes _ _ _ t h (slice_below c.args.bytes.now c.type_inv.bytes))

pub returns : goal.returns
returns c =
    let (t, h) = c.in_ok-part.ensures.some _ refl in
    let small = slice_below c.args.bytes.now c.type_inv.bytes in
    let number = has_nodes _ _ _ t h small in
    let same = rw (c.from-jobs.ensures, c.from-groups.ensures) at c.list_nodes-tokens.ensures in
    rw (c.from-jobs.ensures, c.from-groups.ensures) (gives_nodes _ _ _ t h small _ (same t number))
