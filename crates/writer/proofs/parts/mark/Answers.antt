-- `parts::mark`: one half of the set, then the other.
use mathlib.Core.Bool.{not}
use lib.Dec.{ltb}
use Rattle.writer.proofs.Numbering.{jobs_within, marked_halves}
use Rattle.writer.proofs.parts.mark.Goals as goal

pub mark_each-requires : goal.mark_each-requires
mark_each-requires c = jobs_within c.args.part c.low.result (λ v. ltb v 64) c.requires c.low.ensures

pub mark_each-requires-2 : goal.mark_each-requires-2
mark_each-requires-2 c = jobs_within c.args.part c.high.result (λ v. not (ltb v 64)) c.requires c.high.ensures

pub returns : goal.returns
returns c =
    let a = c.args in
    marked_halves a.part c.low.result c.high.result a.number a.numbers.now _ _ c.low.ensures c.high.ensures
    c.mark_each.ensures c.mark_each-2.ensures
