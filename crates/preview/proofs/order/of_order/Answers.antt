-- `order::of_order` meets its contract: the record decides between 8 and acceptance.
use mathlib.Core.Path.{◌≡◌, ap, ◌∙◌}
use native.Mathlib.Omega.{arith}
use Rattle.poset.specs.Decompose.{tree_of}
use Rattle.relation.specs.Table.{holds}
use Rattle.relation.proofs.Chain.{reduced_inside}
use Rattle.writer.proofs.Spelling.{written_some, written_none}
use Rattle.analysis.specs.Outcome.{roomy}
use Rattle.analysis.specs.Result.{refusal_answer}
use Rattle.analysis.proofs.Crossing.{crossed_outcome}
use Rattle.analysis.proofs.Times.{all_below_lem, written_all}
use Rattle.preview.proofs.Answering.{told_by, told_accepted}
use Rattle.preview.proofs.order.of_order.Goals as goal

pub write_record-requires-clause-all_below : goal.write_record-requires-clause-all_below
write_record-requires-clause-all_below c = all_below_lem _ c.padded-all.ensures c.requires.hours_len.1

pub returns-in_default : goal.returns-in_default
returns-in_default c =
    let bare = written_none c.args.n c.padded-all.result (tree_of c.args.n (holds c.args.after)) c.in_default.ensures in
    ap refusal_answer c.crossed.ensures ∙ told_by _ (crossed_outcome roomy c.args.n c.args.hours.now (holds c.args.after) bare)

pub pair_count-count-requires-clause-inside : goal.pair_count-count-requires-clause-inside
pair_count-count-requires-clause-inside c =
    reduced_inside c.args.n c.args.after c.reduced-reduced.result c.requires.inside c.reduced-reduced.ensures

pub returns : goal.returns
returns c =
    let a = c.args in
    let (t, e, is) = written_some a.n c.padded-all.result (tree_of a.n (holds a.after)) c.in-Some.written c.in-Some.ensures in
    told_accepted a.n c.requires.n_nonzero.1 a.hours.now (holds a.after) c.requires.strict t e c.in-Some.written
    (written_all a.hours.now c.padded-all.ensures a.n t is) c.reduced-reduced.result c.reduced-reduced.ensures c.pair_count-count.result
    c.pair_count-count.ensures
