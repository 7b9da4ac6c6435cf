-- `order::take_apart` meets its contract: what is written decides between 8 and the rest, and the rooms between 9, 10 and acceptance.
use mathlib.Core.Path.{◌≡◌}
use Rattle.std.specs.Prelude.{Some}
use native.Mathlib.Omega.{arith}
use Rattle.poset.specs.Tree.{Tree}
use Rattle.poset.specs.Decompose.{tree_of}
use Rattle.relation.specs.Table.{holds, Inside}
use Rattle.relation.proofs.Chain.{reduced_inside}
use Rattle.writer.specs.Written.{record_of}
use Rattle.writer.proofs.Spelling.{written_some, written_none, bytes_few, bytes_size}
use Rattle.analysis.proofs.Crossing.{gives_refusal, crossed_outcome}
use Rattle.analysis.proofs.Taking.{count_few, gives_9, gives_10, gives_0}
use Rattle.analysis.proofs.Times.{all_below_lem, written_all}
use Rattle.analysis.proofs.order.take_apart.Goals as goal
use Rattle.analysis.proofs.order.take_apart.Goals.{In-Some, After-reduced-reduced}

-- a tree means the order: what is written is the record of the hours
told : (c : goal.In-Some) → (t : Tree) × (tree_of c.args.n (holds c.args.after) ≡ Some t)
    × (c.in-Some.written ≡ record_of c.args.n c.args.hours.now t)
told c =
    let w = written_some c.args.n c.padded-all.result (tree_of c.args.n (holds c.args.after)) c.in-Some.written c.in-Some.ensures in
    (w.0, w.1, written_all c.args.hours.now c.padded-all.ensures c.args.n w.0 w.2)

-- its reduced orders
inside : (c : goal.After-reduced-reduced) → Inside c.args.n c.reduced-reduced.result
inside c = reduced_inside c.args.n c.args.after c.reduced-reduced.result c.requires.inside c.reduced-reduced.ensures

pub write_record-requires-clause-all_below : goal.write_record-requires-clause-all_below
write_record-requires-clause-all_below c = all_below_lem _ c.padded-all.ensures c.requires.hours_len.1

pub returns-in_default : goal.returns-in_default
returns-in_default c =
    let bare = written_none c.args.n c.padded-all.result (tree_of c.args.n (holds c.args.after)) c.in_default.ensures in
    gives_refusal _ (rw c.crossed.ensures (crossed_outcome _ c.args.n c.args.hours.now (holds c.args.after) bare))

pub pair_count-count-requires-clause-inside : goal.pair_count-count-requires-clause-inside
pair_count-count-requires-clause-inside c = inside (goal.at.pair_count-count-requires-clause-inside c).After-reduced-reduced

pub returns-then-bytes-written : goal.returns-then-bytes-written
returns-then-bytes-written c =
    let a = c.args in
    let (t, e, is) = told (goal.at.returns-then-bytes-written c).In-Some in
    gives_9 a.n c.requires.n_nonzero.1 a.hours.now (holds a.after) c.requires.strict t e c.in-Some.written is c.reduced-reduced.result
    c.reduced-reduced.ensures c.pair_count-count.result c.pair_count-count.ensures a.bytes.now a.area.now c.if-bytes-written.true

pub overflow_mul-count : goal.overflow_mul-count
overflow_mul-count c =
    let a = c.args in
    record {
      fits = omega (
        arith,
        count_few a.n (holds a.after) c.reduced-reduced.result c.pair_count-count.result c.requires.n_nonzero.1 c.requires.strict
            c.reduced-reduced.ensures c.pair_count-count.ensures,
      );
    }

pub returns-then-area-count : goal.returns-then-area-count
returns-then-area-count c =
    let a = c.args in
    let (t, e, is) = told (goal.at.returns-then-area-count c).In-Some in
    gives_10 a.n c.requires.n_nonzero.1 a.hours.now (holds a.after) c.requires.strict t e c.in-Some.written is c.reduced-reduced.result
    c.reduced-reduced.ensures c.pair_count-count.result c.pair_count-count.ensures a.bytes.now a.area.now c.if-bytes-written.false
    c.if-area-count.true

pub copy-requires : goal.copy-requires
copy-requires c =
    let a = c.args in
    let r = holds a.after in
    let (t, e, is) = told (goal.at.copy-requires c).In-Some in (
      bytes_few a.n c.requires.n_nonzero.1 r c.requires.strict t e a.hours.now c.in-Some.written is,
      bytes_size a.n c.requires.n_nonzero.1 r c.requires.strict t e a.hours.now c.in-Some.written is,
      c.if-bytes-written.false,
    )

pub write_pairs-requires-clause-inside : goal.write_pairs-requires-clause-inside
write_pairs-requires-clause-inside c = inside (goal.at.write_pairs-requires-clause-inside c).After-reduced-reduced

-- both fit, and are written
pub returns : goal.returns
returns c =
    let a = c.args in
    let (t, e, is) = told (goal.at.returns c).In-Some in
    gives_0 a.n c.requires.n_nonzero.1 a.hours.now (holds a.after) c.requires.strict t e c.in-Some.written is c.reduced-reduced.result
    c.reduced-reduced.ensures c.pair_count-count.result c.pair_count-count.ensures a.bytes.now a.area.now c.if-bytes-written.false
    c.if-area-count.false _ _ _ c.padded-all.ensures c.copy.ensures c.write_pairs.ensures
