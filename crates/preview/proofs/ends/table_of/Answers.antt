-- `ends::table_of` meets its contract.
use Rattle.std.proofs.Common.{◌≡◌, ◌*◌, ◌+◌, ◌<◌, [], length, get_or, ◌∙◌, rules, arith}
use mathlib.Core.List.Memᴰ
use Rattle.std.proofs.lemmas.List.{get_or_default}
use Rattle.relation.specs.Arcs.{pairs}
use Rattle.relation.proofs.Flat.{pairs_at}
use Rattle.preview.proofs.Joining.{added_none, Added-next, added_end, arc_at}
use Rattle.preview.proofs.ends.table_of.Goals.{In-loop-u}
use Rattle.preview.proofs.ends.table_of.Goals as goal

pub table_of-t-requires : goal.table_of-t-requires
table_of-t-requires c = λ a m. c.requires a (Memᴰ.append_left (pairs c.args.last.now) m)

pub loop-u-init : goal.loop-u-init
loop-u-init c = added_none c.args.list.now c.args.last.now c.table_of-t.result (search rules) c.table_of-t.ensures

-- the two jobs of the arc at the present place
pair : (c : goal.In-loop-u)
    → (get_or (get_or c.as_chunks.result.0.now c.loop-u.u-index []) 0 0 ≡ get_or c.args.last.now (2 * c.loop-u.u-index) 0)
    × (get_or (get_or c.as_chunks.result.0.now c.loop-u.u-index []) 1 0 ≡ get_or c.args.last.now (2 * c.loop-u.u-index + 1) 0)
pair c = arc_at c.args.last.now c.loop-u.u-index c.as_chunks.ensures.front c.loop-u-test.true c.as_chunks.ensures.front_len

jobs : (c : goal.In-loop-u)
    → (get_or c.args.last.now (2 * c.loop-u.u-index) 0 < 128) × (get_or c.args.last.now (2 * c.loop-u.u-index + 1) 0 < 128)
jobs c =
    let within : 2 * c.loop-u.u-index + 1 < length c.args.last.now = omega (arith, c.loop-u-test.true, c.as_chunks.ensures.front_len) in
    c.requires _ (Memᴰ.append_right (pairs c.args.list.now) (pairs_at c.args.last.now c.loop-u.u-index within))

pub listed : goal.listed
listed c = let w = (goal.at.listed c).In-loop-u in omega (arith, c.from.ensures, pair w, jobs w)

pub bounds-t-from : goal.bounds-t-from
bounds-t-from c = let w = (goal.at.bounds-t-from c).In-loop-u in omega (arith, c.from.ensures, pair w, jobs w)

pub insert-requires : goal.insert-requires
insert-requires c = let w = (goal.at.insert-requires c).In-loop-u in omega (arith, c.from-in-loop-u.ensures, pair w, jobs w)

pub loop-u-preserved : goal.loop-u-preserved
loop-u-preserved c =
    let w = (goal.at.loop-u-preserved c).In-loop-u in
    let l = c.loop-u in
    let u = c.from.ensures ∙ (pair w).0 in
    let v = c.from-in-loop-u.ensures ∙ (pair w).1 in
    let e = get_or_default l.t c.from.result c.index-t-from.result [] (omega (arith, u, jobs w)) in
    rw u
    (Added-next c.args.list.now c.args.last.now l.t l.u-index l.invariant (omega (arith, c.loop-u-test.true, c.as_chunks.ensures.front_len)) (jobs w).0 _
    (rw (e, u, v) at c.insert.ensures))

pub returns : goal.returns
returns c = added_end c.args.list.now c.args.last.now c.loop-u.t c.loop-u.u-index c.loop-u.invariant (omega (arith, c.loop-u-test.false))
