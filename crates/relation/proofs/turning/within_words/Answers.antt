-- `relation::turning::within_words` meets its contract.
use Prim.Native.Nat.{◌+◌, ◌-◌, ◌<◌}
use native.Mathlib.Omega.{arith}
use Rattle.relation.proofs.Words.{one_shifted}
use Rattle.relation.proofs.Digits.{near, far, near_first, near_second, near_room}
use Rattle.relation.proofs.Tables.{row_read}
use Rattle.relation.proofs.Exchanging.{paired_none, paired_next, paired_end}
use borrow.Author.Rules.{rules}
use Rattle.relation.proofs.turning.within_words.Goals.{In-loop-m}
use Rattle.relation.proofs.turning.within_words.Goals as goal

pub loop-m-init : goal.loop-m-init
loop-m-init c = paired_none c.args.e c.args.t.now _ (search rules)

-- both rows of a pair are among the 128
room : (c : goal.In-loop-m) → near c.args.e c.loop-m.m + far c.args.e < 128
room c = let a = c.args in near_room a.e a.w c.loop-m.m (search rules) (search rules) (search rules)

pub overflow_add-u : goal.overflow_add-u
overflow_add-u c = omega (arith, room (goal.at.overflow_add-u c).In-loop-m)

pub overflow_add-x : goal.overflow_add-x
overflow_add-x c = omega (arith, room (goal.at.overflow_add-x c).In-loop-m)

pub offset_bounds-t-u : goal.offset_bounds-t-u
offset_bounds-t-u c = omega (arith, room (goal.at.offset_bounds-t-u c).In-loop-m)

pub bounds-t-u : goal.bounds-t-u
bounds-t-u c = omega (arith, room (goal.at.bounds-t-u c).In-loop-m)

pub offset_bounds-t-x : goal.offset_bounds-t-x
offset_bounds-t-x c = omega (arith, room (goal.at.offset_bounds-t-x c).In-loop-m)

pub bounds-t-x : goal.bounds-t-x
bounds-t-x c = omega (arith, room (goal.at.bounds-t-x c).In-loop-m)

pub offset_bounds-t-u-in-loop-m : goal.offset_bounds-t-u-in-loop-m
offset_bounds-t-u-in-loop-m c = omega (arith, room (goal.at.offset_bounds-t-u-in-loop-m c).In-loop-m)

pub bounds-t-u-in-loop-m : goal.bounds-t-u-in-loop-m
bounds-t-u-in-loop-m c = omega (arith, room (goal.at.bounds-t-u-in-loop-m c).In-loop-m)

pub offset_bounds-t-x-in-loop-m : goal.offset_bounds-t-x-in-loop-m
offset_bounds-t-x-in-loop-m c = omega (arith, room (goal.at.offset_bounds-t-x-in-loop-m c).In-loop-m)

pub bounds-t-x-in-loop-m : goal.bounds-t-x-in-loop-m
bounds-t-x-in-loop-m c = omega (arith, room (goal.at.bounds-t-x-in-loop-m c).In-loop-m)

pub listed : goal.listed
listed c = omega (arith, room (goal.at.listed c).In-loop-m)

pub listed-in-loop-m : goal.listed-in-loop-m
listed-in-loop-m c = omega (arith, room (goal.at.listed-in-loop-m c).In-loop-m)

pub listed-in-loop-m-2 : goal.listed-in-loop-m-2
listed-in-loop-m-2 c = omega (arith, room (goal.at.listed-in-loop-m-2 c).In-loop-m)

pub listed-in-loop-m-3 : goal.listed-in-loop-m-3
listed-in-loop-m-3 c = omega (arith, room (goal.at.listed-in-loop-m-3 c).In-loop-m)

pub loop-m-preserved : goal.loop-m-preserved
loop-m-preserved c =
    let l = c.loop-m in
    let a = c.args in
    let within = room (goal.at.loop-m-preserved c).In-loop-m in
    let first = row_read l.t (near a.e l.m) c.index-t-u.result (omega (arith, within, l.invariant.rows)) in
    let second = row_read l.t (near a.e l.m + far a.e) c.index-t-x.result (omega (arith, within, l.invariant.rows)) in
    paired_next a.e a.t.now _ l.t l.m l.invariant _ _
    (near_first a.e a.w l.m (search rules) (search rules) (search rules))
    (near_second a.e a.w l.m (search rules) (search rules) (search rules))
    within _ _ (rw (first, second) at c.first_row.ensures) (rw (first, second) at c.second_row.ensures) (search rules)

pub returns : goal.returns
returns c =
    let l = c.loop-m in
    let a = c.args in
    let whole = one_shifted (a.w - 1) (omega arith) in record {
      t_len = l.invariant.rows;
      by_index_2 = paired_end a.e a.t.now _ l.t l.m l.invariant a.w whole c.loop-m-test.false (search rules) c.requires.until;
    }
