-- `sheet::read_sheet` meets its contract. Assumes nothing.
use Rattle.std.proofs.Common.{◌≡◌, ◌+◌, ◌-◌, ◌≤◌, length, take, drop, Err, sym, ap, ◌∙◌, arith, rules, drop-drop}
use Rattle.sheet.proofs.Places.{moved, moved_is}
use Rattle.sheet.proofs.Hours.{rest_of, length_rest, count_within, answers_rest, answers_broken}
use Rattle.sheet.proofs.Hours.{timed_within, timed_all, timed_some, timed_broken}
use Rattle.sheet.proofs.Lines.{fault_near}
use Rattle.sheet.proofs.read_sheet.Goals as goal
use Rattle.sheet.proofs.read_sheet.Goals.{In_ok-count, After-map_err, In_ok-end, After-map_err-2}

-- faults are moved on by the bytes ahead of the part

hours_moved : (c : goal.After-map_err) → c.map_err.result ≡ moved (c.in_ok-count.count.last + 1) c.read_hours.result
hours_moved c = moved_is (c.in_ok-count.count.last + 1) _ _ _ c.map_err.ensures.cases (λ b e p. search rules)

orders_moved : (c : goal.After-map_err-2) → c.map_err-2.result ≡ moved (c.in_ok-count.count.last + 1 + c.in_ok-end.end) c.read_lines.result
orders_moved c = moved_is (c.in_ok-count.count.last + 1 + c.in_ok-end.end) _ _ _ c.map_err-2.ensures.cases (λ b e p. search rules)

-- the parts lie within the bytes

count_in : (c : goal.In_ok-count) → c.in_ok-count.count.last + 1 ≤ length c.args.s.now
count_in c = omega (arith, count_within c.in_ok-count.ensures)

hours_in : (c : goal.In_ok-end) → c.in_ok-count.count.last + 1 + c.in_ok-end.end ≤ length c.args.s.now
hours_in c =
    let start = c.in_ok-count.count.last + 1 in
    let e : c.map_err.result ≡ moved start c.read_hours.result = moved_is start _ _ _ c.map_err.ensures.cases (λ b e p. search rules) in
    let n : start ≤ length c.args.s.now = omega (arith, count_within c.in_ok-count.ensures) in
    omega (arith, timed_within start c.read_hours.result c.read_hours.ensures (sym e ∙ c.in_ok-end.was), length_rest c.args.s.now start n)

pub returns-in_err-count : goal.returns-in_err-count
returns-in_err-count c =
    let r : c.from_residual.result ≡ Err c.in_err-count.field-0.0 = search rules in
    rw r (answers_broken c.in_err-count.ensures)

pub overflow_add-start : goal.overflow_add-start
overflow_add-start c = omega (arith, count_in (goal.at.overflow_add-start c).In_ok-count)

pub slice_bounds-read_hours-count : goal.slice_bounds-read_hours-count
slice_bounds-read_hours-count c = count_in (goal.at.slice_bounds-read_hours-count c).In_ok-count

pub slice_bounds-read_hours-start : goal.slice_bounds-read_hours-start
slice_bounds-read_hours-start c = omega (arith, count_in (goal.at.slice_bounds-read_hours-start c).In_ok-count)

pub returns-in_err-end : goal.returns-in_err-end
returns-in_err-end c =
    let a = c.args in
    let start = c.in_ok-count.count.last + 1 in
    let r : c.from_residual-in_err-end.result ≡ Err c.in_err-end.field-0.0 = search rules in
    let m = sym (hours_moved (goal.at.returns-in_err-end c).After-map_err) ∙ c.in_err-end.was in
    rw r (answers_rest c.in_ok-count.ensures (rest_of a.s.now start) (timed_broken start c.read_hours.result c.read_hours.ensures m a.list.now))

pub overflow_add-orders : goal.overflow_add-orders
overflow_add-orders c = omega (arith, hours_in (goal.at.overflow_add-orders c).In_ok-end)

pub slice_bounds-read_lines-count : goal.slice_bounds-read_lines-count
slice_bounds-read_lines-count c = hours_in (goal.at.slice_bounds-read_lines-count c).In_ok-end

pub slice_bounds-read_lines-start : goal.slice_bounds-read_lines-start
slice_bounds-read_lines-start c = omega (arith, hours_in (goal.at.slice_bounds-read_lines-start c).In_ok-end)

pub map_err-requires-2 : goal.map_err-requires-2
map_err-requires-2 c b is l x f u v =
    let orders = c.in_ok-count.count.last + 1 + c.in_ok-end.end in
    let h = hours_in (goal.at.map_err-requires-2 c).In_ok-end in
    omega (arith, fault_near c.read_lines.ensures is, length_rest c.args.s.now orders h, h)

-- the part with the order lines, as it follows the lines of hours

last_part : (c : goal.In_ok-end)
    → take (length c.args.s.now - (c.in_ok-count.count.last + 1 + c.in_ok-end.end)) (drop (c.in_ok-count.count.last + 1 + c.in_ok-end.end) c.args.s.now)
    ≡ drop c.in_ok-end.end (take (length c.args.s.now - (c.in_ok-count.count.last + 1)) (drop (c.in_ok-count.count.last + 1) c.args.s.now))
last_part c =
    let s = c.args.s.now in
    let start = c.in_ok-count.count.last + 1 in
    let at = c.in_ok-end.end in
    rest_of s (start + at) ∙ sym (drop-drop at start s) ∙ ap (drop at) (sym (rest_of s start))

pub returns-in_err-arcs : goal.returns-in_err-arcs
returns-in_err-arcs c =
    let start = c.in_ok-count.count.last + 1 in
    let at = c.in_ok-end.end in
    let r : c.from_residual-in_err-arcs.result ≡ Err c.in_err-arcs.field-0.0 = search rules in
    let places = goal.at.returns-in_err-arcs c in
    let m = sym (hours_moved places.After-map_err) ∙ c.in_ok-end.was in
    let k = sym (orders_moved places.After-map_err-2) ∙ c.in_err-arcs.was in
    rw r
    (answers_rest c.in_ok-count.ensures (rest_of c.args.s.now start)
    (timed_some start c.read_hours.result c.read_hours.ensures m (last_part places.In_ok-end) c.read_lines.result c.read_lines.ensures k))

pub returns : goal.returns
returns c =
    let start = c.in_ok-count.count.last + 1 in
    let at = c.in_ok-end.end in
    let places = goal.at.returns c in
    let m = sym (hours_moved places.After-map_err) ∙ c.in_ok-end.was in
    let k = sym (orders_moved places.After-map_err-2) ∙ c.in_ok-arcs.was in
    answers_rest c.in_ok-count.ensures (rest_of c.args.s.now start)
    (timed_all start c.read_hours.result c.read_hours.ensures m (last_part places.In_ok-end) c.read_lines.result c.read_lines.ensures k)
