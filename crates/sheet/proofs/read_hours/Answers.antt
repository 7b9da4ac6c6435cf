-- `sheet::read_hours` meets its contract. The loop's invariant: the hours ahead of `at` are read and listed. Assumes nothing.
use Rattle.std.proofs.Common.{◌≡◌, ◌+◌, ◌<◌, ◌≤◌, length, Err, sym, ◌∙◌, subst, arith, rules}
use Rattle.sheet.specs.declared.Broken.{Broken}
use Rattle.sheet.specs.Text.{hours_digits, line_endings}
use Rattle.sheet.specs.Reading.{ReadsNumber}
use Rattle.sheet.specs.Listing.{ReadsHours}
use Rattle.sheet.proofs.Places.{moved, moved_is, at_ok, at_err}
use Rattle.sheet.proofs.Hours.{rest_of, length_rest, hours_within, hours_fault}
use Rattle.sheet.proofs.Hours.{timing_start, timing_on, timing_done, timing_broken}
use Rattle.sheet.proofs.read_hours.Goals as goal
use Rattle.sheet.proofs.read_hours.Goals.{In-loop-job, After-map_err, In_ok-line}

-- a line is left
left : (c : goal.In-loop-job) → c.loop-job.job < c.args.count
left c = omega (arith, c.loop-job-test.true, c.from-job-end.ensures)

-- a fault is moved on by the bytes ahead of the line
moves : (c : goal.After-map_err) → c.map_err.result ≡ moved c.loop-job.at c.number_line.result
moves c = moved_is c.loop-job.at _ _ _ c.map_err.ensures.cases (λ b e p. search rules)

-- a line that is read lies within the bytes
within : (c : goal.In_ok-line) → c.loop-job.at + (c.in_ok-line.line.last + 1) ≤ length c.args.s.now
within c =
    let at = c.loop-job.at in
    let e : c.map_err.result ≡ moved at c.number_line.result = moved_is at _ _ _ c.map_err.ensures.cases (λ b e p. search rules) in
    let reads = at_ok (ReadsNumber hours_digits line_endings _ 0) at c.number_line.result c.number_line.ensures (sym e ∙ c.in_ok-line.was) in
    omega (arith, hours_within reads, length_rest c.args.s.now at c.loop-job.invariant.within)

pub loop-job-init : goal.loop-job-init
loop-job-init c = let a = c.args in timing_start a.s.now a.count a.hours.now

pub map_err-requires : goal.map_err-requires
map_err-requires c b is l x f u v =
    let at = c.loop-job.at in
    let h = subst (ReadsNumber hours_digits line_endings _ 0) is c.number_line.ensures in
    omega (arith, hours_fault h, length_rest c.args.s.now at c.loop-job.invariant.within)

pub returns-in_err-line : goal.returns-in_err-line
returns-in_err-line c =
    let a = c.args in
    let l = c.loop-job in
    let r : c.from_residual.result ≡ Err c.in_err-line.field-0.0 = search rules in
    let m = sym (moves (goal.at.returns-in_err-line c).After-map_err) ∙ c.in_err-line.was in
    let (b, reads, is) = at_err (ReadsNumber hours_digits line_endings _ 0) l.at c.number_line.result c.number_line.ensures m in
    rw r
    (subst (λ (x : Broken). ReadsHours a.s.now a.count a.hours.now (Err x) l.hours) (sym is)
    (timing_broken l.invariant (left (goal.at.returns-in_err-line c).In-loop-job) (rest_of a.s.now l.at) reads))

pub overflow_add-at : goal.overflow_add-at
overflow_add-at c = omega (arith, within (goal.at.overflow_add-at c).In_ok-line)

pub overflow_add-at-in-loop-job : goal.overflow_add-at-in-loop-job
overflow_add-at-in-loop-job c = omega (arith, within (goal.at.overflow_add-at-in-loop-job c).In_ok-line)

pub loop-job-preserved : goal.loop-job-preserved
loop-job-preserved c =
    let l = c.loop-job in
    let m = sym (moves (goal.at.loop-job-preserved c).After-map_err) ∙ c.in_ok-line.was in
    let reads = at_ok (ReadsNumber hours_digits line_endings _ 0) l.at c.number_line.result c.number_line.ensures m in
    timing_on l.invariant (left (goal.at.loop-job-preserved c).In-loop-job) (rest_of c.args.s.now l.at) reads c.put_hours.ensures

pub returns : goal.returns
returns c = timing_done c.loop-job.invariant (omega (arith, c.loop-job-test.false, c.from-job-end.ensures))
