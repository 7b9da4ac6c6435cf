-- `of_sheet` meets its contract: the read decides 2, the counts 3 and 4, and the hours and the arcs all others.
use mathlib.Core.Path.{sym, ap, ap₂, refl, ◌∙◌}
use native.Mathlib.Omega.{arith}
use lib.ListN.{take}
use lib.Seq.{length-take-le}
use Rattle.relation.specs.Arcs.{pairs}
use Rattle.analysis.specs.Outcome.{timed}
use Rattle.analysis.proofs.Crossing.{gives_same, gives_err}
use Rattle.analysis.proofs.Steps.{sheet_broken, sheet_read, count_timed, pairs_bytes}
use Rattle.analysis.proofs.SheetArcs.{SheetLists, sheet_lists, broken_read}
use Rattle.analysis.proofs.of_sheet.Goals as goal
use Rattle.analysis.proofs.of_sheet.Goals.{In_ok-read}

-- what was read of a sheet in the line form
lists : (c : goal.In_ok-read) → SheetLists c.args.sheet.now c.in_ok-read.read.jobs c.in_ok-read.read.arcs c.read_sheet.new.hours c.read_sheet.new.list
lists c =
    let r = c.read_sheet in
    sheet_lists c.args.sheet.now _ _ r.result r.new.hours r.new.list r.ensures _ _ c.in_ok-read.was refl c.requires.fact

pub returns-in_err-read : goal.returns-in_err-read
returns-in_err-read c =
    let r = c.read_sheet in
    gives_err _ c.from_residual.ensures.1 (sheet_broken _ c.args.sheet.now _ c.requires.sheet_len_bound
    (broken_read c.args.sheet.now _ _ r.result r.new.hours r.new.list r.ensures _ c.in_err-read.was))

pub returns-in_err-counts : goal.returns-in_err-counts
returns-in_err-counts c =
    let x = lists (goal.at.returns-in_err-counts c).In_ok-read in
    gives_err _ c.from_residual-in_err-counts.ensures.1
    (sheet_read _ c.args.sheet.now _ x.hours x.arcs c.requires.sheet_len_bound x.read_is ∙ c.in_err-counts.ensures _ x.hours x.arcs x.size)

pub slice_bounds-of_lists-end : goal.slice_bounds-of_lists-end
slice_bounds-of_lists-end c = (lists (goal.at.slice_bounds-of_lists-end c).In_ok-read).few c.in_ok-counts.ensures.2

pub slice_bounds-of_lists-end-2 : goal.slice_bounds-of_lists-end-2
slice_bounds-of_lists-end-2 c =
    sym (length-take-le _ c.read_sheet.new.list ((lists (goal.at.slice_bounds-of_lists-end-2 c).In_ok-read).few c.in_ok-counts.ensures.2))

pub returns : goal.returns
returns c =
    let h = c.in_ok-counts.ensures in
    let x = lists (goal.at.returns c).In_ok-read in
    gives_same
    (ap₂ (timed _ _) (ap (λ k. take k c.read_sheet.new.hours) c.from.ensures ∙ x.hours_front h.1) (ap pairs (x.front h.2) ∙ pairs_bytes x.arcs)
    ∙ sym (sheet_read _ c.args.sheet.now _ x.hours x.arcs c.requires.sheet_len_bound x.read_is
    ∙ count_timed _ _ x.hours x.arcs h.0 h.1 (omega (arith, h.2, x.size))))
    c.of_lists.ensures
