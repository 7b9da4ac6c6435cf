-- `sheet::line::last_number` meets its contract. Assumes nothing.
use Rattle.std.proofs.Common.{◌≡◌, sym, ◌∙◌, arith, rules, Err}
use Rattle.sheet.specs.Text.{line_endings}
use Rattle.sheet.proofs.Reading.{reads_none, next_near, reads_last, reads_unended}
use Rattle.sheet.proofs.line.last_number.Goals as goal

pub returns-in_err-n : goal.returns-in_err-n
returns-in_err-n g c =
    let a = c.args in
    let e : c.from_residual.result ≡ Err (record { at = a.at }) = search rules in
    rw e (reads_none g.row.MOST a.s.now a.at (sym c.in_err-n.ensures.ok_part ∙ c.number.ensures) line_endings)

pub line_end-requires : goal.line_end-requires
line_end-requires g c =
    let a = c.args in
    omega (arith, next_near g.row.MOST a.s.now a.at (sym c.in_ok-n.ensures.ok_part ∙ c.number.ensures) (omega (arith, c.requires.digits)), c.requires.room)

pub returns-in_err-last : goal.returns-in_err-last
returns-in_err-last g c =
    let a = c.args in
    let e : c.from_residual-in_err-last.result ≡ Err c.in_err-last.field-0.0 = search rules in
    rw e (reads_unended g.row.MOST a.s.now a.at (sym c.in_ok-n.ensures.ok_part ∙ c.number.ensures) c.in_err-last.ensures)

pub returns : goal.returns
returns g c =
    let a = c.args in
    reads_last g.row.MOST a.s.now a.at (sym c.in_ok-n.ensures.ok_part ∙ c.number.ensures) c.in_ok-last.ensures
