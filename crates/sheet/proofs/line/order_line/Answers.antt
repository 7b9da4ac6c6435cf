-- `sheet::line::order_line` meets its contract. Assumes nothing.
use Rattle.std.proofs.Common.{◌≡◌, rules, Err}
use Rattle.sheet.proofs.Reading.{reads_arc, reads_no_first, reads_no_second}
use Rattle.sheet.proofs.line.order_line.Goals as goal

pub returns-in_err-from : goal.returns-in_err-from
returns-in_err-from c =
    let e : c.from_residual.result ≡ Err c.in_err-from.field-0.0 = search rules in
    rw e (reads_no_first c.in_err-from.ensures.0)

pub returns-in_err-to : goal.returns-in_err-to
returns-in_err-to c =
    let e : c.from_residual-in_err-to.result ≡ Err c.in_err-to.field-0.0 = search rules in
    rw e (reads_no_second c.in_ok-from.ensures.0 c.in_err-to.ensures)

pub returns : goal.returns
returns c = reads_arc c.in_ok-from.ensures.0 c.in_ok-to.ensures
