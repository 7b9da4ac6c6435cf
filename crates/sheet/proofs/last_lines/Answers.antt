-- `sheet::last_lines` meets its contract. Assumes nothing.
use Rattle.std.proofs.Common.{◌≡◌, Err, rules}
use Rattle.sheet.proofs.Lines.{last_done, last_broken}
use Rattle.sheet.proofs.last_lines.Goals as goal

pub returns-in_err-reached : goal.returns-in_err-reached
returns-in_err-reached c =
    let e : c.from_residual.result ≡ Err c.in_err-reached.field-0.0 = search rules in
    rw e (last_broken c.padded.ensures c.in_err-reached.ensures)

pub returns : goal.returns
returns c = last_done c.padded.ensures c.in_ok-reached.ensures
