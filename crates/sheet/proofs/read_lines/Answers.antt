-- `sheet::read_lines` meets its contract. Assumes nothing.
use Rattle.std.proofs.Common.{◌≡◌, Err, arith, rules}
use Rattle.sheet.proofs.Places.{moved, moved_is}
use Rattle.sheet.proofs.Hours.{rest_of}
use Rattle.sheet.proofs.Lines.{lines_done, lines_broken}
use Rattle.sheet.proofs.read_lines.Goals as goal

pub returns-in_err-first : goal.returns-in_err-first
returns-in_err-first c =
    let e : c.from_residual.result ≡ Err c.in_err-first.field-0.0 = search rules in
    rw e (lines_broken (omega (arith, c.saturating_sub.ensures)) c.in_err-first.ensures)

pub returns : goal.returns
returns c =
    let at = c.in_ok-first.first.at in
    let e : c.map_err.result ≡ moved at c.last_lines.result = moved_is at _ _ _ c.map_err.ensures.cases (λ b e p. search rules) in
    rw e (lines_done c.in_ok-first.ensures (rest_of c.args.s.now at) c.last_lines.result c.last_lines.ensures)
