-- `sheet::line::spaced_number` meets its contract. Assumes nothing.
use Rattle.std.proofs.Common.{◌≡◌, sym, ◌∙◌, arith, rules, Err}
use Rattle.sheet.specs.Text.{most_digits}
use Rattle.sheet.specs.Scan.{space_endings}
use Rattle.sheet.proofs.Reading.{reads_none, next_near, reads_spaced, reads_unspaced}
use Rattle.sheet.proofs.line.spaced_number.Goals as goal

pub returns-in_err-n : goal.returns-in_err-n
returns-in_err-n c =
    let a = c.args in
    let e : c.from_residual.result ≡ Err (record { at = a.at }) = search rules in
    rw e (reads_none most_digits a.s.now a.at (sym c.in_err-n.ensures.ok_part ∙ c.number.ensures) space_endings, omega arith)

pub bounds-s-n : goal.bounds-s-n
bounds-s-n c =
    let a = c.args in
    omega (arith, next_near most_digits a.s.now a.at (sym c.in_ok-n.ensures.ok_part ∙ c.number.ensures) (omega arith), c.requires)

pub returns-then-s-n-eq32 : goal.returns-then-s-n-eq32
returns-then-s-n-eq32 c =
    let a = c.args in
    let is = sym c.in_ok-n.ensures.ok_part ∙ c.number.ensures in (
      reads_spaced most_digits a.s.now a.at is c.if-s-n-eq32.true,
      omega (arith, next_near most_digits a.s.now a.at is (omega arith)),
    )

pub returns : goal.returns
returns c =
    let a = c.args in
    let is = sym c.in_ok-n.ensures.ok_part ∙ c.number.ensures in (
      reads_unspaced most_digits a.s.now a.at is c.if-s-n-eq32.false,
      omega (arith, next_near most_digits a.s.now a.at is (omega arith)),
    )
