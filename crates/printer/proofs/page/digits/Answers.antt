-- The digits are those of the library.
use Rattle.std.proofs.Common.{rules, arith}
use Rattle.printer.proofs.Digits.{in_lower_case}
use Rattle.printer.proofs.page.digits.Goals as goal

pub returns : goal.returns
returns c = in_lower_case c.args.bytes.now (search rules) (λ i. omega (arith, c.type_inv.bytes i))
