-- The invariant: the numbers passed are written, each in at most so many bytes.
use Rattle.std.proofs.Common.{◌+◌, ◌∷◌}
use Rattle.sheet.specs.Text.{space}
use Rattle.printer.proofs.Loops.{Turn}
use Rattle.printer.proofs.page.Page.line.Given as goal

abbrev pub invariant-loop-n : goal.invariant-loop-n
invariant-loop-n t l = Turn (λ n. space ∷ t.T.Integer.text n) (t.T.Integer.MAX_STR_LEN + 1) l.numbers l.initial.self l.self l.n-index
