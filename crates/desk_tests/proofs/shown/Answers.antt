-- `desk_tests::shown` meets its contract: the sequences are entered, and the answer is packed.
use mathlib.Core.Path.{ap, ◌∙◌}
use Rattle.desk.specs.Packed.{packed, cut}
use Rattle.desk_tests.specs.Shown.{entered}
use Rattle.desk_tests.proofs.Showing.{entered_is}
use Rattle.desk_tests.proofs.shown.Goals as goal

pub returns : goal.returns
returns c = (
  c.packed.ensures ∙ ap (λ a. packed (cut a)) c.from.ensures,
  entered_is c.entries.result.0 c.args.forward.now c.enter.ensures ∙ ap (λ e. entered e.0 c.args.forward.now) c.entries.ensures,
  entered_is c.entries.result.1 c.args.reverse.now c.enter-2.ensures ∙ ap (λ e. entered e.1 c.args.reverse.now) c.entries.ensures,
)
