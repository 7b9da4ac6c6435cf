-- `read_record` meets its contract.
use mathlib.Core.Path.{refl, sym, ap}
use Rattle.std.specs.Prelude.{option_map}
use Rattle.reader.specs.Answer.{reading}
use Rattle.reader.proofs.Gives.{gives_reading}
use Rattle.reader.proofs.read_record.Goals as goal

pub returns-in_err-part : goal.returns-in_err-part
returns-in_err-part c = rw c.from_residual.ensures (sym (ap (option_map reading) (c.in_err-part.ensures.none refl)))

pub in_turn-reverse-requires : goal.in_turn-reverse-requires
in_turn-reverse-requires c =
    let (t, h) = c.in_ok-part.ensures.some _ refl in
    rw (c.from-count.ensures, c.from-first.ensures) (h.few, h.inside)

pub returns : goal.returns
returns c =
    let (t, h) = c.in_ok-part.ensures.some _ refl in
    rw (c.from-count.ensures, c.from-groups.ensures)
    (gives_reading _ _ _ t h _ (rw (c.from-count.ensures, c.from-first.ensures) at c.in_turn-reverse.ensures))
