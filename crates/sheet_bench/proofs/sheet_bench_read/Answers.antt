-- `sheet_bench::sheet_bench_read` meets its contract. Assumes nothing.
use mathlib.Core.Path.{sym, ap, ◌∙◌}
use Rattle.sheet_bench.specs.Packed.{packed}
use Rattle.sheet_bench.proofs.sheet_bench_read.Goals as goal

pub returns-in-Ok : goal.returns-in-Ok
unfolding packed
returns-in-Ok c =
    let k = c.read_sheet.ensures in
    (rw c.from.ensures (ap packed (sym c.in-Ok.is ∙ k.result)), k.hours_listed, k.listed)

pub returns-in-Err : goal.returns-in-Err
unfolding packed
returns-in-Err c =
    let k = c.read_sheet.ensures in
    (ap packed (sym c.in-Err.is ∙ k.result), k.hours_listed, k.listed)
