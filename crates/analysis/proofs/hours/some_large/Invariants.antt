-- `hours::some_large` meets its contract. The loop's invariant: whether one of the jobs so far has more.
use mathlib.Core.Path.{◌≡◌}
use lib.Dec.{ltb}
use lib.ListN.{take}
use Rattle.std.specs.List.{list_any}
use Rattle.record.specs.Layout.{most_hours}
use Rattle.analysis.proofs.hours.some_large.Given as goal

abbrev pub invariant-loop-job : goal.invariant-loop-job
invariant-loop-job l = l.some ≡ list_any (ltb most_hours) (take l.job-index l.hours)
