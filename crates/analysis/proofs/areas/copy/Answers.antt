-- `areas::copy` meets its contract.
use mathlib.Core.Path.{sym, ap₂, ap}
use mathlib.Core.List.{◌++◌}
use native.Mathlib.Omega.{arith}
use lib.ListN.{drop}
use lib.Seq.{length-take-le}
use Rattle.poset.specs.Areas.{overlay}
use Rattle.analysis.proofs.areas.copy.Goals as goal

pub returns : goal.returns
unfolding overlay
returns c =
    let a = c.args in
    ap₂ ◌++◌ c.copy_from_slice.ensures.after (ap (λ k. drop k a.area.now) (sym (length-take-le a.count a.bytes.now (omega (arith, c.requires)))))
