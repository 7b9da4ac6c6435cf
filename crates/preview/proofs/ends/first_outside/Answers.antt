-- `ends::first_outside` meets its contract.
use mathlib.Core.Path.{sym, ◌∙◌}
use native.Mathlib.Omega.{arith}
use Rattle.relation.specs.Arcs.{pairs, outside}
use Rattle.analysis.proofs.Steps.{pairs_length}
use Rattle.preview.proofs.Joining.{place_below, places_append}
use Rattle.preview.proofs.ends.first_outside.Goals as goal

pub first_of-requires : goal.first_of-requires
first_of-requires c =
    let last = c.args.last.now in (
      omega (arith, c.well_formed),
      λ k e. omega (arith, c.well_formed, pairs_length last, place_below (outside _) (pairs last) (sym c.first_outside-2.ensures ∙ e)),
    )

pub returns : goal.returns
returns c =
    places_append (outside _) c.args.list.now c.args.last.now c.first_outside.ensures c.first_outside-2.ensures c.first_of.ensures
