-- `ends::first_loop` meets its contract.
use mathlib.Core.Path.{sym, ◌∙◌}
use native.Mathlib.Omega.{arith}
use Rattle.relation.specs.Arcs.{pairs, loop}
use Rattle.analysis.proofs.Steps.{pairs_length}
use Rattle.preview.proofs.Joining.{place_below, places_append}
use Rattle.preview.proofs.ends.first_loop.Goals as goal

pub first_of-requires : goal.first_of-requires
first_of-requires c =
    let last = c.args.last.now in (
      omega (arith, c.well_formed),
      λ k e. omega (arith, c.well_formed, pairs_length last, place_below loop (pairs last) (sym c.first_loop-2.ensures ∙ e)),
    )

pub returns : goal.returns
returns c =
    places_append loop c.args.list.now c.args.last.now c.first_loop.ensures c.first_loop-2.ensures c.first_of.ensures
