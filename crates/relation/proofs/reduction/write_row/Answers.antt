-- `relation::reduction::write_row` meets its contract.
use Rattle.relation.proofs.Listing.{halves_fit, halves_fit_later, halves_end}
use borrow.Author.Rules.{rules}
use Rattle.relation.proofs.reduction.write_row.Goals as goal

pub write_each-middle-requires : goal.write_each-middle-requires
write_each-middle-requires c =
    (search rules, halves_fit c.args.u c.args.row _ c.low.ensures c.args.at c.args.area.now c.requires.1)

pub write_each-requires : goal.write_each-requires
write_each-requires c = (
  search rules,
  halves_fit_later c.args.u c.args.row _ c.low.ensures c.args.at c.args.area.now _ c.high.ensures _ _
      c.write_each-middle.ensures.value c.write_each-middle.ensures.area_after c.requires.1,
)

pub returns : goal.returns
returns c =
    let e = halves_end c.args.u c.args.row _ c.low.ensures c.args.at c.args.area.now _ c.high.ensures _ _
    c.write_each-middle.ensures.value c.write_each-middle.ensures.area_after _ _ c.write_each.ensures.value c.write_each.ensures.area_after in
    record { value = e.0; area_after = e.1 }
