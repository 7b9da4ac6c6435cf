-- `relation::search::with_smallest` meets its contract.
use mathlib.Core.Path.{refl, sym, ap, ◌∙◌}
use Rattle.std.specs.Prelude.{Some}
use Rattle.poset.specs.Lists.{first}
use Rattle.poset.proofs.Laws.{first_here}
use Rattle.relation.proofs.Sets.{members_head, members_end}
use Rattle.relation.proofs.search.with_smallest.Goals as goal

pub returns-then-not-inhabited : goal.returns-then-not-inhabited
unfolding first
returns-then-not-inhabited c =
    sym (ap (first (λ d. Some (c.args.a, c.args.b, c.args.c, d)))
    (members_end c.args.s (sym c.inhabited.ensures ∙ c.if-not-inhabited.true)))

pub smallest-requires : goal.smallest-requires
smallest-requires c = sym c.inhabited.ensures ∙ c.if-not-inhabited.false

pub returns : goal.returns
returns c =
    let a = c.args in
    sym (ap (first (λ d. Some (a.a, a.b, a.c, d))) (members_head a.s _ c.smallest.ensures) ∙ first_here _ _ _ refl)
