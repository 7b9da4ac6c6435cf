-- `relation::search::first_with_a` meets its contract.
use mathlib.Core.Path.{sym, ◌∙◌}
use Rattle.poset.specs.Lists.{below}
use Rattle.poset.proofs.Searches.{at_b}
use Rattle.relation.specs.Table.{holds}
use Rattle.relation.proofs.Sets.{members_less}
use borrow.Author.Rules.{rules}
use Rattle.relation.proofs.Tables.{row_read}
use Rattle.relation.proofs.Sought.{beside_first, beside_next, sought_hit, sought_end}
use Rattle.relation.proofs.search.first_with_a.Goals as goal

pub loop-b-init : goal.loop-b-init
unfolding holds
loop-b-init c =
    rw (row_read c.args.free.now c.args.a c.index-free-a.result (search rules))
    (beside_first c.args.n (holds c.args.after.now) c.args.a _ c.requires.n_bound.0 c.requires.n_bound.1 (c.requires.by_index c.args.a))

pub first_with_b-requires : goal.first_with_b-requires
first_with_b-requires c =
    record {
      n_bound = (c.requires.n_bound.0, c.loop-b.invariant.beside _ c.in-Some.ensures.0.member);
      inside = c.requires.inside;
      by_index = c.requires.by_index;
    }

pub returns-in-Some-first_with_b : goal.returns-in-Some-first_with_b
returns-in-Some-first_with_b c =
    let l = c.loop-b in
    sought_hit (at_b c.args.n (holds c.args.after.now) c.args.a) (below c.args.n) l.bs l.invariant.sought _ c.in-Some.ensures.0
    (sym c.first_with_b.ensures ∙ c.in-Some-first_with_b.is)

pub loop-b-smaller : goal.loop-b-smaller
loop-b-smaller c =
    members_less c.loop-b.bs _ _ c.in-Some.ensures.0 c.in-Some.ensures.1

pub loop-b-preserved : goal.loop-b-preserved
loop-b-preserved c =
    let l = c.loop-b in
    beside_next c.args.n (holds c.args.after.now) c.args.a l.bs l.invariant _ c.in-Some.ensures.0 _ c.in-Some.ensures.1
    (sym c.first_with_b.ensures ∙ c.in_default-first_with_b.is)

pub returns : goal.returns
returns c =
    let l = c.loop-b in
    sought_end (at_b c.args.n (holds c.args.after.now) c.args.a) (below c.args.n) l.bs l.invariant.sought
    c.in_default.ensures.0
