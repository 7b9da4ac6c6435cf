-- `relation::search::first_n` meets its contract.
use mathlib.Core.Path.{sym, ◌∙◌}
use Rattle.poset.specs.Order.{first_n_of}
use Rattle.poset.proofs.Searches.{at_a}
use Rattle.relation.specs.Table.{holds}
use Rattle.relation.proofs.Lists.{looked_none, looked_hit, looked_next, looked_end}
use Rattle.relation.proofs.Twins.{none_at_lem}
use borrow.Author.Rules.{rules}
use Rattle.relation.proofs.search.first_n.Goals as goal

pub incomparabilities-free-requires : goal.incomparabilities-free-requires
incomparabilities-free-requires c = let p = c.requires in record {
  n_bound = p.n_bound;
  by_index = p.by_index;
}

pub loop-a-init : goal.loop-a-init
loop-a-init c = let a = c.args in looked_none (at_a a.n (holds a.after)) a.n

pub first_unless_twin-requires : goal.first_unless_twin-requires
first_unless_twin-requires c =
    record {
      n_bound = (c.requires.n_bound, search rules);
      inside = c.requires.inside;
      by_index = c.requires.by_index;
      by_index_2 = c.incomparabilities-free.ensures;
      by_index_3 = λ i m. none_at_lem _ _ i (c.loop-a.invariant.nothing i m);
    }

pub returns-in-Some : goal.returns-in-Some
unfolding first_n_of
returns-in-Some c =
    let l = c.loop-a in
    looked_hit (at_a c.args.n (holds c.args.after)) c.args.n l.a l.invariant (search rules) (sym c.first_unless_twin.ensures ∙ c.in-Some.is)

pub loop-a-preserved : goal.loop-a-preserved
loop-a-preserved c =
    let l = c.loop-a in
    looked_next (at_a c.args.n (holds c.args.after)) c.args.n l.a l.invariant (search rules)
    (sym c.first_unless_twin.ensures ∙ c.in_default.is)

pub returns : goal.returns
unfolding first_n_of
returns c =
    looked_end (at_a c.args.n (holds c.args.after)) c.args.n c.loop-a.a c.loop-a.invariant c.loop-a-test.false
