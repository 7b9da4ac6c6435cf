-- `relation::reduction::reduced` meets its contract.
use Rattle.poset.specs.Order.{covers}
use Rattle.relation.specs.Table.{holds}
use Rattle.relation.proofs.Tables.{row_read, filled_none, filled_next, filled_end}
use Rattle.relation.proofs.Covers.{covers_inside, covers_row}
use borrow.Author.Rules.{rules}
use Rattle.relation.proofs.reduction.reduced.Goals as goal

pub loop-u-init : goal.loop-u-init
loop-u-init c = let a = c.args in filled_none (covers a.n (holds a.t)) a.n

pub beyond-far-requires : goal.beyond-far-requires
beyond-far-requires c =
    let p = c.requires in record {
      n_bound = (search rules, search rules);
      strict = p.strict;
      inside = p.inside;
      by_index = c.domain-dom.ensures;
    }

pub loop-u-preserved : goal.loop-u-preserved
loop-u-preserved c =
    let l = c.loop-u in
    let e = row_read c.args.t l.u c.index-t-u.result (search rules) in
    filled_next (covers c.args.n (holds c.args.t)) c.args.n l.r l.u l.invariant (search rules) (search rules) c.difference.result
    (covers_row c.args.t c.args.n l.u c.difference.result _ (rw e at c.difference.ensures) c.beyond-far.ensures)

pub returns : goal.returns
returns c =
    let l = c.loop-u in
    filled_end (covers c.args.n (holds c.args.t)) c.args.n l.r l.u l.invariant c.loop-u-test.false
    (λ u v e. (covers_inside c.args.t c.args.n c.requires.inside u v e).0)
