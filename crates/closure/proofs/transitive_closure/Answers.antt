-- `closure::transitive_closure` meets its contract.
use mathlib.Core.Path.{refl, sym, ◌∙◌}
use Rattle.relation.specs.Table.{holds}
use Rattle.relation.proofs.Tables.{holds_blank}
use Rattle.closure.proofs.Onward.{count_cyclic}
use Rattle.closure.proofs.transitive_closure.Goals as goal

pub finish_all-requires : goal.finish_all-requires
finish_all-requires c =
    record {
      n_bound = (c.requires.n_bound, refl);
      inside = c.requires.inside;
      by_index = holds_blank 128;
    }

pub returns-then-finish_all : goal.returns-then-finish_all
returns-then-finish_all c = let e = c.finish_all.ensures in record {
  by_index = e.v_after c.if-finish_all.true;
  joins_after = e.joins_after c.if-finish_all.true;
}

pub returns : goal.returns
returns c =
    let a = c.args in record {
      by_index = c.passed.ensures.by_index;
      joins_after = c.passed.ensures.joins_after ∙ sym (count_cyclic a.n (holds a.t) (c.finish_all.ensures.cyclic c.if-finish_all.false));
    }
