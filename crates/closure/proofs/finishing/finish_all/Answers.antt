-- `closure::finishing::finish_all` meets its contract.
use mathlib.Core.Path.{refl, sym, ◌∙◌}
use Rattle.poset.proofs.Laws.{clash}
use Rattle.relation.specs.Table.{holds}
use Rattle.closure.proofs.Onward.{rows_none, rows_table, rows_count}
use Rattle.closure.proofs.finishing.finish_all.Goals as goal

pub domain-left-requires : goal.domain-left-requires
domain-left-requires c = record {
  n_bound = c.requires.n_bound.0;
  inside = c.requires.inside;
}

pub loop-stack-init : goal.loop-stack-init
loop-stack-init c =
    let r = holds c.args.t.now in (
      rows_none c.args.n r c.args.made.now c.domain-left.result c.requires.n_bound.0 c.requires.inside c.requires.by_index c.domain-left.ensures,
      c.requires.n_bound.1,
      refl,
    )

pub largest-root-requires : goal.largest-root-requires
largest-root-requires c = sym c.inhabited.ensures ∙ c.loop-stack-test.true

pub follow-requires : goal.follow-requires
follow-requires c =
    let l = c.loop-stack in record {
      made_len = (l.invariant.1, l.invariant.2);
      root_value = c.largest-root.ensures.member;
      by_index = (_, l.invariant.0);
    }

pub returns-then-not-follow : goal.returns-then-not-follow
returns-then-not-follow c =
    record {
      cyclic = λ e. c.follow.ensures.cyclic c.if-not-follow.true _ c.loop-stack.invariant.0;
      v_after = λ e. absurd (clash e refl);
      joins_after = λ e. absurd (clash e refl);
    }

pub loop-stack-smaller : goal.loop-stack-smaller
loop-stack-smaller c = c.follow.ensures.left_in_bounds c.if-not-follow.false

pub loop-stack-preserved : goal.loop-stack-preserved
loop-stack-preserved c =
    (c.follow.ensures.rows c.if-not-follow.false _ c.loop-stack.invariant.0, c.follow.ensures.made_len_2.0, c.follow.ensures.made_len_2.1)

pub returns : goal.returns
returns c =
    let l = c.loop-stack in
    let none = sym c.inhabited.ensures ∙ c.loop-stack-test.false in record {
      cyclic = λ e. absurd (clash refl e);
      v_after = λ e. rows_table c.args.n (holds c.args.t.now) l.made l.left l.joins l.invariant.0 none;
      joins_after = λ e. rows_count c.args.n (holds c.args.t.now) l.made l.left l.joins l.invariant.0 none;
    }
