-- `parts::part_of`: the search ends with nothing to look at, or nothing to find.
use Prim.Native.Nat.{ℕ, ◌+◌}
use mathlib.Core.Path.{◌≡◌, sym, ap, subst, ◌∙◌}
use mathlib.Core.List.{List}
use mathlib.Core.Bool.{true, false, not}
use native.Mathlib.Nat.{add_comm}
use native.Mathlib.Omega.{arith}
use Rattle.poset.proofs.Laws.{eqb-true}
use Rattle.relation.specs.Table.{has, holds}
use Rattle.relation.proofs.Tables.{row_read}
use Rattle.writer.proofs.Searching.{search_start, search_next, search_end, search_all, todo_jobs, rest_jobs, empty}
use Rattle.writer.specs.Parts.{size_of, PartOf}
use Rattle.writer.proofs.Numbering.{jobs_within, gone_none, gone_next, marked_found, marked_all}
use Rattle.writer.proofs.Counting.{few_members, none_jobs, cut_size, search_counts}
use Rattle.writer.proofs.parts.part_of.Goals.{After-s, After-difference-fewer, After-difference-rest, Then-not-inhabited}
use Rattle.writer.proofs.parts.part_of.Goals as goal

-- x is one of them
member : (c : After-s) → has c.s.inside.jobs c.args.x ≡ true
member c = ap (λ (s : List ℕ). has s c.args.x) c.s.view_is ∙ c.requires

pub only-todo-requires : goal.only-todo-requires
only-todo-requires c = c.s.invariant.small c.args.x (member (goal.at.only-todo-requires c).After-s)

-- x and the others are all
sum-start : (c : goal.After-difference-rest) → size_of c.only-todo.result + size_of c.difference-rest.result ≡ size_of c.s.inside.jobs
sum-start c =
    let todo = c.only-todo in
    add_comm (size_of todo.result) (size_of c.difference-rest.result)
    ∙ cut_size c.s.inside.jobs c.difference-rest.result todo.result
    (λ v p. ap (has c.s.inside.jobs) (sym (eqb-true c.args.x v (sym (todo.ensures v) ∙ p))) ∙ (ap (λ (s : List ℕ). has s c.args.x) c.s.view_is ∙ c.requires)) c.difference-rest.ensures

pub loop-all-init : goal.loop-all-init
loop-all-init c = (
  search_start (holds c.args.near.now) c.s.inside.jobs c.args.x c.only-todo.result c.difference-rest.result (member (goal.at.loop-all-init c).After-s)
      c.only-todo.ensures c.difference-rest.ensures,
  gone_none (holds c.args.near.now) c.s.inside.jobs c.args.x c.args.number c.args.numbers.now c.only-todo.result
      c.difference-rest.result c.told-numbers c.difference-rest.ensures,
  omega (arith, sum-start (goal.at.loop-all-init c).After-difference-rest),
)

-- nothing is left to look at
looked : (c : Then-not-inhabited) → (v : ℕ) → has c.loop-all.todo v ≡ false
looked c =
    empty c.loop-all.todo
    (todo_jobs (holds c.args.near.now) c.s.inside.jobs c.args.x c.loop-all.todo c.loop-all.rest c.s.invariant.small c.loop-all.invariant.0)
    (sym c.inhabited-in-loop-all.ensures ∙ c.if-not-inhabited.true)

pub invariant_of-result : goal.invariant_of-result
invariant_of-result c =
    let l = c.loop-all in
    record {
      small = jobs_within c.s.inside.jobs c.difference.result (λ v. not (has l.rest v)) c.s.invariant.small c.difference.ensures;
      counted = omega (
        arith,
        l.invariant.2,
        none_jobs l.todo (looked (goal.at.invariant_of-result c).Then-not-inhabited),
        cut_size c.s.inside.jobs c.difference.result l.rest l.invariant.0.rest_in c.difference.ensures,
      );
    }

pub returns-then-not-inhabited : goal.returns-then-not-inhabited
returns-then-not-inhabited c =
    let near = holds c.args.near.now in
    let l = c.loop-all in
    let none = looked (goal.at.returns-then-not-inhabited c).Then-not-inhabited in record {
      part_of =
          subst (λ (s : List ℕ). PartOf near s c.args.x c.difference.result) c.s.view_is
          (search_end near c.s.inside.jobs c.args.x l.todo l.rest c.difference.result l.invariant.0 none c.difference.ensures);
      marked = marked_found near c.s.inside.jobs c.args.x c.args.number c.args.numbers.now l.todo l.rest l.numbers
          l.invariant.0 l.invariant.1 c.difference.result none c.difference.ensures;
    }

pub smallest-y-requires : goal.smallest-y-requires
smallest-y-requires c = sym c.inhabited-in-loop-all.ensures ∙ c.if-not-inhabited.false

pub overflow_add-size : goal.overflow_add-size
overflow_add-size c =
    let l = c.loop-all in
    record { fits = omega (arith, l.invariant.2, few_members c.s.inside.jobs) }

pub without_smallest-others-requires : goal.without_smallest-others-requires
without_smallest-others-requires c =
    sym c.inhabited-in-loop-all.ensures ∙ c.if-not-inhabited.false

-- one job is gone through
turned : (c : goal.After-difference-fewer)
    → let l = c in
    (size_of c.union-more.result + size_of c.difference-fewer.result) + 1 ≡ size_of l.loop-all.todo + size_of l.loop-all.rest
unfolding holds
turned c =
    let y = c.smallest-y in
    let row = row_read c.args.near.now y.result c.index-near-y.result (omega (arith, y.ensures.small)) in
    search_counts (holds c.args.near.now y.result) c.loop-all.todo c.loop-all.rest c.intersection-found.result
    c.without_smallest-others.result c.union-more.result c.difference-fewer.result y.result y.ensures
    (λ v p. (c.loop-all.invariant.0.todo_in v p).1) (rw row at c.intersection-found.ensures) c.without_smallest-others.ensures
    c.union-more.ensures c.difference-fewer.ensures

pub loop-all-smaller : goal.loop-all-smaller
loop-all-smaller c = omega (arith, turned (goal.at.loop-all-smaller c).After-difference-fewer)

pub loop-all-preserved : goal.loop-all-preserved
unfolding holds
loop-all-preserved c =
    let y = c.smallest-y in
    let row = row_read c.args.near.now y.result c.index-near-y.result (omega (arith, y.ensures.small)) in
    let f = c.intersection-found in
    let found = rw row at f.ensures in
    let o = c.without_smallest-others in
    let m = c.union-more in
    let near = holds c.args.near.now in (
      search_next near c.s.inside.jobs c.args.x c.loop-all.todo c.loop-all.rest y.result f.result o.result m.result c.difference-fewer.result
          c.loop-all.invariant.0 y.ensures found o.ensures m.ensures c.difference-fewer.ensures,
      gone_next near c.s.inside.jobs c.args.x c.args.number c.args.numbers.now c.loop-all.todo c.loop-all.rest c.loop-all.numbers
          c.loop-all.invariant.0 c.loop-all.invariant.1 y.result f.result o.result m.result c.difference-fewer.result y.ensures found
          o.ensures m.ensures c.difference-fewer.ensures,
      omega (arith, c.loop-all.invariant.2, turned (goal.at.loop-all-preserved c).After-difference-fewer),
    )

pub mark-requires : goal.mark-requires
mark-requires c =
    todo_jobs (holds c.args.near.now) c.s.inside.jobs c.args.x c.loop-all.todo c.loop-all.rest c.s.invariant.small c.loop-all.invariant.0

pub returns : goal.returns
returns c =
    let near = holds c.args.near.now in
    let l = c.loop-all in
    let none = empty l.rest (rest_jobs near c.s.inside.jobs c.args.x l.todo l.rest c.s.invariant.small l.invariant.0)
    (sym c.inhabited.ensures ∙ c.loop-all-test.false) in record {
      part_of =
          subst (λ (s : List ℕ). PartOf near s c.args.x c.s.inside.jobs) c.s.view_is
          (search_all near c.s.inside.jobs c.args.x l.todo l.rest l.invariant.0 none);
      marked = marked_all near c.s.inside.jobs c.args.x c.args.number c.args.numbers.now l.todo l.rest l.numbers
          l.invariant.0 l.invariant.1 c.mark.new.numbers none c.mark.ensures;
    }
