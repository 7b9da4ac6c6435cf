-- `writer_bench::repeated` meets its contract.
use Prim.Native.Nat.{ℕ, ◌+◌, ◌*◌, ◌≤◌}
use native.Mathlib.Nat.{zero-mul}
use native.Mathlib.Omega.{arith}
use mathlib.Core.Path.{◌≡◌, sym, ap, subst, ◌∙◌}
use mathlib.Core.List.{List}
use Rattle.poset.specs.Decompose.{tree_of}
use Rattle.record.specs.Layout.{most_record_bytes}
use Rattle.relation.specs.Table.{holds}
use Rattle.writer.specs.Written.{written}
use Rattle.writer_bench.specs.Rounds.{count_of}
use Rattle.writer_bench.proofs.Sums.{Summed, summed_next, record_few}
use Rattle.writer_bench.proofs.repeated.Goals.{Joined-write_record, Start, in-Some, in_default}
use Rattle.writer_bench.proofs.repeated.Goals as goal

abbrev bytes : ℕ → List ℕ → List (List ℕ) → ℕ
bytes n hours after = count_of (written n hours (tree_of n (holds after)))

few : (s : goal.Start) → bytes s.args.n s.args.hours.now s.args.after ≤ most_record_bytes
few s = record_few s.args.n s.args.hours.now s.requires.n_nonzero.1 (holds s.args.after) s.requires.strict

-- what a round adds
added : (c : goal.Joined-write_record) → c.match-write_record.sum ≡ c.loop-round.sum + bytes c.args.n c.args.hours.now c.args.after
added c =
    elim c.match-write_record.branch [
      | in-Some w ↦ w.sum-is ∙ ap (λ k. c.loop-round.sum + k) (ap count_of (sym w.in-Some.is ∙ c.write_record.ensures))
      | in_default w ↦ let none = ap count_of (sym w.in_default.is ∙ c.write_record.ensures) in omega (arith, w.sum-is, none)
    ]

pub loop-round-init : goal.loop-round-init
loop-round-init c = record { within = omega arith; sum_is = sym (zero-mul (bytes c.args.n c.args.hours.now c.args.after)); few = omega arith }

pub write_record-requires : goal.write_record-requires
write_record-requires c = record {
  n_nonzero = (c.requires.n_nonzero.0, c.requires.n_nonzero.1);
  strict = c.requires.strict;
  inside = c.requires.inside;
  by_index = c.requires.by_index;
  all_below = c.requires.all_below;
}

pub overflow_add-sum : goal.overflow_add-sum
overflow_add-sum c =
    let l = c.loop-round in
    let count = ap count_of (sym c.in-Some.is ∙ c.write_record.ensures) in
    record {
      fits = omega (arith, l.invariant.few, l.invariant.within, c.requires.n_nonzero.2, count, few (goal.at.overflow_add-sum c).Start);
    }

pub loop-round-preserved : goal.loop-round-preserved
loop-round-preserved c =
    let l = c.loop-round in
    let each = bytes c.args.n c.args.hours.now c.args.after in
    subst (λ k. Summed each c.args.rounds k (l._round + 1)) (sym (added c))
    (summed_next each c.args.rounds l.sum l._round c.loop-round-test.true (few (goal.at.loop-round-preserved c).Start) l.invariant)

pub returns : goal.returns
returns c =
    let l = c.loop-round in
    let e : l._round ≡ c.args.rounds = omega (arith, l.invariant.within, c.loop-round-test.false) in
    l.invariant.sum_is ∙ ap (λ a. a * bytes c.args.n c.args.hours.now c.args.after) e
