-- Runs of small records, and bytes that are none; earliest starts in small trees.
use Prim.Native.Nat.{ℕ}
use mathlib.Core.Path.{◌≡◌, refl}
use mathlib.Core.List.{List, [], ◌∷◌, map}
use lib.ListN.{length}
use Rattle.poset.specs.Lists.{exists, member, occurrences, up_from, below, only_if}
use Rattle.poset.specs.Tree.{series, parallel, Tree, leaf, node, last, more, leaves, least, alternates, outranks, ahead, canonical}
use Rattle.record.specs.Bits.{bits, bits_of}
use Rattle.record.specs.Layout.{hours_of}
use Rattle.record.specs.Decode.{read_bits, kind_of, read_forest, grouped, read_tree, every, fills, spanning, beside, decode}
use Rattle.analysis.specs.Answer.{answer}
use Rattle.longest.specs.Longest.{joined_runs, longest}
use Rattle.longest.specs.Outcome.{RunOutcome, run_outcome}
use Rattle.longest.specs.Schedules.{waits, earliest_start}

-- bytes, and what is told of them
abbrev pub Example : Type 0
Example = List ℕ × RunOutcome

abbrev told : ℕ → ℕ → List ℕ → RunOutcome
told number total jobs = record { verdict = answer number 0 0 0 0; total = total; jobs = jobs }

abbrev pub examples : List Example
examples =
    -- one job of 7 hours
    (0 ∷ 0 ∷ 0 ∷ 224 ∷ [], told 0 7 (0 ∷ []))
    -- 0 (3 hours) and 1 (2) side by side, then 2 (7), then 3 (2); beside them 4 (4)
    ∷ (9 ∷ 129 ∷ 129 ∷ 96 ∷ 64 ∷ 0 ∷ 12 ∷ 4 ∷ 0 ∷ 128 ∷ 128 ∷ 28 ∷ 12 ∷ 0 ∷ 129 ∷ 0 ∷ 16 ∷ [], told 0 12 (0 ∷ 2 ∷ 3 ∷ []))
    -- 0 (3) before 1 (2), and beside them 2 (1) before 3 (4): 5 hours each
    ∷ (7 ∷ 129 ∷ 128 ∷ 128 ∷ 0 ∷ 24 ∷ 8 ∷ 1 ∷ 64 ∷ 64 ∷ 128 ∷ 4 ∷ 12 ∷ 1 ∷ 0 ∷ [], told 0 5 (0 ∷ 1 ∷ []))
    -- 1 (2) before 2 (3), and beside them 0 (5): the branch with most jobs is the first, and of the record by smallest job nothing is told
    ∷ (5 ∷ 129 ∷ 128 ∷ 128 ∷ 128 ∷ 16 ∷ 16 ∷ 1 ∷ 128 ∷ 0 ∷ 40 ∷ [], told 0 5 (1 ∷ 2 ∷ []))
    ∷ (5 ∷ 129 ∷ 0 ∷ 0 ∷ 88 ∷ 8 ∷ 8 ∷ 1 ∷ 1 ∷ 0 ∷ 24 ∷ [], told 11 0 ([]))
    -- three jobs of 5 hours side by side
    ∷ (5 ∷ 130 ∷ 0 ∷ 0 ∷ 80 ∷ 16 ∷ 5 ∷ 2 ∷ 0 ∷ 80 ∷ [], told 0 5 (0 ∷ []))
    -- four jobs of 0 hours one after the other
    ∷ (7 ∷ 3 ∷ 0 ∷ 0 ∷ 0 ∷ 16 ∷ 0 ∷ 2 ∷ 0 ∷ 0 ∷ 48 ∷ 0 ∷ [], told 0 0 (0 ∷ 1 ∷ 2 ∷ 3 ∷ []))
    -- the first of these with a byte more, and none
    ∷ (0 ∷ 0 ∷ 0 ∷ 224 ∷ 0 ∷ [], told 11 0 ([]))
    ∷ ([], told 11 0 ([]))
    ∷ []

pub shown_runs : map (λ (e : Example). run_outcome e.0) examples ≡ map (λ (e : Example). e.1) examples
unfolding occurrences up_from below only_if leaves least alternates outranks ahead canonical
    bits bits_of read_bits kind_of read_forest grouped read_tree every fills spanning beside decode joined_runs longest run_outcome
shown_runs = refl

-- a tree, the hours of its jobs, and their earliest starts
abbrev pub Plan : Type 0
Plan = Tree × List ℕ × List ℕ

abbrev pub starts : Plan → List ℕ
starts p = map (earliest_start (hours_of p.1) p.0) (below (length p.1))

abbrev pub plans : List Plan
plans =
    -- 0 (40 hours), then 1 (16) and 2 (16) side by side, then 3 (24); beside them 4 (8)
    (
      node parallel (node series (leaf 0) (more (node parallel (leaf 1) (last (leaf 2))) (last (leaf 3)))) (last (leaf 4)),
      40 ∷ 16 ∷ 16 ∷ 24 ∷ 8 ∷ [],
      0 ∷ 40 ∷ 40 ∷ 56 ∷ 0 ∷ [],
    )
    -- 4 (3), beside it 1 (2) before 3 (5); then 0 (1) and 2 (0) side by side; then 5 (6): all wait for the longest run ahead of them
    ∷ (
      node series (node parallel (node series (leaf 1) (last (leaf 3))) (last (leaf 4))) (more (node parallel (leaf 0) (last (leaf 2))) (last (leaf 5))),
      1 ∷ 2 ∷ 0 ∷ 5 ∷ 3 ∷ 6 ∷ [],
      7 ∷ 0 ∷ 7 ∷ 2 ∷ 0 ∷ 8 ∷ [],
    )
    ∷ []

pub shown_starts : map starts plans ≡ map (λ (p : Plan). p.2) plans
unfolding exists member up_from below leaves joined_runs longest waits earliest_start
shown_starts = refl
