-- Reasons between jobs of small records, and what is turned away.
use Prim.Native.Nat.{ℕ}
use mathlib.Core.Path.{◌≡◌, refl}
use mathlib.Core.List.{List, [], ◌∷◌, map}
use Rattle.poset.specs.Lists.{exists, keep, member, occurrences, up_from, below, only_if}
use Rattle.poset.specs.Tree.{leaves, least, alternates, outranks, ahead, canonical}
use Rattle.record.specs.Bits.{bits, bits_of}
use Rattle.record.specs.Decode.{read_bits, kind_of, read_forest, grouped, read_tree, every, fills, spanning, beside, decode}
use Rattle.analysis.specs.Answer.{answer}
use Rattle.reason.specs.Lowest.{preorder, over, after, found_in, lowest, child_of, rule}
use Rattle.reason.specs.Outcome.{ReasonOutcome, turned_away, tree_reason, reason_outcome}

-- bytes, two jobs, and what is told of them
abbrev pub Example : Type 0
Example = List ℕ × ℕ × ℕ × ReasonOutcome

abbrev told : ℕ → ℕ → ℕ → ReasonOutcome
told rule position jobs = record { verdict = answer 0 0 0 0 0; rule = rule; position = position; jobs = jobs }

-- one job of 7 hours
abbrev one : List ℕ
one = 0 ∷ 0 ∷ 0 ∷ 224 ∷ []

-- 0 and 1 side by side, then 2, then 3; beside them 4. Its nodes: 0 the side group of all, 1 the chain, 2 the side group of 0 and 1, then the
-- jobs in their order.
abbrev five : List ℕ
five = 9 ∷ 129 ∷ 129 ∷ 96 ∷ 64 ∷ 0 ∷ 12 ∷ 4 ∷ 0 ∷ 128 ∷ 128 ∷ 28 ∷ 12 ∷ 0 ∷ 129 ∷ 0 ∷ 16 ∷ []

-- four jobs one after the other
abbrev four : List ℕ
four = 7 ∷ 3 ∷ 0 ∷ 0 ∷ 0 ∷ 16 ∷ 0 ∷ 2 ∷ 0 ∷ 0 ∷ 48 ∷ 0 ∷ []

-- 1 before 2, and beside them 0; and the record by smallest job
abbrev three : List ℕ
three = 5 ∷ 129 ∷ 128 ∷ 128 ∷ 128 ∷ 16 ∷ 16 ∷ 1 ∷ 128 ∷ 0 ∷ 40 ∷ []

abbrev by_smallest : List ℕ
by_smallest = 5 ∷ 129 ∷ 0 ∷ 0 ∷ 88 ∷ 8 ∷ 8 ∷ 1 ∷ 1 ∷ 0 ∷ 24 ∷ []

abbrev pub examples : List Example
examples =
    (one, 0, 0, told 1 0 1)
    ∷ (one, 0, 1, turned_away 14)
    ∷ (five, 0, 1, told 4 2 2)
    ∷ (five, 0, 2, told 2 1 4)
    ∷ (five, 3, 1, told 3 1 4)
    ∷ (five, 4, 2, told 4 0 5)
    ∷ (five, 3, 3, told 1 6 1)
    ∷ (five, 5, 0, turned_away 14)
    ∷ (five, 4, 65535, turned_away 14)
    ∷ (four, 1, 3, told 2 0 4)
    ∷ (four, 2, 1, told 3 0 4)
    -- the branch with most jobs comes first, so that job 0 stands last
    ∷ (three, 1, 2, told 2 1 2)
    ∷ (three, 0, 0, told 1 4 1)
    ∷ (by_smallest, 0, 0, turned_away 11)
    -- the first of these with a byte more, and no bytes: 11 comes ahead of 14
    ∷ (0 ∷ 0 ∷ 0 ∷ 224 ∷ 0 ∷ [], 0, 0, turned_away 11)
    ∷ ([], 200, 0, turned_away 11)
    ∷ []

pub shown_reasons : map (λ (e : Example). reason_outcome e.0 e.1 e.2) examples ≡ map (λ (e : Example). e.3) examples
unfolding exists keep member occurrences up_from below only_if leaves least alternates outranks ahead canonical
    bits bits_of read_bits kind_of read_forest grouped read_tree every fills spanning beside decode
    preorder over after found_in lowest child_of rule tree_reason reason_outcome
shown_reasons = refl
