-- Gangs of small records, and bytes that are none.
use Prim.Native.Nat.{ℕ}
use mathlib.Core.Path.{◌≡◌, refl}
use mathlib.Core.List.{List, [], ◌∷◌, map}
use Rattle.poset.specs.Lists.{exists, keep, member, occurrences, up_from, below, only_if}
use Rattle.poset.specs.Tree.{leaves, least, alternates, outranks, ahead, canonical}
use Rattle.record.specs.Bits.{bits, bits_of}
use Rattle.record.specs.Decode.{read_bits, kind_of, read_forest, grouped, read_tree, every, fills, spanning, beside, decode}
use Rattle.analysis.specs.Answer.{answer}
use Rattle.gangs.specs.Gangs.{joined_gangs, gangs_from, gang_count, gang, gang_hours}
use Rattle.gangs.specs.Outcome.{GangOutcome, gang_outcome}

-- bytes, and what is told of them
abbrev pub Example : Type 0
Example = List ℕ × GangOutcome

abbrev told : ℕ → ℕ → List ℕ → List ℕ → GangOutcome
told number count hours gangs = record { verdict = answer number 0 0 0 0; count = count; hours = hours; gangs = gangs }

abbrev pub examples : List Example
examples =
    -- one job of 7 hours
    (0 ∷ 0 ∷ 0 ∷ 224 ∷ [], told 0 1 (7 ∷ []) (0 ∷ []))
    -- 0 (3 hours) and 1 (2) side by side, then 2 (7), then 3 (2); beside them 4 (4)
    ∷ (
      9 ∷ 129 ∷ 129 ∷ 96 ∷ 64 ∷ 0 ∷ 12 ∷ 4 ∷ 0 ∷ 128 ∷ 128 ∷ 28 ∷ 12 ∷ 0 ∷ 129 ∷ 0 ∷ 16 ∷ [],
      told 0 3 (12 ∷ 2 ∷ 4 ∷ []) (0 ∷ 1 ∷ 0 ∷ 0 ∷ 2 ∷ []),
    )
    -- 0 (3) and 1 (2) side by side, and then 2 (4), 3 (1) and 4 (5) side by side
    ∷ (
      9 ∷ 1 ∷ 192 ∷ 128 ∷ 0 ∷ 24 ∷ 8 ∷ 1 ∷ 96 ∷ 128 ∷ 128 ∷ 16 ∷ 12 ∷ 0 ∷ 65 ∷ 0 ∷ 20 ∷ [],
      told 0 3 (7 ∷ 3 ∷ 5 ∷ []) (0 ∷ 1 ∷ 0 ∷ 1 ∷ 2 ∷ []),
    )
    -- 0 (3) before 1 (2), and beside them 2 (1) before 3 (4)
    ∷ (
      7 ∷ 129 ∷ 128 ∷ 128 ∷ 0 ∷ 24 ∷ 8 ∷ 1 ∷ 64 ∷ 64 ∷ 128 ∷ 4 ∷ 12 ∷ 1 ∷ 0 ∷ [],
      told 0 2 (5 ∷ 5 ∷ []) (0 ∷ 0 ∷ 1 ∷ 1 ∷ []),
    )
    -- 1 (2) before 2 (3), and beside them 0 (5): the branch with most jobs has the first gang, and of the record by smallest job nothing is told
    ∷ (5 ∷ 129 ∷ 128 ∷ 128 ∷ 128 ∷ 16 ∷ 16 ∷ 1 ∷ 128 ∷ 0 ∷ 40 ∷ [], told 0 2 (5 ∷ 5 ∷ []) (1 ∷ 0 ∷ 0 ∷ []))
    ∷ (5 ∷ 129 ∷ 0 ∷ 0 ∷ 88 ∷ 8 ∷ 8 ∷ 1 ∷ 1 ∷ 0 ∷ 24 ∷ [], told 11 0 ([]) ([]))
    -- three jobs of 5 hours side by side
    ∷ (5 ∷ 130 ∷ 0 ∷ 0 ∷ 80 ∷ 16 ∷ 5 ∷ 2 ∷ 0 ∷ 80 ∷ [], told 0 3 (5 ∷ 5 ∷ 5 ∷ []) (0 ∷ 1 ∷ 2 ∷ []))
    -- four jobs of 0 hours one after the other
    ∷ (7 ∷ 3 ∷ 0 ∷ 0 ∷ 0 ∷ 16 ∷ 0 ∷ 2 ∷ 0 ∷ 0 ∷ 48 ∷ 0 ∷ [], told 0 1 (0 ∷ []) (0 ∷ 0 ∷ 0 ∷ 0 ∷ []))
    -- the first of these with a byte more, and no bytes
    ∷ (0 ∷ 0 ∷ 0 ∷ 224 ∷ 0 ∷ [], told 11 0 ([]) ([]))
    ∷ ([], told 11 0 ([]) ([]))
    ∷ []

pub shown_gangs : map (λ (e : Example). gang_outcome e.0) examples ≡ map (λ (e : Example). e.1) examples
unfolding exists keep member occurrences up_from below only_if leaves least alternates outranks ahead canonical
    bits bits_of read_bits kind_of read_forest grouped read_tree every fills spanning beside decode joined_gangs gangs_from gang_count gang gang_hours
    gang_outcome
shown_gangs = refl
