-- Previews on small lists.
use Prim.Native.Nat.{ℕ}
use mathlib.Core.Path.{◌≡◌, refl}
use mathlib.Core.List.{List, [], ◌∷◌, map, flat_map}
use Rattle.poset.specs.Lists.{exists, keep, member, up_from, below, first, only_if}
use Rattle.poset.specs.Order.{arc, via, before, first_on_cycle_of, comparable, incomparable, is_n, first_n_of, covers, pairs_of, reduction}
use Rattle.poset.specs.Tree.{leaves, groups, outranks}
use Rattle.poset.specs.Decompose.{gather, components, sorted, placed, arranged, comes_first, parts, forest_of, group_of, decompose, tree_of}
use Rattle.relation.specs.Arcs.{pairs, place_from, place, outside, loop}
use Rattle.record.specs.Bits.{bits, packed, bytes_of}
use Rattle.record.specs.Layout.{kind_bit, more_children, tree_bits, layout}
use Rattle.analysis.specs.Answer.{Answer, answer}
use Rattle.analysis.specs.Outcome.{refuse, accept, arcs_fit, fitted, decomposed, ordered, listed, timed, arc_outcome, pair_outcome}
use Rattle.preview.specs.Outcome.{previewed}

-- a count, hours, a list, an order, and the answer
abbrev pub Example : Type 0
Example = ℕ × List ℕ × List ℕ × ℕ × ℕ × Answer

-- 0 before 1 and 2, both before 3, and 0 before 3; 4 is free
abbrev hull : List ℕ
hull = 0 ∷ 1 ∷ 0 ∷ 2 ∷ 1 ∷ 3 ∷ 2 ∷ 3 ∷ 0 ∷ 3 ∷ []

abbrev times : List ℕ
times = 40 ∷ 16 ∷ 16 ∷ 24 ∷ 8 ∷ []

abbrev pub examples : List Example
examples =
    -- accepted: said already by the list, and new
    (5, times, hull, 0, 3, answer 0 17 4 3 0)
    ∷ (5, times, hull, 3, 4, answer 0 16 5 2 0)
    -- a circle, and an N
    ∷ (5, times, hull, 3, 0, answer 7 0 0 0 0)
    ∷ (5, times, hull, 1, 4, answer 8 2 1 3 4)
    -- no job, and a job before itself: the order's place is the number of orders in the list
    ∷ (5, times, hull, 0, 5, answer 5 5 0 0 0)
    ∷ (5, times, hull, 2, 2, answer 6 5 0 0 0)
    ∷ (1, 7 ∷ [], [], 0, 0, answer 6 0 0 0 0)
    -- the list's own faults, in checking order: an odd list, the count, the hours, an order outside, one before itself
    ∷ (0, [], 1 ∷ [], 0, 1, answer 2 0 0 0 0)
    ∷ (0, [], hull, 9, 9, answer 3 0 0 0 0)
    ∷ (129, [], hull, 9, 9, answer 3 0 0 0 0)
    ∷ (5, 1 ∷ [], hull, 9, 9, answer 12 0 0 0 0)
    ∷ (2, 1 ∷ 4096 ∷ [], [], 9, 9, answer 13 1 0 0 0)
    ∷ (2, 1 ∷ 4095 ∷ [], 0 ∷ 9 ∷ [], 9, 9, answer 5 0 0 0 0)
    ∷ (2, 1 ∷ 4095 ∷ [], 0 ∷ 0 ∷ [], 9, 9, answer 5 1 0 0 0)
    ∷ (2, 1 ∷ 4095 ∷ [], 0 ∷ 0 ∷ [], 1, 1, answer 6 0 0 0 0)
    ∷ []

pub shown_previews
    : map (λ (e : Example). previewed e.0 e.1 e.2 e.3 e.4) examples ≡ map (λ (e : Example). e.5) examples
unfolding flat_map exists keep member up_from below first only_if arc via before first_on_cycle_of comparable incomparable is_n first_n_of covers pairs_of
    reduction leaves groups outranks gather components sorted placed arranged comes_first parts forest_of group_of decompose tree_of pairs place_from
    place outside loop bits packed bytes_of kind_bit more_children tree_bits layout refuse accept arcs_fit fitted decomposed ordered listed timed arc_outcome
    pair_outcome previewed
shown_previews = refl
