-- `closure::finishing::finish` meets its contract.
use Prim.Native.Nat.{ℕ, ◌<◌}
use native.Mathlib.Omega.{arith}
use mathlib.Core.Path.{◌≡◌, refl, ap, ◌∙◌}
use mathlib.Core.List.{[]}
use mathlib.Core.Bool.{Bool, ◌&&◌, not}
use lib.Dec.{eqb}
use lib.ListN.{get_or, length-set}
use Rattle.relation.specs.Table.{has, holds}
use Rattle.relation.proofs.Tables.{row_read}
use Rattle.closure.proofs.Onward.{rows_next}
use Rattle.closure.proofs.Search.{rows_job, rows_room}
use Rattle.closure.proofs.finishing.finish.Goals.{After-difference, Start}
use Rattle.closure.proofs.finishing.finish.Goals as goal

at_row : (s : goal.Start) → s.args.at < 128
at_row s = rows_job s.requires.by_index_2 s.args.at s.requires.at_value

pub offset_bounds-t-at : goal.offset_bounds-t-at
offset_bounds-t-at c = omega (arith, at_row (goal.at.offset_bounds-t-at c).Start)

pub bounds-t-at : goal.bounds-t-at
bounds-t-at c = at_row (goal.at.bounds-t-at c).Start

pub joined-whole-requires : goal.joined-whole-requires
joined-whole-requires c = rows_room c.requires.by_index_2 _

pub offset_bounds-made-at : goal.offset_bounds-made-at
offset_bounds-made-at c = omega (arith, at_row (goal.at.offset_bounds-made-at c).Start)

pub bounds-made-at : goal.bounds-made-at
bounds-made-at c = at_row (goal.at.bounds-made-at c).Start

pub only-requires : goal.only-requires
only-requires c = at_row (goal.at.only-requires c).Start

-- the job leaves
but : (c : goal.After-difference) (x : ℕ) → let a = c.args in has c.difference.result x ≡ (has a.left x && not (eqb a.at x))
but c x =
    let a = c.args in
    c.difference.ensures x ∙ ap (λ (b : Bool). has a.left x && not b) (c.only.ensures x)

pub returns : goal.returns
unfolding holds
returns c =
    let a = c.args in
    let made = a.made.now in
    let row = row_read a.t.now a.at c.index-t-at.result (omega (arith, at_row (goal.at.returns c).Start)) in record {
      made_len_2 = length-set made a.at c.joined-whole.result ∙ c.requires.made_len;
      by_index_3 = but (goal.at.returns c).After-difference;
      by_index_4 = λ n p. rows_next n (holds a.t.now) made a.left a.joins.now p a.at c.requires.at_value c.requires.by_index c.difference.result
          (but (goal.at.returns c).After-difference)
          (get_or a.t.now a.at []) c.joined-whole.result (omega (arith, at_row (goal.at.returns c).Start, c.requires.made_len)) (λ x. refl)
          (rw row at c.joined-whole.ensures.by_index)
          _ (rw row at c.joined-whole.ensures.joins_after);
    }
