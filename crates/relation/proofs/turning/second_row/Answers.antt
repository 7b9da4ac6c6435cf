-- `relation::turning::second_row` meets its contract.
use native.Mathlib.Omega.{arith}
use Rattle.relation.proofs.Words.{one_shifted, far_small}
use Rattle.relation.proofs.Exchanging.{second_within}
use borrow.Author.Rules.{rules}
use Rattle.relation.proofs.turning.second_row.Goals as goal

pub overflow_shr-a_low : goal.overflow_shr-a_low
overflow_shr-a_low c = far_small c.args.e (search rules)

pub overflow_shr-a_high : goal.overflow_shr-a_high
overflow_shr-a_high c = far_small c.args.e (search rules)

pub returns : goal.returns
returns c =
    let a = c.words.result in
    let b = c.words-2.result in
    let e = c.args.e in
    let row = second_within a b (search rules) (search rules) e (search rules) c.args.clear (search rules) c.requires.by_index in
    rw (c.from_words.ensures, ← c.words.ensures, ← c.words-2.ensures, one_shifted e (omega arith)) row
