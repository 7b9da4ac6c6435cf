-- `relation::turning::first_row` meets its contract.
use native.Mathlib.Omega.{arith}
use Rattle.relation.proofs.Words.{one_shifted, far_small}
use Rattle.relation.proofs.Exchanging.{first_within}
use borrow.Author.Rules.{rules}
use Rattle.relation.proofs.turning.first_row.Goals as goal

pub overflow_shl-b_low : goal.overflow_shl-b_low
overflow_shl-b_low c = far_small c.args.e (search rules)

pub overflow_shl-b_high : goal.overflow_shl-b_high
overflow_shl-b_high c = far_small c.args.e (search rules)

pub returns : goal.returns
returns c =
    let a = c.words.result in
    let b = c.words-2.result in
    let e = c.args.e in
    let row = first_within a b (search rules) (search rules) e (search rules) c.args.clear (search rules) c.requires.by_index in
    rw (c.from_words.ensures, ← c.words.ensures, ← c.words-2.ensures, one_shifted e (omega arith)) row
