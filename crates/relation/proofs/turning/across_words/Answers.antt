-- `relation::turning::across_words` meets its contract.
use Prim.Native.Nat.{ℕ, ◌+◌}
use mathlib.Core.Path.{refl, ap}
use Rattle.relation.proofs.Digits.{near_itself}
use Rattle.relation.proofs.Tables.{row_read}
use Rattle.relation.proofs.Exchanging.{paired_none, paired_next, paired_end, until_rows}
use borrow.Author.Rules.{rules}
use Rattle.relation.proofs.turning.across_words.Goals as goal

pub loop-u-init : goal.loop-u-init
loop-u-init c = paired_none 6 c.args.t.now 64 c.requires

pub loop-u-preserved : goal.loop-u-preserved
loop-u-preserved c =
    let l = c.loop-u in
    let here = near_itself l.u (search rules) in
    let a = row_read l.t l.u c.index-t-u.result (search rules) in
    let b = row_read l.t (l.u + 64) c.index-t-x.result (search rules) in
    paired_next 6 c.args.t.now 64 l.t l.u l.invariant _ _ here (ap (λ (x : ℕ). x + 64) here) (search rules) _ _
    (rw (a, b) at c.first_words.ensures) (rw (a, b) at c.second_words.ensures) (search rules)

pub returns : goal.returns
returns c =
    let l = c.loop-u in
    let t = c.args.t.now in record {
      t_len = l.invariant.rows;
      by_index = paired_end 6 t 64 l.t l.u l.invariant 7 refl c.loop-u-test.false (search rules) (until_rows t c.requires);
    }
