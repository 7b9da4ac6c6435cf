-- `closure::passes::pass` meets its contract.
use borrow.Author.Rules.{rules}
use Prim.Native.Nat.{◌-◌}
use mathlib.Core.Path.{sym, ◌∙◌}
use Rattle.closure.proofs.Warshall.{step_idle, step_clear, step_joined, joins_idle, joins_busy, in_low, in_high}
use Rattle.closure.proofs.passes.pass.Goals as goal

pub returns-then-not-inhabited : goal.returns-then-not-inhabited
returns-then-not-inhabited c =
    let low = c.args.low.now in
    let high = c.args.high.now in
    let k = c.args.k in
    let idle = rw c.from_words.ensures at (sym c.inhabited.ensures) ∙ c.if-not-inhabited.true in record {
      low_len = (c.requires.n_bound.2, c.requires.n_bound.3);
      by_index_2 = step_idle low high k idle;
      value = joins_idle low high k idle c.args.n;
    }

pub spread-requires : goal.spread-requires
spread-requires c =
    let low = c.args.low.now in
    let high = c.args.high.now in
    let k = c.args.k in record {
      n_bound = (search rules, search rules, c.requires.n_bound.2, c.requires.n_bound.3);
      by_index = step_clear low high k low k (in_low low high k c.if-k-lt64.true) c.args.n c.requires.by_index;
    }

pub spread-requires-else-k-lt64 : goal.spread-requires-else-k-lt64
spread-requires-else-k-lt64 c =
    let low = c.args.low.now in
    let high = c.args.high.now in
    let k = c.args.k in record {
      n_bound = (search rules, search rules, c.requires.n_bound.3, c.requires.n_bound.2);
      by_index = step_clear low high k high (k - 64) (in_high low high k c.if-k-lt64.false (search rules)) c.args.n c.requires.by_index;
    }

pub returns-then-k-lt64 : goal.returns-then-k-lt64
returns-then-k-lt64 c =
    let low = c.args.low.now in
    let high = c.args.high.now in
    let k = c.args.k in
    let same = in_low low high k c.if-k-lt64.true in
    let e = c.spread.ensures in record {
      low_len = e.col_len;
      by_index_2 = step_joined low high k low k same _ _ e.joins e.joins_2;
      value = joins_busy low high k low k same c.args.n c.requires.by_index (rw c.from_words.ensures at (sym c.inhabited.ensures) ∙ c.if-not-inhabited.false) _ e.value;
    }

pub returns-else-k-lt64 : goal.returns-else-k-lt64
returns-else-k-lt64 c =
    let low = c.args.low.now in
    let high = c.args.high.now in
    let k = c.args.k in
    let same = in_high low high k c.if-k-lt64.false (search rules) in
    let e = c.spread-else-k-lt64.ensures in record {
      low_len = (e.col_len.1, e.col_len.0);
      by_index_2 = step_joined low high k high (k - 64) same _ _ e.joins_2 e.joins;
      value = joins_busy low high k high (k - 64) same c.args.n c.requires.by_index (rw c.from_words.ensures at (sym c.inhabited.ensures) ∙ c.if-not-inhabited.false) _ e.value;
    }
