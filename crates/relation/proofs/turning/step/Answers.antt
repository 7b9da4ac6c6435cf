-- `relation::turning::step` meets its contract.
use borrow.Author.Rules.{rules}
use native.Mathlib.Omega.{arith}
use mathlib.Core.Path.{◌≡◌}
use Rattle.relation.proofs.Exchanging.{asked_within}
use Rattle.relation.proofs.turning.step.Goals as goal

pub within_words-requires : goal.within_words-requires
within_words-requires c =
    let a = asked_within 0 (search rules) _ _ _ c.in-0.is (c.requires.e_lt_w, c.requires.until) in
    record { e_bound = a.0; by_index = a.1.0; until = a.1.1 }

pub within_words-requires-in-1 : goal.within_words-requires-in-1
within_words-requires-in-1 c =
    let a = asked_within 1 (search rules) _ _ _ c.in-1.is (c.requires.e_lt_w, c.requires.until) in
    record { e_bound = a.0; by_index = a.1.0; until = a.1.1 }

pub within_words-requires-in-2 : goal.within_words-requires-in-2
within_words-requires-in-2 c =
    let a = asked_within 2 (search rules) _ _ _ c.in-2.is (c.requires.e_lt_w, c.requires.until) in
    record { e_bound = a.0; by_index = a.1.0; until = a.1.1 }

pub within_words-requires-in-3 : goal.within_words-requires-in-3
within_words-requires-in-3 c =
    let a = asked_within 3 (search rules) _ _ _ c.in-3.is (c.requires.e_lt_w, c.requires.until) in
    record { e_bound = a.0; by_index = a.1.0; until = a.1.1 }

pub within_words-requires-in-4 : goal.within_words-requires-in-4
within_words-requires-in-4 c =
    let a = asked_within 4 (search rules) _ _ _ c.in-4.is (c.requires.e_lt_w, c.requires.until) in
    record { e_bound = a.0; by_index = a.1.0; until = a.1.1 }

pub within_words-requires-in-5 : goal.within_words-requires-in-5
within_words-requires-in-5 c =
    let a = asked_within 5 (search rules) _ _ _ c.in-5.is (c.requires.e_lt_w, c.requires.until) in
    record { e_bound = a.0; by_index = a.1.0; until = a.1.1 }

pub returns-in-0 : goal.returns-in-0
returns-in-0 c = record { t_len = c.within_words.ensures.t_len; by_index = rw c.in-0.is c.within_words.ensures.by_index_2 }

pub returns-in-1 : goal.returns-in-1
returns-in-1 c = record { t_len = c.within_words-in-1.ensures.t_len; by_index = rw c.in-1.is c.within_words-in-1.ensures.by_index_2 }

pub returns-in-2 : goal.returns-in-2
returns-in-2 c = record { t_len = c.within_words-in-2.ensures.t_len; by_index = rw c.in-2.is c.within_words-in-2.ensures.by_index_2 }

pub returns-in-3 : goal.returns-in-3
returns-in-3 c = record { t_len = c.within_words-in-3.ensures.t_len; by_index = rw c.in-3.is c.within_words-in-3.ensures.by_index_2 }

pub returns-in-4 : goal.returns-in-4
returns-in-4 c = record { t_len = c.within_words-in-4.ensures.t_len; by_index = rw c.in-4.is c.within_words-in-4.ensures.by_index_2 }

pub returns-in-5 : goal.returns-in-5
returns-in-5 c = record { t_len = c.within_words-in-5.ensures.t_len; by_index = rw c.in-5.is c.within_words-in-5.ensures.by_index_2 }

pub returns-in_default : goal.returns-in_default
returns-in_default c =
    let e : c.args.e ≡ 6 = omega arith in
    record { t_len = c.across_words.ensures.t_len; by_index = rw e c.across_words.ensures.by_index }
