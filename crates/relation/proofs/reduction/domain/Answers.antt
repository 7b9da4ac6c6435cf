-- `relation::reduction::domain` meets its contract.
use native.Mathlib.Omega.{arith}
use Rattle.poset.specs.Lists.{exists, below}
use Rattle.poset.proofs.Laws.{any_found}
use Rattle.relation.specs.Table.{holds}
use Rattle.relation.proofs.Covers.{chosen_row}
use borrow.Author.Rules.{rules}
use Rattle.relation.proofs.reduction.domain.Goals as goal
use Rattle.relation.proofs.reduction.domain.Goals.{then-n-lt64, else-n-lt64}

pub inhabited_rows-requires : goal.inhabited_rows-requires
inhabited_rows-requires c = elim c.if-n-lt64.branch [ then-n-lt64 w ↦ search rules | else-n-lt64 w ↦ search rules ]

pub inhabited_rows-requires-2 : goal.inhabited_rows-requires-2
inhabited_rows-requires-2 c = elim c.if-n-lt64.branch [ then-n-lt64 w ↦ search rules | else-n-lt64 w ↦ search rules ]

pub returns : goal.returns
returns c =
    rw c.from_words.ensures
    (chosen_row (λ w. exists (holds c.args.t.now w) (below 128)) c.args.n
    (λ w e. let f = any_found (holds c.args.t.now w) (below 128) e in (c.requires.inside w f.0 f.2).0)
    (search rules) c.if-n-lt64.half _ _
    (elim c.if-n-lt64.branch [ then-n-lt64 w ↦ omega arith | else-n-lt64 w ↦ omega arith ])
    c.inhabited_rows.ensures c.inhabited_rows-2.ensures)
