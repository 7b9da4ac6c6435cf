-- `relation::turning::first_words` meets its contract.
use Rattle.relation.proofs.Exchanging.{first_across}
use borrow.Author.Rules.{rules}
use Rattle.relation.proofs.turning.first_words.Goals as goal

pub returns : goal.returns
returns c =
    rw (c.from_words.ensures, ← c.words.ensures, ← c.words-2.ensures)
    (first_across c.words.result c.words-2.result (search rules) (search rules))
