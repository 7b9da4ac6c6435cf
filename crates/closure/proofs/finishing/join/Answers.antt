-- `closure::finishing::join` meets its contract.
use mathlib.Core.Path.{refl}
use Rattle.closure.proofs.finishing.join.Goals as goal

pub returns : goal.returns
returns c = record {
  by_index = c.union.ensures;
  joins_after = refl;
}
