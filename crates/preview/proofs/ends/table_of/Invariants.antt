-- `ends::table_of` meets its contract.
use Rattle.preview.proofs.Joining.{Added}
use Rattle.preview.proofs.ends.table_of.Given as goal

abbrev pub invariant-loop-u : goal.invariant-loop-u
invariant-loop-u l = Added l.list l.last l.t l.u-index
