-- `writer_bench::repeated` meets its contract.
use Rattle.poset.specs.Decompose.{tree_of}
use Rattle.relation.specs.Table.{holds}
use Rattle.writer.specs.Written.{written}
use Rattle.writer_bench.specs.Rounds.{count_of}
use Rattle.writer_bench.proofs.Sums.{Summed}
use Rattle.writer_bench.proofs.repeated.Given as goal

abbrev pub invariant-loop-round : goal.invariant-loop-round
invariant-loop-round l = Summed (count_of (written l.n l.hours (tree_of l.n (holds l.after)))) l.rounds l.sum l._round
