-- The invariant: the lines of the arcs passed are written, each of at most eight bytes.
use Rattle.printer.proofs.Arcs.{pair_line}
use Rattle.printer.proofs.Loops.{Turn}
use Rattle.printer.proofs.page.Page.arcs.Given as goal

abbrev pub invariant-loop-u : goal.invariant-loop-u
invariant-loop-u l = Turn pair_line 8 l.arcs l.initial.self l.self l.u-index
