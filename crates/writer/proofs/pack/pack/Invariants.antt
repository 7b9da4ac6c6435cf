-- `pack::pack`: the fields one after another.
use Rattle.writer.proofs.Packed.{SoFar}
use Rattle.writer.proofs.pack.pack.Given as goal

abbrev pub invariant-loop-field : goal.invariant-loop-field
invariant-loop-field l = SoFar l.n l.hours l.fields l.bytes l.p l.field-index
