-- Each read that gave something is one more.
use Rattle.std.proofs.Common.{rules, arith, ◌≡◌, Err}
use Rattle.std.proofs.KnownBytes.{Consumes-nil}
use Rattle.streams.specs.Reading.{none, next, full, ended, failed}
use Rattle.streams.proofs.Counts.{more_count}
use Rattle.streams.proofs.Consumed.{consumes_more}
use Rattle.streams.proofs.fill.Goals as goal

pub loop-filled-init : goal.loop-filled-init
loop-filled-init g c = record { within = omega arith; same = search rules; reads = none; bytes = Consumes-nil _ }

pub returns-in_err-filled-clause-reads : goal.returns-in_err-filled-clause-reads
returns-in_err-filled-clause-reads g c =
    let e : c.from_residual.result ≡ Err c.in_err-filled.field-0.0 = search rules in
    rw e (failed c.loop-filled.invariant.reads (omega arith) c.in_err-filled.ensures.reads)

pub loop-filled-preserved : goal.loop-filled-preserved
loop-filled-preserved g c =
    let before = c.loop-filled.invariant in
    let read = c.in_ok-filled.ensures in
    let count = more_count read.reads in
    record {
      within = omega arith;
      same = omega arith;
      reads = next before.reads (omega arith) read.reads (omega arith);
      bytes = consumes_more _ _ _ _ _ _ _ count.0 read.reads.stay before.bytes read.bytes.0;
    }

pub returns-after-loop-filled-clause-reads : goal.returns-after-loop-filled-clause-reads
returns-after-loop-filled-clause-reads g c = full c.loop-filled.invariant.reads (omega arith)

pub returns-then-filled-eq0-clause-reads : goal.returns-then-filled-eq0-clause-reads
returns-then-filled-eq0-clause-reads g c = ended c.loop-filled.invariant.reads (omega arith) c.in_ok-filled.ensures.reads (omega arith)
