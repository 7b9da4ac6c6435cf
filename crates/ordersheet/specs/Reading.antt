-- What the program reads and what it prints then.
use Rattle.std.specs.Prelude.{ℕ, suc, Result, Ok, Err, List, [], take}
use Rattle.std.specs.declared.io.Error.{Error}
use Rattle.analysis.specs.Bounds.{longest_sheet}
use Rattle.analysis.specs.Outcome.{roomy, sheet_outcome}
use Rattle.printer.specs.Text.{printed}
use Rattle.streams.specs.declared.Filled.{Filled}

-- the bytes of the buffer: one more than the longest sheet has, which shows that an input is longer
abbrev pub buffer_size : ℕ
buffer_size = suc longest_sheet

-- the text to print for what was read: none where a read failed
abbrev pub answered : Result Filled Error → List ℕ → List ℕ
answered (Ok r) buf = printed (sheet_outcome roomy (take r.len buf))
answered (Err e) buf = []
