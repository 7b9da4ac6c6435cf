-- A result as one number, for a caller in C.
use Rattle.std.specs.Prelude.{ℕ, ◌+◌, ◌*◌, ◌%◌, Result, Ok, Err}
use Rattle.sheet.specs.declared.Sheet.{Sheet}
use Rattle.sheet.specs.declared.Broken.{Broken}

unfoldable pub packed : Result Sheet Broken → ℕ
packed (Ok s) = s.arcs % 1048576 + 1048576 * (1 + s.jobs)
packed (Err b) = b.at % 1048576
