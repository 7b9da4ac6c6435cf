-- `hours::padded` meets its contract.
use mathlib.Core.Path.{ap₂}
use mathlib.Core.List.{◌++◌}
use lib.ListN.{length}
use Rattle.writer.proofs.Shaping.{drop_replicate}
use Rattle.analysis.proofs.hours.padded.Goals as goal

pub returns : goal.returns
returns c = ap₂ ◌++◌ c.copy_from_slice.ensures.after (drop_replicate (length c.args.hours.now) 128)
