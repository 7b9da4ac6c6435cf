-- `analysis::hours::large` meets its contract.
use mathlib.Core.Path.{refl}
use Rattle.analysis.proofs.hours.large.Goals as goal

pub returns : goal.returns
returns c = refl
