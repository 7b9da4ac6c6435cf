-- The record that an accepted sheet or pair list gets.
use Prim.Native.Nat.{ℕ}
use mathlib.Core.Path.{◌≡◌}
use mathlib.Core.List.{List}
use Rattle.poset.specs.Order.{Arc, before}
use Rattle.record.specs.Layout.{hours_of}
use Rattle.analysis.specs.Answer.{answer}
use Rattle.analysis.specs.Outcome.{Outcome}
use Rattle.analysis.specs.Claims.{Yield}
use Rattle.analysis.proofs.Asked.{ask_yield}
use Rattle.longest.specs.Chains.{IsLongest}
use Rattle.longest.specs.Outcome.{run_outcome}
use Rattle.longest.specs.Schedules.{IsFewest, earliest_start}
use Rattle.longest.proofs.Records.{runs, run_longest, run_fewest}

module _ {n : ℕ} {hours : List ℕ} {arcs : List Arc} {o : Outcome} (y : Yield n hours arcs o) where
  pub yield_told : (run_outcome o.bytes).verdict ≡ answer 0 0 0 0 0
  unfolding run_outcome
  yield_told = ask_yield runs y

  pub yield_longest : IsLongest n (before n arcs) (hours_of hours) (run_outcome o.bytes).total (run_outcome o.bytes).jobs
  yield_longest = run_longest o.bytes n y.tree hours y.spells (before n arcs) y.means

  pub yield_fewest : IsFewest n (before n arcs) (hours_of hours) (earliest_start (hours_of hours) y.tree) (run_outcome o.bytes).total
  yield_fewest = run_fewest o.bytes n y.tree hours y.spells (before n arcs) y.means
