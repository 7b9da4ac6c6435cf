-- The record that an accepted sheet or pair list gets.
use Prim.Native.Nat.{ℕ, ◌≤◌, ◌<◌}
use mathlib.Core.Path.{◌≡◌}
use mathlib.Core.List.{List}
use mathlib.Core.Logic.{◌⊎◌}
use Rattle.poset.specs.Order.{Arc, before}
use Rattle.analysis.specs.Answer.{answer}
use Rattle.analysis.specs.Outcome.{Outcome}
use Rattle.analysis.specs.Claims.{Yield}
use Rattle.reason.specs.Claims.{IsReason}
use Rattle.reason.specs.Outcome.{turned_away, reason_outcome}
use Rattle.reason.proofs.Records.{reason_14, record_verdict, record_reason}

module _ {n : ℕ} {hours : List ℕ} {arcs : List Arc} {o : Outcome} (y : Yield n hours arcs o) (u v : ℕ) where
  pub yield_told : u < n → v < n → (reason_outcome o.bytes u v).verdict ≡ answer 0 0 0 0 0
  yield_told = record_verdict o.bytes n y.tree hours y.spells u v

  pub yield_reason : u < n → v < n → IsReason y.tree (before n arcs) u v (reason_outcome o.bytes u v)
  yield_reason p q = record_reason o.bytes n y.tree hours y.spells u v p q (before n arcs) y.means

  pub yield_14 : (n ≤ u) ⊎ (n ≤ v) → reason_outcome o.bytes u v ≡ turned_away 14
  yield_14 = reason_14 u v o.bytes n y.tree hours y.spells
