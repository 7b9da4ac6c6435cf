-- Areas with room for the longest record and the most reduced arcs are never too short: 9 and 10 are not told.
use Prim.Native.Nat.{ℕ, ◌*◌, ◌≤◌}
use mathlib.Core.List.{List}
use mathlib.Core.Logic.{◌≢◌}
use native.Mathlib.Omega.{arith}
use lib.ListN.{length}
use Rattle.poset.specs.Order.{Arc, Rel, Strict, before, reduction}
use Rattle.poset.specs.Tree.{Tree, Spans, Means}
use Rattle.poset.proofs.Theorems.{reduction_fits}
use Rattle.relation.specs.Arcs.{pairs}
use Rattle.record.specs.Layout.{layout}
use Rattle.record.proofs.Theorems.{layout_length}
use Rattle.analysis.specs.Claims.{NoneHolds}
use Rattle.analysis.specs.Sentences.{limits}
use Rattle.analysis.specs.Outcome.{roomy, Outcome, refuse, accept, sheet_outcome, pair_outcome}
use Rattle.analysis.proofs.Fates.{clear_count, clear_strict}
use Rattle.analysis.proofs.Fates.{Fate, miscounted, many, untimed, overtime, outlying, looping, cyclic, crossed, long, wide, done}
use Rattle.analysis.proofs.Inputs.{SheetFate, oversize, misformed, formed, sheet_fate, PairFate, odd, even, pair_fate}

-- how long a record is, and how many reduced arcs there are
pub enough : (n : ℕ) (hours : List ℕ) (r : Rel) (t : Tree) → n ≤ 128 → Strict n r → Spans n t
    → (length (layout n hours t) ≤ roomy.record_room) × (2 * length (reduction n r) ≤ roomy.arc_room)
enough n hours r t few strict spans = ((layout_length n hours t few spans).2, omega (arith, reduction_fits n r few strict))

abbrev Roomy : Outcome → Type 0
Roomy o = (o.verdict.number ≢ 9) × (o.verdict.number ≢ 10)

module _ (n : ℕ) (hours : List ℕ) (arcs : List Arc) where
  has_room : {t : Tree} → NoneHolds (limits n hours arcs) → Means n t (before n arcs)
      → (length (layout n hours t) ≤ roomy.record_room) × (2 * length (reduction n (before n arcs)) ≤ roomy.arc_room)
  has_room {t} c m = enough n hours (before n arcs) t (clear_count n hours arcs c).1 (clear_strict n hours arcs c) m.spans

  fate_roomy : {o : Outcome} → Fate roomy n hours arcs o → Roomy o
  unfolding refuse accept
  fate_roomy (miscounted h) = (λ e. omega arith, λ e. omega arith)
  fate_roomy (many c l) = (λ e. omega arith, λ e. omega arith)
  fate_roomy (untimed c h) = (λ e. omega arith, λ e. omega arith)
  fate_roomy (overtime c f) = (λ e. omega arith, λ e. omega arith)
  fate_roomy (outlying c f) = (λ e. omega arith, λ e. omega arith)
  fate_roomy (looping c f) = (λ e. omega arith, λ e. omega arith)
  fate_roomy (cyclic c h l) = (λ e. omega arith, λ e. omega arith)
  fate_roomy (crossed c h) = (λ e. omega arith, λ e. omega arith)
  fate_roomy (long {t = t} c m p l) = absurd (omega (arith, l, (has_room c m).0))
  fate_roomy (wide c m p k l) = absurd (omega (arith, l, (has_room c m).1))
  fate_roomy (done c m p k j) = (λ e. omega arith, λ e. omega arith)

sheet_roomy : (s : List ℕ) {o : Outcome} → SheetFate roomy s o → Roomy o
unfolding refuse
sheet_roomy s (oversize l) = (λ e. omega arith, λ e. omega arith)
sheet_roomy s (misformed l e) = (λ e. omega arith, λ e. omega arith)
sheet_roomy s (formed {n = n} {hours = hours} {arcs = arcs} l f h) = fate_roomy n hours arcs h

pub never_9_or_10_sheet : (s : List ℕ) → ((sheet_outcome roomy s).verdict.number ≢ 9) × ((sheet_outcome roomy s).verdict.number ≢ 10)
never_9_or_10_sheet s = sheet_roomy s (sheet_fate roomy s)

pair_roomy : (n : ℕ) (hours list : List ℕ) {o : Outcome} → PairFate roomy n hours list o → Roomy o
unfolding refuse
pair_roomy n hours list (odd e) = (λ e. omega arith, λ e. omega arith)
pair_roomy n hours list (even e h) = fate_roomy n hours (pairs list) h

pub never_9_or_10_pairs
    : (n : ℕ) (hours list : List ℕ) → ((pair_outcome roomy n hours list).verdict.number ≢ 9) × ((pair_outcome roomy n hours list).verdict.number ≢ 10)
never_9_or_10_pairs n hours list = pair_roomy n hours list (pair_fate roomy n hours list)
