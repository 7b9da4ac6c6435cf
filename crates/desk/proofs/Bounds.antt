-- How large the places of an answer are.
use Prim.Native.Nat.{ℕ, ◌≤◌, ◌<◌}
use mathlib.Core.Path.{◌≡◌, refl}
use mathlib.Core.List.{List}
use mathlib.Core.Logic.{◌⊎◌, inl, inr, ⊎_elim}
use native.Mathlib.Decide.{ℕ_discrete}
use native.Mathlib.Omega.{arith}
use lib.ListN.{length}
use Rattle.poset.specs.Order.{Arc, Rel, Strict, before, reduction}
use Rattle.poset.specs.Tree.{Tree, Spans, groups, precedes}
use Rattle.poset.proofs.Theorems.{reduction_fits, tree_is_strict}
use Rattle.record.specs.Bits.{AllBelow}
use Rattle.record.specs.Layout.{layout}
use Rattle.record.proofs.Theorems.{layout_length}
use Rattle.relation.specs.Arcs.{pairs}
use Rattle.sheet.proofs.Theorems.{scan_place}
use Rattle.analysis.specs.Answer.{Answer, answer}
use Rattle.analysis.specs.Outcome.{Rooms, roomy, Outcome, refuse, accept, read_back, sheet_outcome, pair_outcome, record_outcome}
use Rattle.analysis.specs.Claims.{FirstAt}
use Rattle.analysis.proofs.Fates.{run_below, all_within, clear_count, clear_strict}
use Rattle.analysis.proofs.Fates.{Fate, miscounted, many, untimed, overtime, outlying, looping, cyclic, crossed, long, wide, done}
use Rattle.analysis.proofs.Places.{first_below}
use Rattle.analysis.proofs.Inputs.{SheetFate, oversize, misformed, formed, sheet_fate}
use Rattle.analysis.proofs.Inputs.{PairFate, odd, even, pair_fate, RecordFate, misspelt, broad, read, record_fate}
use Rattle.longest.specs.Outcome.{run_outcome}
use Rattle.longest.proofs.Records.{run_verdict}
use Rattle.gangs.specs.Outcome.{gang_outcome}
use Rattle.gangs.proofs.Records.{gangs_verdict}
use Rattle.reason.specs.Outcome.{ReasonOutcome, tree_reason, reason_outcome}
use Rattle.reason.proofs.Records.{Ways, no_record, no_job, reasoned, reason_ways}
use Rattle.preview.specs.Outcome.{with_order, previewed}
use Rattle.desk.proofs.Packing.{Narrow}

-- a refusal that names one place at most
one_place : (k p : ℕ) → k < 256 → p < 65536 → Narrow (refuse k p 0 0 0).verdict
unfolding refuse
one_place k p l m = record {
  number_fits = l;
  first_fits = m;
  second_fits = omega arith;
  third_fits = omega arith;
  fourth_fits = omega arith;
}

-- acceptance: what is told of a record and of reduced orders
counts
    : (n : ℕ) (hours : List ℕ) (t : Tree) (r : Rel) → n ≤ 128 → Spans n t → Strict n r
    → Narrow (answer 0 (length (layout n hours t)) (length (reduction n r)) (groups t) 0)
counts n hours t r few spans strict =
    let size = layout_length n hours t few spans in
    let arcs = reduction_fits n r few strict in
    record {
      number_fits = omega arith;
      first_fits = omega arith;
      second_fits = omega arith;
      third_fits = omega arith;
      fourth_fits = omega arith;
    }

module _ (rooms : Rooms) (n : ℕ) (hours : List ℕ) (arcs : List Arc) where
  -- a place among the orders, where there are not too many
  among {κ} : {P : Arc → Type κ} {i : ℕ} → (4096 < length arcs → ⊥) → FirstAt P arcs i → i < 65536
  among few f = omega (arith, few, first_below f)

  fate_narrow : {o : Outcome} → Fate rooms n hours arcs o → Narrow o.verdict
  unfolding refuse accept
  fate_narrow (miscounted h) = one_place 3 0 (omega arith) (omega arith)
  fate_narrow (many c l) = one_place 4 0 (omega arith) (omega arith)
  fate_narrow (untimed c h) = one_place 12 0 (omega arith) (omega arith)
  fate_narrow (overtime c f) =
      let few : 128 < n → ⊥ = λ k. c.0 (inr k) in
      elim (ℕ_discrete (length hours) n) [
        | yes e ↦ one_place 13 _ (omega arith) (omega (arith, first_below f))
        | no z ↦ absurd (c.1.1.0 z)
      ]
  fate_narrow (outlying c f) = one_place 5 _ (omega arith) (among c.1.0 f)
  fate_narrow (looping c f) = one_place 6 _ (omega arith) (among c.1.0 f)
  fate_narrow (cyclic c h l) =
      let few : 128 < n → ⊥ = λ k. c.0 (inr k) in
      one_place 7 _ (omega arith) (omega (arith, (run_below (all_within n arcs c.1.1.1.1.0) h).0))
  fate_narrow (crossed c h) =
      let few = clear_count n hours arcs c in
      let below = h.0 in
      record {
        number_fits = omega arith;
        first_fits = omega (arith, below.a_below);
        second_fits = omega (arith, below.b_below);
        third_fits = omega (arith, below.c_below);
        fourth_fits = omega (arith, below.d_below);
      }
  fate_narrow (long c m p l) = one_place 9 0 (omega arith) (omega arith)
  fate_narrow (wide c m p k l) = one_place 10 0 (omega arith) (omega arith)
  fate_narrow (done {t = t} c m p k j) = counts n hours t (before n arcs) (clear_count n hours arcs c).1 m.spans (clear_strict n hours arcs c)

-- the answers of a sheet, of a pair list and of a record

sheet_told : (rooms : Rooms) (s : List ℕ) {o : Outcome} → SheetFate rooms s o → Narrow o.verdict
sheet_told rooms s (oversize l) = one_place 1 0 (omega arith) (omega arith)
sheet_told rooms s (misformed {p = p} l e) =
    one_place 2 p (omega arith) (⊎_elim (λ h. omega (arith, l, h.0)) (λ h. omega (arith, l, h.0)) (scan_place s p _ _ e).1)
sheet_told rooms s (formed {n = n} {hours = hours} {arcs = arcs} l f h) = fate_narrow rooms n hours arcs h

pub sheet_narrow : (rooms : Rooms) (s : List ℕ) → Narrow (sheet_outcome rooms s).verdict
sheet_narrow rooms s = sheet_told rooms s (sheet_fate rooms s)

pair_told : (rooms : Rooms) (n : ℕ) (hours list : List ℕ) {o : Outcome} → PairFate rooms n hours list o → Narrow o.verdict
pair_told rooms n hours list (odd e) = one_place 2 0 (omega arith) (omega arith)
pair_told rooms n hours list (even e h) = fate_narrow rooms n hours (pairs list) h

pub pair_narrow : (rooms : Rooms) (n : ℕ) (hours list : List ℕ) → Narrow (pair_outcome rooms n hours list).verdict
pair_narrow rooms n hours list = pair_told rooms n hours list (pair_fate rooms n hours list)

pub preview_narrow : (n : ℕ) (hours list : List ℕ) (first second : ℕ) → Narrow (previewed n hours list first second)
unfolding previewed
preview_narrow n hours list first second = pair_narrow roomy n hours (with_order list first second)

record_told : (room : ℕ) (bytes : List ℕ) {o : Outcome} → RecordFate room bytes o → Narrow o.verdict
unfolding read_back
record_told room bytes (misspelt h) = one_place 11 0 (omega arith) (omega arith)
record_told room bytes (broad r l) = one_place 10 0 (omega arith) (omega arith)
record_told room bytes (read {n = n} {t = t} {hours = hours} r l) =
    rw r.spelt at (counts n hours t (precedes t) r.most r.spans
    (tree_is_strict n (precedes t) t record { spans = r.spans; agrees = λ u v l k. refl }))

pub record_narrow : (room : ℕ) (bytes : List ℕ) → AllBelow 256 bytes → Narrow (record_outcome room bytes).verdict
record_narrow room bytes below = record_told room bytes (record_fate room bytes below)

-- questions to a record: 0, 11 or 14, and no place

answer_narrow : (a : Answer) → (a ≡ answer 0 0 0 0 0) ⊎ (a ≡ answer 11 0 0 0 0) → Narrow a
unfolding refuse
answer_narrow a (inl accepted) = rw accepted (one_place 0 0 (omega arith) (omega arith))
answer_narrow a (inr refused) = rw refused (one_place 11 0 (omega arith) (omega arith))

pub run_narrow : (bytes : List ℕ) → Narrow (run_outcome bytes).verdict
run_narrow bytes = answer_narrow (run_outcome bytes).verdict (run_verdict bytes)

pub gangs_narrow : (bytes : List ℕ) → Narrow (gang_outcome bytes).verdict
gangs_narrow bytes = answer_narrow (gang_outcome bytes).verdict (gangs_verdict bytes)

ways_narrow : (u v : ℕ) {o : ReasonOutcome} → Ways u v o → Narrow o.verdict
unfolding refuse tree_reason
ways_narrow u v (no_record e) = rw e (one_place 11 0 (omega arith) (omega arith))
ways_narrow u v (no_job e) = rw e (one_place 14 0 (omega arith) (omega arith))
ways_narrow u v (reasoned t e) = rw e (one_place 0 0 (omega arith) (omega arith))

pub reason_narrow : (bytes : List ℕ) (u v : ℕ) → Narrow (reason_outcome bytes u v).verdict
reason_narrow bytes u v = ways_narrow u v (reason_ways u v bytes)
