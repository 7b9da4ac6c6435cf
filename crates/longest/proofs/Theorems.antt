-- All that this crate promises. Each theorem is stated in full and cited. (Document 02, A.3)
use Prim.Native.Nat.{ℕ, ◌*◌, ◌≤◌, ◌<◌}
use mathlib.Core.Path.{◌≡◌, refl}
use mathlib.Core.List.{List, [], map, flat_map}
use mathlib.Core.Logic.{◌↔◌, ◌≢◌}
use lib.ListN.{length}
use Rattle.poset.specs.Lists.{sum}
use Rattle.poset.specs.Order.{Arc, Rel, before}
use Rattle.poset.specs.Tree.{series, parallel, Tree, node, Forest, more, trees, precedes, Means}
use Rattle.relation.specs.Arcs.{pairs}
use Rattle.record.specs.Bits.{AllBelow}
use Rattle.record.specs.Layout.{most_hours, hours_of, IsRecord}
use Rattle.sheet.specs.Text.{LineForm}
use Rattle.analysis.specs.Answer.{answer}
use Rattle.analysis.specs.Outcome.{Rooms, sheet_outcome, pair_outcome}
use Rattle.analysis.proofs.Asked.{question, ask_refused, ask_empty, ask_unyielded}
use Rattle.analysis.proofs.Demands.{yield_sheet, yield_pairs}
use Rattle.longest.specs.Chains.{IsLongest}
use Rattle.longest.specs.Longest.{longest, FirstGreatest}
use Rattle.longest.specs.Outcome.{run_outcome}
use Rattle.longest.specs.Schedules.{IsFewest, earliest_start}
use Rattle.longest.proofs.Longest
use Rattle.longest.proofs.Scheduling
use Rattle.longest.proofs.Finer
use Rattle.longest.proofs.Records
use Rattle.longest.proofs.Records.{runs}
use Rattle.longest.proofs.Sheets
use Rattle.longest.proofs.Examples
use Rattle.longest.proofs.Examples.{Example, examples, Plan, plans, starts}

-- Of a tree that means an order: the shown jobs are different jobs below the count, each before every later one shown; their hours together
-- are the total; and no set of jobs in which any two are ordered has more.

pub tree_longest
    : (n : ℕ) (r : Rel) (t : Tree) → Means n t r → (hours : ℕ → ℕ) → IsLongest n r hours (longest hours t).0 (longest hours t).1
tree_longest = Longest.longest_is

-- The total is the fewest hours in which all can be done with hands enough: the earliest starts are a schedule with it, no schedule has less, and none
-- starts a job earlier.
pub tree_fewest
    : (n : ℕ) (r : Rel) (t : Tree) → Means n t r → (hours : ℕ → ℕ) → IsFewest n r hours (earliest_start hours t) (longest hours t).0
tree_fewest = Scheduling.tree_fewest

-- In a unit of which an hour has m these are the same starts and the same total, so no schedule gains by starting a job within an hour.
pub finer_fewest
    : (n : ℕ) (r : Rel) (t : Tree) → Means n t r → (hours : ℕ → ℕ) (m : ℕ)
    → IsFewest n r (λ u. m * hours u) (λ u. m * earliest_start hours t u) (m * (longest hours t).0)
finer_fewest = Finer.finer_fewest

-- a chain's run is its children's runs in turn
pub series_adds
    : (hours : ℕ → ℕ) (t : Tree) (f : Forest)
    → longest hours (node series t f)
    ≡ (sum (λ c. (longest hours c).0) (trees (more t f)), flat_map (λ c. (longest hours c).1) (trees (more t f)))
unfolding longest
series_adds hours t f = Longest.series_adds hours (more t f)

-- a side group's run is that of its first child with the greatest total
pub parallel_takes
    : (hours : ℕ → ℕ) (t : Tree) (f : Forest)
    → (c : Tree) × FirstGreatest hours (trees (more t f)) c × (longest hours (node parallel t f) ≡ longest hours c)
unfolding longest
parallel_takes hours t f = Longest.parallel_takes hours (more t f)

-- Of bytes: 11 exactly where they are no record, and then no total and no jobs; else the run of the tree that the record spells.

pub run_refused
    : (bytes : List ℕ) → AllBelow 256 bytes
    → ((run_outcome bytes).verdict.number ≡ 11) ↔ ((n : ℕ) (t : Tree) (hours : List ℕ) → IsRecord bytes n t hours → ⊥)
unfolding run_outcome
run_refused = ask_refused (question runs)

pub run_empty
    : (bytes : List ℕ) → (run_outcome bytes).verdict.number ≢ 0 → run_outcome bytes ≡ record { verdict = answer 11 0 0 0 0; total = 0; jobs = [] }
unfolding run_outcome
run_empty = ask_empty runs

pub run_told
    : (bytes : List ℕ) (n : ℕ) (t : Tree) (hours : List ℕ) → IsRecord bytes n t hours
    → run_outcome bytes ≡ record { verdict = answer 0 0 0 0 0; total = (longest (hours_of hours) t).0; jobs = (longest (hours_of hours) t).1 }
run_told = Records.run_told

pub record_longest
    : (bytes : List ℕ) (n : ℕ) (t : Tree) (hours : List ℕ) → IsRecord bytes n t hours
    → IsLongest n (precedes t) (hours_of hours) (run_outcome bytes).total (run_outcome bytes).jobs
record_longest bytes n t hours r =
    Records.run_longest bytes n t hours r (precedes t) (record { spans = r.spans; agrees = λ u v l k. refl })

pub record_fewest
    : (bytes : List ℕ) (n : ℕ) (t : Tree) (hours : List ℕ) → IsRecord bytes n t hours
    → IsFewest n (precedes t) (hours_of hours) (earliest_start (hours_of hours) t) (run_outcome bytes).total
record_fewest bytes n t hours r =
    Records.run_fewest bytes n t hours r (precedes t) (record { spans = r.spans; agrees = λ u v l k. refl })

-- at most the most hours for each job
pub total_small
    : (bytes : List ℕ) (n : ℕ) (t : Tree) (hours : List ℕ) → IsRecord bytes n t hours → (run_outcome bytes).total ≤ most_hours * n
total_small = Records.total_small

-- one job at least, and no more than the record has
pub jobs_within
    : (bytes : List ℕ) (n : ℕ) (t : Tree) (hours : List ℕ) → IsRecord bytes n t hours
    → (0 < length (run_outcome bytes).jobs) × (length (run_outcome bytes).jobs ≤ n)
jobs_within = Records.jobs_within

-- Of a sheet: bytes are refused exactly when no accepted sheet yields them; the run of an accepted sheet's record is the longest of the sheet's
-- own order and hours.

pub sheet_refused
    : (bytes : List ℕ) → AllBelow 256 bytes
    → ((run_outcome bytes).verdict.number ≡ 11)
    ↔ ((rooms : Rooms) (s : List ℕ) → (sheet_outcome rooms s).verdict.number ≡ 0 → (sheet_outcome rooms s).bytes ≡ bytes → ⊥)
unfolding run_outcome
sheet_refused = ask_unyielded (question runs)

pub sheet_longest
    : (rooms : Rooms) (s : List ℕ) → (sheet_outcome rooms s).verdict.number ≡ 0
    → (n : ℕ) × (hours : List ℕ) × (arcs : List Arc) × LineForm s n hours arcs
    × ((run_outcome (sheet_outcome rooms s).bytes).verdict ≡ answer 0 0 0 0 0)
    × IsLongest n (before n arcs) (hours_of hours) (run_outcome (sheet_outcome rooms s).bytes).total (run_outcome (sheet_outcome rooms s).bytes).jobs
sheet_longest rooms s zero =
    let (n, hours, arcs, form, y) = yield_sheet rooms s zero in
    (n, hours, arcs, form, Sheets.yield_told y, Sheets.yield_longest y)

pub pairs_longest
    : (rooms : Rooms) (n : ℕ) (hours list : List ℕ) → (pair_outcome rooms n hours list).verdict.number ≡ 0
    → ((run_outcome (pair_outcome rooms n hours list).bytes).verdict ≡ answer 0 0 0 0 0)
    × IsLongest n (before n (pairs list)) (hours_of hours)
    (run_outcome (pair_outcome rooms n hours list).bytes).total (run_outcome (pair_outcome rooms n hours list).bytes).jobs
pairs_longest rooms n hours list zero = let y = yield_pairs rooms n hours list zero in (Sheets.yield_told y, Sheets.yield_longest y)

-- The total of an accepted sheet's record is the fewest hours for the sheet's own order and hours; the earliest starts are those of the tree that the
-- record spells. The same of a pair list.

pub sheet_fewest
    : (rooms : Rooms) (s : List ℕ) → (sheet_outcome rooms s).verdict.number ≡ 0
    → (n : ℕ) × (hours : List ℕ) × (arcs : List Arc) × LineForm s n hours arcs
    × (t : Tree) × IsRecord (sheet_outcome rooms s).bytes n t hours
    × IsFewest n (before n arcs) (hours_of hours) (earliest_start (hours_of hours) t) (run_outcome (sheet_outcome rooms s).bytes).total
sheet_fewest rooms s zero =
    let (n, hours, arcs, form, y) = yield_sheet rooms s zero in
    (n, hours, arcs, form, y.tree, y.spells, Sheets.yield_fewest y)

pub pairs_fewest
    : (rooms : Rooms) (n : ℕ) (hours list : List ℕ) → (pair_outcome rooms n hours list).verdict.number ≡ 0
    → (t : Tree) × IsRecord (pair_outcome rooms n hours list).bytes n t hours
    × IsFewest n (before n (pairs list)) (hours_of hours) (earliest_start (hours_of hours) t) (run_outcome (pair_outcome rooms n hours list).bytes).total
pairs_fewest rooms n hours list zero = let y = yield_pairs rooms n hours list zero in (y.tree, y.spells, Sheets.yield_fewest y)

-- small records, one with two runs of the same total side by side, one with hours of 0 throughout, and bytes that are none
pub shown_runs : map (λ (e : Example). run_outcome e.0) examples ≡ map (λ (e : Example). e.1) examples
shown_runs = Examples.shown_runs

-- the earliest starts in small trees, one of them that of the hull in docs/BERTH.md
pub shown_starts : map starts plans ≡ map (λ (p : Plan). p.2) plans
shown_starts = Examples.shown_starts
