-- All that this crate promises. Each theorem is stated in full and cited. (Document 02, A.5)
use Prim.Native.Nat.{ℕ, ◌+◌, ◌*◌, ◌≤◌}
use mathlib.Core.Path.{◌≡◌, refl}
use mathlib.Core.List.{List, [], ◌∷◌, ◌++◌, map, Memᴰ}
use mathlib.Core.Logic.{◌↔◌, ◌≢◌}
use lib.ListN.{get_or}
use Rattle.poset.specs.Lists.{occurrences, sum, below}
use Rattle.poset.specs.Order.{Arc, Rel, before}
use Rattle.poset.specs.Tree.{series, parallel, Tree, node, Forest, more, leaves, precedes, Means, trees}
use Rattle.relation.specs.Arcs.{pairs}
use Rattle.record.specs.Bits.{AllBelow}
use Rattle.record.specs.Layout.{most_hours, hours_of, IsRecord}
use Rattle.sheet.specs.Text.{LineForm}
use Rattle.analysis.specs.Answer.{answer}
use Rattle.analysis.specs.Outcome.{Rooms, sheet_outcome, pair_outcome}
use Rattle.analysis.proofs.Asked.{question, ask_refused, ask_empty, ask_unyielded}
use Rattle.analysis.proofs.Demands.{yield_sheet, yield_pairs}
use Rattle.gangs.specs.Antichains.{IsFewest, AreLoads}
use Rattle.gangs.specs.Gangs.{gang_count, gang, gang_hours}
use Rattle.gangs.specs.Outcome.{gang_outcome, IsPlan}
use Rattle.gangs.proofs.Fewest
use Rattle.gangs.proofs.Records
use Rattle.gangs.proofs.Records.{plans}
use Rattle.gangs.proofs.Sheets
use Rattle.gangs.proofs.Examples
use Rattle.gangs.proofs.Examples.{Example, examples}

-- Of a tree that means an order: each job has a gang below the count, and jobs of one gang are ordered among themselves; no gang is empty; some
-- set of jobs that are all free of each other has as many jobs as there are gangs, and none has more; no assignment has fewer gangs.

pub tree_fewest : (n : ℕ) (r : Rel) (t : Tree) → Means n t r → IsFewest n r (gang_count t) (gang t)
tree_fewest = Fewest.tree_fewest

-- the gangs' hours together are those of all jobs
pub tree_loads : (n : ℕ) (hours : ℕ → ℕ) (t : Tree) → AreLoads n hours (gang_count t) (gang t) (gang_hours n hours t)
tree_loads = Fewest.tree_loads

-- a side group numbers its children's gangs one after the other: a child's begin where those of the children ahead of it end
pub parallel_numbers
    : (t : Tree) (f : Forest) → ((u : ℕ) → occurrences u (leaves (node parallel t f)) ≤ 1)
    → (ahead behind : List Tree) (c : Tree) → trees (more t f) ≡ ahead ++ c ∷ behind
    → (u : ℕ) → Memᴰ u (leaves c) → gang (node parallel t f) u ≡ sum gang_count ahead + gang c u
unfolding leaves gang
parallel_numbers t f = Fewest.parallel_numbers (more t f)

pub parallel_counts : (t : Tree) (f : Forest) → gang_count (node parallel t f) ≡ sum gang_count (trees (more t f))
unfolding gang_count
parallel_counts t f = Fewest.parallel_counts (more t f)

-- a chain joins gang 0 of every child, then gang 1, and so on: a job keeps the number that it has in its child
pub series_joins
    : (t : Tree) (f : Forest) → ((u : ℕ) → occurrences u (leaves (node series t f)) ≤ 1)
    → (c : Tree) → Memᴰ c (trees (more t f)) → (u : ℕ) → Memᴰ u (leaves c) → gang (node series t f) u ≡ gang c u
unfolding leaves gang
series_joins t f = Fewest.series_joins (more t f)

-- as many gangs as a child has at the most
pub series_counts
    : (t : Tree) (f : Forest)
    → ((c : Tree) → Memᴰ c (trees (more t f)) → gang_count c ≤ gang_count (node series t f))
    × ((c : Tree) × Memᴰ c (trees (more t f)) × (gang_count c ≡ gang_count (node series t f)))
unfolding gang_count
series_counts t f = Fewest.series_counts (more t f)

-- Of bytes: 11 exactly where they are no record, and then nothing else; else the gangs of the tree that the record spells.

pub gangs_refused
    : (bytes : List ℕ) → AllBelow 256 bytes
    → ((gang_outcome bytes).verdict.number ≡ 11) ↔ ((n : ℕ) (t : Tree) (hours : List ℕ) → IsRecord bytes n t hours → ⊥)
unfolding gang_outcome
gangs_refused = ask_refused (question plans)

pub gangs_empty
    : (bytes : List ℕ) → (gang_outcome bytes).verdict.number ≢ 0
    → gang_outcome bytes ≡ record { verdict = answer 11 0 0 0 0; count = 0; hours = []; gangs = [] }
unfolding gang_outcome
gangs_empty = ask_empty plans

pub gangs_told
    : (bytes : List ℕ) (n : ℕ) (t : Tree) (hours : List ℕ) → IsRecord bytes n t hours
    → gang_outcome bytes
    ≡ record {
      verdict = answer 0 0 0 0 0;
      count = gang_count t;
      hours = map (gang_hours n (hours_of hours) t) (below (gang_count t));
      gangs = map (gang t) (below n);
    }
gangs_told = Records.gangs_told

pub record_plan
    : (bytes : List ℕ) (n : ℕ) (t : Tree) (hours : List ℕ) → IsRecord bytes n t hours → IsPlan n (precedes t) (hours_of hours) (gang_outcome bytes)
record_plan bytes n t hours r =
    Records.record_plan bytes n t hours r (precedes t) (record { spans = r.spans; agrees = λ u v l k. refl })

-- not more gangs than jobs
pub count_small : (bytes : List ℕ) (n : ℕ) (t : Tree) (hours : List ℕ) → IsRecord bytes n t hours → (gang_outcome bytes).count ≤ n
count_small = Records.count_small

-- at most the most hours for each job
pub load_small
    : (bytes : List ℕ) (n : ℕ) (t : Tree) (hours : List ℕ) → IsRecord bytes n t hours → (g : ℕ) → get_or (gang_outcome bytes).hours g 0 ≤ most_hours * n
load_small = Records.load_small

-- Of a sheet and of a pair list: bytes are refused exactly when no accepted sheet yields them; the gangs of the record of an accepted one are the
-- fewest of its own order, with its hours.

pub sheet_refused
    : (bytes : List ℕ) → AllBelow 256 bytes
    → ((gang_outcome bytes).verdict.number ≡ 11)
    ↔ ((rooms : Rooms) (s : List ℕ) → (sheet_outcome rooms s).verdict.number ≡ 0 → (sheet_outcome rooms s).bytes ≡ bytes → ⊥)
unfolding gang_outcome
sheet_refused = ask_unyielded (question plans)

pub sheet_plan
    : (rooms : Rooms) (s : List ℕ) → (sheet_outcome rooms s).verdict.number ≡ 0
    → (n : ℕ) × (hours : List ℕ) × (arcs : List Arc) × LineForm s n hours arcs
    × ((gang_outcome (sheet_outcome rooms s).bytes).verdict ≡ answer 0 0 0 0 0)
    × IsPlan n (before n arcs) (hours_of hours) (gang_outcome (sheet_outcome rooms s).bytes)
sheet_plan rooms s zero =
    let (n, hours, arcs, form, y) = yield_sheet rooms s zero in
    (n, hours, arcs, form, Sheets.yield_told y, Sheets.yield_plan y)

pub pairs_plan
    : (rooms : Rooms) (n : ℕ) (hours list : List ℕ) → (pair_outcome rooms n hours list).verdict.number ≡ 0
    → ((gang_outcome (pair_outcome rooms n hours list).bytes).verdict ≡ answer 0 0 0 0 0)
    × IsPlan n (before n (pairs list)) (hours_of hours) (gang_outcome (pair_outcome rooms n hours list).bytes)
pairs_plan rooms n hours list zero = let y = yield_pairs rooms n hours list zero in (Sheets.yield_told y, Sheets.yield_plan y)

-- small records, one with a chain of two side groups of which the second is wider, one with hours of 0 throughout, and bytes that are none
pub shown_gangs : map (λ (e : Example). gang_outcome e.0) examples ≡ map (λ (e : Example). e.1) examples
shown_gangs = Examples.shown_gangs
