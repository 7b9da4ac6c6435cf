-- All that this crate promises. Each theorem is stated in full and cited. (Document 02, A.6)
use Prim.Native.Nat.{ℕ, ◌+◌, ◌-◌, ◌≤◌, ◌<◌}
use mathlib.Core.Path.{◌≡◌, refl}
use mathlib.Core.Bool.{cond}
use mathlib.Core.List.{List, ◌++◌, map, flat_map, Memᴰ}
use mathlib.Core.Logic.{◌↔◌, ◌≢◌, ◌⊎◌}
use Rattle.std.specs.Prelude.{Some}
use lib.Dec.{ltb}
use Rattle.std.specs.Prelude.{slice_get}
use Rattle.poset.specs.Lists.{occurrences}
use Rattle.poset.specs.Order.{Arc, Rel, before}
use Rattle.poset.specs.Tree.{series, Tree, node, Forest, more, trees, leaves, groups, precedes, Spans, Means}
use Rattle.poset.proofs.Meaning.{spans_holds}
use Rattle.relation.specs.Arcs.{pairs}
use Rattle.record.specs.Bits.{AllBelow, bits, bytes_of}
use Rattle.record.specs.Layout.{IsRecord}
use Rattle.sheet.specs.Text.{LineForm}
use Rattle.analysis.specs.Answer.{answer}
use Rattle.analysis.specs.Outcome.{Rooms, sheet_outcome, pair_outcome}
use Rattle.analysis.proofs.Asked.{ask_refused, ask_unyielded}
use Rattle.analysis.proofs.Demands.{yield_sheet, yield_pairs}
use Rattle.reason.specs.Claims.{node_bits, LowestAt, IsReason}
use Rattle.reason.specs.Lowest.{preorder, rule}
use Rattle.reason.specs.Outcome.{ReasonOutcome, turned_away, tree_reason, reason_outcome, ReasonNumber}
use Rattle.reason.proofs.Lowest
use Rattle.reason.proofs.Ruling
use Rattle.reason.proofs.Tree
use Rattle.reason.proofs.Records
use Rattle.reason.proofs.Records.{reasons}
use Rattle.reason.proofs.Sheets
use Rattle.reason.proofs.Examples
use Rattle.reason.proofs.Examples.{Example, examples}

-- Of a tree that means an order and two of its jobs: the rule is 1 exactly for the same job, 2 exactly where the first is before the second, 3 exactly
-- the other way round, 4 exactly where they are free; the node at the position is over both, and no node below it is; its kind and its children give
-- the rule; the number is that of the leaves under it; of one job it is the leaf.

pub tree_reason_lem : (n : ℕ) (r : Rel) (t : Tree) → Means n t r → (u v : ℕ) → u < n → v < n → IsReason t r u v (tree_reason t u v)
tree_reason_lem = Tree.tree_reason_lem

-- there is no other such node
pub lowest_only
    : (n : ℕ) (t : Tree) → Spans n t → (u v : ℕ) {p q : ℕ} {s x : Tree} → LowestAt u v t p s → LowestAt u v t q x → (p ≡ q) × (s ≡ x)
lowest_only n t spans u v = Lowest.lowest_only u v t (spans_holds n t spans).0

-- the jobs named the other way round have the same node; 2 and 3 change places, 1 and 4 stay
pub reasons_turned
    : (n : ℕ) (t : Tree) → Spans n t → {r : Rel} {u v : ℕ} {o x : ReasonOutcome} → IsReason t r u v o → IsReason t r v u x
    → (x.position ≡ o.position) × (x.jobs ≡ o.jobs)
    × ((x.rule ≡ 1) ↔ (o.rule ≡ 1)) × ((x.rule ≡ 2) ↔ (o.rule ≡ 3)) × ((x.rule ≡ 3) ↔ (o.rule ≡ 2)) × ((x.rule ≡ 4) ↔ (o.rule ≡ 4))
reasons_turned = Tree.reasons_turned

-- a chain gives the rule by which of its children comes first: the one at i has the first job, the one at j the second
pub rule_series
    : (t : Tree) (f : Forest) → ((w : ℕ) → occurrences w (leaves (node series t f)) ≤ 1)
    → (i j : ℕ) (c d : Tree) → slice_get (trees (more t f)) i ≡ Some c → slice_get (trees (more t f)) j ≡ Some d
    → (u v : ℕ) → Memᴰ u (leaves c) → Memᴰ v (leaves d) → rule u v (node series t f) ≡ cond (ltb i j) 2 3
rule_series = Ruling.rule_series

-- Of bytes: 11 exactly where they are no record, then 14 exactly where a job number is not below the count, and then nothing else; else the reason in
-- the tree that the record spells.

pub reason_number : (bytes : List ℕ) → AllBelow 256 bytes → (u v : ℕ) → ReasonNumber bytes u v (reason_outcome bytes u v).verdict.number
reason_number bytes below u v = Records.reason_number u v bytes below

pub reason_refused
    : (bytes : List ℕ) → AllBelow 256 bytes → (u v : ℕ)
    → ((reason_outcome bytes u v).verdict.number ≡ 11) ↔ ((n : ℕ) (t : Tree) (hours : List ℕ) → IsRecord bytes n t hours → ⊥)
unfolding reason_outcome
reason_refused bytes below u v = ask_refused (reasons u v) bytes below

pub reason_14
    : (bytes : List ℕ) (n : ℕ) (t : Tree) (hours : List ℕ) → IsRecord bytes n t hours → (u v : ℕ) → (n ≤ u) ⊎ (n ≤ v)
    → reason_outcome bytes u v ≡ turned_away 14
reason_14 bytes n t hours r u v = Records.reason_14 u v bytes n t hours r

pub reason_empty
    : (bytes : List ℕ) (u v : ℕ) → (reason_outcome bytes u v).verdict.number ≢ 0
    → reason_outcome bytes u v ≡ turned_away (reason_outcome bytes u v).verdict.number
reason_empty bytes u v = Records.reason_empty u v bytes

pub reason_told
    : (bytes : List ℕ) (n : ℕ) (t : Tree) (hours : List ℕ) → IsRecord bytes n t hours → (u v : ℕ) → u < n → v < n
    → reason_outcome bytes u v ≡ tree_reason t u v
reason_told bytes n t hours r u v = Records.reason_told u v bytes n t hours r

pub record_reason
    : (bytes : List ℕ) (n : ℕ) (t : Tree) (hours : List ℕ) → IsRecord bytes n t hours → (u v : ℕ) → u < n → v < n
    → IsReason t (precedes t) u v (reason_outcome bytes u v)
record_reason bytes n t hours r u v p q =
    Records.record_reason bytes n t hours r u v p q (precedes t) (record { spans = r.spans; agrees = λ u v l k. refl })

-- the record is the count and then its nodes in the order in which positions count them
pub nodes_in_order
    : (bytes : List ℕ) (n : ℕ) (t : Tree) (hours : List ℕ) → IsRecord bytes n t hours
    → bytes ≡ bytes_of (bits 7 (n - 1) ++ flat_map (node_bits hours) (preorder t))
nodes_in_order = Lowest.nodes_in_order

-- there is a node for each job and each group, and fewer groups than jobs
pub position_below
    : (bytes : List ℕ) (n : ℕ) (t : Tree) (hours : List ℕ) → IsRecord bytes n t hours → (u v : ℕ) → u < n → v < n
    → ((reason_outcome bytes u v).position < n + groups t) × (groups t < n)
position_below = Records.position_below

-- not more jobs than the record has, and two at least where they are not one
pub jobs_within
    : (bytes : List ℕ) (n : ℕ) (t : Tree) (hours : List ℕ) → IsRecord bytes n t hours → (u v : ℕ) → u < n → v < n
    → ((reason_outcome bytes u v).jobs ≤ n) × (u ≢ v → 2 ≤ (reason_outcome bytes u v).jobs)
jobs_within = Records.jobs_within

-- Of a sheet and of a pair list: bytes are refused with 11 exactly when no accepted sheet yields them; of the record of an accepted one, the reason is
-- that of its own order, in the tree that the record spells, and 14 is told where a job number is not below its count.

pub sheet_refused
    : (bytes : List ℕ) → AllBelow 256 bytes → (u v : ℕ)
    → ((reason_outcome bytes u v).verdict.number ≡ 11)
    ↔ ((rooms : Rooms) (s : List ℕ) → (sheet_outcome rooms s).verdict.number ≡ 0 → (sheet_outcome rooms s).bytes ≡ bytes → ⊥)
unfolding reason_outcome
sheet_refused bytes below u v = ask_unyielded (reasons u v) bytes below

pub sheet_reason
    : (rooms : Rooms) (s : List ℕ) → (sheet_outcome rooms s).verdict.number ≡ 0
    → (n : ℕ) × (hours : List ℕ) × (arcs : List Arc) × LineForm s n hours arcs
    × (t : Tree) × IsRecord (sheet_outcome rooms s).bytes n t hours
    × ((u v : ℕ) → u < n → v < n
    → ((reason_outcome (sheet_outcome rooms s).bytes u v).verdict ≡ answer 0 0 0 0 0)
    × IsReason t (before n arcs) u v (reason_outcome (sheet_outcome rooms s).bytes u v))
    × ((u v : ℕ) → (n ≤ u) ⊎ (n ≤ v) → reason_outcome (sheet_outcome rooms s).bytes u v ≡ turned_away 14)
sheet_reason rooms s zero =
    let (n, hours, arcs, form, y) = yield_sheet rooms s zero in (
      n,
      hours,
      arcs,
      form,
      y.tree,
      y.spells,
      (λ u v p q. (Sheets.yield_told y u v p q, Sheets.yield_reason y u v p q)),
      Sheets.yield_14 y,
    )

pub pairs_reason
    : (rooms : Rooms) (n : ℕ) (hours list : List ℕ) → (pair_outcome rooms n hours list).verdict.number ≡ 0
    → (t : Tree) × IsRecord (pair_outcome rooms n hours list).bytes n t hours
    × ((u v : ℕ) → u < n → v < n
    → ((reason_outcome (pair_outcome rooms n hours list).bytes u v).verdict ≡ answer 0 0 0 0 0)
    × IsReason t (before n (pairs list)) u v (reason_outcome (pair_outcome rooms n hours list).bytes u v))
    × ((u v : ℕ) → (n ≤ u) ⊎ (n ≤ v) → reason_outcome (pair_outcome rooms n hours list).bytes u v ≡ turned_away 14)
pairs_reason rooms n hours list zero =
    let y = yield_pairs rooms n hours list zero in
    (y.tree, y.spells, (λ u v p q. (Sheets.yield_told y u v p q, Sheets.yield_reason y u v p q)), Sheets.yield_14 y)

-- small records: one job, a chain, groups in each other; job numbers past the count; and bytes that are none
pub shown_reasons : map (λ (e : Example). reason_outcome e.0 e.1 e.2) examples ≡ map (λ (e : Example). e.3) examples
shown_reasons = Examples.shown_reasons
