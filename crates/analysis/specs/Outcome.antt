-- The refusals in checking order, and what an accepted input yields.
use Rattle.std.specs.Prelude.{ℕ, ◌*◌, ◌%◌, List, [], true, false, ◌||◌, ltb, eqb, length}
use Rattle.std.specs.Prelude.{None, Some}
use Rattle.poset.specs.Order.{Arc, Rel, before, first_on_cycle_of, first_n_of, reduction}
use Rattle.poset.specs.Tree.{Tree, leaves, reversed, groups, precedes}
use Rattle.poset.specs.Decompose.{tree_of}
use Rattle.relation.specs.Arcs.{pairs, place, outside, loop}
use Rattle.record.specs.Layout.{most_hours, most_record_bytes, layout}
use Rattle.record.specs.Decode.{decode}
use Rattle.sheet.specs.Scan.{Read, sheet, broken, scan}
use Rattle.analysis.specs.Answer.{Answer, answer}
use Rattle.analysis.specs.Bounds.{longest_sheet}

-- the room lent for the record and for the reduced orders, in bytes
pub record Rooms : Type 0 where
  pub record_room : ℕ
  pub arc_room : ℕ

-- room for the longest record and the most reduced arcs
abbrev pub roomy : Rooms
roomy = record { record_room = most_record_bytes; arc_room = 8192 }

-- the answer, what is written to the record area and to the area for reduced orders, the two sequences, and the hours of the jobs
pub record Outcome : Type 0 where
  pub verdict : Answer
  pub bytes : List ℕ
  pub arcs : List Arc
  pub forward : List ℕ
  pub reverse : List ℕ
  pub hours : List ℕ

-- a refusal writes nothing
unfoldable pub refuse : ℕ → ℕ → ℕ → ℕ → ℕ → Outcome
refuse n a b c d = record { verdict = answer n a b c d; bytes = []; arcs = []; forward = []; reverse = []; hours = [] }

-- what the order r on n jobs with these hours and the tree t yields, its record included
unfoldable pub accept : ℕ → List ℕ → Rel → Tree → Outcome
accept n hours r t =
    let bytes = layout n hours t in
    let arcs = reduction n r in
    record {
      verdict = answer 0 (length bytes) (length arcs) (groups t) 0;
      bytes = bytes;
      arcs = arcs;
      forward = leaves t;
      reverse = reversed t;
      hours = hours;
    }

-- 10: the area for reduced orders is shorter than two bytes for each
unfoldable pub arcs_fit : ℕ → Outcome → Outcome
arcs_fit room o = elim (ltb room (2 * length o.arcs)) [ true ↦ refuse 10 0 0 0 0 | false ↦ o ]

-- 9: the record area is shorter than the record
unfoldable pub fitted : Rooms → Outcome → Outcome
fitted rooms o = elim (ltb rooms.record_room (length o.bytes)) [ true ↦ refuse 9 0 0 0 0 | false ↦ arcs_fit rooms.arc_room o ]

-- 8: the order has an N. Where it has none it has a tree, so that the last case does not occur.
unfoldable pub decomposed : Rooms → ℕ → List ℕ → Rel → Outcome
decomposed rooms n hours r =
    elim (first_n_of n r) [
      | Some q ↦ refuse 8 q.0 q.1 q.2 q.3
      | None ↦ elim (tree_of n r) [ Some t ↦ fitted rooms (accept n hours r t) | None ↦ refuse 8 0 0 0 0 ]
    ]

-- 7: a job is before itself
unfoldable pub ordered : Rooms → ℕ → List ℕ → Rel → Outcome
ordered rooms n hours r = elim (first_on_cycle_of n r) [ Some u ↦ refuse 7 u 0 0 0 | None ↦ decomposed rooms n hours r ]

-- 5: an arc names a job not below the count; 6: an arc from a job to itself
unfoldable pub listed : Rooms → ℕ → List ℕ → List Arc → Outcome
listed rooms n hours arcs =
    elim (place (outside n) arcs) [
      | Some i ↦ refuse 5 i 0 0 0
      | None ↦ elim (place loop arcs) [ Some i ↦ refuse 6 i 0 0 0 | None ↦ ordered rooms n hours (before n arcs) ]
    ]

-- 12: there are not as many hours as jobs; 13: hours above 4,095
unfoldable pub timed : Rooms → ℕ → List ℕ → List Arc → Outcome
timed rooms n hours arcs =
    elim (eqb (length hours) n) [
      | true ↦ elim (place (ltb most_hours) hours) [ Some j ↦ refuse 13 j 0 0 0 | None ↦ listed rooms n hours arcs ]
      | false ↦ refuse 12 0 0 0 0
    ]

-- 3: the count is 0 or above 128; 4: there are more than 4,096 arcs
unfoldable pub arc_outcome : Rooms → ℕ → List ℕ → List Arc → Outcome
arc_outcome rooms n hours arcs =
    elim (eqb n 0 || ltb 128 n) [
      | true ↦ refuse 3 0 0 0 0
      | false ↦ elim (ltb 4096 (length arcs)) [ true ↦ refuse 4 0 0 0 0 | false ↦ timed rooms n hours arcs ]
    ]

-- 2: the sheet breaks the line form
unfoldable pub scanned : Rooms → Read → Outcome
scanned rooms (broken at hours arcs) = refuse 2 at 0 0 0
scanned rooms (sheet n hours arcs) = arc_outcome rooms n hours arcs

-- 1: the sheet is longer than `longest_sheet` bytes. The analysis of a sheet.
unfoldable pub sheet_outcome : Rooms → List ℕ → Outcome
sheet_outcome rooms s = elim (ltb longest_sheet (length s)) [ true ↦ refuse 1 0 0 0 0 | false ↦ scanned rooms (scan s) ]

-- The analysis of a pair list and its hours: an odd list is 2 at 0.
unfoldable pub pair_outcome : Rooms → ℕ → List ℕ → List ℕ → Outcome
pair_outcome rooms n hours list = elim (eqb (length list % 2) 0) [ true ↦ arc_outcome rooms n hours (pairs list) | false ↦ refuse 2 0 0 0 0 ]

-- what the order of a tree on n jobs yields that its record was read from: as `accept`, but no record is written
unfoldable pub read_back : List ℕ → ℕ → Tree → List ℕ → Outcome
read_back bytes n t hours =
    let arcs = reduction n (precedes t) in
    record {
      verdict = answer 0 (length bytes) (length arcs) (groups t) 0;
      bytes = [];
      arcs = arcs;
      forward = leaves t;
      reverse = reversed t;
      hours = hours;
    }

-- The reading of a record: 11 where the bytes are none, then 10.
unfoldable pub record_outcome : ℕ → List ℕ → Outcome
record_outcome room bytes = elim (decode bytes) [ None ↦ refuse 11 0 0 0 0 | Some x ↦ arcs_fit room (read_back bytes x.0 x.1 x.2) ]
