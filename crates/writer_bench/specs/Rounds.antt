-- A record written again and again, for arcs that a caller in C hands in.
use Rattle.std.specs.Prelude.{ℕ, ◌*◌, List, Option, Some, None, true, false, ◌&&◌, leb, replicate}
use Rattle.poset.specs.Order.{Arc, before}
use Rattle.poset.specs.Decompose.{tree_of}
use Rattle.relation_bench.specs.Steps.{fits, acyclic}
use Rattle.writer.specs.Written.{written}
use Rattle.writer.specs.declared.writing.Written.{Written}

-- each of n jobs has n hours
abbrev pub alike : ℕ → List ℕ
alike n = replicate 128 n

-- the bytes of a record, 0 where there is none
abbrev pub count_of : Option Written → ℕ
count_of None = 0
count_of (Some w) = w.count

-- so many times the bytes of the record of arcs that fit and have no cycle, for one job at least and a million rounds at most; else 0
unfoldable pub bytes_written : ℕ → ℕ → List Arc → ℕ
bytes_written rounds n arcs =
    let r = before n arcs in
    elim (leb 1 n && (leb rounds 1000000 && (fits n arcs && acyclic n r))) [ true ↦ rounds * count_of (written n (alike n) (tree_of n r)) | false ↦ 0 ]
