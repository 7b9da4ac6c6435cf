-- A record read back. A reader gives what it read and the bits left.
use Rattle.std.specs.Prelude.{ℕ, zero, suc, ◌+◌, ◌*◌, ◌^◌, List, [], ◌∷◌, ◌++◌, map, Bool, true, false, ◌&&◌, eqb, ltb, length}
use Rattle.std.specs.Prelude.{Option, None, Some, option_and_then}
use Rattle.poset.specs.Lists.{occurrences, below, only_if}
use Rattle.poset.specs.Tree.{Kind, series, parallel, Tree, leaf, node, Forest, last, more, leaves, canonical}
use Rattle.record.specs.Bits.{bits_of}
use Rattle.record.specs.Layout.{hours_bits}

-- what the rest makes of the value, if there is one
infixl 10 ◌>>=◌
abbrev pub ◌>>=◌ : {A B : Type 0} → Option A → (A → Option B) → Option B
o >>= f = option_and_then f o

abbrev pub Reader : Type 0 → Type 0
Reader A = List ℕ → Option (A × List ℕ)

-- k bits as a number
unfoldable pub read_bits : ℕ → Reader ℕ
read_bits zero bs = Some (0, bs)
read_bits (suc k) [] = None
read_bits (suc k) (b ∷ bs) = do
  (x, rest) ← read_bits k bs
  Some (b * 2 ^ k + x, rest)

unfoldable pub kind_of : ℕ → Kind
kind_of zero = series
kind_of (suc b) = parallel

-- a tree and c more, each by the reader given, with the hours of their leaves from left to right
unfoldable pub read_forest : Reader (Tree × List ℕ) → ℕ → Reader (Forest × List ℕ)
read_forest read zero bs = do
  (t, rest) ← read bs
  Some ((last t.0, t.1), rest)
read_forest read (suc c) bs = do
  (t, rest) ← read bs
  (f, rest) ← read_forest read c rest
  Some ((more t.0 f.0, t.1 ++ f.1), rest)

-- a group has two children or more
unfoldable pub grouped : Kind → Forest → Option Tree
grouped k (last t) = None
grouped k (more t f) = Some (node k t f)

-- a tree of fewer than d groups one in another, and the hours of its leaves
unfoldable pub read_tree : ℕ → Reader (Tree × List ℕ)
read_tree zero bs = None
read_tree (suc d) [] = None
read_tree (suc d) (zero ∷ bs) = do
  (job, rest) ← read_bits 7 bs
  (hours, rest) ← read_bits hours_bits rest
  Some ((leaf job, hours ∷ []), rest)
read_tree (suc d) (suc b ∷ bs) = do
  (kind, rest) ← read_bits 1 bs
  (children_1, rest) ← read_bits 7 rest
  (f, rest) ← read_forest (read_tree d) children_1 rest
  t ← grouped (kind_of kind) f.0
  Some ((t, f.1), rest)

unfoldable pub every : (ℕ → Bool) → List ℕ → Bool
every p [] = true
every p (x ∷ xs) = p x && every p xs

-- the bits left fill the last byte and nothing follows
unfoldable pub fills : List ℕ → Bool
fills rest = ltb (length rest) 8 && every (eqb 0) rest

-- every leaf is a job below n, and each of these is on one leaf
unfoldable pub spanning : ℕ → Tree → Bool
spanning n t = every (λ j. ltb j n) (leaves t) && every (λ j. eqb (occurrences j (leaves t)) 1) (below n)

-- what stands in the second list beside j in the first
unfoldable pub beside : ℕ → List ℕ → List ℕ → ℕ
beside j [] hs = 0
beside j (x ∷ xs) [] = 0
beside j (x ∷ xs) (h ∷ hs) = elim (eqb j x) [ true ↦ h | false ↦ beside j xs hs ]

-- the job count and the tree of a record, and the hours of the jobs below the count; the bits left bound how deep groups stand one in another
unfoldable pub decode : List ℕ → Option (ℕ × Tree × List ℕ)
decode bytes = do
  (jobs_1, rest) ← read_bits 7 (bits_of bytes)
  (found, rest) ← read_tree (length rest) rest
  let n = suc jobs_1
  let t = found.0
  only_if (fills rest && (canonical t && spanning n t)) (n, t, map (λ j. beside j (leaves t) found.1) (below n))
