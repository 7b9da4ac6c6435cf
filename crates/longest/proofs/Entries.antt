-- Runs on a stack.
use Prim.Native.Nat.{ℕ, suc, ◌+◌, ◌≤◌, ◌<◌}
use mathlib.Core.Path.{◌≡◌, refl, sym, ap, subst, ◌∙◌}
use mathlib.Core.List.Memᴰ
use mathlib.Core.List.{List, [], ◌∷◌, ◌++◌, flat_map, Memᴰ}
use native.Mathlib.Omega.{arith}
use lib.ListN.{length, get_or, take, drop, set, take-append-drop, length-set}
use lib.Seq.{split_at, take-suc, length-take-le, get_or-set_same, get_or-set_other}
use Rattle.poset.specs.Lists.{occurrences, sum}
use Rattle.poset.specs.Tree.{Kind, series}
use Rattle.poset.proofs.Laws.{count_append, flat_map_append}
use Rattle.reader.proofs.Strands.{strand_kept}
use Rattle.longest.specs.Longest.{WorkRun, joined_runs}
use Rattle.longest.specs.Stack.{no_run, run_at, Sized, Found, Entry, Entries, SameFrom, jobs_of, run_of}
use Rattle.longest.specs.declared.stack.Run.{Run}
use Rattle.longest.specs.declared.stack.Stack.{Stack}
use Rattle.longest.proofs.Measures.{counts, joined_measure}

further : {at : ℕ} {w v : Stack} → SameFrom at w v → SameFrom (suc at) w v
further s = record { runs_same = λ i l. s.runs_same i (omega arith) }

-- a run rests on its entry and on the next jobs of its own

entry_kept : {w v : Stack} (at : ℕ) (a : WorkRun) → SameFrom at w v → ((u : ℕ) → occurrences u a.1 ≤ 1)
    → ((u : ℕ) → Memᴰ u a.1 → get_or v.next u 0 ≡ get_or w.next u 0) → Entry w at a → Entry v at a
entry_kept {w} {v} at a same once next e =
    subst (Found a v.next) (sym (same.runs_same at (omega arith)))
    (record { total_is = e.total_is; strand = strand_kept (once (run_at w at).last) (λ u m _. next u m) e.strand })

pub entries_kept : {w v : Stack} (at : ℕ) (rs : List WorkRun) → SameFrom at w v → ((u : ℕ) → occurrences u (jobs_of rs) ≤ 1)
    → ((u : ℕ) → Memᴰ u (jobs_of rs) → get_or v.next u 0 ≡ get_or w.next u 0) → Entries w at rs → Entries v at rs
unfolding flat_map
entries_kept at [] same once next e = tt
entries_kept at (a ∷ rs) same once next e = (
  entry_kept at a same (λ u. omega (arith, once u, count_append u a.1 (jobs_of rs))) (λ u m. next u (Memᴰ.append_left (jobs_of rs) m)) e.0,
  entries_kept (suc at) rs (further same) (λ u. omega (arith, once u, count_append u a.1 (jobs_of rs)))
      (λ u m. next u (Memᴰ.append_right a.1 m)) e.1,
)

pub entries_append : (w : Stack) (at : ℕ) (rs ss : List WorkRun) → Entries w at (rs ++ ss) → Entries w at rs × Entries w (at + length rs) ss
entries_append w at [] ss e = (tt, subst (λ (i : ℕ). Entries w i ss) (omega arith) e)
entries_append w at (a ∷ rs) ss e =
    let (es, fs) = entries_append w (suc at) rs ss e.1 in
    let place : suc at + length rs ≡ at + suc (length rs) = omega arith in
    ((e.0, es), subst (λ (i : ℕ). Entries w i ss) place fs)

-- a run put at an entry
pub entry_put : (w : Stack) (top at : ℕ) (a : WorkRun) (r : Run) (next : List ℕ) → Sized w → at < 128 → length next ≡ 128 → Found a next r
    → let v : Stack = record { top = top; runs = set w.runs at r; next = next } in Sized v × Entry v at a × SameFrom (suc at) w v
entry_put w top at a r next sized l size found = (
  record { runs_size = length-set w.runs at r ∙ sized.runs_size; next_size = size },
  subst (Found a next) (sym (get_or-set_same w.runs at r no_run (omega (arith, sized.runs_size)))) found,
  record { runs_same = λ i m. get_or-set_other w.runs at i r no_run (λ q. omega arith) },
)

-- the work that is missing
abbrev pub no_work : WorkRun
no_work = (0, [])

-- the runs ahead of one, and this one

pub entries_snoc : (w : Stack) (at : ℕ) (rs : List WorkRun) (i : ℕ) → i < length rs → Entries w at (take (suc i) rs)
    → Entries w at (take i rs) × Entry w (at + i) (get_or rs i no_work)
entries_snoc w at rs i l e =
    let (es, fs) = entries_append w at (take i rs) (get_or rs i no_work ∷ []) (subst (Entries w at) (take-suc rs i no_work l) e) in
    let place : at + length (take i rs) ≡ at + i = omega (arith, length-take-le i rs (omega arith)) in
    (es, subst (λ (j : ℕ). Entry w j (get_or rs i no_work)) place fs.0)

pub entry_at : (w : Stack) (at : ℕ) (rs : List WorkRun) (i : ℕ) → i < length rs → Entries w at rs
    → Entries w at (take i rs) × Entry w (at + i) (get_or rs i no_work)
entry_at w at rs i l e =
    entries_snoc w at rs i l
    (entries_append w at (take (suc i) rs) (drop (suc i) rs) (subst (Entries w at) (sym (take-append-drop (suc i) rs)) e)).0

-- where the jobs of all runs stand: in those ahead of one, in it, or in those after it
pub jobs_parted : (rs : List WorkRun) (i : ℕ) → i < length rs → (u : ℕ)
    → occurrences u (jobs_of rs)
    ≡ occurrences u (jobs_of (take i rs)) + (occurrences u (get_or rs i no_work).1 + occurrences u (jobs_of (drop (suc i) rs)))
unfolding flat_map
jobs_parted rs i l u =
    let a = get_or rs i no_work in
    let later = drop (suc i) rs in
    ap (λ (x : List WorkRun). occurrences u (jobs_of x)) (split_at rs i no_work l)
    ∙ ap (occurrences u) (flat_map_append (λ (x : WorkRun). x.1) (take i rs) (a ∷ later))
    ∙ omega (arith, count_append u (jobs_of (take i rs)) (a.1 ++ jobs_of later), count_append u a.1 (jobs_of later))

-- the run of a group

pub run_more : (k : Kind) (a : WorkRun) (rs : List WorkRun) → 0 < length rs → run_of k (a ∷ rs) ≡ joined_runs k a (run_of k rs)
run_more k a [] l = absurd (omega arith)
run_more k a (b ∷ rs) l = refl

pub run_count : (k : Kind) (rs : List WorkRun) (u : ℕ) → occurrences u (run_of k rs).1 ≤ occurrences u (jobs_of rs)
unfolding flat_map
run_count k [] u = omega arith
run_count k (a ∷ []) u = omega (arith, count_append u a.1 [])
run_count k (a ∷ b ∷ rs) u =
    omega (arith, joined_measure (λ x. occurrences u x.1) (counts u) k a (run_of k (b ∷ rs)), run_count k (b ∷ rs) u, count_append u a.1 (jobs_of (b ∷ rs)))

pub series_total : (rs : List WorkRun) → (run_of series rs).0 ≡ sum (λ (a : WorkRun). a.0) rs
unfolding joined_runs
series_total [] = refl
series_total (a ∷ []) = omega arith
series_total (a ∷ b ∷ rs) = ap (λ (x : ℕ). a.0 + x) (series_total (b ∷ rs))
