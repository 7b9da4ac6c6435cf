-- The runs of trees in a row, on a stack.
-- For inner contracts alone: who reads the promise of longest_run need not believe it, but specs/Outcome.antt.
use Rattle.std.specs.Prelude.{ℕ, suc, ◌+◌, ◌*◌, ◌≤◌, ◌<◌, ◌≡◌, length, get_or}
use mathlib.Core.List.{List, [], ◌∷◌, map, flat_map, Memᴰ}
use Rattle.poset.specs.Lists.{occurrences, sum}
use Rattle.poset.specs.Areas.{padded}
use Rattle.poset.specs.Tree.{Kind, Tree}
use Rattle.record.specs.Bits.{AllBelow}
use Rattle.record.specs.Layout.{most_hours}
use Rattle.record.specs.Tokens.{Small}
use Rattle.reader.specs.Nodes.{Step, Fits}
use Rattle.reader.specs.Parts.{Strand}
use Rattle.longest.specs.Longest.{WorkRun, joined_runs, longest}
use Rattle.longest.specs.declared.stack.Run.{Run}
use Rattle.longest.specs.declared.stack.Stack.{Stack}
use Rattle.longest.specs.declared.showing.Showing.{Showing}

-- the run that is missing
abbrev pub no_run : Run
no_run = record { total = 0; first = 0; last = 0 }

-- the run at an entry: its total, its first and its last job
abbrev pub run_at : Stack → ℕ → Run
run_at w i = get_or w.runs i no_run

pub record Sized (w : Stack) : Type 0 where
  pub runs_size : length w.runs ≡ 128
  pub next_size : length w.next ≡ 128

-- the run a, by its total, its first and its last job, and the next job of each
pub record Found (a : WorkRun) (next : List ℕ) (r : Run) : Type 0 where
  pub total_is : r.total ≡ a.0
  pub strand : Strand next r.first a.1 r.last

-- the run a stands at an entry; runs stand at the entries from there on
abbrev pub Entry : Stack → ℕ → WorkRun → Type 0
Entry w at a = Found a w.next (run_at w at)

abbrev pub Entries : Stack → ℕ → List WorkRun → Type 0
Entries w at [] = Unit {0}
Entries w at (a ∷ rs) = Entry w at a × Entries w (suc at) rs

-- what stands at the entries from `at` on has stayed
pub record SameFrom (at : ℕ) (w v : Stack) : Type 0 where
  pub runs_same : (i : ℕ) → at ≤ i → run_at v i ≡ run_at w i

abbrev pub jobs_of : List WorkRun → List ℕ
jobs_of = flat_map (λ a. a.1)

-- the run of a group of kind k whose children have these runs
abbrev pub run_of : Kind → List WorkRun → WorkRun
run_of k [] = (0, [])
run_of k (a ∷ []) = a
run_of k (a ∷ b ∷ rs) = joined_runs k a (run_of k (b ∷ rs))

-- the runs of a group's children, from the top of the stack to `end`
pub record Beside (rs : List WorkRun) (end : ℕ) (w : Stack) : Type 0 where
  pub sized : Sized w
  pub some : 0 < length rs
  pub last : w.top + length rs ≡ suc end
  pub inside : end < 128
  pub entries : Entries w w.top rs
  pub once : (u : ℕ) → occurrences u (jobs_of rs) ≤ 1
  pub small : AllBelow 128 (jobs_of rs)
  pub low : sum (λ (a : WorkRun). a.0) rs ≤ most_hours * 128

-- the run of the group at `end`, on top; what is further down is as it was, and so are the next jobs of others
pub record Joined (k : Kind) (rs : List WorkRun) (end : ℕ) (w v : Stack) : Type 0 where
  pub sized : Sized v
  pub top_is : v.top ≡ end
  pub entry : Entry v end (run_of k rs)
  pub below : SameFrom (suc end) w v
  pub next_same : (u : ℕ) → (Memᴰ u (jobs_of rs) → ⊥) → get_or v.next u 0 ≡ get_or w.next u 0

abbrev pub Joins : Kind → (end : ℕ) → Stack → Stack → Type 0
Joins k end w v = (rs : List WorkRun) → Beside rs end w → Joined k rs end w v

-- the longest runs of the trees in a row, the first on top
pub record Stacked (hours : ℕ → ℕ) (ts : List Tree) (w : Stack) : Type 0 where
  pub sized : Sized w
  pub height : w.top + length ts ≡ 128
  pub entries : Entries w w.top (map (longest hours) ts)

abbrev pub Stacks : (token : ℕ) (hours : ℕ → ℕ) → Stack → Stack → Type 0
Stacks token hours w v = (ts us : List Tree) → Step token ts us → Fits us → Stacked hours ts w → Stacked hours us v

-- different jobs, each followed by its next
pub record Linked (next : List ℕ) (first last : ℕ) (jobs : List ℕ) : Type 0 where
  pub strand : Strand next first jobs last
  pub once : (u : ℕ) → occurrences u jobs ≤ 1
  pub small : Small jobs

pub record Shown (jobs : List ℕ) (r : Showing) : Type 0 where
  pub count_is : r.count ≡ length jobs
  pub jobs_are : r.jobs ≡ padded jobs
