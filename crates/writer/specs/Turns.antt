-- The writing of a tree: how it begins, and what each turn does.
-- An inner contract: who reads the promise of write_record need not believe it, but specs/Written.antt alone.
use Rattle.std.specs.Prelude.{ℕ, ◌+◌, ◌≤◌, ◌<◌, ◌≡◌, List, [], ◌∷◌, ◌++◌, Bool, true, Option, None, Some, ltb, length, take}
use Rattle.poset.specs.Order.{Rel}
use Rattle.relation.specs.Table.{has}
use Rattle.writer.specs.Parts.{size_of, lead, Taken, close_of}
use Rattle.writer.specs.Stack.{held, jobs_of, opened}
use Rattle.writer.specs.Shapes.{no_shape, with_leaf, with_group}
use Rattle.writer.specs.declared.stack.Entry.{Entry}
use Rattle.writer.specs.declared.draft.Draft.{Draft}
use Rattle.writer.specs.declared.draft.Progress.{Progress}
use Rattle.writer.specs.declared.tree.Shape.{Shape}

-- a tree on the way: its shape as far as it is written, the jobs in it, and the sets that are still to be taken apart
pub record State : Type 0 where
  pub shape : Shape
  pub placed : ℕ
  pub stack : List Entry

abbrev pub state_at : Draft → ℕ → ℕ → ℕ → ℕ → State
state_at d height count groups placed =
    record {
      shape = record { fields = d.fields; count = count; groups = groups; forward = d.forward; reverse = d.reverse };
      placed = placed;
      stack = held d.entries height;
    }

abbrev pub state : Draft → Progress → State
state d p = state_at d p.height p.count p.groups p.placed

-- there is room for what becomes of an entry
pub record TopRoom (e : Entry) (s : State) : Type 0 where
  pub some : 0 < size_of e.set
  pub level : length s.stack + size_of e.set ≤ 128
  pub fits : e.start + size_of e.set ≤ 128
  pub few_fields : s.shape.count < 256
  pub few_groups : s.shape.groups < 256
  pub few_jobs : s.placed < 128

-- so many parts of an entry may take its place
pub record SpreadRoom (count : ℕ) (parts : List (List ℕ)) (e : Entry) (s : State) : Type 0 where
  pub room : TopRoom e s
  pub some : 0 < count
  pub few : count ≤ size_of e.set
  pub same_jobs : jobs_of (take count parts) ≡ size_of e.set

-- nothing is written, and nothing is on the stack
pub record Blank (s : State) : Type 0 where
  pub shape : s.shape ≡ no_shape
  pub placed : s.placed ≡ 0
  pub stack : s.stack ≡ []

-- an entry has become a group of so many parts: its field, and its parts in its place
pub record Grouped (count : ℕ) (parts : List (List ℕ)) (e : Entry) (s t : State) : Type 0 where
  pub these : t.stack ≡ opened e (take count parts) ++ s.stack
  pub field : t.shape ≡ with_group e.series count s.shape
  pub no_job : t.placed ≡ s.placed

-- an entry was a single job: its field, and its place in both sequences
pub record Leafed (e : Entry) (s t : State) : Type 0 where
  pub one : size_of e.set ≡ 1
  pub these : t.stack ≡ s.stack
  pub field : t.shape ≡ with_leaf (lead e.set) s.placed e.start s.shape
  pub one_job : t.placed ≡ s.placed + 1

-- a set taken apart
pub record Parted (near under : Rel) (series : Bool) (s : List ℕ) : Type 0 where
  pub parts : List (List ℕ)
  pub count : ℕ
  pub numbers : List ℕ
  pub numbers' : List ℕ
  pub taken : Taken near under series s parts count numbers numbers'

-- an entry taken apart as its kind asks
abbrev pub PartedAs : Rel → Rel → Rel → Entry → Type 0
PartedAs tied free under e = Parted (close_of e.series tied free) under e.series e.set

-- all jobs below n are taken apart as a series: if they come apart, they become a group, and else they are on the stack
pub record Rooted (n : ℕ) (free under : Rel) (s t : State) : Type 0 where
  pub all : List ℕ
  pub is_all : (v : ℕ) → has all v ≡ ltb v n
  pub split : Parted free under true all
  pub apart : 2 ≤ split.count → Grouped split.count split.parts (record { set = all; start = 0; series = ltb 1 split.count }) s t
  pub whole : split.count < 2
      → (t.stack ≡ record { set = all; start = 0; series = ltb 1 split.count } ∷ s.stack) × (t.shape ≡ s.shape) × (t.placed ≡ s.placed)

-- one turn: an entry is put as a job, or becomes a group; or it is not taken apart, and the writing cannot go on
pub data Stepped (tied free under : Rel) (e : Entry) (s : State) (d : Draft) : Option Progress → Type 0 where
  put : (p : Progress) → Leafed e s (state d p) → Stepped tied free under e s d (Some p)
  opens : (p : Progress) (a : PartedAs tied free under e) → 2 ≤ a.count → Grouped a.count a.parts e s (state d p)
      → Stepped tied free under e s d (Some p)
  stays : (a : PartedAs tied free under e) → a.count < 2 → (size_of e.set ≡ 1 → ⊥) → Stepped tied free under e s d None
