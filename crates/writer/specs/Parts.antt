-- Parts of a set of jobs.
-- An inner contract: who reads the promise of write_record need not believe it, but specs/Written.antt alone.
use Rattle.std.specs.Prelude.{ℕ, ◌≤◌, ◌<◌, ◌≡◌, List, [], ◌∷◌, Bool, true, false, ◌&&◌, not, length, take, get_or}
use Rattle.poset.specs.Order.{Rel}
use Rattle.poset.specs.Tree.{outranks}
use Rattle.poset.specs.Decompose.{arranged}
use Rattle.poset.specs.Inner.{Each, Pairs}
use Rattle.relation.specs.Table.{has, members, Least}

-- how many jobs a set has, and the smallest

abbrev pub size_of : List ℕ → ℕ
size_of s = length (members s)

abbrev pub lead : List ℕ → ℕ
lead s = get_or (members s) 0 0

-- a path of near jobs, all but the first in S
pub data Walk (near : Rel) (S : ℕ → Type 0) (x : ℕ) : ℕ → Type 0 where
  start : Walk near S x x
  next : {y v : ℕ} → Walk near S x y → S v → near y v ≡ true → Walk near S x v

-- the part of a set that x falls to: it is joined to x, and near to nothing else of the set
pub record PartOf (near : Rel) (s : List ℕ) (x : ℕ) (part : List ℕ) : Type 0 where
  pub within : (v : ℕ) → has part v ≡ true → has s v ≡ true
  pub own : has part x ≡ true
  pub far : (u v : ℕ) → has part u ≡ true → has s v ≡ true → has part v ≡ false → near u v ≡ false
  pub joined : (u : ℕ) → has part u ≡ true → Walk near (λ v. has part v ≡ true) x u

-- a set of jobs below 128
abbrev pub Jobs : List ℕ → Type 0
Jobs s = (v : ℕ) → has s v ≡ true → v < 128

-- a set of jobs below 128, and how many it has
pub record Counted (s : List ℕ) (size : ℕ) : Type 0 where
  pub small : Jobs s
  pub counted : size ≡ size_of s

-- irreflexive and transitive
pub record Partial (r : Rel) : Type 0 where
  pub irreflexive : (u : ℕ) → r u u ≡ false
  pub transitive : (u v w : ℕ) → r u v ≡ true → r v w ≡ true → r u w ≡ true

-- x is a job of s, and none of s is before it (under holds what is before what)
pub record First (under : Rel) (s : List ℕ) (x : ℕ) : Type 0 where
  pub small : x < 128
  pub member : has s x ≡ true
  pub first : (v : ℕ) → has s v ≡ true → under x v ≡ false

-- where the next part starts: in a series at a first job, else at the smallest
abbrev pub StartsAt : Rel → Bool → List ℕ → ℕ → Type 0
StartsAt under true s x = First under s x
StartsAt under false s x = Least s x

-- s taken apart from left to right
abbrev pub Splits : Rel → Rel → Bool → List ℕ → List (List ℕ) → Type 0
Splits near under series s [] = (v : ℕ) → has s v ≡ false
Splits near under series s (part ∷ parts) =
    (x : ℕ)
    × (rest : List ℕ)
    × StartsAt under series s x
    × PartOf near s x part
    × ((v : ℕ) → has rest v ≡ (has s v && not (has part v)))
    × Splits near under series rest parts

-- the first count parts are s taken apart
pub record Cut (near under : Rel) (series : Bool) (s : List ℕ) (parts : List (List ℕ)) (count : ℕ) : Type 0 where
  pub size : length parts ≡ 128
  pub few : count ≤ size_of s
  pub these : Splits near under series s (take count parts)

-- the jobs that p holds for have this number, the others what they had
pub record Marked (p : ℕ → Bool) (number : ℕ) (numbers numbers' : List ℕ) : Type 0 where
  pub size : length numbers' ≡ 128
  pub here : (v : ℕ) → p v ≡ true → get_or numbers' v 0 ≡ number
  pub others : (v : ℕ) → p v ≡ false → get_or numbers' v 0 ≡ get_or numbers v 0

-- each job of s has the number of the part that it fell to, the others what they had
pub record Numbered (s : List ℕ) (parts : List (List ℕ)) (count : ℕ) (numbers numbers' : List ℕ) : Type 0 where
  pub size : length numbers' ≡ 128
  pub here : (i v : ℕ) → i < count → has (get_or parts i []) v ≡ true → get_or numbers' v 0 ≡ i
  pub others : (v : ℕ) → has s v ≡ false → get_or numbers' v 0 ≡ get_or numbers v 0

-- each has a larger smallest job than p; and so has each than those ahead of it

abbrev pub Behind : List ℕ → List (List ℕ) → Type 0
Behind p = Each (λ q. lead p < lead q)

abbrev pub Leading : List (List ℕ) → Type 0
Leading = Pairs (λ p q. lead p < lead q)

-- one set goes ahead of another side by side
abbrev pub bigger : List ℕ → List ℕ → Bool
bigger p q = outranks (size_of p) (lead p) (size_of q) (lead q)

-- the parts of a group in its order: a series as it was taken apart
abbrev pub laid_out : Bool → List (List ℕ) → List (List ℕ)
laid_out true ps = ps
laid_out false ps = arranged bigger ps

-- the first count parts are s taken apart, in the order of the group; the jobs are numbered by the parts as they were found
pub record Taken (near under : Rel) (series : Bool) (s : List ℕ) (parts : List (List ℕ)) (count : ℕ) (numbers numbers' : List ℕ) : Type 0 where
  pub size : length parts ≡ 128
  pub few : count ≤ size_of s
  pub found : List (List ℕ)
  pub splits : Splits near under series s found
  pub numbered : Numbered s found count numbers numbers'
  pub these : take count parts ≡ laid_out series found

-- the relation that keeps jobs together in a part: of a series group the incomparable ones, of a parallel group the comparable ones
abbrev pub close_of : Bool → Rel → Rel → Rel
close_of true tied free = free
close_of false tied free = tied
