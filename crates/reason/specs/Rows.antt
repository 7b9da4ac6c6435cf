-- What is known of two jobs in a row of trees, and the trees from a node on.
-- For inner contracts alone: who reads the promise of reason_between need not believe it, but specs/Outcome.antt.
use Rattle.std.specs.Prelude.{ℕ, suc, ◌+◌, ◌≤◌, ◌<◌, ◌≡◌, Bool, ◌||◌, cond, ◌⊎◌, Option, MatchOption, eqb, ltb, length, drop}
use mathlib.Core.List.{List, [], ◌∷◌, ◌++◌, flat_map}
use Rattle.poset.specs.Lists.{member, ahead_in}
use Rattle.poset.specs.Tree.{Tree, Spans, leaves}
use Rattle.record.specs.Tokens.{tokens, node_room, Small}
use Rattle.reader.specs.Nodes.{Listed, Step, Fits}
use Rattle.reason.specs.Lowest.{rule}
use Rattle.reason.specs.Claims.{LowestAt}
use Rattle.reason.specs.Outcome.{rule_number}
use Rattle.reason.specs.declared.Rule.{Rule}
use Rattle.reason.specs.declared.seeking.Decision.{Decision}
use Rattle.reason.specs.declared.seeking.Mark.{Mark}
use Rattle.reason.specs.declared.seeking.Mark.TheVariants as mark
use Rattle.reason.specs.declared.seeking.Row.{Row}

-- one of the jobs is in a list
abbrev pub met : ℕ → ℕ → List ℕ → Bool
met u v js = member u js || member v js

-- which of the jobs are in a list, and which stands ahead
abbrev pub mark_of : ℕ → ℕ → List ℕ → ℕ
mark_of u v js = cond (member u js) (cond (member v js) (cond (eqb u v) 1 (cond (ahead_in u v js) 2 3)) 5) (cond (member v js) 6 7)

-- the number of a mark: 7 neither job is there, 5 the first alone, 6 the second alone; both are: 1 they are one job, 2 the first stands ahead,
-- 3 behind
abbrev pub mark_number : Mark → ℕ
mark_number mark.Neither = 7
mark_number mark.First = 5
mark_number mark.Second = 6
mark_number mark.Same = 1
mark_number mark.FirstAhead = 2
mark_number mark.SecondAhead = 3

-- the mark m with the job j more ahead
abbrev pub marked : (u v j m : ℕ) → ℕ
marked u v j m = cond (eqb u j) (cond (eqb v j) 1 (cond (eqb m 6) 2 5)) (cond (eqb v j) (cond (eqb m 5) 3 6) m)

-- how many trees there are from the last one on that has one of the jobs, or all where none has
abbrev pub low_of : ℕ → ℕ → List Tree → ℕ
low_of u v [] = 0
low_of u v (s ∷ ss) = cond (met u v (flat_map leaves ss)) (low_of u v ss) (suc (length ss))

pub record Rowed (u v : ℕ) (ts : List Tree) (row : Row) : Type 0 where
  pub height_is : row.height ≡ length ts
  pub low_is : row.low ≡ low_of u v ts
  pub mark_is : mark_number row.mark ≡ mark_of u v (flat_map leaves ts)

abbrev pub Takes : (token u v : ℕ) → Row → Row → Type 0
Takes token u v row r = (ts us : List Tree) → Step token ts us → Fits us → Rowed u v ts row → Rowed u v us r

-- the first tree of a row is not over both jobs
abbrev pub GoesOn : Row → Type 0
GoesOn row = (3 < mark_number row.mark) ⊎ (row.low < row.height)

-- it is, and the jobs stand so
pub record Ends (row : Row) (stand : Rule) : Type 0 where
  pub whole : row.height ≤ row.low
  pub both : rule_number stand ≤ 3
  pub stand_is : rule_number stand ≡ mark_number row.mark

abbrev pub Decides : Row → Option Rule → Type 0
Decides row r = MatchOption r (GoesOn row) (Ends row)

-- the rule of a node by its token and the mark
abbrev pub rule_by : ℕ → ℕ → ℕ
rule_by token mark = cond (ltb token 384) mark 4

-- two jobs of a tree, and the tree's nodes
pub record Sought (u v : ℕ) (t : Tree) (list : List ℕ) (count : ℕ) : Type 0 where
  pub jobs : ℕ
  pub spans : Spans jobs t
  pub first_below : u < jobs
  pub second_below : v < jobs
  pub nodes : Listed t list count

-- the nodes from `at` on begin with those of the trees ts
pub record Ahead (list : List ℕ) (at : ℕ) (ts : List Tree) : Type 0 where
  pub after : List ℕ
  pub these : drop at list ≡ flat_map tokens ts ++ after
  pub room : at + length (flat_map tokens ts) ≤ node_room
  pub small : Small (flat_map leaves ts)

-- the lowest node over both, and its rule
pub record Decided (u v : ℕ) (t : Tree) (list : List ℕ) (r : Decision) : Type 0 where
  pub lowest : Tree
  pub at : LowestAt u v t r.position lowest
  pub rule_is : rule_number r.rule ≡ rule u v lowest
  pub ahead : Ahead list r.position (lowest ∷ [])
