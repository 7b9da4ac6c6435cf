-- Where a node stands: the groups around it, the gangs of what is to come, and what has been written.
-- For inner contracts alone: who reads the promise of fewest_gangs need not believe it, but specs/Outcome.antt.
use Rattle.std.specs.Prelude.{ℕ, ◌+◌, ◌≤◌, ◌<◌, max, ◌≡◌, Bool, cond, eqb, ltb, length, get_or}
use mathlib.Core.List.{List, [], ◌∷◌, ◌++◌, flat_map, Memᴰ}
use Rattle.poset.specs.Lists.{keep, sum, occurrences}
use Rattle.poset.specs.Tree.{Kind, series, parallel, Tree, leaves, groups}
use Rattle.record.specs.Layout.{hours_of}
use Rattle.record.specs.Tokens.{tokens, Small}
use Rattle.gangs.specs.Gangs.{gang_count, gang}
use Rattle.gangs.specs.declared.numbering.Group.{Group}
use Rattle.gangs.specs.declared.numbering.Kind as declared
use Rattle.gangs.specs.declared.numbering.Kind.TheVariants as kind
use Rattle.gangs.specs.declared.numbering.Numbering.{Numbering}
use Rattle.gangs.specs.declared.numbering.OuterGroups.{OuterGroups}

-- a group that is begun: its kind, the first gang of its present child, one past the last gang of its children so far, and the children to come
pub record Open : Type 0 where
  pub kind : Kind
  pub at : ℕ
  pub end : ℕ
  pub rest : List Tree

-- the kind by the tree's
abbrev pub kind_of : declared.Kind → Kind
kind_of kind.Chain = series
kind_of kind.Side = parallel

-- the first gang of the next child
abbrev pub start_of : Kind → ℕ → ℕ → ℕ
start_of series at end = at
start_of parallel at end = end

-- the tree t gives the jobs of its part s the gangs from `at` on
pub record Numbers (t : Tree) (at : ℕ) (s : Tree) : Type 0 where
  pub once : (u : ℕ) → occurrences u (leaves s) ≤ 1
  pub small : Small (leaves s)
  pub each : (u : ℕ) → Memᴰ u (leaves s) → gang t u ≡ at + gang s u

-- the same of the children to come of a group; `after` then holds of where the group's gangs end
abbrev pub Rest : Tree → Kind → (ℕ → Type 0) → (at end : ℕ) → List Tree → Type 0
Rest t k after at end [] = after end
Rest t k after at end (s ∷ ss) =
    Numbers t (start_of k at end) s × Rest t k after (start_of k at end) (max end (start_of k at end + gang_count s)) ss

-- the open groups, the innermost first, where the gangs of the innermost's present child end before `end`
abbrev pub Around : Tree → List Open → ℕ → Type 0
Around t [] end = end ≡ gang_count t
Around t (o ∷ os) end = Rest t o.kind (Around t os) o.at (max o.end end) o.rest

-- the group that the code has of an open one
pub record Holds (g : Group) (o : Open) : Type 0 where
  pub kind_is : kind_of g.kind ≡ o.kind
  pub coming_is : g.coming ≡ length o.rest
  pub at_is : g.at ≡ o.at
  pub end_is : g.end ≡ o.end

-- the group that is missing
abbrev pub no_group : Group
no_group = record { kind = kind.Chain; coming = 0; at = 0; end = 0 }

-- the open groups, the innermost first, in a list that has the outermost first
abbrev pub AllHeld : List Group → List Open → Type 0
AllHeld gs [] = Unit {0}
AllHeld gs (o ∷ os) = Holds (get_or gs (length os) no_group) o × AllHeld gs os

-- the nodes and the groups of the trees to come
abbrev pub to_come : List Open → List ℕ
to_come = flat_map (λ o. flat_map tokens o.rest)

abbrev pub groups_to_come : List Open → ℕ
groups_to_come = sum (λ o. sum groups o.rest)

-- the open groups of the code: the present one, and those around it
pub record Groups : Type 0 where
  pub present : Group
  pub depth : ℕ
  pub around : List Group

abbrev pub open_groups : Group → OuterGroups → Groups
open_groups g a = record { present = g; depth = a.depth; around = a.groups }

-- the present group is o, and os are around it
pub record InGroup (w : Groups) (o : Open) (os : List Open) : Type 0 where
  pub sized : length w.around ≡ 128
  pub held : AllHeld w.around os
  pub depth_is : w.depth ≡ length os
  pub present : Holds w.present o
  pub shallow : length os + groups_to_come (o ∷ os) < 128

-- a child of the group o is done
pub record Done (t : Tree) (w : Groups) (o : Open) (os : List Open) : Type 0 where
  pub group : InGroup w o os
  pub coming : Rest t o.kind (Around t os) o.at o.end o.rest

-- the tree s begins, a child of the group o
pub record Begun (t : Tree) (w : Groups) (s : Tree) (o : Open) (os : List Open) : Type 0 where
  pub group : InGroup w o os
  pub numbers : Numbers t o.at s
  pub coming : Around t (o ∷ os) (o.at + gang_count s)
  pub shallow : length os + groups s + groups_to_come (o ∷ os) < 128

-- the open groups, where these are the nodes to come
pub data At (t : Tree) (w : Groups) (xs : List ℕ) : Type 0 where
  begins : (s : Tree) (o : Open) (os : List Open) → Begun t w s o os → xs ≡ tokens s ++ to_come (o ∷ os) → At t w xs
  ended : w.present.end ≡ gang_count t → xs ≡ [] → At t w xs

-- the steps from place to place

pub record NextChild (g r : Group) : Type 0 where
  pub kind_is : r.kind ≡ g.kind
  pub coming_is : r.coming + 1 ≡ g.coming
  pub at_is : r.at ≡ start_of (kind_of g.kind) g.at g.end
  pub end_is : r.end ≡ g.end

pub record Outer (w v : Groups) : Type 0 where
  pub depth_is : v.depth + 1 ≡ w.depth
  pub around_is : v.around ≡ w.around
  pub kind_is : v.present.kind ≡ (get_or w.around v.depth no_group).kind
  pub coming_is : v.present.coming ≡ (get_or w.around v.depth no_group).coming
  pub at_is : v.present.at ≡ (get_or w.around v.depth no_group).at
  pub end_is : v.present.end ≡ max (get_or w.around v.depth no_group).end w.present.end

-- what is written of the leaves ahead of the nodes to come: the gang of each job, and the hours of each gang

abbrev pub is_leaf : ℕ → Bool
is_leaf x = ltb x 256

abbrev pub load_of : Tree → List ℕ → ℕ → ℕ → ℕ
load_of t jobs g u = cond (eqb (gang t u) g) (hours_of jobs u) 0

pub record Written (t : Tree) (jobs xs gangs hours : List ℕ) : Type 0 where
  pub seen : List ℕ
  pub all : seen ++ keep is_leaf xs ≡ leaves t
  pub gangs_size : length gangs ≡ 128
  pub hours_size : length hours ≡ 128
  pub these : (u : ℕ) → Memᴰ u seen → get_or gangs u 0 ≡ gang t u
  pub others : (u : ℕ) → (Memᴰ u seen → ⊥) → get_or gangs u 0 ≡ 0
  pub loads : (g : ℕ) → get_or hours g 0 ≡ sum (load_of t jobs g) seen

-- the open groups of the code, and what it has written
pub record Taken : Type 0 where
  pub groups : Groups
  pub gangs : List ℕ
  pub hours : List ℕ

abbrev pub taken : Group → Numbering → Taken
taken g n = record { groups = open_groups g n.outer; gangs = n.gangs; hours = n.hours }

-- where the nodes xs are to come: the open groups, and what is written
pub record Ready (t : Tree) (jobs : List ℕ) (w : Taken) (xs : List ℕ) : Type 0 where
  pub small : Small (leaves t)
  pub at : At t w.groups xs
  pub written : Written t jobs xs w.gangs w.hours

-- what is to hold after the node of a token: what held ahead of it
abbrev pub Takes : (token : ℕ) (jobs : List ℕ) → Taken → Taken → Type 0
Takes token jobs w v = (t : Tree) (xs : List ℕ) → Ready t jobs w (token ∷ xs) → Ready t jobs v xs

-- so many gangs, and all leaves are written
pub record AllNumbered (t : Tree) (jobs : List ℕ) (count : ℕ) (gangs hours : List ℕ) : Type 0 where
  pub count_is : count ≡ gang_count t
  pub written : Written t jobs [] gangs hours
