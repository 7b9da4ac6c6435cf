-- Making a tree from a list of blocks still to be made: whatever trees tell these blocks, they complete what is written to the whole tree.
use Prim.Native.Nat.{ℕ, suc, ◌+◌, ◌≤◌}
use mathlib.Core.Path.{◌≡◌, refl, sym, ap, subst, ◌∙◌}
use mathlib.Core.List.{List, [], ◌∷◌, ◌++◌, append_assoc, append-nil}
use mathlib.Core.Bool.{false}
use native.Mathlib.Omega.{arith}
use native.Mathlib.Nat.{add-zero}
use lib.ListN.{length, take, drop, set, length-append}
use lib.Seq.{sets, sets-eq, take_at}
use Rattle.poset.specs.Lists.{below}
use Rattle.poset.specs.Order.{Rel}
use Rattle.poset.specs.Decompose.{Block}
use Rattle.poset.specs.Tree.{Kind, series, parallel, Tree, leaf, node, Forest, last, more}
use Rattle.poset.specs.Tree.{leaves, forest_leaves, reversed, forest_reversed, joined, groups, forest_groups}
use Rattle.poset.specs.Inner.{Each}
use Rattle.poset.proofs.Shape.{Same, good_once}
use Rattle.poset.proofs.Ranks.{block_size}
use Rattle.poset.proofs.Standing.{near}
use Rattle.poset.proofs.Linked.{Linked}
use Rattle.poset.proofs.Components.{Of, OfBlocks, Sorted}
use Rattle.poset.proofs.Laying.{Laid, Ordered}
use Rattle.poset.proofs.Sums.{length_below}
use Rattle.poset.proofs.Decomposition.{below_sorted}
use Rattle.poset.proofs.Telling.{Tells, TellsForest, tells_leaf, tells_last, tells_more, tells_node}
use Rattle.writer.proofs.Stores.{sets_append, sets_comm}
use Rattle.record.specs.Layout.{more_children}
use Rattle.record.specs.Tokens.{group_token, tokens, forest_tokens}

-- a block still to be made, and where its jobs begin in the reverse sequence
pub record Pending : Type 0 where
  pub block : Block
  pub start : ℕ

-- each tree tells its block
abbrev pub Trees : Rel → List Pending → List Tree → Type 0
Trees r [] [] = Unit {0}
Trees r [] (t ∷ ts) = ⊥
Trees r (p ∷ ps) [] = ⊥
Trees r (p ∷ ps) (t ∷ ts) = Tells r p.block t × Trees r ps ts

abbrev pub all_tokens : List Tree → List ℕ
all_tokens [] = []
all_tokens (t ∷ ts) = tokens t ++ all_tokens ts

abbrev pub all_leaves : List Tree → List ℕ
all_leaves [] = []
all_leaves (t ∷ ts) = leaves t ++ all_leaves ts

abbrev pub all_groups : List Tree → ℕ
all_groups [] = 0
all_groups (t ∷ ts) = groups t + all_groups ts

-- the reverse sequence of each tree written at its start
abbrev pub lay : List ℕ → List Pending → List Tree → List ℕ
lay rev [] ts = rev
lay rev (p ∷ ps) [] = rev
lay rev (p ∷ ps) (t ∷ ts) = lay (sets rev p.start (reversed t)) ps ts

-- what is written, completed by trees of the pending blocks, is the tree of the whole order
pub record Completes (n : ℕ) (r : Rel) (out fwd rev : List ℕ) (g : ℕ) (ts : List Tree) (ps : List Pending) : Type 0 where
  pub whole : Tree
  pub tells : Tells r (below n) whole
  pub fields : tokens whole ≡ out ++ all_tokens ts
  pub forward : leaves whole ≡ fwd ++ all_leaves ts
  pub reverse : take n (lay rev ps ts) ≡ reversed whole
  pub count : groups whole ≡ g + all_groups ts

abbrev pub Todo : ℕ → Rel → List ℕ → List ℕ → List ℕ → ℕ → List Pending → Type 0
Todo n r out fwd rev g ps = (ts : List Tree) → Trees r ps ts → Completes n r out fwd rev g ts ps

-- a single job
pub todo_leaf : (n : ℕ) (r : Rel) (out fwd rev : List ℕ) (g j start : ℕ) (ps : List Pending) → r j j ≡ false
    → Todo n r out fwd rev g (record { block = j ∷ []; start = start } ∷ ps) → Todo n r (out ++ (j ∷ [])) (fwd ++ (j ∷ [])) (set rev start j) g ps
unfolding leaves reversed groups
todo_leaf n r out fwd rev g j start ps e todo ts x =
    let c = todo (leaf j ∷ ts) (tells_leaf r j e, x) in
    record {
      whole = c.whole;
      tells = c.tells;
      fields = c.fields ∙ sym (append_assoc out (j ∷ []) (all_tokens ts));
      forward = c.forward ∙ sym (append_assoc fwd (j ∷ []) (all_leaves ts));
      reverse = c.reverse;
      count = omega (arith, c.count);
    }

-- as many leaves as jobs

joined_length : (k : Kind) (xs ys : List ℕ) → length (joined k xs ys) ≡ length xs + length ys
unfolding joined
joined_length series xs ys = length-append xs ys
joined_length parallel xs ys = omega (arith, length-append ys xs)

group_length : (k : Kind) (xs ys ls ms : List ℕ) → length xs ≡ length ls → length ys ≡ length ms → length (joined k xs ys) ≡ length (ls ++ ms)
group_length k xs ys ls ms p q = omega (arith, joined_length k xs ys, length-append ls ms)

mutual
  unfolding leaves reversed

  pub reversed_length : (t : Tree) → length (reversed t) ≡ length (leaves t)
  reversed_length (leaf j) = refl
  reversed_length (node k t f) =
      group_length k (reversed t) (forest_reversed k f) (leaves t) (forest_leaves f) (reversed_length t) (forest_reversed_length k f)

  forest_reversed_length : (k : Kind) (f : Forest) → length (forest_reversed k f) ≡ length (forest_leaves f)
  forest_reversed_length k (last t) = reversed_length t
  forest_reversed_length k (more t f) =
      group_length k (reversed t) (forest_reversed k f) (leaves t) (forest_leaves f) (reversed_length t) (forest_reversed_length k f)

pub tells_length : (r : Rel) (b : Block) (t : Tree) → Sorted b → Tells r b t → length (reversed t) ≡ length b
tells_length r b t s x = reversed_length t ∙ block_size b t s (good_once r t x.good) x.same

-- the blocks of a group, each with its start: in a series one after the other, in a parallel group from the last to the first

abbrev pub total : List Block → ℕ
total [] = 0
total (b ∷ bs) = length b + total bs

abbrev pub spread : Kind → ℕ → List Block → List Pending
spread k start [] = []
spread series start (b ∷ bs) = record { block = b; start = start } ∷ spread series (start + length b) bs
spread parallel start (b ∷ bs) = record { block = b; start = start + total bs } ∷ spread parallel start bs

-- the forest of a list of trees

abbrev pub forest_from : Tree → List Tree → Forest
forest_from t [] = last t
forest_from t (s ∷ ts) = more t (forest_from s ts)

from_tokens : (t : Tree) (ts : List Tree) → forest_tokens (forest_from t ts) ≡ all_tokens (t ∷ ts)
from_tokens t [] = sym (append-nil (tokens t))
from_tokens t (s ∷ ts) = ap (λ l. tokens t ++ l) (from_tokens s ts)

from_leaves : (t : Tree) (ts : List Tree) → forest_leaves (forest_from t ts) ≡ all_leaves (t ∷ ts)
unfolding leaves
from_leaves t [] = sym (append-nil (leaves t))
from_leaves t (s ∷ ts) = ap (λ l. leaves t ++ l) (from_leaves s ts)

from_groups : (t : Tree) (ts : List Tree) → forest_groups (forest_from t ts) ≡ all_groups (t ∷ ts)
unfolding groups
from_groups t [] = omega arith
from_groups t (s ∷ ts) = omega (arith, from_groups s ts)

from_children : (t : Tree) (ts : List Tree) → more_children (forest_from t ts) ≡ suc (length ts)
unfolding more_children
from_children t [] = refl
from_children t (s ∷ ts) = ap suc (from_children s ts)

-- trees of two lists of pending blocks
pub trees_append : (r : Rel) (ps qs : List Pending) (ts : List Tree) → Trees r (ps ++ qs) ts
    → (us : List Tree) × (vs : List Tree) × (ts ≡ us ++ vs) × Trees r ps us × Trees r qs vs
trees_append r [] qs ts x = ([], ts, refl, tt, x)
trees_append r (p ∷ ps) qs [] x = absurd x
trees_append r (p ∷ ps) qs (t ∷ ts) x =
    let (us, vs, e, y, z) = trees_append r ps qs ts x.1 in
    (t ∷ us, vs, ap (λ l. t ∷ l) e, (x.0, y), z)

-- trees of the blocks of a group, by the blocks alone
abbrev pub TreesOf : Rel → List Block → List Tree → Type 0
TreesOf r [] [] = Unit {0}
TreesOf r [] (t ∷ ts) = ⊥
TreesOf r (b ∷ bs) [] = ⊥
TreesOf r (b ∷ bs) (t ∷ ts) = Tells r b t × TreesOf r bs ts

spread_trees : (r : Rel) (k : Kind) (start : ℕ) (bs : List Block) (ts : List Tree) → Trees r (spread k start bs) ts → TreesOf r bs ts
spread_trees r k start [] [] x = tt
spread_trees r k start [] (t ∷ ts) x = x
spread_trees r series start (b ∷ bs) [] x = x
spread_trees r parallel start (b ∷ bs) [] x = x
spread_trees r series start (b ∷ bs) (t ∷ ts) x = (x.0, spread_trees r series (start + length b) bs ts x.1)
spread_trees r parallel start (b ∷ bs) (t ∷ ts) x = (x.0, spread_trees r parallel start bs ts x.1)

from_length : (r : Rel) (k : Kind) (b : Block) (bs : List Block) (t : Tree) (ts : List Tree) → Each Sorted (b ∷ bs) → TreesOf r (b ∷ bs) (t ∷ ts)
    → length (forest_reversed k (forest_from t ts)) ≡ total (b ∷ bs)
unfolding reversed
from_length r k b [] t [] s x = omega (arith, tells_length r b t s.0 x.0)
from_length r k b [] t (u ∷ ts) s x = absurd x.1
from_length r k b (c ∷ bs) t [] s x = absurd x.1
from_length r k b (c ∷ bs) t (u ∷ ts) s x =
    omega (
      arith,
      joined_length k (reversed t) (forest_reversed k (forest_from u ts)),
      tells_length r b t s.0 x.0,
      from_length r k c bs u ts s.1 x.1,
    )

-- the children's reverse sequences at their starts are the group's
lay_spread : (r : Rel) (k : Kind) (rev : List ℕ) (start : ℕ) (b : Block) (bs : List Block) (t : Tree) (ts : List Tree) (ps : List Pending) (us : List Tree)
    → Each Sorted (b ∷ bs) → TreesOf r (b ∷ bs) (t ∷ ts)
    → lay rev (spread k start (b ∷ bs) ++ ps) ((t ∷ ts) ++ us) ≡ lay (sets rev start (forest_reversed k (forest_from t ts))) ps us
unfolding reversed joined
lay_spread r series rev start b [] t [] ps us s x = refl
lay_spread r parallel rev start b [] t [] ps us s x = ap (λ i. lay (sets rev i (reversed t)) ps us) (add-zero start)
lay_spread r series rev start b [] t (u ∷ ts) ps us s x = absurd x.1
lay_spread r parallel rev start b [] t (u ∷ ts) ps us s x = absurd x.1
lay_spread r series rev start b (c ∷ bs) t [] ps us s x = absurd x.1
lay_spread r parallel rev start b (c ∷ bs) t [] ps us s x = absurd x.1
lay_spread r series rev start b (c ∷ bs) t (u ∷ ts) ps us s x =
    let rest = forest_reversed series (forest_from u ts) in
    let e : start + length b ≡ start + length (reversed t) = omega (arith, tells_length r b t s.0 x.0) in
    lay_spread r series (sets rev start (reversed t)) (start + length b) c bs u ts ps us s.1 x.1
    ∙ ap (λ i. lay (sets (sets rev start (reversed t)) i rest) ps us) e
    ∙ ap (λ l. lay l ps us) (sym (sets_append rev start (reversed t) rest))
lay_spread r parallel rev start b (c ∷ bs) t (u ∷ ts) ps us s x =
    let rest = forest_reversed parallel (forest_from u ts) in
    let e : start + total (c ∷ bs) ≡ start + length rest = omega (arith, from_length r parallel c bs u ts s.1 x.1) in
    lay_spread r parallel (sets rev (start + total (c ∷ bs)) (reversed t)) start c bs u ts ps us s.1 x.1
    ∙ ap (λ i. lay (sets (sets rev i (reversed t)) start rest) ps us) e
    ∙ ap (λ l. lay l ps us)
    (sets_comm rev start (start + length rest) rest (reversed t) (omega arith) ∙ sym (sets_append rev start rest (reversed t)))

-- the tree of a group
module _ (r : Rel) (k : Kind) where
  abbrev Joined : Block → Type 1
  Joined b = Linked (near k r) (Of b)

  forest_from_lem : (b : Block) (bs : List Block) (t : Tree) (ts : List Tree) → Laid k r (b ∷ bs) → Each Joined (b ∷ bs)
      → Each Sorted (b ∷ bs) → Ordered k r (b ∷ bs)
      → TreesOf r (b ∷ bs) (t ∷ ts) → TellsForest r k (b ∷ bs) (forest_from t ts)
  forest_from_lem b [] t [] laid linked sorted ordered x = tells_last r k b t linked.0 sorted.0 x.0
  forest_from_lem b [] t (u ∷ ts) laid linked sorted ordered x = absurd x.1
  forest_from_lem b (c ∷ bs) t [] laid linked sorted ordered x = absurd x.1
  forest_from_lem b (c ∷ bs) t (u ∷ ts) laid linked sorted ordered x =
      tells_more r k b t linked.0 sorted.0 x.0 (c ∷ bs) (forest_from u ts) laid ordered
      (forest_from_lem c bs u ts laid.1 linked.1 sorted.1 ordered.1 x.1)

-- a group of two blocks or more
pub record GroupOf (k : Kind) (r : Rel) (js : List ℕ) (bs : List Block) : Type 1 where
  pub laid : Laid k r bs
  pub linked : Each (λ b. Linked (near k r) (Of b)) bs
  pub ordered : Ordered k r bs
  pub ascending : Each Sorted bs
  pub same : Same (OfBlocks bs) (Of js)

all_tokens_append : (ts us : List Tree) → all_tokens (ts ++ us) ≡ all_tokens ts ++ all_tokens us
all_tokens_append [] us = refl
all_tokens_append (t ∷ ts) us =
    ap (λ l. tokens t ++ l) (all_tokens_append ts us) ∙ sym (append_assoc (tokens t) (all_tokens ts) (all_tokens us))

all_leaves_append : (ts us : List Tree) → all_leaves (ts ++ us) ≡ all_leaves ts ++ all_leaves us
all_leaves_append [] us = refl
all_leaves_append (t ∷ ts) us =
    ap (λ l. leaves t ++ l) (all_leaves_append ts us) ∙ sym (append_assoc (leaves t) (all_leaves ts) (all_leaves us))

all_groups_append : (ts us : List Tree) → all_groups (ts ++ us) ≡ all_groups ts + all_groups us
all_groups_append [] us = omega arith
all_groups_append (t ∷ ts) us = omega (arith, all_groups_append ts us)

trees_count : (r : Rel) (bs : List Block) (ts : List Tree) → TreesOf r bs ts → length ts ≡ length bs
trees_count r [] [] x = refl
trees_count r [] (t ∷ ts) x = absurd x
trees_count r (b ∷ bs) [] x = absurd x
trees_count r (b ∷ bs) (t ∷ ts) x = ap suc (trees_count r bs ts x.1)

module _ (n : ℕ) (r : Rel) (k : Kind) (out fwd rev : List ℕ) (g start : ℕ) (js : List ℕ) (b c : Block) (bs : List Block) (ps : List Pending)
    (x : GroupOf k r js (b ∷ c ∷ bs)) (todo : Todo n r out fwd rev g (record { block = js; start = start } ∷ ps)) where
  abbrev Grouped : List Tree → Type 0
  Grouped ts = Completes n r (out ++ (group_token k (suc (length bs)) ∷ [])) fwd rev (suc g) ts (spread k start (b ∷ c ∷ bs) ++ ps)

  grouped : (us vs : List Tree) → TreesOf r (b ∷ c ∷ bs) us → Trees r ps vs → Grouped (us ++ vs)
  unfolding leaves reversed groups
  grouped [] vs y z = absurd y
  grouped (t ∷ []) vs y z = absurd y.1
  grouped (t ∷ s ∷ us) vs y z =
      let f = forest_from s us in
      let whole = forest_from_lem r k b (c ∷ bs) t (s ∷ us) x.laid x.linked x.ascending x.ordered y in
      let d = todo (node k t f ∷ vs) (tells_node r k js (b ∷ c ∷ bs) t f x.same whole, z) in
      let field : group_token k (more_children f) ≡ group_token k (suc (length bs)) =
      ap (group_token k) (from_children s us ∙ ap suc (trees_count r bs us y.1.1)) in
      let all : (tokens t ++ forest_tokens f) ++ all_tokens vs ≡ all_tokens ((t ∷ s ∷ us) ++ vs) =
      ap (λ l. (tokens t ++ l) ++ all_tokens vs) (from_tokens s us) ∙ sym (all_tokens_append (t ∷ s ∷ us) vs) in
      let run : (leaves t ++ forest_leaves f) ++ all_leaves vs ≡ all_leaves ((t ∷ s ∷ us) ++ vs) =
      ap (λ l. (leaves t ++ l) ++ all_leaves vs) (from_leaves s us) ∙ sym (all_leaves_append (t ∷ s ∷ us) vs) in
      record {
        whole = d.whole;
        tells = d.tells;
        fields =
            d.fields
            ∙ ap (λ l. out ++ group_token k (more_children f) ∷ l) all
            ∙ ap (λ i. out ++ i ∷ all_tokens ((t ∷ s ∷ us) ++ vs)) field
            ∙ sym (append_assoc out (group_token k (suc (length bs)) ∷ []) (all_tokens ((t ∷ s ∷ us) ++ vs)));
        forward =
            d.forward ∙ ap (λ l. fwd ++ l) run;
        reverse = ap (take n) (lay_spread r k rev start b (c ∷ bs) t (s ∷ us) ps vs x.ascending y) ∙ d.reverse;
        count = omega (arith, d.count, from_groups s us, all_groups_append us vs);
      }

  pub todo_group : Todo n r (out ++ (group_token k (suc (length bs)) ∷ [])) fwd rev (suc g) (spread k start (b ∷ c ∷ bs) ++ ps)
  todo_group ts y =
      let (us, vs, e, p, q) = trees_append r (spread k start (b ∷ c ∷ bs)) ps ts y in
      subst Grouped (sym e) (grouped us vs (spread_trees r k start (b ∷ c ∷ bs) us p) q)

-- nothing pending: the tree is written
pub todo_none : (n : ℕ) (r : Rel) (out fwd rev : List ℕ) (g : ℕ) → Todo n r out fwd rev g []
    → (t : Tree) × Tells r (below n) t × (tokens t ≡ out) × (leaves t ≡ fwd) × (take n rev ≡ reversed t) × (groups t ≡ g)
todo_none n r out fwd rev g todo =
    let d = todo [] tt in
    (d.whole, d.tells, d.fields ∙ append-nil out, d.forward ∙ append-nil fwd, d.reverse, omega (arith, d.count))

-- all pending: nothing is written
pub todo_all : (n : ℕ) (r : Rel) (rev : List ℕ) → n ≤ length rev → Todo n r [] [] rev 0 (record { block = below n; start = 0 } ∷ [])
todo_all n r rev h [] x = absurd x
todo_all n r rev h (t ∷ []) x =
    record {
      whole = t;
      tells = x.0;
      fields = sym (append-nil (tokens t));
      forward = sym (append-nil (leaves t));
      reverse =
          let size = tells_length r (below n) t (below_sorted n) x.0 ∙ length_below n in
          ap (take n) (sets-eq (reversed t) rev 0 (omega arith)) ∙ take_at (reversed t) (drop (0 + length (reversed t)) rev) n size;
      count = omega arith;
    }
todo_all n r rev h (t ∷ s ∷ ts) x = absurd x.1
