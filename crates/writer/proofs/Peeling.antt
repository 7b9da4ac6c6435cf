-- A set taken apart block by block: each block is joined and stands to what is left as in a group of the kind.
use Prim.Native.Nat.{ℕ, ◌<◌}
use mathlib.Core.Path.{◌≡◌}
use mathlib.Core.List.{List, [], ◌∷◌}
use mathlib.Core.Bool.{true, false}
use mathlib.Core.Logic.{◌⊎◌, inl, inr}
use Rattle.poset.specs.Order.{Rel, Strict}
use Rattle.poset.specs.Tree.{Kind, series, parallel}
use lib.ListN.{get_or}
use Rattle.poset.specs.Decompose.{Block, arranged, comes_first}
use Rattle.poset.specs.Inner.{Each, Pairs}
use Rattle.poset.proofs.Standing.{near, Stands, near_sym, near_either, stands_near, free, forced}
use Rattle.poset.proofs.Laws.{clash}
use Rattle.poset.proofs.Linked.{Linked}
use Rattle.poset.proofs.Shape.{Same}
use Rattle.poset.proofs.Components.{Of, OfBlocks, Sorted}
use Rattle.poset.proofs.Laying.{Laid, Ordered, Joined, Meet, head_in, arranged_each, arranged_same, meet_laid, asymmetric, all_before}
use Rattle.writer.proofs.Worklist.{GroupOf}

pub record Piece (k : Kind) (r : Rel) (b : Block) (left : ℕ → Type 0) : Type 1 where
  pub linked : Linked (near k r) (Of b)
  pub stands : (u v : ℕ) → Of b u → left v → Stands k r u v
  pub first : Of b (get_or b 0 0)
  pub ascending : Sorted b

abbrev pub Pieces : Kind → Rel → List Block → (ℕ → Type 0) → Type 1
Pieces k r [] left = Unit {1}
Pieces k r (b ∷ bs) left = Piece k r b (λ v. OfBlocks bs v ⊎ left v) × Pieces k r bs left

-- of fewer jobs left the same holds
pub piece_fewer : (k : Kind) (r : Rel) (b : Block) (L M : ℕ → Type 0) → ((v : ℕ) → M v → L v) → Piece k r b L → Piece k r b M
piece_fewer k r b L M within p =
    record {
      linked = p.linked;
      stands = λ u v m q. p.stands u v m (within v q);
      first = p.first;
      ascending = p.ascending;
    }

-- nothing left: the blocks are those of a group
module _ (k : Kind) (r : Rel) (L : ℕ → Type 0) where
  pieces_laid : (bs : List Block) → Pieces k r bs L → Laid k r bs
  pieces_laid [] ps = tt
  pieces_laid (b ∷ bs) ps = ((λ u v p q. ps.0.stands u v p (inl q)), pieces_laid bs ps.1)

  pieces_linked : (bs : List Block) → Pieces k r bs L → Each (λ b. Linked (near k r) (Of b)) bs
  pieces_linked [] ps = tt
  pieces_linked (b ∷ bs) ps = (ps.0.linked, pieces_linked bs ps.1)

  pieces_ascending : (bs : List Block) → Pieces k r bs L → Each Sorted bs
  pieces_ascending [] ps = tt
  pieces_ascending (b ∷ bs) ps = (ps.0.ascending, pieces_ascending bs ps.1)

series_ordered : (r : Rel) (bs : List Block) → Ordered series r bs
series_ordered r [] = tt
series_ordered r (b ∷ []) = tt
series_ordered r (b ∷ c ∷ bs) = (tt, series_ordered r (c ∷ bs))

-- a series as it was taken apart
pub series_group : (r : Rel) (L : ℕ → Type 0) (js : List ℕ) (bs : List Block) → Pieces series r bs L → Same (OfBlocks bs) (Of js)
    → GroupOf series r js bs
series_group r L js bs ps same =
    record {
      laid = pieces_laid series r L bs ps;
      linked = pieces_linked series r L bs ps;
      ordered = series_ordered r bs;
      ascending = pieces_ascending series r L bs ps;
      same = same;
    }

-- branches side by side, arranged
module _ (n : ℕ) (r : Rel) (strict : Strict n r) (L : ℕ → Type 0) where
  joined_of : (b : Block) (left : ℕ → Type 0) → Piece parallel r b left → ((u : ℕ) → Of b u → u < n) → Joined n r strict parallel b
  joined_of b left p small = record { linked = p.linked; first = p.first; small = small }

  pieces_meet : (bs : List Block) → Pieces parallel r bs L → ((u : ℕ) → OfBlocks bs u → u < n) → Pairs (Meet n r strict parallel) bs
  pieces_meet [] ps small = tt
  pieces_meet (b ∷ bs) ps small = (
    meets bs (λ u v m q. ps.0.stands u v m (inl q)) ps.1 (λ u m. small u (inr m)),
    pieces_meet bs ps.1 (λ u m. small u (inr m)),
  )
    where
      meets : (cs : List Block) → ((u v : ℕ) → Of b u → OfBlocks cs v → Stands parallel r u v) → Pieces parallel r cs L
          → ((u : ℕ) → OfBlocks cs u → u < n) → Each (Meet n r strict parallel b) cs
      meets [] stands qs small' = tt
      meets (c ∷ cs) stands qs small' = (
        record {
          one = joined_of b _ ps.0 (λ u m. small u (inl m));
          two = joined_of c _ qs.0 (λ u m. small' u (inl m));
          tied = λ u v p q. stands_near parallel r u v (stands u v p (inl q));
        },
        meets cs (λ u v p q. stands u v p (inr q)) qs.1 (λ u m. small' u (inr m)),
      )

  pub parallel_group : (js : List ℕ) (bs : List Block) → Pieces parallel r bs L → ((u : ℕ) → Of js u → u < n) → Same (OfBlocks bs) (Of js)
      → GroupOf parallel r js (arranged (comes_first parallel r) bs)
  parallel_group js bs ps small same =
      let first = comes_first parallel r in
      let laid = meet_laid n r strict parallel bs (pieces_meet bs ps (λ u m. small u ((same u).0 m))) in
      let there = arranged_same first bs in
      record {
        laid = laid.0;
        linked = arranged_each first (λ b. Linked (near parallel r) (Of b)) bs (pieces_linked parallel r L bs ps);
        ordered = laid.1;
        ascending = arranged_each first Sorted bs (pieces_ascending parallel r L bs ps);
        same = λ u. (λ p. (same u).0 ((there u).0 p), λ p. (there u).1 ((same u).1 p));
      }

-- the block found from a job of what is left
pub parallel_piece : (r : Rel) (b : Block) (left : ℕ → Type 0) (x : ℕ) → Linked (near parallel r) (Of b) → Sorted b → Of b x
    → ((u v : ℕ) → Of b u → left v → near parallel r u v ≡ false) → ((u v : ℕ) → Of b u → left v → u ≡ v → ⊥) → Piece parallel r b left
parallel_piece r b left x linked sorted has far differ =
    record {
      linked = linked;
      stands = λ u v p q. free r u v (near_either parallel r u v (differ u v p q) (far u v p q));
      first = head_in b x has;
      ascending = sorted;
    }

-- the block found from a job that has nothing of what is left before it
pub series_piece : (n : ℕ) (r : Rel) → Strict n r → (b : Block) (left : ℕ → Type 0) (x : ℕ) → Linked (near series r) (Of b) → Sorted b → Of b x
    → ((v : ℕ) → left v → r v x ≡ false) → ((u v : ℕ) → Of b u → left v → near series r u v ≡ false)
    → ((u v : ℕ) → Of b u → left v → u ≡ v → ⊥) → ((u : ℕ) → Of b u → u < n) → ((v : ℕ) → left v → v < n) → Piece series r b left
series_piece n r strict b left x linked sorted has first far differ small small_left =
    record { linked = linked; stands = stands; first = head_in b x has; ascending = sorted }
  where
    tied : (u v : ℕ) → Of b u → left v → near parallel r u v ≡ true
    tied u v p q = near_either series r u v (differ u v p q) (far u v p q)

    stands : (u v : ℕ) → Of b u → left v → (r u v ≡ true) × (r v u ≡ false)
    stands u v p q =
        let xv = forced r v x (near_sym parallel r x v (tied x v has q)) (λ h. clash h (first v q)) in
        let uv = all_before n r strict (Of b) small linked v (small_left v q) (λ w m. tied w v m q) x u has p xv in
        (uv, asymmetric n r strict u v (small u p) (small_left v q) uv)
