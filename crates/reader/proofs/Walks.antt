-- The reverse sequence, walked from its first job.
use Prim.Native.Nat.{ℕ, zero, suc, ◌+◌, ◌-◌, ◌≤◌, ◌<◌}
use mathlib.Core.Path.{◌≡◌, refl, sym, ap, ◌∙◌}
use mathlib.Core.List.{List, [], ◌∷◌, ◌++◌}
use native.Mathlib.Nat.{sub-zero}
use native.Mathlib.Omega.{arith}
use lib.ListN.{length, get_or, set, take, drop, replicate}
use lib.Seq.{drop-cons, get_or-drop}
use Rattle.record.specs.Bits.{AllBelow}
use Rattle.record.proofs.Below.{below_head, below_tail}
use Rattle.reader.specs.Parts.{Strand, alone, followed, walk}
use Rattle.poset.specs.Areas.{padded}
use Rattle.reader.proofs.Written.{written_all, written_more}

pub strand_walk : {next xs : List ℕ} {a b : ℕ} → Strand next a xs b → walk next (length xs) a ≡ xs
unfolding walk
strand_walk (alone a) = refl
strand_walk (followed a p) = ap (λ (l : List ℕ). a ∷ l) (strand_walk p)

length_walk : (next : List ℕ) (k x : ℕ) → length (walk next k x) ≡ k
unfolding walk
length_walk next zero x = refl
length_walk next (suc k) x = ap suc (length_walk next k (get_or next x 0))

pub below_at : (m : ℕ) (xs : List ℕ) (i : ℕ) → AllBelow m xs → i < length xs → get_or xs i 0 < m
below_at m [] i h l = absurd (omega arith)
below_at m (x ∷ xs) zero h l = below_head h
below_at m (x ∷ xs) (suc i) h l = below_at m xs i (below_tail h) (omega arith)

-- after i jobs of the walk: those written, and the one to come
pub record Walked (next : List ℕ) (first count i job : ℕ) (jobs : List ℕ) : Type 0 where
  pub inside : i ≤ count
  pub written : jobs ≡ take i (walk next count first) ++ replicate (128 - i) 0
  pub come : drop i (walk next count first) ≡ walk next (count - i) job

module _ (next : List ℕ) (first count : ℕ) where
  pub walked_none : Walked next first count 0 first (replicate 128 0)
  walked_none = record { inside = omega arith; written = refl; come = ap (λ (k : ℕ). walk next k first) (sym (sub-zero count)) }

  module _ (i job : ℕ) (jobs : List ℕ) (w : Walked next first count i job jobs) (small : count ≤ 128) where
    pub walked_all : count ≤ i → jobs ≡ padded (walk next count first)
    walked_all l = written_all 128 (walk next count first) i jobs w.written (omega (arith, w.inside, length_walk next count first))

    module _ (l : i < count) where
      here : drop i (walk next count first) ≡ job ∷ walk next (count - (i + 1)) (get_or next job 0)
      unfolding walk
      here = let e : count - i ≡ suc (count - (i + 1)) = omega arith in w.come ∙ ap (λ (k : ℕ). walk next k job) e

      at_here : get_or (walk next count first) i 0 ≡ job
      at_here =
          let e : i ≡ i + 0 = omega arith in
          ap (λ (k : ℕ). get_or (walk next count first) k 0) e ∙ sym (get_or-drop i (walk next count first) 0 0) ∙ ap (λ (r : List ℕ). get_or r 0 0) here

      pub job_below : AllBelow 128 (walk next count first) → job < 128
      job_below h = omega (arith, at_here, below_at 128 (walk next count first) i h (omega (arith, length_walk next count first)))

      pub walked_more : Walked next first count (i + 1) (get_or next job 0) (set jobs i job)
      walked_more =
          let ws : List ℕ = walk next count first in
          let inside : i < length ws = omega (arith, length_walk next count first) in
          let one : i + 1 ≡ suc i = omega arith in
          let after : drop (suc i) ws ≡ walk next (count - (i + 1)) (get_or next job 0) =
          ap (drop 1) (sym (drop-cons ws i 0 inside) ∙ here) in
          record {
            inside = omega arith;
            written = written_more 128 ws i jobs w.written inside (omega arith) job at_here;
            come = ap (λ (k : ℕ). drop k ws) one ∙ after;
          }
