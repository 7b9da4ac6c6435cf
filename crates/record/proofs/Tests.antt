-- The decoder's tests, and what they say.
use Prim.Native.Nat.{ℕ, zero, suc, ◌<◌}
use mathlib.Core.Path.{◌≡◌, refl, sym, ap, ap₂, ◌∙◌}
use mathlib.Core.List.{List, [], ◌∷◌, Memᴰ}
use mathlib.Core.Bool.{Bool, true, false, ◌&&◌, cond}
use mathlib.Core.Logic.{◌↔◌, ⊎_elim}
use lib.Dec.{eqb, ltb}
use lib.ListN.{length, replicate, length-replicate}
use Rattle.poset.specs.Lists.{occurrences, below}
use Rattle.poset.specs.Tree.{Tree, leaves, Spans}
use Rattle.poset.proofs.Laws.{decided, clash, and_left, and_right, and_intro, eqb-true, eqb_same, ltb-true, lt_true, count_zero, below_mem, mem_below}
use Rattle.record.specs.Decode.{every, fills, spanning}
use Rattle.record.proofs.Sizes.{leaves_below, leaf_once}

module _ (p : ℕ → Bool) where
  all_at : {x : ℕ} {xs : List ℕ} → Memᴰ x xs → every p xs ≡ true → p x ≡ true
  unfolding every
  all_at (Memᴰ.head {x = y} {xs = ys} e) h = ap p e ∙ and_left (p y) (every p ys) h
  all_at (Memᴰ.tail {x = y} {xs = ys} m) h = all_at m (and_right (p y) (every p ys) h)

  all_of : (xs : List ℕ) → ((x : ℕ) → Memᴰ x xs → p x ≡ true) → every p xs ≡ true
  unfolding every
  all_of [] h = refl
  all_of (x ∷ xs) h = and_intro (p x) (every p xs) (h x (Memᴰ.head refl)) (all_of xs (λ y m. h y (Memᴰ.tail m)))

-- the fill

all_zero : (xs : List ℕ) → every (eqb 0) xs ≡ true → xs ≡ replicate (length xs) 0
unfolding every
all_zero [] h = refl
all_zero (x ∷ xs) h =
    ap₂ ◌∷◌ (sym (eqb-true 0 x (and_left (eqb 0 x) (every (eqb 0) xs) h))) (all_zero xs (and_right (eqb 0 x) (every (eqb 0) xs) h))

zero_all : (k : ℕ) → every (eqb 0) (replicate k 0) ≡ true
unfolding every
zero_all zero = refl
zero_all (suc k) = zero_all k

pub fills_zeros : (k : ℕ) → k < 8 → fills (replicate k 0) ≡ true
unfolding fills
fills_zeros k h =
    let zeros : List ℕ = replicate k 0 in
    let few : length zeros < 8 = rw (length-replicate {A = ℕ} k 0) h in
    and_intro (ltb (length zeros) 8) (every (eqb 0) zeros) (lt_true (length zeros) 8 few) (zero_all k)

pub zeros_fill : (rest : List ℕ) → fills rest ≡ true → (length rest < 8) × (rest ≡ replicate (length rest) 0)
unfolding fills
zeros_fill rest h =
    let few = ltb (length rest) 8 in
    (ltb-true (length rest) 8 (and_left few (every (eqb 0) rest) h), all_zero rest (and_right few (every (eqb 0) rest) h))

-- the leaves

pub spanning_spans : (n : ℕ) (t : Tree) → (spanning n t ≡ true) ↔ Spans n t
unfolding spanning
spanning_spans n t = (there, back)
  where
    inside : ℕ → Bool
    inside j = ltb j n

    once : ℕ → Bool
    once j = eqb (occurrences j (leaves t)) 1

    there : every inside (leaves t) && every once (below n) ≡ true → Spans n t
    there h u =
        ⊎_elim
        (λ (e : ltb u n ≡ true).
        eqb-true (occurrences u (leaves t)) 1 (all_at once (below_mem (ltb-true u n e)) (and_right (every inside (leaves t)) _ h))
        ∙ ap (λ (b : Bool). cond b 1 0) (sym e))
        (λ (e : ltb u n ≡ false).
        count_zero u (leaves t) (λ m. clash (all_at inside m (and_left (every inside (leaves t)) _ h)) e) ∙ ap (λ (b : Bool). cond b 1 0) (sym e))
        (decided (ltb u n))

    back : Spans n t → every inside (leaves t) && every once (below n) ≡ true
    back s =
        and_intro (every inside (leaves t)) (every once (below n))
        (all_of inside (leaves t) (λ j m. lt_true j n (leaves_below n t s j m)))
        (all_of once (below n) (λ j m. rw (leaf_once n t s j (mem_below n m)) (eqb_same 1)))
