-- Lengths, and sums over a list.
use Prim.Native.Nat.{ℕ, zero, suc, ◌+◌, ◌*◌, ◌≤◌, ◌<◌}
use mathlib.Core.Path.{◌≡◌, refl, sym, ap, ◌∙◌}
use mathlib.Core.List.Memᴰ
use mathlib.Core.List.{List, [], ◌∷◌, ◌++◌, flat_map, Memᴰ}
use mathlib.Core.Bool.{Bool, false, cond}
use mathlib.Core.Logic.{⊎_elim}
use native.Mathlib.Decide.{dec_le}
use native.Mathlib.Nat.{eq-or-lt_of_le}
use native.Mathlib.Numerals.{add-one}
use native.Mathlib.Omega.{arith}
use lib.Dec.{eqb}
use lib.ListN.{length, length-append}
use Rattle.poset.specs.Lists.{keep, sum, up_from, below}
use Rattle.poset.proofs.Laws.{decided, eqb_same, eqb_differ, keep_yes, keep_not, mem_below, below_add}

-- 1 for a test that passes, 0 for one that fails
abbrev pub bit : Bool → ℕ
bit b = cond b 1 0

module _ {ℓ} {A : Type ℓ} where
  pub sum_le : (f g : A → ℕ) (xs : List A) → ((x : A) → Memᴰ x xs → f x ≤ g x) → sum f xs ≤ sum g xs
  sum_le f g [] h = omega arith
  sum_le f g (x ∷ xs) h = omega (arith, h x (Memᴰ.head refl), sum_le f g xs (λ y m. h y (Memᴰ.tail m)))

  -- f is at most g, and by c less at one element
  pub sum_gap : (f g : A → ℕ) (c : ℕ) {y : A} {xs : List A} → ((x : A) → Memᴰ x xs → f x ≤ g x) → Memᴰ y xs → f y + c ≤ g y
      → sum f xs + c ≤ sum g xs
  sum_gap f g c h (Memᴰ.head {x = x} {xs = xs} e) d = omega (arith, ap f e, ap g e, sum_le f g xs (λ z m. h z (Memᴰ.tail m)))
  sum_gap f g c h (Memᴰ.tail {x = x} {xs = xs} m) d =
      omega (arith, h x (Memᴰ.head refl), sum_gap f g c (λ z k. h z (Memᴰ.tail k)) m d)

  pub sum_zero : (f : A → ℕ) (xs : List A) → ((x : A) → Memᴰ x xs → f x ≡ 0) → sum f xs ≡ 0
  sum_zero f [] h = refl
  sum_zero f (x ∷ xs) h = omega (arith, h x (Memᴰ.head refl), sum_zero f xs (λ y m. h y (Memᴰ.tail m)))

  pub sum_agree : (f g : A → ℕ) (xs : List A) → ((x : A) → Memᴰ x xs → f x ≡ g x) → sum f xs ≡ sum g xs
  sum_agree f g [] h = refl
  sum_agree f g (x ∷ xs) h = omega (arith, h x (Memᴰ.head refl), sum_agree f g xs (λ y m. h y (Memᴰ.tail m)))

  pub sum_append : (f : A → ℕ) (xs ys : List A) → sum f (xs ++ ys) ≡ sum f xs + sum f ys
  sum_append f [] ys = omega arith
  sum_append f (x ∷ xs) ys = omega (arith, sum_append f xs ys)

  pub sum_add : (f g : A → ℕ) (xs : List A) → sum (λ x. f x + g x) xs ≡ sum f xs + sum g xs
  sum_add f g [] = omega arith
  sum_add f g (x ∷ xs) = omega (arith, sum_add f g xs)

  pub sum_scale : (k : ℕ) (f : A → ℕ) (xs : List A) → sum (λ x. k * f x) xs ≡ k * sum f xs
  sum_scale k f [] = omega arith
  sum_scale k f (x ∷ xs) = omega (arith, sum_scale k f xs)

  pub sum_const : (k : ℕ) (xs : List A) → sum (λ x. k) xs ≡ k * length xs
  sum_const k [] = omega arith
  sum_const k (x ∷ xs) = omega (arith, sum_const k xs)

  pub sum_keep : (p : A → Bool) (f : A → ℕ) (xs : List A) → sum f (keep p xs) ≡ sum (λ x. cond (p x) (f x) 0) xs
  unfolding keep
  sum_keep p f [] = refl
  sum_keep p f (x ∷ xs) =
      ⊎_elim
      (λ e. rw (keep_yes p x xs e, e) (omega (arith, sum_keep p f xs)))
      (λ e. rw (keep_not p x xs e, e) (omega (arith, sum_keep p f xs)))
      (decided (p x))

  pub length_keep : (p : A → Bool) (xs : List A) → length (keep p xs) ≡ sum (λ x. bit (p x)) xs
  unfolding keep
  length_keep p [] = refl
  length_keep p (x ∷ xs) =
      ⊎_elim
      (λ e. rw (keep_yes p x xs e, e) (omega (arith, length_keep p xs)))
      (λ e. rw (keep_not p x xs e, e) (omega (arith, length_keep p xs)))
      (decided (p x))

  pub length_keep_le : (p : A → Bool) (xs : List A) → length (keep p xs) ≤ length xs
  unfolding keep
  length_keep_le p [] = omega arith
  length_keep_le p (x ∷ xs) =
      ⊎_elim
      (λ e. rw (keep_yes p x xs e) (omega (arith, length_keep_le p xs)))
      (λ e. rw (keep_not p x xs e) (omega (arith, length_keep_le p xs)))
      (decided (p x))

  pub length_keep_lt : (p : A → Bool) {y : A} {xs : List A} → Memᴰ y xs → p y ≡ false → length (keep p xs) < length xs
  length_keep_lt p (Memᴰ.head {x = x} {xs = xs} e) h =
      rw (keep_not p x xs (ap p (sym e) ∙ h)) (omega (arith, length_keep_le p xs))
  length_keep_lt p (Memᴰ.tail {x = x} {xs = xs} m) h =
      ⊎_elim
      (λ e. rw (keep_yes p x xs e) (omega (arith, length_keep_lt p m h)))
      (λ e. rw (keep_not p x xs e) (omega (arith, length_keep_lt p m h)))
      (decided (p x))

  -- f is nowhere in the list larger than at y
  abbrev pub Top : (A → ℕ) → A → List A → Type ℓ
  Top f y xs = (x : A) → Memᴰ x xs → f x ≤ f y

  -- a list that is not empty has an element at which f is largest
  pub largest : (f : A → ℕ) (x : A) (xs : List A) → (y : A) × Memᴰ y (x ∷ xs) × Top f y (x ∷ xs)
  largest f x [] = (x, Memᴰ.head refl, λ z m. omega (arith, ap f (Memᴰ.eq_of_singleton m)))
  largest f x (w ∷ ws) =
      let (y, m, top) = largest f w ws in
      elim (dec_le (f x) (f y)) [
        | yes l ↦ (y, Memᴰ.tail m, over y top y l (omega arith))
        | no l ↦ (x, Memᴰ.head refl, over y top x (omega arith) (omega arith))
      ]
    where
      over : (y : A) → Top f y (w ∷ ws) → (t : A) → f x ≤ f t → f y ≤ f t → Top f t (x ∷ w ∷ ws)
      over y top t p q z m = ⊎_elim (λ e. omega (arith, ap f e)) (λ k. omega (arith, top z k)) (Memᴰ.cases_cons m)

module _ {ℓ κ} {A : Type ℓ} {B : Type κ} where
  pub sum_swap : (f : A → B → ℕ) (xs : List A) (ys : List B) → sum (λ x. sum (f x) ys) xs ≡ sum (λ y. sum (λ x. f x y) xs) ys
  sum_swap f [] ys = omega (arith, sum_const 0 ys)
  sum_swap f (x ∷ xs) ys = omega (arith, sum_swap f xs ys, sum_add (f x) (λ y. sum (λ z. f z y) xs) ys)

  pub length_flat_map : (f : A → List B) (xs : List A) → length (flat_map f xs) ≡ sum (λ x. length (f x)) xs
  unfolding flat_map
  length_flat_map f [] = refl
  length_flat_map f (x ∷ xs) = omega (arith, length-append (f x) (flat_map f xs), length_flat_map f xs)

-- a sum over pairs, where each pair is borne by its two elements
pub sum_pairs {ℓ} : {A : Type ℓ} (a f g : A → A → ℕ) (xs : List A)
    → ((x y : A) → Memᴰ x xs → Memᴰ y xs → a x y ≤ f x y + g y x)
    → sum (λ x. sum (a x) xs) xs ≤ sum (λ x. sum (f x) xs + sum (g x) xs) xs
sum_pairs {A = A} a f g xs h =
    omega (
      arith,
      sum_le (λ x. sum (a x) xs) (λ x. sum (f x) xs + sum (λ y. g y x) xs) xs row,
      sum_add (λ x. sum (f x) xs) (λ x. sum (λ y. g y x) xs) xs,
      sum_swap g xs xs,
      sum_add (λ x. sum (f x) xs) (λ x. sum (g x) xs) xs,
    )
  where
    row : (x : A) → Memᴰ x xs → sum (a x) xs ≤ sum (f x) xs + sum (λ y. g y x) xs
    row x m = omega (arith, sum_le (a x) (λ y. f x y + g y x) xs (λ y k. h x y m k), sum_add (f x) (λ y. g y x) xs)

pub length_up_from : (k n : ℕ) → length (up_from k n) ≡ n
unfolding up_from
length_up_from k zero = refl
length_up_from k (suc n) = ap suc (length_up_from (suc k) n)

pub length_below : (n : ℕ) → length (below n) ≡ n
unfolding below
length_below n = length_up_from 0 n

-- sums over the numbers below n

pub sum_next : (f : ℕ → ℕ) (n : ℕ) → sum f (below (n + 1)) ≡ sum f (below n) + f n
unfolding up_from
sum_next f n = ap (sum f) (below_add n 1) ∙ sum_append f (below n) (up_from n 1) ∙ omega arith

-- two functions that agree but at x have sums that differ as they do at x
pub sum_but : (f g : ℕ → ℕ) (n x : ℕ) → x < n → ((u : ℕ) → (u ≡ x → ⊥) → f u ≡ g u) → sum f (below n) + g x ≡ sum g (below n) + f x
sum_but f g zero x l h = absurd (omega arith)
sum_but f g (suc n) x l h =
    let e : n + 1 ≡ suc n = add-one n in
    rw (← e) (⊎_elim
    (λ (d : x ≡ n). omega (
      arith,
      sum_next f n,
      sum_next g n,
      ap f d,
      ap g d,
      sum_agree f g (below n) (λ u m. h u (λ c. omega (arith, mem_below n m))),
    ))
    (λ (d : x < n). omega (arith, sum_next f n, sum_next g n, h n (λ c. omega arith), sum_but f g n x d h))
    (eq-or-lt_of_le (omega arith)))

-- the number h once, where y stands among the numbers below n
pub sum_one : (h y n : ℕ) → y < n → sum (λ g. cond (eqb y g) h 0) (below n) ≡ h
sum_one h y n l =
    omega (
      arith,
      sum_but (λ g. cond (eqb y g) h 0) (λ g. 0) n y l (λ g d. ap (λ b. cond b h 0) (eqb_differ y g (λ e. d (sym e)))),
      sum_const 0 (below n),
      ap (λ b. cond b h 0) (eqb_same y),
    )
