-- Lists of which a test keeps a part, searches in them, and the numbers of a range.
use Prim.Native.Nat.{ℕ, zero, suc, ◌+◌, ◌-◌, ◌≤◌, ◌<◌, zero-le, suc-le-suc}
use native.Mathlib.Nat.{eq-or-lt_of_le, lt_of_lt_of_le, le_trans, le-suc}
use native.Mathlib.Decide.{dec_lt}
use native.Mathlib.Omega.{arith}
use mathlib.Core.Path.{◌≡◌, refl, sym, ap, ◌∙◌}
use mathlib.Core.List.{List, [], ◌∷◌, ◌++◌, map, Memᴰ}
use mathlib.Core.Bool.{Bool, true, false, ◌&&◌, ◌||◌, not}
use Rattle.std.specs.Prelude.{Option, None, Some}
use mathlib.Core.Logic.{⊎_elim}
use lib.Dec.{ltb}
use lib.ListN.{length}
use borrow.Author.Tests.{lt-ltb, le-ltb}
use Rattle.poset.specs.Lists.{exists, keep, up_from, below, first, only_if}
use Rattle.poset.proofs.Laws.{decided, any_hit, any_none, any_append, keep_yes, keep_not, below_mem, mem_below, below_add}
use Rattle.poset.proofs.Laws.{first_here, first_later, found_or_none, found_clash, only_if_some, only_if_none}
use Rattle.poset.proofs.Searches.{first_none, none_first, none_below}

pub and-true : (b : Bool) → (b && true) ≡ b
and-true true = refl
and-true false = refl

pub and_false : (b : Bool) → (b && false) ≡ false
and_false true = refl
and_false false = refl

pub and_comm : (a b : Bool) → (a && b) ≡ (b && a)
and_comm true b = sym (and-true b)
and_comm false b = sym (and_false b)

pub or-false : (b : Bool) → (b || false) ≡ b
or-false true = refl
or-false false = refl

pub not_or : (a b c : Bool) → not (a || (b || c)) ≡ (not a && (not b && not c))
not_or true b c = refl
not_or false true c = refl
not_or false false c = refl

module _ {ℓ} {A : Type ℓ} (p : A → Bool) where
  pub keep_append : (xs ys : List A) → keep p (xs ++ ys) ≡ keep p xs ++ keep p ys
  unfolding keep
  keep_append [] ys = refl
  keep_append (x ∷ xs) ys =
      ⊎_elim
      (λ (e : p x ≡ true). rw (keep_yes p x (xs ++ ys) e, keep_yes p x xs e) (ap {B = List A} (λ zs. x ∷ zs) (keep_append xs ys)))
      (λ (e : p x ≡ false). rw (keep_not p x (xs ++ ys) e, keep_not p x xs e) (keep_append xs ys))
      (decided (p x))

  pub keep_none : (xs : List A) → ((x : A) → Memᴰ x xs → p x ≡ false) → keep p xs ≡ []
  unfolding keep
  keep_none [] h = refl
  keep_none (x ∷ xs) h = keep_not p x xs (h x (Memᴰ.head refl)) ∙ keep_none xs (λ y m. h y (Memᴰ.tail m))

  module _ (q : A → Bool) where
    -- a test that passes less keeps no more
    pub keep_fewer : ((x : A) → p x ≡ true → q x ≡ true) → (xs : List A) → length (keep p xs) ≤ length (keep q xs)
    unfolding keep
    keep_fewer h [] = zero-le
    keep_fewer h (x ∷ xs) =
        ⊎_elim
        (λ (e : p x ≡ true). rw (keep_yes p x xs e, keep_yes q x xs (h x e)) (suc-le-suc (keep_fewer h xs)))
        (λ (e : p x ≡ false).
        rw (keep_not p x xs e)
        (⊎_elim
        (λ (d : q x ≡ true). rw (keep_yes q x xs d) (le_trans (keep_fewer h xs) (le-suc (length (keep q xs)))))
        (λ (d : q x ≡ false). rw (keep_not q x xs d) (keep_fewer h xs))
        (decided (q x))))
        (decided (p x))

  -- a search that finds nothing where the test fails
  module _ {B : Type 0} (f : A → Option B) where
    pub first_keep : (xs : List A) → ((x : A) → Memᴰ x xs → p x ≡ false → f x ≡ None) → first f (keep p xs) ≡ first f xs
    unfolding keep
    first_keep [] h = refl
    first_keep (x ∷ xs) h =
        ⊎_elim
        (λ (e : p x ≡ true).
        rw (keep_yes p x xs e)
        (⊎_elim
        (λ s. first_here f x (keep p xs) s.1 ∙ sym (first_here f x xs s.1))
        (λ (o : f x ≡ None). first_later f x (keep p xs) o ∙ first_keep xs rest ∙ sym (first_later f x xs o))
        (found_or_none (f x))))
        (λ (e : p x ≡ false).
        rw (keep_not p x xs e) (first_keep xs rest ∙ sym (first_later f x xs (h x (Memᴰ.head refl) e))))
        (decided (p x))
      where
        rest : (y : A) → Memᴰ y xs → p y ≡ false → f y ≡ None
        rest y m = h y (Memᴰ.tail m)

-- two searches that agree on a list
pub first_agree {ℓ} : {A : Type ℓ} {B : Type 0} (f g : A → Option B) (xs : List A) → ((x : A) → Memᴰ x xs → f x ≡ g x) → first f xs ≡ first g xs
unfolding first
first_agree f g [] h = refl
first_agree f g (x ∷ xs) h =
    let here : f x ≡ g x = h x (Memᴰ.head refl) in
    ⊎_elim
    (λ s. first_here f x xs s.1 ∙ sym (first_here g x xs (sym here ∙ s.1)))
    (λ e. first_later f x xs e ∙ first_agree f g xs (λ y m. h y (Memᴰ.tail m)) ∙ sym (first_later g x xs (sym here ∙ e)))
    (found_or_none (f x))

-- a search over two lists, one after the other
module _ {ℓ} {A : Type ℓ} {B : Type 0} (f : A → Option B) where
  pub first_append_here : (xs ys : List A) {b : B} → first f xs ≡ Some b → first f (xs ++ ys) ≡ Some b
  unfolding first
  first_append_here [] ys h = absurd (found_clash h refl)
  first_append_here (x ∷ xs) ys h =
      ⊎_elim
      (λ s. first_here f x (xs ++ ys) s.1 ∙ sym (first_here f x xs s.1) ∙ h)
      (λ e. first_later f x (xs ++ ys) e ∙ first_append_here xs ys (sym (first_later f x xs e) ∙ h))
      (found_or_none (f x))

  pub first_append_later : (xs ys : List A) → first f xs ≡ None → first f (xs ++ ys) ≡ first f ys
  first_append_later [] ys h = refl
  first_append_later (x ∷ xs) ys h =
      let e = first_none f (Memᴰ.head {xs = xs} refl) h in
      first_later f x (xs ++ ys) e ∙ first_append_later xs ys (sym (first_later f x xs e) ∙ h)

-- a search for the first element that passes a test leads another that finds nothing where the test fails
module _ {A B : Type 0} (p : A → Bool) (g : A → Option B) where
  pub led_none : (xs : List A) → ((x : A) → Memᴰ x xs → p x ≡ false → g x ≡ None) → first (λ x. only_if (p x) x) xs ≡ None → first g xs ≡ None
  led_none xs h e = none_first g xs (λ x m. h x m ((only_if_none (p x) x).0 (first_none _ m e)))

  pub led_some
      : (xs : List A) → ((x : A) → Memᴰ x xs → p x ≡ false → g x ≡ None) → {c : A} → first (λ x. only_if (p x) x) xs ≡ Some c
      → Memᴰ c xs × (p c ≡ true) × ((b : B) → g c ≡ Some b → first g xs ≡ Some b)
  unfolding first only_if
  led_some [] h e = absurd (found_clash e refl)
  led_some (x ∷ xs) h {c} e =
      ⊎_elim
      (λ (t : p x ≡ true).
      let d : x ≡ c = (only_if_some true (sym (first_here (λ y. only_if (p y) y) x xs (rw t)) ∙ e)).1 in
      (Memᴰ.head (sym d), ap p (sym d) ∙ t, λ b q. first_here g x xs (ap g d ∙ q)))
      (λ (t : p x ≡ false).
      let r = led_some xs (λ y m. h y (Memᴰ.tail m)) (sym (first_later (λ y. only_if (p y) y) x xs (rw t)) ∙ e) in
      (Memᴰ.tail r.0, r.1, λ b q. first_later g x xs (h x (Memᴰ.head refl) t) ∙ r.2 b q))
      (decided (p x))

-- ranges

pub any_next : (p : ℕ → Bool) (u : ℕ) → exists p (below (u + 1)) ≡ (exists p (below u) || p u)
unfolding exists up_from
any_next p u = ap (exists p) (below_add u 1) ∙ any_append p (below u) (u ∷ []) ∙ ap (λ (b : Bool). exists p (below u) || b) (itself (p u))
  where
    itself : (b : Bool) → ◌≡◌ {A = Bool} (elim b [ true ↦ true | false ↦ false ]) b
    itself true = refl
    itself false = refl

pub keep_shift : (p : ℕ → Bool) (j k n : ℕ) → keep p (up_from (j + k) n) ≡ map (λ i. j + i) (keep (λ i. p (j + i)) (up_from k n))
unfolding keep up_from
keep_shift p j k zero = refl
keep_shift p j k (suc n) =
    let e : suc (j + k) ≡ j + suc k = omega arith in
    ⊎_elim
    (λ (t : p (j + k) ≡ true).
    rw (keep_yes p (j + k) (up_from (suc (j + k)) n) t, keep_yes (λ i. p (j + i)) k (up_from (suc k) n) t, e)
    (ap {B = List ℕ} (λ zs. (j + k) ∷ zs) (keep_shift p j (suc k) n)))
    (λ (t : p (j + k) ≡ false).
    rw (keep_not p (j + k) (up_from (suc (j + k)) n) t, keep_not (λ i. p (j + i)) k (up_from (suc k) n) t, e)
    (keep_shift p j (suc k) n))
    (decided (p (j + k)))

-- the first of the numbers below n that a test keeps

module _ (p : ℕ → Bool) (z : ℕ) (clear : (i : ℕ) → i < z → p i ≡ false) where
  pub any_after : p z ≡ true → (v : ℕ) → exists p (below v) ≡ ltb z v
  any_after h v =
      elim (dec_lt z v) [
        | yes l ↦ any_hit p (below_mem l) h ∙ sym (lt-ltb z v l)
        | no l ↦ any_none p (below v) (λ i m. clear i (lt_of_lt_of_le (mem_below v m) (omega arith))) ∙ sym (le-ltb z v (omega arith))
      ]

  pub keep_from : (m : ℕ) → keep p (below (z + m)) ≡ keep p (up_from z m)
  keep_from m = rw (below_add z m, keep_append p (below z) (up_from z m), keep_none p (below z) (λ i l. clear i (mem_below z l)))

-- the numbers below n, from k on: up_from k (n - k)

pub range_start : (n : ℕ) → below n ≡ up_from 0 (n - 0)
unfolding below
range_start n = let e : n - 0 ≡ n = omega arith in rw e

pub range_step : (k n : ℕ) → k < n → up_from k (n - k) ≡ k ∷ up_from (k + 1) (n - (k + 1))
unfolding up_from
range_step k n l =
    let e : n - k ≡ suc (n - (k + 1)) = omega arith in
    let d : suc k ≡ k + 1 = omega arith in
    rw (e, up_from, d)

pub range_end : (k n : ℕ) → n ≤ k → up_from k (n - k) ≡ []
unfolding up_from
range_end k n l = let e : n - k ≡ 0 = omega arith in rw e

-- a search over the numbers below n that has come to k and found nothing
module _ {B : Type 0} (f : ℕ → Option B) (n : ℕ) where
  pub record Looked (k : ℕ) : Type 0 where
    pub within : k ≤ n
    pub nothing : (i : ℕ) → i < k → f i ≡ None

  pub looked_none : Looked 0
  looked_none = record { within = zero-le; nothing = λ i l. absurd (omega arith) }

  module _ (k : ℕ) (s : Looked k) where
    pub looked_end : n ≤ k → None ≡ first f (below n)
    looked_end l = sym ((none_below f n).1 (λ i m. s.nothing i (lt_of_lt_of_le m l)))

    module _ (l : k < n) where
      pub looked_hit : {b : B} → f k ≡ Some b → Some b ≡ first f (below n)
      looked_hit h =
          let e : n ≡ k + (n - k) = omega arith in
          sym (ap (λ (m : ℕ). first f (below m)) e
          ∙ ap (first f) (below_add k (n - k))
          ∙ first_append_later f (below k) (up_from k (n - k)) ((none_below f k).1 s.nothing)
          ∙ ap (first f) (range_step k n l)
          ∙ first_here f k _ h)

      pub looked_next : f k ≡ None → Looked (k + 1)
      looked_next h =
          record {
            within = omega arith;
            nothing = λ i m. ⊎_elim (λ (e : i ≡ k). ap f e ∙ h) (λ (d : i < k). s.nothing i d) (eq-or-lt_of_le (omega arith));
          }
