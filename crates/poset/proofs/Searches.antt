-- What a search over the jobs finds: nothing where there is nothing to find, and otherwise the least.
use Prim.Native.Nat.{ℕ, zero, suc, ◌+◌, ◌≤◌, ◌<◌}
use native.Mathlib.Nat.{eq-or-lt_of_le}
use mathlib.Core.Path.{◌≡◌, refl, sym, ap, subst, ◌∙◌}
use mathlib.Core.List.{List, [], ◌∷◌, Memᴰ}
use mathlib.Core.Bool.{true, false}
use Rattle.std.specs.Prelude.{Option, None, Some}
use mathlib.Core.Logic.{⊎_elim, ◌↔◌}
use native.Mathlib.Omega.{arith}
use Rattle.poset.specs.Lists.{up_from, below, first, only_if}
use Rattle.poset.specs.Order.{Rel, Four, first_on_cycle_of, first_n_of, is_n, NAt, HasN, SmallerFour}
use Rattle.poset.proofs.Laws.{clash, false_unless, first_here, first_later, found_or_none, found_clash, only_if_some, only_if_none, below_mem, mem_below}

-- over any list

module _ {ℓ} {A : Type ℓ} {B : Type 0} (f : A → Option B) where
  head_none : (x : A) (xs : List A) → first f (x ∷ xs) ≡ None → f x ≡ None
  head_none x xs h = ⊎_elim (λ s. absurd (found_clash (first_here f x xs s.1) h)) (λ e. e) (found_or_none (f x))

  pub first_none : {x : A} {xs : List A} → Memᴰ x xs → first f xs ≡ None → f x ≡ None
  first_none (Memᴰ.head {x = y} {xs = ys} e) h = ap f e ∙ head_none y ys h
  first_none (Memᴰ.tail {x = y} {xs = ys} m) h = first_none m (sym (first_later f y ys (head_none y ys h)) ∙ h)

  pub none_first : (xs : List A) → ((x : A) → Memᴰ x xs → f x ≡ None) → first f xs ≡ None
  unfolding first
  none_first [] h = refl
  none_first (x ∷ xs) h =
      first_later f x xs (h x (Memᴰ.head refl)) ∙ none_first xs (λ y m. h y (Memᴰ.tail m))

-- over the numbers below n

module _ {B : Type 0} (f : ℕ → Option B) where
  -- the least i of k, k + 1, .., k + n - 1 at which f finds anything, where it finds b
  abbrev From : ℕ → ℕ → B → Type 0
  From k n b = (i : ℕ) × (k ≤ i) × (i < k + n) × (f i ≡ Some b) × ((j : ℕ) → k ≤ j → j < i → f j ≡ None)

  first_from : (k n : ℕ) {b : B} → first f (up_from k n) ≡ Some b → From k n b
  unfolding first up_from
  first_from k zero h = absurd (found_clash h refl)
  first_from k (suc n) {b} h =
      ⊎_elim
      (λ s. (k, omega arith, omega arith, s.1 ∙ sym (first_here f k (up_from (suc k) n) s.1) ∙ h, λ j p q. absurd (omega arith)))
      (λ e. later e (first_from (suc k) n (sym (first_later f k (up_from (suc k) n) e) ∙ h)))
      (found_or_none (f k))
    where
      later : f k ≡ None → From (suc k) n b → From k (suc n) b
      later e s =
          (s.0, omega arith, omega arith, s.3, λ j p q. ⊎_elim (λ d. ap f (sym d) ∙ e) (λ l. s.4 j l q) (eq-or-lt_of_le p))

  pub first_below : (n : ℕ) {b : B} → first f (below n) ≡ Some b → (i : ℕ) × (i < n) × (f i ≡ Some b) × ((j : ℕ) → j < i → f j ≡ None)
  unfolding below
  first_below n h = let s = first_from 0 n h in (s.0, omega arith, s.3, λ j l. s.4 j (omega arith) l)

  pub none_below : (n : ℕ) → (first f (below n) ≡ None) ↔ ((i : ℕ) → i < n → f i ≡ None)
  none_below n = (λ h i l. first_none f (below_mem l) h, λ h. none_first f (below n) (λ i m. h i (mem_below n m)))

-- the first job on a cycle

pub first_on_cycle_none : (n : ℕ) (r : Rel) → (first_on_cycle_of n r ≡ None) ↔ ((u : ℕ) → u < n → r u u ≡ false)
unfolding first_on_cycle_of
first_on_cycle_none n r =
    (λ h u l. (only_if_none (r u u) u).0 ((none_below f n).0 h u l), λ h. (none_below f n).1 (λ u l. (only_if_none (r u u) u).1 (h u l)))
  where
    f : ℕ → Option ℕ
    f u = only_if (r u u) u

pub first_on_cycle_least : (n : ℕ) (r : Rel) (u : ℕ) → first_on_cycle_of n r ≡ Some u → (u < n) × (r u u ≡ true) × ((v : ℕ) → v < u → r v v ≡ false)
unfolding first_on_cycle_of
first_on_cycle_least n r u h =
    let s = first_below (λ v. only_if (r v v) v) n h in
    let o = only_if_some (r s.0 s.0) s.2 in
    subst
    (λ w. (w < n) × (r w w ≡ true) × ((v : ℕ) → v < w → r v v ≡ false))
    o.1
    (s.1, o.0, λ v l. (only_if_none (r v v) v).0 (s.3 v l))

-- the first N

module _ (n : ℕ) (r : Rel) where
  -- what the search for an N finds once it has chosen a, b, c and d; a, b and c; a and b; a
  abbrev pub at_d : ℕ → ℕ → ℕ → ℕ → Option Four
  at_d a b c d = only_if (is_n r a b c d) (a, b, c, d)

  abbrev pub at_c : ℕ → ℕ → ℕ → Option Four
  at_c a b c = first (at_d a b c) (below n)

  abbrev pub at_b : ℕ → ℕ → Option Four
  at_b a b = first (at_c a b) (below n)

  abbrev pub at_a : ℕ → Option Four
  at_a a = first (at_b a) (below n)

  -- it is something where there is an N
  module _ (q : Four) (h : NAt n r q) where
    not_d : at_d q.0 q.1 q.2 q.3 ≡ None → ⊥
    not_d e = clash h.stands ((only_if_none _ _).0 e)

    not_c : at_c q.0 q.1 q.2 ≡ None → ⊥
    not_c e = not_d ((none_below _ n).0 e q.3 h.d_below)

    not_b : at_b q.0 q.1 ≡ None → ⊥
    not_b e = not_c ((none_below _ n).0 e q.2 h.c_below)

    not_a : at_a q.0 ≡ None → ⊥
    not_a e = not_b ((none_below _ n).0 e q.1 h.b_below)

  pub first_n_none : (first_n_of n r ≡ None) ↔ (HasN n r → ⊥)
  unfolding first_n_of
  first_n_none = (
    λ e q. not_a q.0 q.1 ((none_below at_a n).0 e q.0.0 q.1.a_below),
    λ h.
        (none_below at_a n).1 λ a la.
        (none_below (at_b a) n).1 λ b lb.
        (none_below (at_c a b) n).1 λ c lc.
        (none_below (at_d a b c) n).1 λ d ld.
        (only_if_none _ _).1 (false_unless _ λ e. h ((a, b, c, d), record { a_below = la; b_below = lb; c_below = lc; d_below = ld; stands = e })),
  )

  pub first_n_least : (q : Four) → first_n_of n r ≡ Some q → NAt n r q × ((p : Four) → NAt n r p → SmallerFour p q → ⊥)
  unfolding first_n_of
  first_n_least q h =
      let a = first_below at_a n h in
      let b = first_below (at_b a.0) n a.2 in
      let c = first_below (at_c a.0 b.0) n b.2 in
      let d = first_below (at_d a.0 b.0 c.0) n c.2 in
      let o = only_if_some (is_n r a.0 b.0 c.0 d.0) d.2 in
      subst
      (λ q'. NAt n r q' × ((p : Four) → NAt n r p → SmallerFour p q' → ⊥))
      o.1 (
        record { a_below = a.1; b_below = b.1; c_below = c.1; d_below = d.1; stands = o.0 },
        λ p m.
            ⊎_elim (λ l. not_a p m (a.3 p.0 l)) λ e.
            ⊎_elim (λ l. not_b p m (rw e.0 (b.3 p.1 l))) (λ f.
            ⊎_elim (λ l. not_c p m (rw (e.0, f.0) (c.3 p.2 l))) (λ g.
            not_d p m (rw (e.0, f.0, g.0) (d.3 p.3 g.1))) f.1) e.1,
      )
