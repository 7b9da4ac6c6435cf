-- Arcs in a flat list, two numbers for each: the place of one among them, and the table of them all.
use Prim.Native.Nat.{ℕ, zero, suc, ◌+◌, ◌-◌, ◌*◌, ◌/◌, ◌≤◌, ◌<◌}
use native.Mathlib.Decide.{dec_lt, ℕ_discrete}
use native.Mathlib.Numerals.{add-one}
use native.Mathlib.Omega.{arith}
use mathlib.Core.Path.{◌≡◌, refl, sym, ap, ap₂, subst, ◌∙◌}
use mathlib.Core.List.{List, [], ◌∷◌, Memᴰ}
use mathlib.Core.Bool.{Bool, true, false, ◌&&◌, ◌||◌}
use Rattle.std.specs.Prelude.{None, Some}
use mathlib.Core.Logic.{⊎_elim}
use lib.Dec.{eqb}
use lib.ListN.{length, get_or, drop, set, replicate, length-drop, get_or-eq_default}
use lib.Seq.{drop-cons}
use borrow.Author.Tests.{eqb-true, ne_eqb, lt-leb}
use Rattle.poset.specs.Lists.{exists}
use Rattle.poset.specs.Order.{Arc, arc}
use Rattle.poset.proofs.Laws.{clash, same_test, and_left, and_right, and_intro, or_cases, or_left, or_right, eqb_same, any_yes, any_not, any_miss}
use Rattle.poset.proofs.Closure.{arc_mem}
use Rattle.relation.specs.Table.{has, holds}
use Rattle.relation.specs.Arcs.{pairs, place_from, place, outside}
use Rattle.relation.proofs.Lists.{or-false}
use Rattle.relation.proofs.Tables.{set_row, holds_blank}

-- reading on from i

pub pairs_step : (xs : List ℕ) (i : ℕ) → i + 1 < length xs → pairs (drop i xs) ≡ (get_or xs i 0, get_or xs (i + 1) 0) ∷ pairs (drop (i + 2) xs)
unfolding pairs
pairs_step xs i l =
    let a : i + 1 ≡ suc i = add-one i in
    let b : i + 2 ≡ suc (suc i) = omega arith in
    rw (drop-cons xs i 0 (omega arith), drop-cons xs (suc i) 0 (omega arith), a, b)

pub pairs_end : (xs : List ℕ) (i : ℕ) → length xs ≤ i + 1 → pairs (drop i xs) ≡ []
unfolding pairs
pairs_end xs i l = short (drop i xs) (omega (arith, length-drop i xs))
  where
    short : (ys : List ℕ) → length ys ≤ 1 → pairs ys ≡ []
    short [] h = refl
    short (y ∷ []) h = refl
    short (y ∷ z ∷ ys) h = absurd (omega arith)

-- the first arc that passes a test

module _ (p : Arc → Bool) (xs : List ℕ) where
  -- a search that has come to the arc at place k
  pub record Searched (k : ℕ) : Type 0 where
    pub within : 2 * k ≤ length xs
    pub left : place p (pairs xs) ≡ place_from k p (pairs (drop (2 * k) xs))

  pub searched_none : Searched 0
  unfolding place
  searched_none = record { within = omega arith; left = refl }

  module _ (k : ℕ) (s : Searched k) where
    pub searched_end : length xs ≤ 2 * k + 1 → None ≡ place p (pairs xs)
    unfolding place_from
    searched_end l = sym (s.left ∙ ap (place_from k p) (pairs_end xs (2 * k) l))

    pub searched_hit : 2 * k + 1 < length xs → p (get_or xs (2 * k) 0, get_or xs (2 * k + 1) 0) ≡ true → Some k ≡ place p (pairs xs)
    unfolding place_from
    searched_hit l h = sym (s.left ∙ rw (pairs_step xs (2 * k) l, place_from, h))

    pub searched_next : 2 * k + 1 < length xs → p (get_or xs (2 * k) 0, get_or xs (2 * k + 1) 0) ≡ false → Searched (k + 1)
    unfolding place_from
    searched_next l h =
        let e : 2 * (k + 1) ≡ 2 * k + 2 = omega arith in
        record { within = omega arith; left = rw (e, add-one k) (s.left ∙ rw (pairs_step xs (2 * k) l, place_from, h)) }

-- whether some arc passes a test

module _ (p : Arc → Bool) (xs : List ℕ) where
  -- a look at all arcs that has come to the arc at place k
  pub record Noticed (some : Bool) (k : ℕ) : Type 0 where
    pub within : 2 * k ≤ length xs
    pub left : (some || exists p (pairs (drop (2 * k) xs))) ≡ exists p (pairs xs)

  pub noticed_none : Noticed false 0
  noticed_none = record { within = omega arith; left = refl }

  module _ (some : Bool) (k : ℕ) (s : Noticed some k) where
    pub noticed_end : length xs ≤ 2 * k + 1 → some ≡ exists p (pairs xs)
    unfolding exists
    noticed_end l = sym (or-false some) ∙ ap (λ arcs. some || exists p arcs) (sym (pairs_end xs (2 * k) l)) ∙ s.left

    module _ (l : 2 * k + 1 < length xs) where
      pub noticed_hit : p (get_or xs (2 * k) 0, get_or xs (2 * k + 1) 0) ≡ true → Noticed true (k + 1)
      noticed_hit h =
          record {
            within = omega arith;
            left = sym (or_right some true refl) ∙ ap (λ b. some || b) (sym (ap (exists p) (pairs_step xs (2 * k) l) ∙ any_yes p _ _ h)) ∙ s.left;
          }

      pub noticed_next : p (get_or xs (2 * k) 0, get_or xs (2 * k + 1) 0) ≡ false → Noticed some (k + 1)
      noticed_next h =
          let on : 2 * (k + 1) ≡ 2 * k + 2 = omega arith in
          record {
            within = omega arith;
            left = rw on (ap (λ b. some || b) (sym (ap (exists p) (pairs_step xs (2 * k) l) ∙ any_not p _ _ h)) ∙ s.left);
          }

-- where none does there is no first one
pub nowhere : (p : Arc → Bool) (arcs : List Arc) → exists p arcs ≡ false → None ≡ place p arcs
unfolding place place_from
nowhere p arcs h = from 0 arcs h
  where
    from : (k : ℕ) (arcs : List Arc) → exists p arcs ≡ false → None ≡ place_from k p arcs
    from k [] h = refl
    from k (a ∷ arcs) h =
        let e = any_miss p (a ∷ arcs) h (Memᴰ.head refl) in
        rw (e, place_from) (from (suc k) arcs (sym (any_not p a arcs e) ∙ h))

-- the numbers of a list and their greatest

module _ (xs : List ℕ) where
  -- those read up to i are at most top
  pub record Bounded (top i : ℕ) : Type 0 where
    pub within : i ≤ length xs
    pub above : (j : ℕ) → j < i → get_or xs j 0 ≤ top

  pub bounded_none : Bounded 0 0
  bounded_none = record { within = omega arith; above = λ j l. absurd (omega arith) }

  module _ (top i : ℕ) (b : Bounded top i) where
    pub bounded_end : length xs ≤ i → (j : ℕ) → get_or xs j 0 ≤ top
    bounded_end l j =
        elim (dec_lt j (length xs)) [
          | yes m ↦ b.above j (omega arith)
          | no m ↦ let past : length xs ≤ j = omega arith in omega (arith, get_or-eq_default xs 0 past)
        ]

    pub bounded_next : i < length xs → (top' : ℕ) → (top ≤ top') × (get_or xs i 0 ≤ top') → Bounded top' (i + 1)
    bounded_next l top' h =
        record {
          within = omega arith;
          above = λ j k. elim (ℕ_discrete j i) [ yes e ↦ rw e h.1 | no d ↦ omega (arith, b.above j (omega arith)) ];
        }

-- no arc of numbers that are all below n is outside
pub none_outside : (n top : ℕ) (xs : List ℕ) → ((i : ℕ) → get_or xs i 0 ≤ top) → top < n → exists (outside n) (pairs xs) ≡ false
unfolding pairs exists outside
none_outside n top [] h l = refl
none_outside n top (u ∷ []) h l = refl
none_outside n top (u ∷ v ∷ xs) h l = any_not (outside n) (u, v) (pairs xs) inside ∙ none_outside n top xs (λ i. h (suc (suc i))) l
  where
    inside : outside n (u, v) ≡ false
    inside = rw (lt-leb n u (omega (arith, h 0))) (lt-leb n v (omega (arith, h 1)))

-- the arc at place k

pub pairs_at : (xs : List ℕ) (k : ℕ) → 2 * k + 1 < length xs → Memᴰ (get_or xs (2 * k) 0, get_or xs (2 * k + 1) 0) (pairs xs)
unfolding pairs
pairs_at [] k l = absurd (omega arith)
pairs_at (x ∷ []) k l = absurd (omega arith)
pairs_at (x ∷ y ∷ xs) zero l = Memᴰ.head refl
pairs_at (x ∷ y ∷ xs) (suc k) l =
    let e : 2 * suc k ≡ suc (suc (2 * k)) = omega arith in
    let d : suc (suc (2 * k)) + 1 ≡ suc (suc (2 * k + 1)) = omega arith in
    rw (e, d) (Memᴰ.tail (pairs_at xs k (omega arith)))

pairs_found : (xs : List ℕ) {a : Arc} → Memᴰ a (pairs xs) → (k : ℕ) × (2 * k + 1 < length xs) × ((get_or xs (2 * k) 0, get_or xs (2 * k + 1) 0) ≡ a)
unfolding pairs
pairs_found [] m = elim m [ ]
pairs_found (x ∷ []) m = elim m [ ]
pairs_found (x ∷ y ∷ xs) (Memᴰ.head e) = (0, omega arith, sym e)
pairs_found (x ∷ y ∷ xs) (Memᴰ.tail m) =
    let r = pairs_found xs m in
    let e : 2 * suc r.0 ≡ suc (suc (2 * r.0)) = omega arith in
    let d : suc (suc (2 * r.0)) + 1 ≡ suc (suc (2 * r.0 + 1)) = omega arith in
    (suc r.0, omega (arith, r.1), rw (e, d) r.2)

module _ (xs : List ℕ) where
  -- a table has the arc at place k
  abbrev At : List (List ℕ) → ℕ → Type 0
  At t k = holds t (get_or xs (2 * k) 0) (get_or xs (2 * k + 1) 0) ≡ true

  -- the arc at place k is put into a table
  abbrev Puts : List (List ℕ) → ℕ → List (List ℕ) → Type 0
  Puts t k t' = (u v : ℕ) → holds t' u v ≡ (holds t u v || (eqb (get_or xs (2 * k) 0) u && eqb (get_or xs (2 * k + 1) 0) v))

  pub put_row
      : (t : List (List ℕ)) (k : ℕ) (row : List ℕ) → get_or xs (2 * k) 0 < length t
      → ((v : ℕ) → has row v ≡ (has (get_or t (get_or xs (2 * k) 0) []) v || eqb (get_or xs (2 * k + 1) 0) v)) → Puts t k (set t (get_or xs (2 * k) 0) row)
  unfolding holds
  put_row t k row l h =
      set_row t x row (λ u v. holds t u v || (eqb x u && eqb y v)) l
      (λ v. h v ∙ ap (λ e. holds t x v || (e && eqb y v)) (sym (eqb_same x)))
      (λ u v d. sym (ap (λ e. holds t u v || (e && eqb y v)) (ne_eqb x u (λ e. d (sym e))) ∙ or-false (holds t u v)))
    where
      x : ℕ
      x = get_or xs (2 * k) 0

      y : ℕ
      y = get_or xs (2 * k + 1) 0

  module _ (t : List (List ℕ)) (k : ℕ) (t' : List (List ℕ)) (p : Puts t k t') where
    put_here : At t' k
    put_here =
        let x = get_or xs (2 * k) 0 in
        let y = get_or xs (2 * k + 1) 0 in
        p x y ∙ or_right (holds t x y) _ (and_intro _ _ (eqb_same x) (eqb_same y))

    put_keeps : (u v : ℕ) → holds t u v ≡ true → holds t' u v ≡ true
    put_keeps u v e = p u v ∙ or_left (holds t u v) _ e

    put_from
        : 2 * k + 1 < length xs → ((u v : ℕ) → holds t u v ≡ true → arc (pairs xs) u v ≡ true)
        → (u v : ℕ) → holds t' u v ≡ true → arc (pairs xs) u v ≡ true
    put_from l from u v e = ⊎_elim (from u v) there (or_cases (holds t u v) _ (sym (p u v) ∙ e))
      where
        there : (eqb (get_or xs (2 * k) 0) u && eqb (get_or xs (2 * k + 1) 0) v) ≡ true → arc (pairs xs) u v ≡ true
        there d =
            ap₂ (arc (pairs xs)) (sym (eqb-true _ u (and_left _ _ d))) (sym (eqb-true _ v (and_right (eqb (get_or xs (2 * k) 0) u) _ d)))
            ∙ (arc_mem (pairs xs) _ _).1 (pairs_at xs k l)

  -- a table has i arcs from place o on
  abbrev From : List (List ℕ) → ℕ → ℕ → Type 0
  From t o i = (k : ℕ) → k < i → At t (o + k)

  from_next
      : (t t' : List (List ℕ)) (o i : ℕ) → ((u v : ℕ) → holds t u v ≡ true → holds t' u v ≡ true) → At t' (o + i) → From t o i → From t' o (i + 1)
  from_next t t' o i keeps here b k m = elim (ℕ_discrete k i) [ yes e ↦ rw e here | no d ↦ keeps _ _ (b k (omega arith)) ]

  -- a table that has the first i arcs of each quarter, and no others
  pub record Built (q : ℕ) (t : List (List ℕ)) (i : ℕ) : Type 0 where
    pub within : 3 * q + i ≤ length xs / 2
    pub from : (u v : ℕ) → holds t u v ≡ true → arc (pairs xs) u v ≡ true
    pub first : From t 0 i
    pub second : From t q i
    pub third : From t (2 * q) i
    pub fourth : From t (3 * q) i

  pub built_none : (q : ℕ) → 3 * q ≤ length xs / 2 → Built q (replicate 128 (replicate 2 0)) 0
  built_none q l =
      record {
        within = omega arith;
        from = λ u v e. absurd (clash e (holds_blank 128 u v));
        first = λ k l. absurd (omega arith);
        second = λ k l. absurd (omega arith);
        third = λ k l. absurd (omega arith);
        fourth = λ k l. absurd (omega arith);
      }

  -- all arcs are there where the first three quarters are, and what is left after them
  All-there
      : (t : List (List ℕ)) (q i j : ℕ) → ((u v : ℕ) → holds t u v ≡ true → arc (pairs xs) u v ≡ true) → From t 0 j → From t q j → From t (2 * q) j
      → From t (3 * q) i → q ≤ j → length xs / 2 ≤ 3 * q + i → (u v : ℕ) → holds t u v ≡ arc (pairs xs) u v
  All-there t q i j from first second third fourth enough rest u v = same_test _ _ (from u v) back
    where
      within : (o m k : ℕ) → From t o m → o ≤ k → k < o + m → At t k
      within o m k f l n = let s : o + (k - o) ≡ k = omega arith in rw s at (f (k - o) (omega arith))

      at : (k : ℕ) → 2 * k + 1 < length xs → At t k
      at k m =
          elim (dec_lt k j) [
            | yes d ↦ within 0 j k first (omega arith) (omega arith)
            | no d ↦
                elim (dec_lt k (q + j)) [
                  | yes d' ↦ within q j k second (omega arith) d'
                  | no d' ↦
                      elim (dec_lt k (2 * q + j)) [
                        | yes d'' ↦ within (2 * q) j k third (omega arith) d''
                        | no d'' ↦ within (3 * q) i k fourth (omega arith) (omega arith)
                      ]
                ]
          ]

      back : arc (pairs xs) u v ≡ true → holds t u v ≡ true
      back d =
          let f = pairs_found xs ((arc_mem (pairs xs) u v).0 d) in
          subst (λ (a : Arc). holds t a.0 a.1 ≡ true) f.2 (at f.0 f.1)

  module _ (q : ℕ) (t : List (List ℕ)) (i : ℕ) (b : Built q t i) where
    pub built_end : q ≤ i → length xs / 2 ≤ 3 * q + i → (u v : ℕ) → holds t u v ≡ arc (pairs xs) u v
    built_end = All-there t q i i b.from b.first b.second b.third b.fourth

    -- one arc more of the first three quarters
    module _ (l : 2 * (2 * q + i) + 1 < length xs) (t₁ t₂ t₃ : List (List ℕ)) (p₁ : Puts t i t₁) (p₂ : Puts t₁ (q + i) t₂) (p₃ : Puts t₂ (2 * q + i) t₃) where
      keeps₂ : (u v : ℕ) → holds t₁ u v ≡ true → holds t₃ u v ≡ true
      keeps₂ u v e = put_keeps t₂ (2 * q + i) t₃ p₃ u v (put_keeps t₁ (q + i) t₂ p₂ u v e)

      keeps : (u v : ℕ) → holds t u v ≡ true → holds t₃ u v ≡ true
      keeps u v e = keeps₂ u v (put_keeps t i t₁ p₁ u v e)

      from₃ : (u v : ℕ) → holds t₃ u v ≡ true → arc (pairs xs) u v ≡ true
      from₃ = put_from t₂ (2 * q + i) t₃ p₃ l (put_from t₁ (q + i) t₂ p₂ (omega arith) (put_from t i t₁ p₁ (omega arith) b.from))

      first₃ : From t₃ 0 (i + 1)
      first₃ = let z : 0 + i ≡ i = omega arith in from_next t t₃ 0 i keeps (rw z (keeps₂ _ _ (put_here t i t₁ p₁))) b.first

      second₃ : From t₃ q (i + 1)
      second₃ = from_next t t₃ q i keeps (put_keeps t₂ (2 * q + i) t₃ p₃ _ _ (put_here t₁ (q + i) t₂ p₂)) b.second

      third₃ : From t₃ (2 * q) (i + 1)
      third₃ = from_next t t₃ (2 * q) i keeps (put_here t₂ (2 * q + i) t₃ p₃) b.third

      pub built_last : q ≤ i + 1 → length xs / 2 ≤ 3 * q + i → (u v : ℕ) → holds t₃ u v ≡ arc (pairs xs) u v
      built_last = All-there t₃ q i (i + 1) from₃ first₃ second₃ third₃ (λ k m. keeps _ _ (b.fourth k m))

      -- and of the last
      module _ (m : 2 * (3 * q + i) + 1 < length xs) (t₄ : List (List ℕ)) (p₄ : Puts t₃ (3 * q + i) t₄) where
        kept : (o : ℕ) → From t₃ o (i + 1) → From t₄ o (i + 1)
        kept o f k n = put_keeps t₃ (3 * q + i) t₄ p₄ _ _ (f k n)

        pub built_next : Built q t₄ (i + 1)
        built_next =
            record {
              within = omega arith;
              from = put_from t₃ (3 * q + i) t₄ p₄ m from₃;
              first = kept 0 first₃;
              second = kept q second₃;
              third = kept (2 * q) third₃;
              fourth =
                  from_next t t₄ (3 * q) i (λ u v e. put_keeps t₃ (3 * q + i) t₄ p₄ u v (keeps u v e)) (put_here t₃ (3 * q + i) t₄ p₄) b.fourth;
            }
