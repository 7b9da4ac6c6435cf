-- A list of arcs with another at its end: its arcs, the first that passes a test, and the table of them all.
use Prim.Native.Nat.{ℕ, zero, suc, ◌+◌, ◌*◌, ◌/◌, ◌%◌, ◌≤◌, ◌<◌}
use mathlib.Core.Path.{◌≡◌, refl, sym, ap, ap₂, ◌∙◌}
use mathlib.Core.List.{List, [], ◌∷◌, ◌++◌}
use mathlib.Core.Bool.{Bool, true, false, ◌&&◌, ◌||◌, or_assoc}
use Rattle.std.specs.Prelude.{Option, None, Some, option_map}
use Rattle.std.specs.Option.{option_or}
use Rattle.std.specs.Simd.{first_chunks}
use mathlib.Core.Logic.{⊎_elim}
use native.Mathlib.Omega.{arith}
use lib.Dec.{eqb}
use lib.ListN.{length, get_or, drop, set, length-append, length-set}
use Rattle.poset.specs.Lists.{exists}
use Rattle.poset.specs.Order.{Arc, arc}
use Rattle.poset.proofs.Laws.{decided, any_append}
use Rattle.relation.specs.Table.{has, holds}
use Rattle.relation.specs.Arcs.{pairs, place_from, place}
use Rattle.relation.proofs.Lists.{or-false}
use Rattle.relation.proofs.Flat.{pairs_step, pairs_end, put_row}
use Rattle.analysis.proofs.Steps.{pairs_length}
use Rattle.analysis.proofs.Places.{shifted, place_first, first_below}

pub pairs_append : (xs ys : List ℕ) → length xs % 2 ≡ 0 → pairs (xs ++ ys) ≡ pairs xs ++ pairs ys
unfolding pairs
pairs_append [] ys e = refl
pairs_append (x ∷ []) ys e = absurd (omega arith)
pairs_append (x ∷ y ∷ xs) ys e = ap (λ l. (x, y) ∷ l) (pairs_append xs ys (omega arith))

pub pairs_count : (xs ys : List ℕ) → length (pairs xs ++ pairs ys) ≡ length xs / 2 + length ys / 2
pairs_count xs ys = omega (arith, length-append (pairs xs) (pairs ys), pairs_length xs, pairs_length ys)

-- the arc at a place, as a list of two
pub arc_at : {arcs : List (List ℕ)} (xs : List ℕ) (k : ℕ) → arcs ≡ first_chunks 2 (length xs / 2) xs → k < length arcs → length arcs ≡ length xs / 2
    → (get_or (get_or arcs k []) 0 0 ≡ get_or xs (2 * k) 0) × (get_or (get_or arcs k []) 1 0 ≡ get_or xs (2 * k + 1) 0)
arc_at {arcs} xs k e l n =
    let two = ap (λ (c : List (List ℕ)). get_or c k []) e ∙ chunk_at (length xs / 2) xs k (omega arith) (omega arith) in
    (ap (λ (c : List ℕ). get_or c 0 0) two, ap (λ (c : List ℕ). get_or c 1 0) two)
  where
    chunk_at : (n : ℕ) (xs : List ℕ) (k : ℕ) → k < n → 2 * n ≤ length xs
        → get_or (first_chunks 2 n xs) k [] ≡ get_or xs (2 * k) 0 ∷ get_or xs (2 * k + 1) 0 ∷ []
    chunk_at zero xs k l m = absurd (omega arith)
    chunk_at (suc n) [] k l m = absurd (omega arith)
    chunk_at (suc n) (x ∷ []) k l m = absurd (omega arith)
    chunk_at (suc n) (x ∷ y ∷ xs) zero l m = refl
    chunk_at (suc n) (x ∷ y ∷ xs) (suc k) l m =
        let d : 2 * suc k ≡ suc (suc (2 * k)) = omega arith in
        let e : suc (suc (2 * k)) + 1 ≡ suc (suc (2 * k + 1)) = omega arith in rw (d, e) (chunk_at n xs k (omega arith) (omega arith))

-- The first that passes a test: in the list, or else in the other, whose places count on.

counted_zero : (o : Option ℕ) → o ≡ option_map (λ k. 0 + k) o
counted_zero None = refl
counted_zero (Some k) = ap Some (omega arith)

counted_suc : (n : ℕ) (o q : Option ℕ)
    → option_map suc (option_or o (option_map (λ k. n + k) q)) ≡ option_or (option_map suc o) (option_map (λ k. suc n + k) q)
counted_suc n (Some i) q = refl
counted_suc n None None = refl
counted_suc n None (Some k) = ap Some (omega arith)

module _ {ℓ} {A : Type ℓ} (p : A → Bool) where
  pub place_append : (xs ys : List A) → place p (xs ++ ys) ≡ option_or (place p xs) (option_map (λ k. length xs + k) (place p ys))
  unfolding place place_from
  place_append [] ys = counted_zero (place_from 0 p ys)
  place_append (x ∷ xs) ys =
      ⊎_elim
      (λ (e : p x ≡ true). rw (e, place_from))
      (λ (e : p x ≡ false).
      rw (e, place_from)
      (shifted p 0 (xs ++ ys)
      ∙ ap (option_map suc) (place_append xs ys)
      ∙ counted_suc (length xs) (place_from 0 p xs) (place_from 0 p ys)
      ∙ ap (λ o. option_or o (option_map (λ k. suc (length xs) + k) (place_from 0 p ys))) (sym (shifted p 0 xs))))
      (decided (p x))

  pub place_below : (xs : List A) {k : ℕ} → place p xs ≡ Some k → k < length xs
  place_below xs {k} e = first_below (place_first p (λ x. p x ≡ true) (λ x. (λ h. h, λ h. h)) xs k e)

  -- one element more

  alone_yes : (x : A) → p x ≡ true → place p (x ∷ []) ≡ Some 0
  unfolding place place_from
  alone_yes x e = rw (e, place_from)

  alone_not : (x : A) → p x ≡ false → place p (x ∷ []) ≡ None
  unfolding place place_from
  alone_not x e = rw (e, place_from)

  module _ (xs : List A) (x : A) (none_here : place p xs ≡ None) where
    pub place_last : p x ≡ true → place p (xs ++ x ∷ []) ≡ Some (length xs)
    place_last e =
        place_append xs (x ∷ []) ∙ ap₂ (λ o q. option_or o (option_map (λ k. length xs + k) q)) none_here (alone_yes x e) ∙ ap Some (omega arith)

    pub place_nowhere : p x ≡ false → place p (xs ++ x ∷ []) ≡ None
    place_nowhere e = place_append xs (x ∷ []) ∙ ap₂ (λ o q. option_or o (option_map (λ k. length xs + k) q)) none_here (alone_not x e)

-- what two searches find in flat lists
pub places_append
    : (p : Arc → Bool) (xs ys : List ℕ) {o q r : Option ℕ} → o ≡ place p (pairs xs) → q ≡ place p (pairs ys)
    → r ≡ option_or o (option_map (λ k. length xs / 2 + k) q) → r ≡ place p (pairs xs ++ pairs ys)
places_append p xs ys e f h = h ∙ rw (e, f, sym (pairs_length xs)) (sym (place_append p (pairs xs) (pairs ys)))

-- The table: what it holds, and the arcs of the other list from k on.

arc_cons : (a : Arc) (arcs : List Arc) (u v : ℕ) → arc (a ∷ arcs) u v ≡ ((eqb a.0 u && eqb a.1 v) || arc arcs u v)
unfolding arc exists
arc_cons a arcs u v = by (eqb a.0 u && eqb a.1 v)
  where
    by : (b : Bool) → elim b [ true ↦ true | false ↦ arc arcs u v ] ≡ (b || arc arcs u v)
    by true = refl
    by false = refl

module _ (list last : List ℕ) where
  pub record Added (t : List (List ℕ)) (k : ℕ) : Type 0 where
    pub rows : length t ≡ 128
    pub left : (u v : ℕ) → (holds t u v || arc (pairs (drop (2 * k) last)) u v) ≡ arc (pairs list ++ pairs last) u v

  pub added_none : (t : List (List ℕ)) → length t ≡ 128 → ((u v : ℕ) → holds t u v ≡ arc (pairs list) u v) → Added t 0
  unfolding arc
  added_none t size h = record {
    rows = size;
    left = λ u v. ap (λ b. b || arc (pairs last) u v) (h u v) ∙ sym (any_append (λ a. eqb a.0 u && eqb a.1 v) (pairs list) (pairs last));
  }

  module _ (t : List (List ℕ)) (k : ℕ) (s : Added t k) where
    pub Added-next
        : 2 * k + 1 < length last → get_or last (2 * k) 0 < 128 → (row : List ℕ)
        → ((v : ℕ) → has row v ≡ (has (get_or t (get_or last (2 * k) 0) []) v || eqb (get_or last (2 * k + 1) 0) v))
        → Added (set t (get_or last (2 * k) 0) row) (k + 1)
    Added-next l low row h = record {
      rows = length-set t (get_or last (2 * k) 0) row ∙ s.rows;
      left = λ u v.
          let put = put_row last t k row (omega (arith, s.rows)) h u v in
          let on : 2 * (k + 1) ≡ 2 * k + 2 = omega arith in
          rw on
          (ap (λ b. b || arc (pairs (drop (2 * k + 2) last)) u v) put
          ∙ or_assoc (holds t u v) _ _
          ∙ ap (λ b. holds t u v || b) (sym (ap (λ arcs. arc arcs u v) (pairs_step last (2 * k) l) ∙ arc_cons _ _ u v))
          ∙ s.left u v);
    }

    pub added_end : length last / 2 ≤ k → (u v : ℕ) → holds t u v ≡ arc (pairs list ++ pairs last) u v
    unfolding arc exists
    added_end l u v =
        sym (or-false (holds t u v))
        ∙ ap (λ arcs. holds t u v || arc arcs u v) (sym (pairs_end last (2 * k) (omega arith)))
        ∙ s.left u v
