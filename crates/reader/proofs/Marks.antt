-- The seen marks, and the jobs that a part may name.
use Prim.Native.Nat.{ℕ, suc, ◌+◌, ◌≤◌, ◌<◌}
use mathlib.Core.Path.{◌≡◌, refl, sym, ap, subst, ◌∙◌}
use mathlib.Core.List.Memᴰ
use mathlib.Core.List.{List, [], ◌∷◌, ◌++◌, Memᴰ}
use mathlib.Core.Bool.{true, false}
use mathlib.Core.Logic.{⊎_elim}
use lib.Dec.{eqb}
use native.Mathlib.Omega.{arith}
use lib.ListN.{length, get_or, set, length-append, length-set}
use lib.Seq.{sets, get_or-set_same, get_or-set_other}
use Rattle.poset.specs.Tree.{Kind}
use Rattle.poset.proofs.Laws.{decided, clash, eqb-true, eqb_same}
use Rattle.record.specs.Tokens.{Small}
use Rattle.reader.specs.Parts.{Piece, Lists, marked, Free, Placed}
use Rattle.reader.specs.declared.parts.Part.{Part}
use Rattle.reader.proofs.Pieces.{both}

pub length_marked : (s js : List ℕ) → length (marked s js) ≡ length s
length_marked s [] = refl
length_marked s (j ∷ js) = length_marked (set s j 1) js ∙ length-set s j 1

pub marked_append : (s xs ys : List ℕ) → marked s (xs ++ ys) ≡ marked (marked s xs) ys
marked_append s [] ys = refl
marked_append s (x ∷ xs) ys = marked_append (set s x 1) xs ys

pub sets_append : (l : List ℕ) (i : ℕ) (xs ys : List ℕ) → sets l i (xs ++ ys) ≡ sets (sets l i xs) (i + length xs) ys
sets_append l i [] ys = ap (λ (j : ℕ). sets l j ys) (omega arith)
sets_append l i (x ∷ xs) ys =
    let e : suc i + length xs ≡ i + suc (length xs) = omega arith in
    sets_append (set l i x) (suc i) xs ys ∙ ap (λ (j : ℕ). sets (sets (set l i x) (suc i) xs) j ys) e

marked_other : (s js : List ℕ) (u : ℕ) → (Memᴰ u js → ⊥) → get_or (marked s js) u 0 ≡ get_or s u 0
marked_other s [] u h = refl
marked_other s (j ∷ js) u h =
    marked_other (set s j 1) js u (λ m. h (Memᴰ.tail m)) ∙ get_or-set_other s j u 1 0 (λ e. h (Memᴰ.head e))

marked_kept : (s js : List ℕ) (u : ℕ) → u < length s → get_or s u 0 ≡ 1 → get_or (marked s js) u 0 ≡ 1
marked_kept s [] u l h = h
marked_kept s (j ∷ js) u l h =
    marked_kept (set s j 1) js u (omega (arith, length-set s j 1))
    (⊎_elim
    (λ (e : eqb u j ≡ true). ap (λ (v : ℕ). get_or (set s v 1) u 0) (sym (eqb-true u j e)) ∙ get_or-set_same s u 1 0 l)
    (λ (e : eqb u j ≡ false). get_or-set_other s j u 1 0 (λ q. clash (ap (eqb u) (sym q) ∙ eqb_same u) e) ∙ h)
    (decided (eqb u j)))

marked_in : (s js : List ℕ) (u : ℕ) → u < length s → Memᴰ u js → get_or (marked s js) u 0 ≡ 1
marked_in s [] u l m = absurd (Memᴰ.not-nil m)
marked_in s (j ∷ js) u l m =
    let l' : u < length (set s j 1) = subst (λ (k : ℕ). u < k) (sym (length-set s j 1)) l in
    ⊎_elim
    (λ (e : u ≡ j). marked_kept (set s j 1) js u l' (ap (λ (v : ℕ). get_or (set s v 1) u 0) (sym e) ∙ get_or-set_same s u 1 0 l))
    (λ (m' : Memᴰ u js). marked_in (set s j 1) js u l' m')
    (Memᴰ.cases_cons m)

-- the jobs of a part, and of what follows it

module _ {n done gone : ℕ} {s : List ℕ} (k : Kind) (x y : Piece) where
  pub free_left : Free n done gone s (both k x y) → Free n done gone s x
  free_left f = record {
    inside = λ u m. f.inside u (Memᴰ.append_left y.forth m);
    unseen = λ u m. f.unseen u (Memᴰ.append_left y.forth m);
    room = omega (arith, f.room, length-append x.forth y.forth);
    fewer = omega (arith, f.fewer);
  }

module _ {bs : List ℕ} {n done gone : ℕ} {w v : Lists} {p : Part} (k : Kind) (x y : Piece) (placed : Placed bs done gone w v p x) where
  pub free_right : Free n done gone w.seen (both k x y) → ((u : ℕ) → Memᴰ u x.forth → Memᴰ u y.forth → ⊥)
      → Free n p.done p.groups v.seen y
  free_right f apart = record {
    inside = λ u m. f.inside u (Memᴰ.append_right x.forth m);
    unseen = λ u m.
        ap (λ (s : List ℕ). get_or s u 0) placed.seen
        ∙ marked_other w.seen x.forth u (λ i. apart u i m)
        ∙ f.unseen u (Memᴰ.append_right x.forth m);
    room = omega (arith, f.room, length-append x.forth y.forth, placed.number);
    fewer = omega (arith, f.fewer, placed.groups);
  }

  module _ (small : n ≤ length w.seen) (f : Free n done gone w.seen x) (g : Free n p.done p.groups v.seen y) where
    pub free_apart : (u : ℕ) → Memᴰ u x.forth → Memᴰ u y.forth → ⊥
    free_apart u i j =
        omega (
          arith,
          ap (λ (s : List ℕ). get_or s u 0) placed.seen ∙ marked_in w.seen x.forth u (omega (arith, f.inside u i)) i,
          g.unseen u j,
        )

    pub free_join : Free n done gone w.seen (both k x y)
    free_join = record {
      inside = λ u m. ⊎_elim (λ i. f.inside u i) (λ j. g.inside u j) (Memᴰ.append_cases x.forth m);
      unseen = λ u m.
          ⊎_elim
          (λ i. f.unseen u i)
          (λ j.
          sym (ap (λ (s : List ℕ). get_or s u 0) placed.seen ∙ marked_other w.seen x.forth u (λ i. free_apart u i j))
          ∙ g.unseen u j)
          (Memᴰ.append_cases x.forth m);
      room = omega (arith, g.room, length-append x.forth y.forth, placed.number);
      fewer = omega (arith, g.fewer, placed.groups);
    }

pub free_small : {n done gone : ℕ} {s : List ℕ} {x : Piece} → n ≤ 128 → Free n done gone s x → Small x.forth
free_small l f = (λ u m. omega (arith, f.inside u m), omega (arith, f.room))
