-- Which of two elements stands ahead in a list.
use Prim.Native.Nat.{ℕ}
use mathlib.Core.Path.{◌≡◌, refl, sym, ◌∙◌}
use mathlib.Core.List.{List, [], ◌∷◌, ◌++◌, Memᴰ}
use mathlib.Core.Bool.{true, false, ◌||◌, or-false}
use mathlib.Core.Logic.{⊎_elim}
use lib.Dec.{eqb}
use Rattle.poset.specs.Lists.{exists, member, ahead_in}
use Rattle.poset.proofs.Laws.{decided, clash, false_unless, or_right, eqb_differ, any_not, any_append, member_mem, mem_member}

module _ (u v : ℕ) where
  pub ahead_here : (x : ℕ) (xs : List ℕ) → eqb u x ≡ true → ahead_in u v (x ∷ xs) ≡ member v xs
  unfolding ahead_in
  ahead_here x xs e = rw (e, ahead_in)

  pub ahead_later : (x : ℕ) (xs : List ℕ) → eqb u x ≡ false → ahead_in u v (x ∷ xs) ≡ ahead_in u v xs
  unfolding ahead_in
  ahead_later x xs e = rw (e, ahead_in)

  pub ahead_mem : (xs : List ℕ) → ahead_in u v xs ≡ true → Memᴰ v xs
  unfolding ahead_in
  ahead_mem [] h = absurd (clash h refl)
  ahead_mem (x ∷ xs) h =
      ⊎_elim
      (λ e. Memᴰ.tail (member_mem v xs (sym (ahead_here x xs e) ∙ h)))
      (λ e. Memᴰ.tail (ahead_mem xs (sym (ahead_later x xs e) ∙ h)))
      (decided (eqb u x))

  -- u in the first of two lists
  pub ahead_in_append : (xs ys : List ℕ) → member u xs ≡ true → ahead_in u v (xs ++ ys) ≡ (ahead_in u v xs || member v ys)
  unfolding exists member
  ahead_in_append [] ys h = absurd (clash h refl)
  ahead_in_append (x ∷ xs) ys h =
      ⊎_elim
      (λ e. rw (ahead_here x xs e, ahead_here x (xs ++ ys) e) (any_append (eqb v) xs ys))
      (λ e. rw (ahead_later x xs e, ahead_later x (xs ++ ys) e) (ahead_in_append xs ys (sym (any_not (eqb u) x xs e) ∙ h)))
      (decided (eqb u x))

  -- u not in the first of two lists
  pub ahead_past : (xs ys : List ℕ) → (Memᴰ u xs → ⊥) → ahead_in u v (xs ++ ys) ≡ ahead_in u v ys
  ahead_past [] ys h = refl
  ahead_past (x ∷ xs) ys h =
      ahead_later x (xs ++ ys) (eqb_differ u x (λ e. h (Memᴰ.head e))) ∙ ahead_past xs ys (λ m. h (Memᴰ.tail m))

-- in two lists that share no element, by where u and v are

module _ (u v : ℕ) (xs ys : List ℕ) (apart : (w : ℕ) → Memᴰ w xs → Memᴰ w ys → ⊥) where
  pub ahead_left : Memᴰ u xs → Memᴰ v xs → ahead_in u v (xs ++ ys) ≡ ahead_in u v xs
  ahead_left p q =
      rw (ahead_in_append u v xs ys (mem_member p), false_unless (member v ys) (λ h. apart v q (member_mem v ys h))) (or-false _)

  pub ahead_right : Memᴰ u ys → ahead_in u v (xs ++ ys) ≡ ahead_in u v ys
  ahead_right p = ahead_past u v xs ys (λ m. apart u m p)

  pub ahead_cross : Memᴰ u xs → Memᴰ v ys → ahead_in u v (xs ++ ys) ≡ true
  ahead_cross p q = ahead_in_append u v xs ys (mem_member p) ∙ or_right (ahead_in u v xs) _ (mem_member q)

  pub ahead_back : Memᴰ u ys → Memᴰ v xs → ahead_in u v (xs ++ ys) ≡ false
  ahead_back p q = ahead_right p ∙ false_unless _ (λ h. apart v q (ahead_mem u v ys h))
