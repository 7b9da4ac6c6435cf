-- Laws of tests and of the small functions on lists.
use Prim.Native.Nat.{ℕ, zero, suc, ◌+◌, ◌≤◌, ◌<◌, min}
use mathlib.Core.Path.{◌≡◌, refl, sym, ap, ap₂, subst, ◌∙◌}
use mathlib.Core.List.{List, [], ◌∷◌, ◌++◌, flat_map, Memᴰ}
use mathlib.Core.List.{append_assoc}
use mathlib.Core.Bool.{Bool, true, false, ◌&&◌, ◌||◌, not, true≢false}
use Rattle.std.specs.Prelude.{Option, None, Some, option_map, option_and_then}
use Rattle.std.proofs.lemmas.Option.{none-some, same_Some}
use mathlib.Core.Logic.{◌⊎◌, inl, inr, ⊎_elim, ◌↔◌}
use native.Mathlib.Nat.{eq-or-lt_of_le}
use native.Mathlib.Decide.{dec_le}
use native.Mathlib.Omega.{arith}
use lib.Dec.{eqb, ltb, T, eqb→eq, eqb_refl, lt→ltb, ltb→lt}
use Rattle.poset.specs.Lists.{exists, keep, member, occurrences, up_from, below, first, only_if}

-- tests

pub decided : (b : Bool) → (b ≡ true) ⊎ (b ≡ false)
decided true = inl refl
decided false = inr refl

pub clash : {b : Bool} → b ≡ true → b ≡ false → ⊥
clash p q = true≢false (sym p ∙ q)

pub T_true : (b : Bool) → T b → b ≡ true
T_true true h = refl
T_true false h = elim h [ ]

pub true_T : (b : Bool) → b ≡ true → T b
true_T b e = subst T (sym e) tt

pub false_unless : (b : Bool) → (b ≡ true → ⊥) → b ≡ false
false_unless true h = absurd (h refl)
false_unless false h = refl

pub and_left : (a b : Bool) → (a && b) ≡ true → a ≡ true
and_left true b h = refl
and_left false b h = h

pub and_right : (a b : Bool) → (a && b) ≡ true → b ≡ true
and_right true b h = h
and_right false b h = absurd (clash h refl)

pub and_intro : (a b : Bool) → a ≡ true → b ≡ true → (a && b) ≡ true
and_intro true b p q = q
and_intro false b p q = p

pub or_cases : (a b : Bool) → (a || b) ≡ true → (a ≡ true) ⊎ (b ≡ true)
or_cases true b h = inl refl
or_cases false b h = inr h

pub or_left : (a b : Bool) → a ≡ true → (a || b) ≡ true
or_left true b h = refl
or_left false b h = absurd (clash h refl)

pub or_right : (a b : Bool) → b ≡ true → (a || b) ≡ true
or_right true b h = refl
or_right false b h = h

-- a disjunction of three with one part left
pub or_middle : (a b c : Bool) → a ≡ false → c ≡ false → (a || (b || c)) ≡ b
or_middle true b c p q = absurd (clash refl p)
or_middle false true c p q = refl
or_middle false false c p q = q

pub or_last : (a b c : Bool) → a ≡ false → b ≡ false → (a || (b || c)) ≡ c
or_last true b c p q = absurd (clash refl p)
or_last false true c p q = absurd (clash refl q)
or_last false false c p q = refl

pub not-true : (b : Bool) → not b ≡ true → b ≡ false
not-true true h = sym h
not-true false h = refl

pub not-false : (b : Bool) → b ≡ false → not b ≡ true
not-false true h = sym h
not-false false h = refl

pub eqb-true : (u v : ℕ) → eqb u v ≡ true → u ≡ v
eqb-true u v h = eqb→eq u v (true_T _ h)

pub eqb_same : (u : ℕ) → eqb u u ≡ true
eqb_same u = T_true _ (eqb_refl u)

pub eqb_differ : (u v : ℕ) → (u ≡ v → ⊥) → eqb u v ≡ false
eqb_differ u v h = false_unless _ (λ e. h (eqb-true u v e))

pub ltb-true : (u v : ℕ) → ltb u v ≡ true → u < v
ltb-true u v h = ltb→lt u v (true_T _ h)

pub lt_true : (u v : ℕ) → u < v → ltb u v ≡ true
lt_true u v h = T_true _ (lt→ltb u v h)

pub min_either : (a b : ℕ) → (min a b ≡ a) ⊎ (min a b ≡ b)
min_either a b = elim (dec_le a b) [ yes h ↦ inl (omega arith) | no h ↦ inr (omega arith) ]

-- lists: what each function does with one element more

module _ {ℓ} {A : Type ℓ} (p : A → Bool) (x : A) (xs : List A) where
  pub any_yes : p x ≡ true → exists p (x ∷ xs) ≡ true
  unfolding exists
  any_yes e = rw (e, exists)

  pub any_not : p x ≡ false → exists p (x ∷ xs) ≡ exists p xs
  unfolding exists
  any_not e = rw (e, exists)

  pub keep_yes : p x ≡ true → keep p (x ∷ xs) ≡ x ∷ keep p xs
  unfolding keep
  keep_yes e = rw (e, keep)

  pub keep_not : p x ≡ false → keep p (x ∷ xs) ≡ keep p xs
  unfolding keep
  keep_not e = rw (e, keep)

module _ (x y : ℕ) (ys : List ℕ) where
  pub count_same : x ≡ y → occurrences x (y ∷ ys) ≡ suc (occurrences x ys)
  unfolding occurrences
  count_same e = rw (ap (eqb x) (sym e) ∙ eqb_same x, occurrences)

  pub count_other : (x ≡ y → ⊥) → occurrences x (y ∷ ys) ≡ occurrences x ys
  unfolding occurrences
  count_other e = rw (eqb_differ x y e, occurrences)

module _ {ℓ} {A : Type ℓ} {B : Type 0} (f : A → Option B) (x : A) (xs : List A) where
  pub first_here : {b : B} → f x ≡ Some b → first f (x ∷ xs) ≡ Some b
  unfolding first
  first_here e = rw (e, first)

  pub first_later : f x ≡ None → first f (x ∷ xs) ≡ first f xs
  unfolding first
  first_later e = rw (e, first)

-- membership

module _ {ℓ} {A : Type ℓ} (p : A → Bool) where
  pub any_hit : {x : A} {xs : List A} → Memᴰ x xs → p x ≡ true → exists p xs ≡ true
  any_hit (mathlib.Core.List.Memᴰ.head {x = y} {xs = ys} e) h = any_yes p y ys (ap p (sym e) ∙ h)
  any_hit (mathlib.Core.List.Memᴰ.tail {x = y} {xs = ys} m) h =
      ⊎_elim (λ e. any_yes p y ys e) (λ e. any_not p y ys e ∙ any_hit m h) (decided (p y))

  pub any_found : (xs : List A) → exists p xs ≡ true → (x : A) × Memᴰ x xs × (p x ≡ true)
  unfolding exists
  any_found [] h = absurd (clash h refl)
  any_found (y ∷ ys) h =
      ⊎_elim (λ e. (y, mathlib.Core.List.Memᴰ.head refl, e)) (λ e. later (any_found ys (sym (any_not p y ys e) ∙ h))) (decided (p y))
    where
      later : (x : A) × Memᴰ x ys × (p x ≡ true) → (x : A) × Memᴰ x (y ∷ ys) × (p x ≡ true)
      later f = (f.0, mathlib.Core.List.Memᴰ.tail f.1, f.2)

  pub any_miss : (xs : List A) → exists p xs ≡ false → {x : A} → Memᴰ x xs → p x ≡ false
  any_miss xs h {x} m = false_unless (p x) (λ e. clash (any_hit m e) h)

  pub any_none : (xs : List A) → ((x : A) → Memᴰ x xs → p x ≡ false) → exists p xs ≡ false
  any_none xs h = false_unless _ (λ e. let f = any_found xs e in clash f.2 (h f.0 f.1))

  pub keep_mem : {x : A} {xs : List A} → Memᴰ x xs → p x ≡ true → Memᴰ x (keep p xs)
  keep_mem (mathlib.Core.List.Memᴰ.head {x = y} {xs = ys} e) h = rw (keep_yes p y ys (ap p (sym e) ∙ h)) (mathlib.Core.List.Memᴰ.head e)
  keep_mem (mathlib.Core.List.Memᴰ.tail {x = y} {xs = ys} m) h =
      ⊎_elim
      (λ e. rw (keep_yes p y ys e) (mathlib.Core.List.Memᴰ.tail (keep_mem m h)))
      (λ e. rw (keep_not p y ys e) (keep_mem m h))
      (decided (p y))

  pub mem_keep : (xs : List A) {x : A} → Memᴰ x (keep p xs) → Memᴰ x xs × (p x ≡ true)
  unfolding keep
  mem_keep [] m = absurd (mathlib.Core.List.Memᴰ.not-nil m)
  mem_keep (y ∷ ys) {x} m =
      ⊎_elim
      (λ e. hit e (λ m'. mem_keep ys m') (mathlib.Core.List.Memᴰ.cases_cons (rw (keep_yes p y ys e) at m)))
      (λ e. past (mem_keep ys (rw (keep_not p y ys e) at m)))
      (decided (p y))
    where
      past : Memᴰ x ys × (p x ≡ true) → Memᴰ x (y ∷ ys) × (p x ≡ true)
      past q = (mathlib.Core.List.Memᴰ.tail q.0, q.1)

      hit : p y ≡ true → (Memᴰ x (keep p ys) → Memᴰ x ys × (p x ≡ true)) → (x ≡ y) ⊎ Memᴰ x (keep p ys) → Memᴰ x (y ∷ ys) × (p x ≡ true)
      hit e ih (inl q) = (mathlib.Core.List.Memᴰ.head q, ap p q ∙ e)
      hit e ih (inr m') = past (ih m')

pub member_mem : (u : ℕ) (xs : List ℕ) → member u xs ≡ true → Memᴰ u xs
unfolding member
member_mem u xs h = let f = any_found (eqb u) xs h in mathlib.Core.List.Memᴰ.cast (eqb-true _ _ f.2) f.1

pub mem_member : {u : ℕ} {xs : List ℕ} → Memᴰ u xs → member u xs ≡ true
unfolding member
mem_member {u} m = any_hit (eqb u) m (eqb_same u)

pub count_zero : (u : ℕ) (xs : List ℕ) → (Memᴰ u xs → ⊥) → occurrences u xs ≡ 0
unfolding occurrences
count_zero u [] h = refl
count_zero u (x ∷ xs) h =
    count_other u x xs (λ e. h (mathlib.Core.List.Memᴰ.head e)) ∙ count_zero u xs (λ m. h (mathlib.Core.List.Memᴰ.tail m))

pub count_mem : (u : ℕ) (xs : List ℕ) → 0 < occurrences u xs → Memᴰ u xs
unfolding occurrences
count_mem u [] h = absurd (omega arith)
count_mem u (x ∷ xs) h =
    ⊎_elim
    (λ e. mathlib.Core.List.Memᴰ.head (eqb-true u x e))
    (λ e. mathlib.Core.List.Memᴰ.tail (count_mem u xs (rw (count_other u x xs (λ q. clash (ap (eqb u) (sym q) ∙ eqb_same u) e)) at h)))
    (decided (eqb u x))

pub mem_count : {u : ℕ} {xs : List ℕ} → Memᴰ u xs → 0 < occurrences u xs
mem_count {u} (mathlib.Core.List.Memᴰ.head {x = x} {xs = xs} e) = omega (arith, count_same u x xs e)
mem_count {u} (mathlib.Core.List.Memᴰ.tail {x = x} {xs = xs} m) =
    ⊎_elim
    (λ e. omega (arith, count_same u x xs (eqb-true u x e)))
    (λ e. rw (count_other u x xs (λ q. clash (ap (eqb u) (sym q) ∙ eqb_same u) e)) (mem_count m))
    (decided (eqb u x))

pub count_append : (u : ℕ) (xs ys : List ℕ) → occurrences u (xs ++ ys) ≡ occurrences u xs + occurrences u ys
unfolding occurrences
count_append u [] ys = omega arith
count_append u (x ∷ xs) ys =
    ⊎_elim
    (λ e. omega (arith, count_append u xs ys, count_same u x (xs ++ ys) (eqb-true u x e), count_same u x xs (eqb-true u x e)))
    (λ e.
    let d : u ≡ x → ⊥ = λ q. clash (ap (eqb u) (sym q) ∙ eqb_same u) e in
    omega (arith, count_append u xs ys, count_other u x (xs ++ ys) d, count_other u x xs d))
    (decided (eqb u x))

-- the numbers below n

pub up_from_mem : (k n u : ℕ) → k ≤ u → u < k + n → Memᴰ u (up_from k n)
unfolding up_from
up_from_mem k zero u p q = absurd (omega arith)
up_from_mem k (suc n) u p q =
    ⊎_elim
    (λ (e : k ≡ u). mathlib.Core.List.Memᴰ.head (sym e))
    (λ (h : k < u). mathlib.Core.List.Memᴰ.tail (up_from_mem (suc k) n u h (omega arith)))
    (eq-or-lt_of_le p)

pub mem_up_from : (k n : ℕ) {u : ℕ} → Memᴰ u (up_from k n) → (k ≤ u) × (u < k + n)
unfolding up_from
mem_up_from k zero m = absurd (mathlib.Core.List.Memᴰ.not-nil m)
mem_up_from k (suc n) {u} m =
    ⊎_elim
    (λ (e : u ≡ k). omega arith)
    (λ (m' : Memᴰ u (up_from (suc k) n)). let b = mem_up_from (suc k) n m' in omega arith)
    (mathlib.Core.List.Memᴰ.cases_cons m)

pub below_mem : {n u : ℕ} → u < n → Memᴰ u (below n)
unfolding below
below_mem {n} {u} h = up_from_mem 0 n u (omega arith) (omega arith)

pub mem_below : (n : ℕ) {u : ℕ} → Memᴰ u (below n) → u < n
unfolding below
mem_below n m = let b = mem_up_from 0 n m in omega arith

up_from_add : (k m n : ℕ) → up_from k (m + n) ≡ up_from k m ++ up_from (k + m) n
unfolding up_from
up_from_add k zero n =
    let a : 0 + n ≡ n = omega arith in
    let b : k + 0 ≡ k = omega arith in
    rw (a, b)
up_from_add k (suc m) n =
    let e : suc m + n ≡ suc (m + n) = omega arith in
    let d : suc k + m ≡ k + suc m = omega arith in
    rw (e, ← d) (ap {B = List ℕ} (λ zs. k ∷ zs) (up_from_add (suc k) m n))

-- the numbers below m + n, from m on
pub below_add : (m n : ℕ) → below (m + n) ≡ below m ++ up_from m n
unfolding below
below_add m n = let e : 0 + m ≡ m = omega arith in rw (up_from_add 0 m n, e)

-- equal tests

pub same_test : (a b : Bool) → (a ≡ true → b ≡ true) → (b ≡ true → a ≡ true) → a ≡ b
same_test true b f g = sym (f refl)
same_test false b f g = sym (false_unless b (λ e. clash (g e) refl))

-- two tests that agree on a list
pub keep_agree {ℓ} : {A : Type ℓ} (p q : A → Bool) (xs : List A) → ((x : A) → Memᴰ x xs → p x ≡ q x) → keep p xs ≡ keep q xs
unfolding keep
keep_agree p q [] h = refl
keep_agree p q (x ∷ xs) h =
    let ih = keep_agree p q xs (λ y m. h y (mathlib.Core.List.Memᴰ.tail m)) in
    let e = h x (mathlib.Core.List.Memᴰ.head refl) in
    ⊎_elim
    (λ (d : q x ≡ true). keep_yes p x xs (e ∙ d) ∙ ap (◌∷◌ x) ih ∙ sym (keep_yes q x xs d))
    (λ (d : q x ≡ false). keep_not p x xs (e ∙ d) ∙ ih ∙ sym (keep_not q x xs d))
    (decided (q x))

-- what may be found

pub and_then_some : {A B : Type 0} (o : Option A) (g : A → Option B) {x : B}
    → (option_and_then g o ≡ Some x) ↔ ((a : A) × (o ≡ Some a) × (g a ≡ Some x))
and_then_some None g {x} = (λ e. absurd (none-some x e), λ t. absurd (none-some t.0 t.1))
and_then_some (Some a) g {x} = (λ e. (a, refl, e), λ t. ap (option_and_then g) t.1 ∙ t.2)

pub map_some : {A B : Type 0} (f : A → B) (o : Option A) {x : B}
    → (option_map f o ≡ Some x) ↔ ((a : A) × (o ≡ Some a) × (f a ≡ x))
map_some f None {x} = (λ e. absurd (none-some x e), λ t. absurd (none-some t.0 t.1))
map_some f (Some a) {x} = (λ e. (a, refl, same_Some (f a) x e), λ t. ap (option_map f) t.1 ∙ ap Some t.2)

module _ {A : Type 0} where
  pub found_or_none : (o : Option A) → ((a : A) × (o ≡ Some a)) ⊎ (o ≡ None)
  found_or_none (Some a) = inl (a, refl)
  found_or_none None = inr refl

  pub found_clash : {o : Option A} {a : A} → o ≡ Some a → o ≡ None → ⊥
  found_clash {a} p q = none-some a (sym q ∙ p)

  pub only_if_some : (b : Bool) {a c : A} → only_if b a ≡ Some c → (b ≡ true) × (a ≡ c)
  unfolding only_if
  only_if_some true {a} {c} h = (refl, same_Some a c h)
  only_if_some false h = absurd (found_clash h refl)

  pub only_if_none : (b : Bool) (a : A) → (only_if b a ≡ None) ↔ (b ≡ false)
  unfolding only_if
  only_if_none true a = (λ h. absurd (found_clash refl h), λ h. absurd (clash refl h))
  only_if_none false a = (λ _. refl, λ _. refl)

-- a list around an element of it
pub mem_split {ℓ} : {A : Type ℓ} {x : A} {xs : List A} → Memᴰ x xs → (ahead : List A) × (behind : List A) × (xs ≡ ahead ++ x ∷ behind)
mem_split (mathlib.Core.List.Memᴰ.head {xs = xs} e) = ([], xs, ap (λ y. y ∷ xs) (sym e))
mem_split (mathlib.Core.List.Memᴰ.tail {x = y} m) = let (ahead, behind, e) = mem_split m in (y ∷ ahead, behind, ap (◌∷◌ y) e)

-- lists joined end to end

module _ {ℓ κ} {A : Type ℓ} {B : Type κ} (f : A → List B) where
  pub flat_map_mem : {x : A} {xs : List A} {y : B} → Memᴰ x xs → Memᴰ y (f x) → Memᴰ y (flat_map f xs)
  unfolding flat_map
  flat_map_mem {y} (mathlib.Core.List.Memᴰ.head {xs = xs} e) m = mathlib.Core.List.Memᴰ.append_left (flat_map f xs) (subst (λ (z : A). Memᴰ y (f z)) e m)
  flat_map_mem (mathlib.Core.List.Memᴰ.tail {x = z} m') m = mathlib.Core.List.Memᴰ.append_right (f z) (flat_map_mem m' m)

  pub mem_flat_map : (xs : List A) {y : B} → Memᴰ y (flat_map f xs) → (x : A) × Memᴰ x xs × Memᴰ y (f x)
  unfolding flat_map
  mem_flat_map [] m = absurd (mathlib.Core.List.Memᴰ.not-nil m)
  mem_flat_map (x ∷ xs) {y} m =
      ⊎_elim
      (λ (m' : Memᴰ y (f x)). (x, mathlib.Core.List.Memᴰ.head refl, m'))
      (λ (m' : Memᴰ y (flat_map f xs)). let r = mem_flat_map xs m' in (r.0, mathlib.Core.List.Memᴰ.tail r.1, r.2))
      (mathlib.Core.List.Memᴰ.append_cases (f x) m)

  pub flat_map_append : (xs ys : List A) → flat_map f (xs ++ ys) ≡ flat_map f xs ++ flat_map f ys
  unfolding flat_map
  flat_map_append [] ys = refl
  flat_map_append (x ∷ xs) ys = ap (λ (l : List B). f x ++ l) (flat_map_append xs ys) ∙ sym (append_assoc (f x) (flat_map f xs) (flat_map f ys))

  pub flat_map_agree : (g : A → List B) (xs : List A) → ((x : A) → Memᴰ x xs → f x ≡ g x) → flat_map f xs ≡ flat_map g xs
  unfolding flat_map
  flat_map_agree g [] h = refl
  flat_map_agree g (x ∷ xs) h = ap₂ ◌++◌ (h x (mathlib.Core.List.Memᴰ.head refl)) (flat_map_agree g xs (λ y m. h y (mathlib.Core.List.Memᴰ.tail m)))

-- equal counts, and a list in front of another

pub same_count_mem : {u : ℕ} {xs ys : List ℕ} → occurrences u xs ≡ occurrences u ys → Memᴰ u xs → Memᴰ u ys
same_count_mem {u} {ys = ys} e m = count_mem u ys (rw e at (mem_count m))

pub any_append {ℓ} : {A : Type ℓ} (p : A → Bool) (xs ys : List A) → exists p (xs ++ ys) ≡ (exists p xs || exists p ys)
unfolding exists
any_append p [] ys = refl
any_append p (x ∷ xs) ys =
    ⊎_elim (λ (e : p x ≡ true). rw (e, exists)) (λ (e : p x ≡ false). rw (e, exists) (any_append p xs ys)) (decided (p x))
