-- A list with an entry for each job, and the same in the order of a tree's leaves.
use Prim.Native.Nat.{ℕ, zero, suc, ◌+◌, ◌-◌, ◌^◌, ◌≤◌, ◌<◌}
use mathlib.Core.Path.{◌≡◌, refl, sym, ap, ap₂, ◌∙◌}
use mathlib.Core.List.Memᴰ
use mathlib.Core.List.{List, [], ◌∷◌, ◌++◌, map, Memᴰ}
use native.Mathlib.Decide.{ℕ_discrete}
use native.Mathlib.Omega.{arith}
use lib.ListN.{length, get_or, replicate, length-append}
use lib.Seq.{get_or-append_seam, append_snoc}
use Rattle.poset.specs.Areas.{padded}
use Rattle.poset.specs.Lists.{occurrences, up_from, below}
use Rattle.poset.specs.Tree.{Tree, leaf, node, Forest, last, more, leaves, forest_leaves}
use Rattle.poset.proofs.Laws.{eqb_same, eqb_differ, count_same, count_other, mem_count}
use Rattle.record.specs.Bits.{AllBelow, bits}
use Rattle.record.specs.Layout.{hours_bits, most_hours, kind_bit, more_children, hours_of, tree_bits, forest_bits}
use Rattle.record.specs.Decode.{beside}
use Rattle.record.proofs.Below.{below_nil, below_cons, below_head, below_tail, below_append}

-- what a list has at an entry is below what all of it is
pub entry_below : (hours : List ℕ) (j m : ℕ) → 0 < m → AllBelow m hours → hours_of hours j < m
entry_below [] j m p h = p
entry_below (x ∷ hours) zero m p h = below_head h
entry_below (x ∷ hours) (suc j) m p h = entry_below hours j m p (below_tail h)

pub hours_most : (hours : List ℕ) → AllBelow (2 ^ hours_bits) hours → (u : ℕ) → hours_of hours u ≤ most_hours
hours_most hours low u = omega (arith, entry_below hours u (2 ^ hours_bits) (omega arith) low)

-- zeros after a list change no entry

zero_entry : (k j : ℕ) → get_or {A = ℕ} (replicate k 0) j 0 ≡ 0
zero_entry zero j = refl
zero_entry (suc k) zero = refl
zero_entry (suc k) (suc j) = zero_entry k j

pub entry_padded : (xs : List ℕ) (k j : ℕ) → get_or (xs ++ replicate k 0) j 0 ≡ get_or xs j 0
entry_padded [] k j = zero_entry k j
entry_padded (x ∷ xs) k zero = refl
entry_padded (x ∷ xs) k (suc j) = entry_padded xs k j

zeros_below : (m k : ℕ) → 0 < m → AllBelow m (replicate k 0)
zeros_below m zero l = below_nil
zeros_below m (suc k) l = below_cons l (zeros_below m k l)

pub padded_below : (hours : List ℕ) → AllBelow (2 ^ hours_bits) hours → AllBelow (2 ^ hours_bits) (padded hours)
padded_below hours h = below_append h (zeros_below (2 ^ hours_bits) (128 - length hours) (omega arith))

module _ {A B : Type 0} where
  pub map-append : (f : A → B) (xs ys : List A) → map f (xs ++ ys) ≡ map f xs ++ map f ys
  map-append f [] ys = refl
  map-append f (x ∷ xs) ys = ap (◌∷◌ (f x)) (map-append f xs ys)

  pub map_agree : (f g : A → B) (xs : List A) → ((x : A) → Memᴰ x xs → f x ≡ g x) → map f xs ≡ map g xs
  map_agree f g [] h = refl
  map_agree f g (x ∷ xs) h = ap₂ ◌∷◌ (h x (Memᴰ.head refl)) (map_agree f g xs (λ y m. h y (Memᴰ.tail m)))

-- the entries of a list are the list

entries_from : (ahead hours : List ℕ) → map (hours_of (ahead ++ hours)) (up_from (length ahead) (length hours)) ≡ hours
unfolding up_from
entries_from ahead [] = refl
entries_from ahead (h ∷ hours) =
    let longer : length (ahead ++ (h ∷ [])) ≡ suc (length ahead) = omega (arith, length-append ahead (h ∷ [])) in
    ap₂ ◌∷◌ (get_or-append_seam ahead h hours 0)
    (ap₂ (λ (l : List ℕ) (k : ℕ). map (hours_of l) (up_from k (length hours))) (sym (append_snoc ahead h hours)) (sym longer)
    ∙ entries_from (ahead ++ (h ∷ [])) hours)

pub entries : (hours : List ℕ) → map (hours_of hours) (below (length hours)) ≡ hours
unfolding below
entries hours = entries_from [] hours

-- a list made entry by entry

pub length_made : (f : ℕ → ℕ) (k n : ℕ) → length (map f (up_from k n)) ≡ n
unfolding up_from
length_made f k zero = refl
length_made f k (suc n) = ap suc (length_made f (suc k) n)

made_from : (f : ℕ → ℕ) (k n j : ℕ) → j < n → hours_of (map f (up_from k n)) j ≡ f (k + j)
unfolding up_from
made_from f k zero j l = absurd (omega arith)
made_from f k (suc n) zero l = let e : k ≡ k + 0 = omega arith in ap f e
made_from f k (suc n) (suc j) l = let e : suc k + j ≡ k + suc j = omega arith in made_from f (suc k) n j (omega arith) ∙ ap f e

pub made : (f : ℕ → ℕ) (n j : ℕ) → j < n → hours_of (map f (below n)) j ≡ f j
unfolding below
made f n j l = let e : 0 + j ≡ j = omega arith in made_from f 0 n j l ∙ ap f e

pub length_below : (f : ℕ → ℕ) (n : ℕ) → length (map f (below n)) ≡ n
unfolding below
length_below f n = length_made f 0 n

-- beside a list

module _ (j x : ℕ) (xs : List ℕ) (h : ℕ) (hs : List ℕ) where
  beside_here : j ≡ x → beside j (x ∷ xs) (h ∷ hs) ≡ h
  unfolding beside
  beside_here e = rw (e, eqb_same x, beside)

  beside_later : (j ≡ x → ⊥) → beside j (x ∷ xs) (h ∷ hs) ≡ beside j xs hs
  unfolding beside
  beside_later e = rw (eqb_differ j x e, beside)

pub beside_map : (g : ℕ → ℕ) (j : ℕ) (xs : List ℕ) → Memᴰ j xs → beside j xs (map g xs) ≡ g j
beside_map g j xs (Memᴰ.head {x = x} {xs = ys} e) = beside_here j x ys (g x) (map g ys) e ∙ ap g (sym e)
beside_map g j xs (Memᴰ.tail {x = x} {xs = ys} m) =
    elim (ℕ_discrete j x) [
      | yes e ↦ beside_here j x ys (g x) (map g ys) e ∙ ap g (sym e)
      | no e ↦ beside_later j x ys (g x) (map g ys) e ∙ beside_map g j ys m
    ]

pub beside_below : (j m : ℕ) (xs hs : List ℕ) → 0 < m → AllBelow m hs → beside j xs hs < m
unfolding beside
beside_below j m [] hs p h = p
beside_below j m (x ∷ xs) [] p h = p
beside_below j m (x ∷ xs) (y ∷ hs) p h =
    elim (ℕ_discrete j x) [
      | yes e ↦ rw (beside_here j x xs y hs e) (below_head h)
      | no e ↦ rw (beside_later j x xs y hs e) (beside_below j m xs hs p (below_tail h))
    ]

-- where no job stands twice
pub beside_each
    : (xs hs : List ℕ) → ((u : ℕ) → occurrences u xs ≤ 1) → length hs ≡ length xs → map (λ j. beside j xs hs) xs ≡ hs
beside_each [] [] o e = refl
beside_each [] (h ∷ hs) o e = absurd (omega arith)
beside_each (x ∷ xs) [] o e = absurd (omega arith)
beside_each (x ∷ xs) (h ∷ hs) o e =
    ap₂ ◌∷◌ (beside_here x x xs h hs refl)
    (map_agree (λ j. beside j (x ∷ xs) (h ∷ hs)) (λ j. beside j xs hs) xs (λ j m. beside_later j x xs h hs (other j m))
    ∙ beside_each xs hs (λ u. fewer u) (omega arith))
  where
    fewer : (u : ℕ) → occurrences u xs ≤ 1
    fewer u = elim (ℕ_discrete u x) [ yes q ↦ omega (arith, o u, count_same u x xs q) | no q ↦ omega (arith, o u, count_other u x xs q) ]

    other : (j : ℕ) → Memᴰ j xs → j ≡ x → ⊥
    other j m q = omega (arith, o j, count_same j x xs q, mem_count m)

-- a tree's bits depend on the hours of its own jobs alone

module _ (hours others : List ℕ) where
  mutual
    unfolding tree_bits leaves

    pub tree_agree : (t : Tree) → ((j : ℕ) → Memᴰ j (leaves t) → hours_of hours j ≡ hours_of others j) → tree_bits hours t ≡ tree_bits others t
    tree_agree (leaf j) h = ap (λ (x : ℕ). 0 ∷ bits 7 j ++ bits hours_bits x) (h j (Memᴰ.head refl))
    tree_agree (node k t f) h =
        ap₂ (λ (x y : List ℕ). 1 ∷ kind_bit k ∷ bits 7 (more_children f) ++ (x ++ y))
        (tree_agree t (λ j m. h j (Memᴰ.append_left (forest_leaves f) m)))
        (forest_agree f (λ j m. h j (Memᴰ.append_right (leaves t) m)))

    pub forest_agree
        : (f : Forest) → ((j : ℕ) → Memᴰ j (forest_leaves f) → hours_of hours j ≡ hours_of others j) → forest_bits hours f ≡ forest_bits others f
    forest_agree (last t) h = tree_agree t h
    forest_agree (more t f) h =
        ap₂ ◌++◌ (tree_agree t (λ j m. h j (Memᴰ.append_left (forest_leaves f) m))) (forest_agree f (λ j m. h j (Memᴰ.append_right (leaves t) m)))
