-- The trees in a row from a node of a tree on.
use Prim.Native.Nat.{ℕ, zero, suc, ◌-◌, ◌≤◌, ◌<◌}
use mathlib.Core.Path.{◌≡◌, refl, sym, ap, subst, ◌∙◌}
use mathlib.Core.List.{List, [], ◌∷◌, ◌++◌, flat_map, append-nil, append_assoc}
use native.Mathlib.Omega.{arith}
use lib.ListN.{length, get_or, drop, length-append}
use lib.Seq.{get_or-take}
use Rattle.poset.specs.Lists.{occurrences}
use Rattle.poset.specs.Tree.{Kind, Tree, leaf, node, Forest, last, more, leaves, forest_leaves, trees}
use Rattle.poset.proofs.Laws.{count_append, flat_map_append}
use Rattle.poset.proofs.Shape.{trees_row, trees_leaves}
use Rattle.record.specs.Layout.{more_children}
use Rattle.record.specs.Tokens.{tokens, forest_tokens, node_room, Small}
use Rattle.record.proofs.Sizes.{small_left, small_right, groups_lt}
use Rattle.record.proofs.Tokens.{tokens_few, children_few}
use Rattle.reader.specs.Nodes.{Listed, Step, one_leaf, one_group, Fits}

-- nodes, and the trees in a row that they are
pub data Spells : List ℕ → List Tree → Type 0 where
  none : Spells [] []
  one_more : {x : ℕ} {xs : List ℕ} {ts us : List Tree} → Step x ts us → Spells xs ts → Spells (x ∷ xs) us

mutual
  unfolding trees

  spells_tree : {xs : List ℕ} {ts : List Tree} (t : Tree) → Spells xs ts → Spells (tokens t ++ xs) (t ∷ ts)
  spells_tree (leaf j) s = one_more (one_leaf j) s
  spells_tree {xs} {ts} (node k t f) s =
      one_more (one_group k t f)
      (subst (λ (l : List ℕ). Spells l (t ∷ trees f ++ ts)) (sym (append_assoc (tokens t) (forest_tokens f) xs)) (spells_tree t (spells_forest f s)))

  spells_forest : {xs : List ℕ} {ts : List Tree} (f : Forest) → Spells xs ts → Spells (forest_tokens f ++ xs) (trees f ++ ts)
  spells_forest (last t) s = spells_tree t s
  spells_forest {xs} {ts} (more t f) s =
      subst (λ (l : List ℕ). Spells l (t ∷ trees f ++ ts)) (sym (append_assoc (tokens t) (forest_tokens f) xs)) (spells_tree t (spells_forest f s))

pub spells : (t : Tree) → Spells (tokens t) (t ∷ [])
spells t = subst (λ (l : List ℕ). Spells l (t ∷ [])) (append-nil (tokens t)) (spells_tree t none)

-- the trees in a row from node i on
abbrev pub pending : {xs : List ℕ} {us : List Tree} → ℕ → Spells xs us → List Tree
pending {us = us} zero s = us
pending (suc i) none = []
pending (suc i) (one_more step s) = pending i s

pub step_at : {xs : List ℕ} {us : List Tree} (i : ℕ) (s : Spells xs us) → i < length xs → Step (get_or xs i 0) (pending (suc i) s) (pending i s)
step_at i none l = absurd (omega arith)
step_at zero (one_more step s) l = step
step_at (suc i) (one_more step s) l = step_at i s (omega arith)

pub pending_end : {xs : List ℕ} {us : List Tree} (s : Spells xs us) → pending (length xs) s ≡ []
pending_end none = refl
pending_end (one_more step s) = pending_end s

-- lists for each tree: of a forest, and of a group's children and what follows them

pub trees_tokens : (f : Forest) → flat_map tokens (trees f) ≡ forest_tokens f
trees_tokens = trees_row tokens forest_tokens (λ t. refl) (λ t f. refl)

pub children_row : {A : Type 0} (g : Tree → List A) (t : Tree) (f : Forest) (rest : List Tree) {ys : List A} → flat_map g (trees f) ≡ ys
    → (g t ++ ys) ++ flat_map g rest ≡ flat_map g (t ∷ trees f ++ rest)
unfolding flat_map
children_row {A} g t f rest {ys} e =
    append_assoc (g t) ys (flat_map g rest)
    ∙ ap (λ (l : List A). g t ++ l) (ap (λ (l : List A). l ++ flat_map g rest) (sym e) ∙ sym (flat_map_append g (trees f) rest))

-- the lists of the trees in a row at node i, joined, are those of the whole without the first i elements, where each step puts one element ahead
module _ {A : Type 0} (g : Tree → List A)
    (first : (x : ℕ) (ts us : List Tree) → Step x ts us → (a : A) × (flat_map g us ≡ a ∷ flat_map g ts)) where
  pub pending_drop : {xs : List ℕ} {us : List Tree} (i : ℕ) (s : Spells xs us) → flat_map g (pending i s) ≡ drop i (flat_map g us)
  unfolding flat_map
  pending_drop zero s = refl
  pending_drop (suc i) none = refl
  pending_drop {us = us} (suc i) (one_more {x} {xs} {ts} step s) = pending_drop i s ∙ ap (drop (suc i)) (sym (first x ts us step).1)

-- every tree of a row has a leaf
pub row_length : (ts : List Tree) → length ts ≤ length (flat_map leaves ts)
unfolding flat_map
row_length [] = omega arith
row_length (t ∷ ts) = omega (arith, row_length ts, groups_lt t, length-append (leaves t) (flat_map leaves ts))

-- they fit a record as the tree does

pub step_fits : {x : ℕ} {ts us : List Tree} → Step x ts us → Fits us → Fits ts
unfolding leaves flat_map
step_fits {ts = ts} (one_leaf j) fits =
    record {
      once = λ u. omega (arith, fits.once u, count_append u (j ∷ []) (flat_map leaves ts));
      small = small_right (j ∷ []) (flat_map leaves ts) fits.small;
    }
step_fits (one_group {rest} k t f) fits =
    let same : flat_map leaves (node k t f ∷ rest) ≡ flat_map leaves (t ∷ trees f ++ rest) = children_row leaves t f rest (trees_leaves f) in
    record { once = λ u. subst (λ (l : List ℕ). occurrences u l ≤ 1) same (fits.once u); small = subst Small same fits.small }

pub few_children : (k : Kind) (t : Tree) (f : Forest) (rest : List Tree) → Fits (node k t f ∷ rest) → more_children f < 128
unfolding leaves flat_map
few_children k t f rest fits = children_few t f (small_left (leaves t ++ forest_leaves f) (flat_map leaves rest) fits.small)

pub fits_at : {xs : List ℕ} {us : List Tree} (i : ℕ) (s : Spells xs us) → Fits us → Fits (pending i s)
fits_at zero s fits = fits
fits_at (suc i) none fits = fits
fits_at (suc i) (one_more step s) fits = fits_at i s (step_fits step fits)

-- the nodes of a tree, taken from the last to the first

module _ (t : Tree) (list : List ℕ) (count : ℕ) (l : Listed t list count) where
  pub row_step : (i : ℕ) → 0 < i → i ≤ count → Step (get_or list (i - 1) 0) (pending i (spells t)) (pending (i - 1) (spells t))
  row_step i some inside =
      let next : suc (i - 1) ≡ i = omega arith in
      let here : get_or (tokens t) (i - 1) 0 ≡ get_or list (i - 1) 0 =
      ap (λ (xs : List ℕ). get_or xs (i - 1) 0) (sym l.these) ∙ get_or-take count list (i - 1) 0 (omega arith) in
      subst (λ (x : ℕ). Step x (pending i (spells t)) (pending (i - 1) (spells t))) here
      (subst (λ (n : ℕ). Step (get_or (tokens t) (i - 1) 0) (pending n (spells t)) (pending (i - 1) (spells t))) next
      (step_at (i - 1) (spells t) (omega (arith, l.number))))

  whole_fits : Fits (t ∷ [])
  unfolding flat_map
  whole_fits =
      let alone : leaves t ≡ flat_map leaves (t ∷ []) = sym (append-nil (leaves t)) in
      record { once = λ u. subst (λ (js : List ℕ). occurrences u js ≤ 1) alone (l.once u); small = subst Small alone l.small }

  pub row_fits : (i : ℕ) → Fits (pending i (spells t))
  row_fits i = fits_at i (spells t) whole_fits

  pub nodes_few : count ≤ node_room
  nodes_few = omega (arith, l.number, tokens_few t l.small)
