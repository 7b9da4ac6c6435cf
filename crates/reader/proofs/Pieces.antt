-- Pieces one after another, and the children of a group with one more behind them.
use Prim.Native.Nat.{ℕ, suc, ◌+◌, ◌≤◌, min}
use mathlib.Core.Path.{◌≡◌, refl, sym, ap, ap₂, subst, fun_ext, ◌∙◌}
use mathlib.Core.List.Memᴰ
use mathlib.Core.List.{List, ◌++◌, append_assoc, Memᴰ}
use mathlib.Core.Bool.{Bool, true}
use mathlib.Core.Logic.{inl, ⊎_elim}
use native.Mathlib.Omega.{arith}
use lib.ListN.{length}
use Rattle.poset.specs.Lists.{occurrences}
use Rattle.poset.specs.Tree.{Kind, series, parallel, Tree, node, Forest, last, more, leaves, forest_leaves, joined, reversed, least, groups}
use Rattle.poset.specs.Tree.{alternates, outranks, ahead}
use Rattle.poset.specs.Inner.{Once, OnceForest, first_of, Canon, CanonForest}
use Rattle.poset.proofs.Laws.{same_count_mem}
use Rattle.poset.proofs.Shape.{in_leaves, in_forest_leaves, forest_leaves_in}
use Rattle.poset.proofs.Meaning.{once_count}
use Rattle.poset.proofs.Realizer.{reversed_count, forest_reversed_count}
use Rattle.record.specs.Layout.{more_children, hours_of, tree_bits}
use Rattle.record.proofs.Entries.{tree_agree, forest_agree}
use Rattle.reader.specs.Parts.{Piece, of_tree, of_forest}

-- x and then y, as children of a group of kind k
abbrev pub both : Kind → Piece → Piece → Piece
both k x y =
    record {
      spelt = λ hours. x.spelt hours ++ y.spelt hours;
      forth = x.forth ++ y.forth;
      back = joined k x.back y.back;
      smallest = min x.smallest y.smallest;
      inner = x.inner + y.inner;
    }

abbrev piece : (List ℕ → List ℕ) → List ℕ → List ℕ → ℕ → ℕ → Piece
piece s f b m i = record { spelt = s; forth = f; back = b; smallest = m; inner = i }

joined_assoc : (k : Kind) (a b c : List ℕ) → joined k (joined k a b) c ≡ joined k a (joined k b c)
unfolding joined
joined_assoc series a b c = append_assoc a b c
joined_assoc parallel a b c = sym (append_assoc c b a)

both_assoc : (k : Kind) (x y z : Piece) → both k (both k x y) z ≡ both k x (both k y z)
both_assoc k x y z =
    let f : List ℕ = (x.forth ++ y.forth) ++ z.forth in
    let b : List ℕ = joined k (joined k x.back y.back) z.back in
    let m : ℕ = min (min x.smallest y.smallest) z.smallest in
    let i : ℕ = x.inner + y.inner + z.inner in
    let s' : List ℕ → List ℕ = λ h. x.spelt h ++ (y.spelt h ++ z.spelt h) in
    let f' : List ℕ = x.forth ++ (y.forth ++ z.forth) in
    let b' : List ℕ = joined k x.back (joined k y.back z.back) in
    let m' : ℕ = min x.smallest (min y.smallest z.smallest) in
    let same_m : m ≡ m' = omega arith in
    let same_i : i ≡ x.inner + (y.inner + z.inner) = omega arith in
    ap (λ (s : List ℕ → List ℕ). piece s f b m i) (fun_ext λ h. append_assoc (x.spelt h) (y.spelt h) (z.spelt h))
    ∙ ap (λ (f : List ℕ). piece s' f b m i) (append_assoc x.forth y.forth z.forth)
    ∙ ap (λ (b : List ℕ). piece s' f' b m i) (joined_assoc k x.back y.back z.back)
    ∙ ap (λ (m : ℕ). piece s' f' b' m i) same_m
    ∙ ap (λ (i : ℕ). piece s' f' b' m' i) same_i

-- a piece whose sequences have the same jobs, each once, and whose bits depend on the hours of its jobs alone
pub record Sound (x : Piece) : Type 0 where
  pub same : (u : ℕ) → occurrences u x.back ≡ occurrences u x.forth
  pub once : (u : ℕ) → occurrences u x.forth ≤ 1
  pub agrees : (g h : List ℕ) → ((u : ℕ) → Memᴰ u x.forth → hours_of g u ≡ hours_of h u) → x.spelt g ≡ x.spelt h

pub back_in : {x : Piece} → Sound x → {u : ℕ} → Memᴰ u x.back → Memᴰ u x.forth
back_in s {u} m = same_count_mem (s.same u) m

pub back_once : {x : Piece} → Sound x → (u : ℕ) → occurrences u x.back ≤ 1
back_once s u = omega (arith, s.same u, s.once u)

pub sound_tree : (t : Tree) → Once t → Sound (of_tree t)
sound_tree t o = record { same = λ u. reversed_count t u; once = once_count t o; agrees = λ g h e. tree_agree g h t e }

forest_once : (f : Forest) → OnceForest f → (u : ℕ) → occurrences u (forest_leaves f) ≤ 1
unfolding leaves
forest_once (last t) o u = once_count t o u
forest_once (more t f) o u = once_count (node series t f) o u

pub sound_forest : (k : Kind) (f : Forest) → OnceForest f → Sound (of_forest k f)
sound_forest k f o = record { same = λ u. forest_reversed_count f k u; once = forest_once f o; agrees = λ g h e. forest_agree g h f e }

-- of two children, by their jobs and their smallest ones, the one may come ahead of the other; of a child of a chain nothing is kept for that

abbrev pub goes_ahead : Kind → ℕ → ℕ → ℕ → ℕ → Bool
goes_ahead series m x n y = true
goes_ahead parallel m x n y = outranks m x n y

abbrev pub kept : Kind → ℕ → ℕ
kept series m = 0
kept parallel m = m

abbrev pub Follows : Kind → ℕ → ℕ → Tree → Type 0
Follows k m x t = goes_ahead k m x (length (leaves t)) (least t) ≡ true

pub kept_ahead : (k : Kind) (s t : Tree) (m x : ℕ) → m ≡ length (leaves s) → x ≡ least s
    → goes_ahead k (kept k m) (kept k x) (length (leaves t)) (least t) ≡ ahead k s t
unfolding ahead
kept_ahead series s t m x p q = refl
kept_ahead parallel s t m x p q = ap₂ (λ (a b : ℕ). outranks a b (length (leaves t)) (least t)) p q

-- a forest with one tree more behind it

abbrev pub snoc : Forest → Tree → Forest
snoc (last s) t = more s (last t)
snoc (more s f) t = more s (snoc f t)

abbrev pub last_of : Forest → Tree
last_of (last s) = s
last_of (more s f) = last_of f

pub piece_snoc : (k : Kind) (f : Forest) (t : Tree) → of_forest k (snoc f t) ≡ both k (of_forest k f) (of_tree t)
unfolding tree_bits leaves reversed least groups
piece_snoc k (last s) t = refl
piece_snoc k (more s f) t = ap (both k (of_tree s)) (piece_snoc k f t) ∙ sym (both_assoc k (of_tree s) (of_forest k f) (of_tree t))

snoc_leaves : (f : Forest) (t : Tree) → forest_leaves (snoc f t) ≡ forest_leaves f ++ leaves t
snoc_leaves f t = ap (λ (x : Piece). x.forth) (piece_snoc series f t)

pub snoc_number : (f : Forest) (t : Tree) → more_children (snoc f t) ≡ suc (more_children f)
unfolding more_children
snoc_number (last s) t = refl
snoc_number (more s f) t = ap suc (snoc_number f t)

pub snoc_last : (f : Forest) (t : Tree) → last_of (snoc f t) ≡ t
snoc_last (last s) t = refl
snoc_last (more s f) t = snoc_last f t

snoc_first : (f : Forest) (t : Tree) → first_of (snoc f t) ≡ first_of f
snoc_first (last s) t = refl
snoc_first (more s f) t = refl

pub canon_snoc : (k : Kind) (t : Tree) → alternates k t ≡ true → Canon t → (f : Forest) → CanonForest k f → ahead k (last_of f) t ≡ true
    → CanonForest k (snoc f t)
canon_snoc k t under canon (last s) c h = (c.0, c.1, (under, canon), h)
canon_snoc k t under canon (more s f) c h =
    (c.0, c.1, canon_snoc k t under canon f c.2 h, ap (ahead k s) (snoc_first f t) ∙ c.3)

pub once_snoc : (f : Forest) (t : Tree) → OnceForest f → Once t → ((u : ℕ) → Memᴰ u (forest_leaves f) → Memᴰ u (leaves t) → ⊥)
    → OnceForest (snoc f t)
unfolding leaves
once_snoc (last s) t o o' apart = (o, o', λ u i j. apart u (in_leaves s i) (in_leaves t j))
once_snoc (more s f) t o o' apart = (
  o.0,
  once_snoc f t o.1 o' (λ u i j. apart u (Memᴰ.append_right (leaves s) i) j),
  λ u i j.
      ⊎_elim
      (λ m. o.2 u i (forest_leaves_in f m))
      (λ m. apart u (in_forest_leaves (more s f) (inl i)) m)
      (Memᴰ.append_cases (forest_leaves f) (subst (λ (l : List ℕ). Memᴰ u l) (snoc_leaves f t) (in_forest_leaves (snoc f t) j))),
)
