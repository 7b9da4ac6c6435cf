-- The longest run: a chain of that sum, and no chain has more.
use Prim.Native.Nat.{ℕ, ◌+◌, ◌≤◌, ◌<◌}
use mathlib.Core.Path.{◌≡◌, refl, sym, ap, ap₂, ◌∙◌}
use mathlib.Core.List.Memᴰ
use mathlib.Core.List.{List, [], ◌∷◌, ◌++◌, flat_map, Memᴰ}
use mathlib.Core.List.{append-nil}
use mathlib.Core.Logic.{⊎_elim}
use mathlib.Core.Bool.{true, false}
use lib.Dec.{ltb}
use native.Mathlib.Omega.{arith}
use Rattle.poset.specs.Lists.{sum}
use Rattle.poset.specs.Order.{Rel}
use Rattle.poset.specs.Tree.{Kind, series, parallel, Tree, leaf, node, Forest, last, more, trees, Means}
use Rattle.poset.specs.Inner.{In}
use Rattle.poset.proofs.Laws.{decided, ltb-true}
use Rattle.poset.proofs.Heaviest.{grown, heaviest, forest_heaviest, Laid, Attained, not_less, attained, laid_distinct, laid_near, not_heavier}
use Rattle.poset.proofs.Shape.{Good}
use Rattle.poset.proofs.Meaning.{means_fits}
use Rattle.longest.specs.Chains.{InOrder, empty, next, IsLongest}
use Rattle.longest.specs.Longest.{WorkRun, joined_runs, longest, forest_longest, FirstGreatest}

joined_grown : (k : Kind) (a b : WorkRun) → joined_runs k a b ≡ grown series k a b
unfolding joined_runs
joined_grown series a b = refl
joined_grown parallel a b = refl

mutual
  unfolding longest

  longest_heaviest : (hours : ℕ → ℕ) (t : Tree) → longest hours t ≡ heaviest series hours t
  longest_heaviest hours (leaf j) = refl
  longest_heaviest hours (node k t f) =
      ap₂ (joined_runs k) (longest_heaviest hours t) (forest_heaviest_lem hours k f)
      ∙ joined_grown k (heaviest series hours t) (forest_heaviest series hours k f)

  forest_heaviest_lem : (hours : ℕ → ℕ) (k : Kind) (f : Forest) → forest_longest hours k f ≡ forest_heaviest series hours k f
  forest_heaviest_lem hours k (last t) = longest_heaviest hours t
  forest_heaviest_lem hours k (more t f) =
      ap₂ (joined_runs k) (longest_heaviest hours t) (forest_heaviest_lem hours k f)
      ∙ joined_grown k (heaviest series hours t) (forest_heaviest series hours k f)

laid_in_order : (r : Rel) (xs : List ℕ) → Laid series r xs → InOrder r xs
laid_in_order r [] l = empty
laid_in_order r (x ∷ xs) l = next (λ v m. (l.0 v m).0) (laid_in_order r xs l.1)

-- the run is of the tree's own jobs
pub run_attained : (r : Rel) (hours : ℕ → ℕ) (t : Tree) → Good r t → Attained series r hours (In t) (longest hours t)
run_attained r hours t good = rw (longest_heaviest hours t) (attained series r hours t good)

module _ (n : ℕ) (r : Rel) (t : Tree) (means : Means n t r) (hours : ℕ → ℕ) where
  shown : Attained series r hours (λ u. u < n) (longest hours t)
  shown =
      let fits = means_fits n r t means in
      let a = run_attained r hours t fits.good in
      record { total = a.total; inside = λ u m. fits.holds.inside u (a.inside u m); laid = a.laid }

  pub longest_is : IsLongest n r hours (longest hours t).0 (longest hours t).1
  longest_is =
      record {
        together = shown.total;
        chain =
            record {
              inside = shown.inside;
              once = laid_distinct series r hours (longest hours t).1 shown.laid;
              ordered = laid_near series r hours (longest hours t).1 shown.laid;
            };
        in_order = laid_in_order r (longest hours t).1 shown.laid;
        greatest = λ jobs c.
            let fits = means_fits n r t means in
            rw (longest_heaviest hours t)
            (not_heavier series r hours t fits.good jobs c.once (λ u m. fits.holds.outside u (c.inside u m)) c.ordered);
      }

-- a chain adds its children's runs, a side group takes its first child with the greatest total

pub series_adds : (hours : ℕ → ℕ) (f : Forest)
    → forest_longest hours series f ≡ (sum (λ c. (longest hours c).0) (trees f), flat_map (λ c. (longest hours c).1) (trees f))
unfolding longest joined_runs trees flat_map
series_adds hours (last t) = λ i. (add_nothing i, sym (append-nil (longest hours t).1) i)
  where
    add_nothing : (longest hours t).0 ≡ (longest hours t).0 + 0
    add_nothing = omega arith
series_adds hours (more t f) = ap (λ (b : WorkRun). joined_runs series (longest hours t) b) (series_adds hours f)

abbrev Taken : (ℕ → ℕ) → List Tree → WorkRun → Type 0
Taken hours cs a = (c : Tree) × FirstGreatest hours cs c × (a ≡ longest hours c)

one_more : (hours : ℕ → ℕ) (t : Tree) (cs : List Tree) (b : WorkRun) → Taken hours cs b → Taken hours (t ∷ cs) (joined_runs parallel (longest hours t) b)
unfolding joined_runs
one_more hours t cs b (c, first, is) =
    ⊎_elim
    (λ (e : ltb (longest hours t).0 b.0 ≡ true).
    let l : (longest hours t).0 < (longest hours c).0 = omega (arith, ltb-true (longest hours t).0 b.0 e, ap (λ (x : WorkRun). x.0) is) in
    rw e (
      c,
      record {
        ahead = t ∷ first.ahead;
        behind = first.behind;
        splits = ap (◌∷◌ t) first.splits;
        less = λ x m.
            ⊎_elim
            (λ (q : x ≡ t). rw q l)
            (λ (i : Memᴰ x first.ahead). first.less x i)
            (Memᴰ.cases_cons m);
        no_greater = first.no_greater;
      },
      is,
    ))
    (λ (e : ltb (longest hours t).0 b.0 ≡ false).
    let l : (longest hours c).0 ≤ (longest hours t).0 = omega (arith, not_less (longest hours t).0 b.0 e, ap (λ (x : WorkRun). x.0) is) in
    rw e (
      t,
      record {
        ahead = [];
        behind = cs;
        splits = refl;
        less = λ x m. absurd (Memᴰ.not-nil m);
        no_greater = λ x m. within x (rw first.splits at m) l;
      },
      refl,
    ))
    (decided (ltb (longest hours t).0 b.0))
  where
    within : (x : Tree) → Memᴰ x (first.ahead ++ c ∷ first.behind) → (longest hours c).0 ≤ (longest hours t).0
        → (longest hours x).0 ≤ (longest hours t).0
    within x m l =
        ⊎_elim
        (λ (i : Memᴰ x first.ahead). omega (arith, first.less x i))
        (λ (i : Memᴰ x (c ∷ first.behind)).
        ⊎_elim
        (λ (q : x ≡ c). rw q l)
        (λ (j : Memᴰ x first.behind). omega (arith, first.no_greater x j))
        (Memᴰ.cases_cons i))
        (Memᴰ.append_cases first.ahead m)

pub parallel_takes : (hours : ℕ → ℕ) (f : Forest) → Taken hours (trees f) (forest_longest hours parallel f)
unfolding longest trees
parallel_takes hours (last t) = (
  t,
  record { ahead = []; behind = []; splits = refl; less = λ x m. absurd (Memᴰ.not-nil m); no_greater = λ x m. absurd (Memᴰ.not-nil m) },
  refl,
)
parallel_takes hours (more t f) = one_more hours t (trees f) (forest_longest hours parallel f) (parallel_takes hours f)
