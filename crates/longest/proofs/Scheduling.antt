-- The earliest starts of a tree's jobs: a schedule with the longest run's total, and none has less or starts a job earlier.
use Prim.Native.Nat.{ℕ, ◌+◌, ◌≤◌, ◌<◌, max}
use mathlib.Core.Path.{◌≡◌, refl, sym, ap, ap₂, ◌∙◌}
use mathlib.Core.List.{List, [], ◌∷◌, Memᴰ}
use mathlib.Core.Bool.{true, false, cond}
use mathlib.Core.Logic.{inl, inr, ⊎_elim}
use native.Mathlib.Omega.{arith}
use lib.Dec.{ltb}
use Rattle.poset.specs.Lists.{member, sum}
use Rattle.poset.specs.Order.{Rel}
use Rattle.poset.specs.Tree.{Kind, series, parallel, Tree, leaf, node, Forest, last, more, leaves, Means}
use Rattle.poset.specs.Inner.{In, InForest}
use Rattle.poset.proofs.Laws.{decided, clash, false_unless, ltb-true, member_mem, mem_member}
use Rattle.poset.proofs.Standing.{stands_back, stands_differ}
use Rattle.poset.proofs.Shape.{InGroup, in_leaves, leaves_in, Across, Good, GoodForest}
use Rattle.poset.proofs.Heaviest.{Laid, not_less}
use Rattle.poset.proofs.Meaning.{means_fits}
use Rattle.longest.specs.Longest.{WorkRun, joined_runs, longest, forest_longest}
use Rattle.longest.specs.Schedules.{Schedule, IsFewest, waits, earliest_start, forest_start}
use Rattle.longest.proofs.Longest.{run_attained}

-- a side group's total is the greatest of its children's
pub parallel_total : (a b : WorkRun) → (joined_runs parallel a b).0 ≡ max a.0 b.0
unfolding joined_runs
parallel_total a b =
    ⊎_elim
    (λ (e : ltb a.0 b.0 ≡ true). rw e (omega (arith, ltb-true a.0 b.0 e)))
    (λ (e : ltb a.0 b.0 ≡ false). rw e (omega (arith, not_less a.0 b.0 e)))
    (decided (ltb a.0 b.0))

-- a group's total is not less than its first child's, nor than that of the others and what they wait

joined_first : (k : Kind) (a b : WorkRun) → a.0 ≤ (joined_runs k a b).0
unfolding joined_runs
joined_first series a b = omega arith
joined_first parallel a b = omega (arith, parallel_total a b)

joined_others : (k : Kind) (a b : WorkRun) → waits k a.0 + b.0 ≤ (joined_runs k a b).0
unfolding joined_runs waits
joined_others series a b = omega arith
joined_others parallel a b = omega (arith, parallel_total a b)

-- the start of a job of a group, by where it is; the same of a forest of two or more
abbrev pub group_start : (ℕ → ℕ) → Kind → Tree → Forest → ℕ → ℕ
group_start hours k t f u = cond (member u (leaves t)) (earliest_start hours t u) (waits k (longest hours t).0 + forest_start hours k f u)

module _ (r : Rel) (hours : ℕ → ℕ) where
  module _ (k : Kind) (t : Tree) (f : Forest) (across : Across r k t f) (u : ℕ) where
    start_first : In t u → group_start hours k t f u ≡ earliest_start hours t u
    start_first i = rw (mem_member (in_leaves t i))

    start_others : InForest f u → group_start hours k t f u ≡ waits k (longest hours t).0 + forest_start hours k f u
    start_others i =
        rw (false_unless (member u (leaves t)) (λ h.
        stands_differ k r u u (across u u (leaves_in t (member_mem u (leaves t) h)) i) refl))

  -- each job ends by the longest run's total

  abbrev InTime : (ℕ → Type 0) → (ℕ → ℕ) → ℕ → Type 0
  InTime S start total = (u : ℕ) → S u → start u + hours u ≤ total

  group_in_time : (k : Kind) (t : Tree) (f : Forest) → Across r k t f
      → InTime (In t) (earliest_start hours t) (longest hours t).0 → InTime (InForest f) (forest_start hours k f) (forest_longest hours k f).0
      → InTime (InGroup t f) (group_start hours k t f) (joined_runs k (longest hours t) (forest_longest hours k f)).0
  group_in_time k t f across x y u (inl i) =
      omega (arith, start_first k t f across u i, x u i, joined_first k (longest hours t) (forest_longest hours k f))
  group_in_time k t f across x y u (inr i) =
      omega (arith, start_others k t f across u i, y u i, joined_others k (longest hours t) (forest_longest hours k f))

  mutual
    unfolding longest earliest_start

    tree_in_time : (t : Tree) → Good r t → InTime (In t) (earliest_start hours t) (longest hours t).0
    tree_in_time (leaf j) g u i = omega (arith, ap hours i)
    tree_in_time (node k t f) g u i =
        group_in_time k t f g.2 (λ v j. tree_in_time t g.0 v j) (λ v j. forest_in_time k f g.1 v j) u i

    forest_in_time : (k : Kind) (f : Forest) → GoodForest r k f → InTime (InForest f) (forest_start hours k f) (forest_longest hours k f).0
    forest_in_time k (last t) g u i = tree_in_time t g u i
    forest_in_time k (more t f) g u i =
        group_in_time k t f g.2 (λ v j. tree_in_time t g.0 v j) (λ v j. forest_in_time k f g.1 v j) u i

  -- a job that is before another ends by its start

  abbrev InTurn : (ℕ → Type 0) → (ℕ → ℕ) → Type 0
  InTurn S start = (u v : ℕ) → S u → S v → r u v ≡ true → start u + hours u ≤ start v

  -- of two children only those of a series have such jobs, and there the later one waits
  waited : (k : Kind) (t : Tree) (f : Forest) → Across r k t f → (u v : ℕ) → In t u → InForest f v → r u v ≡ true
      → (longest hours t).0 ≤ waits k (longest hours t).0
  unfolding waits
  waited series t f across u v i j h = omega arith
  waited parallel t f across u v i j h = absurd (clash h (across u v i j).forth)

  group_in_turn : (k : Kind) (t : Tree) (f : Forest) → Across r k t f → InTime (In t) (earliest_start hours t) (longest hours t).0
      → InTurn (In t) (earliest_start hours t) → InTurn (InForest f) (forest_start hours k f) → InTurn (InGroup t f) (group_start hours k t f)
  group_in_turn k t f across ends x y u v (inl i) (inl j) h =
      omega (arith, start_first k t f across u i, start_first k t f across v j, x u v i j h)
  group_in_turn k t f across ends x y u v (inl i) (inr j) h =
      omega (arith, start_first k t f across u i, start_others k t f across v j, ends u i, waited k t f across u v i j h)
  group_in_turn k t f across ends x y u v (inr i) (inl j) h = absurd (clash h (stands_back k r v u (across v u j i)))
  group_in_turn k t f across ends x y u v (inr i) (inr j) h =
      omega (arith, start_others k t f across u i, start_others k t f across v j, y u v i j h)

  mutual
    unfolding earliest_start

    tree_in_turn : (t : Tree) → Good r t → InTurn (In t) (earliest_start hours t)
    tree_in_turn (leaf j) g u v p q h = absurd (clash (sym (ap₂ r p q) ∙ h) g)
    tree_in_turn (node k t f) g u v p q h =
        group_in_turn k t f g.2 (tree_in_time t g.0) (λ a b i j e. tree_in_turn t g.0 a b i j e)
        (λ a b i j e. forest_in_turn k f g.1 a b i j e) u v p q h

    forest_in_turn : (k : Kind) (f : Forest) → GoodForest r k f → InTurn (InForest f) (forest_start hours k f)
    forest_in_turn k (last t) g u v p q h = tree_in_turn t g u v p q h
    forest_in_turn k (more t f) g u v p q h =
        group_in_turn k t f g.2 (tree_in_time t g.0) (λ a b i j e. tree_in_turn t g.0 a b i j e)
        (λ a b i j e. forest_in_turn k f g.1 a b i j e) u v p q h

  -- in a schedule, jobs one after the other that start at `from` or later take their hours until the last of them ends

  module _ (n : ℕ) (start : ℕ → ℕ) (end : ℕ) (s : Schedule n r hours start end) where
    one_after_other : (jobs : List ℕ) → Laid series r jobs → ((u : ℕ) → Memᴰ u jobs → u < n)
        → (from until : ℕ) → from ≤ until → ((u : ℕ) → Memᴰ u jobs → from ≤ start u)
        → ((u : ℕ) → Memᴰ u jobs → start u + hours u ≤ until) → from + sum hours jobs ≤ until
    one_after_other [] laid inside from until l begin ends = omega arith
    one_after_other (x ∷ xs) laid inside from until l begin ends =
        omega (
          arith,
          begin x (Memᴰ.head refl),
          one_after_other xs laid.1 (λ u m. inside u (Memᴰ.tail m)) (start x + hours x) until (ends x (Memᴰ.head refl))
              (λ u m. s.in_turn x u (inside x (Memᴰ.head refl)) (inside u (Memᴰ.tail m)) (laid.0 u m).0)
              (λ u m. ends u (Memᴰ.tail m)),
        )

    -- a tree's longest run, where its jobs start at `from` or later
    run_takes : (t : Tree) → Good r t → ((u : ℕ) → In t u → u < n) → (from until : ℕ) → from ≤ until
        → ((u : ℕ) → In t u → from ≤ start u) → ((u : ℕ) → In t u → start u + hours u ≤ until) → from + (longest hours t).0 ≤ until
    run_takes t good inside from until l begin ends =
        let run = run_attained r hours t good in
        omega (
          arith,
          run.total,
          one_after_other (longest hours t).1 run.laid (λ u m. inside u (run.inside u m)) from until l
              (λ u m. begin u (run.inside u m)) (λ u m. ends u (run.inside u m)),
        )

    -- no job starts earlier

    abbrev Later : (ℕ → Type 0) → (ℕ → ℕ) → Type 0
    Later S early = ((u : ℕ) → S u → u < n) → (from : ℕ) → ((u : ℕ) → S u → from ≤ start u) → (u : ℕ) → S u → from + early u ≤ start u

    others_wait : (k : Kind) (t : Tree) (f : Forest) → Good r t → Across r k t f → ((u : ℕ) → InGroup t f u → u < n)
        → (from : ℕ) → ((u : ℕ) → InGroup t f u → from ≤ start u) → (v : ℕ) → InForest f v → from + waits k (longest hours t).0 ≤ start v
    unfolding waits
    others_wait series t f good across inside from begin v j =
        run_takes t good (λ u i. inside u (inl i)) from (start v) (begin v (inr j)) (λ u i. begin u (inl i))
        (λ u i. s.in_turn u v (inside u (inl i)) (inside v (inr j)) (across u v i j).0)
    others_wait parallel t f good across inside from begin v j = omega (arith, begin v (inr j))

    group_later : (k : Kind) (t : Tree) (f : Forest) → Good r t → Across r k t f
        → Later (In t) (earliest_start hours t) → Later (InForest f) (forest_start hours k f) → Later (InGroup t f) (group_start hours k t f)
    group_later k t f good across x y inside from begin u (inl i) =
        omega (arith, start_first k t f across u i, x (λ v j. inside v (inl j)) from (λ v j. begin v (inl j)) u i)
    group_later k t f good across x y inside from begin u (inr i) =
        omega (
          arith,
          start_others k t f across u i,
          y (λ v j. inside v (inr j)) (from + waits k (longest hours t).0) (others_wait k t f good across inside from begin) u i,
        )

    mutual
      unfolding earliest_start

      tree_later : (t : Tree) → Good r t → Later (In t) (earliest_start hours t)
      tree_later (leaf j) g inside from begin u i = omega (arith, begin u i)
      tree_later (node k t f) g inside from begin u i =
          group_later k t f g.0 g.2 (λ within at later v j. tree_later t g.0 within at later v j)
          (λ within at later v j. forest_later k f g.1 within at later v j) inside from begin u i

      forest_later : (k : Kind) (f : Forest) → GoodForest r k f → Later (InForest f) (forest_start hours k f)
      forest_later k (last t) g inside from begin u i = tree_later t g inside from begin u i
      forest_later k (more t f) g inside from begin u i =
          group_later k t f g.0 g.2 (λ within at later v j. tree_later t g.0 within at later v j)
          (λ within at later v j. forest_later k f g.1 within at later v j) inside from begin u i

pub tree_fewest
    : (n : ℕ) (r : Rel) (t : Tree) → Means n t r → (hours : ℕ → ℕ) → IsFewest n r hours (earliest_start hours t) (longest hours t).0
tree_fewest n r t means hours =
    let fits = means_fits n r t means in
    let inside = fits.holds.inside in
    let outside = fits.holds.outside in
    record {
      schedule =
          record {
            in_turn = λ u v l k. tree_in_turn r hours t fits.good u v (outside u l) (outside v k);
            in_time = λ u l. tree_in_time r hours t fits.good u (outside u l);
          };
      least = λ other end s.
          omega (
            arith,
            run_takes r hours n other end s t fits.good inside 0 end (omega arith) (λ u i. omega arith) (λ u i. s.in_time u (inside u i)),
          );
      earliest = λ other end s u l.
          omega (arith, tree_later r hours n other end s t fits.good inside 0 (λ v i. omega arith) u (outside u l));
    }
