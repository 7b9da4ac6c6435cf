-- Rows joined to a row, one after the other, and how many.
use Prim.Native.Nat.{ℕ, ◌+◌}
use native.Mathlib.Decide.{ℕ_discrete}
use native.Mathlib.Omega.{arith}
use mathlib.Core.Path.{◌≡◌, refl, sym, ap, ◌∙◌}
use mathlib.Core.List.{List, Memᴰ}
use mathlib.Core.Bool.{Bool, true, false, ◌&&◌, ◌||◌, not}
use mathlib.Core.Logic.{⊎_elim}
use borrow.Author.Tests.{ne_eqb}
use lib.Dec.{ltb}
use lib.ListN.{length}
use Rattle.poset.specs.Lists.{exists, below}
use Rattle.poset.proofs.Laws.{decided, and_left, and_right, and_intro, or_cases, or_left, or_right, not-false, same_test}
use Rattle.poset.proofs.Laws.{any_hit, any_found, any_none, any_miss, below_mem}
use Rattle.relation.specs.Table.{has, holds, members, Least}
use Rattle.relation.proofs.Lists.{or-false}
use Rattle.relation.proofs.Sets.{without_least, Members-step, members_end}

module _ (t : List (List ℕ)) where
  -- v is in the row of some job of a set
  abbrev pub through : List ℕ → ℕ → Bool
  through jobs v = exists (λ w. has jobs w && holds t w v) (below 128)

  through_by : (jobs : List ℕ) (v w : ℕ) → Memᴰ w (below 128) → has jobs w ≡ true → holds t w v ≡ true → through jobs v ≡ true
  through_by jobs v w m h e = any_hit (λ x. has jobs x && holds t x v) m (and_intro _ _ h e)

  through_of
      : (jobs : List ℕ) (v : ℕ) → through jobs v ≡ true → (w : ℕ) × Memᴰ w (below 128) × (has jobs w ≡ true) × (holds t w v ≡ true)
  through_of jobs v h =
      let f = any_found (λ x. has jobs x && holds t x v) (below 128) h in
      (f.0, f.1, and_left (has jobs f.0) _ f.2, and_right (has jobs f.0) _ f.2)

  -- the rows of all jobs but the rest have joined
  pub record Joined (row jobs : List ℕ) (joins₀ : ℕ) (made rest : List ℕ) (joins : ℕ) : Type 0 where
    pub reached : (v : ℕ) → (has made v || through rest v) ≡ (has row v || through jobs v)
    pub counted : joins + length (members rest) ≡ joins₀ + length (members jobs)

  pub joined_none : (row jobs : List ℕ) (joins : ℕ) → Joined row jobs joins row jobs joins
  joined_none row jobs joins = record { reached = λ v. refl; counted = refl }

  module _ (row jobs : List ℕ) (joins₀ : ℕ) (made rest : List ℕ) (joins : ℕ) (p : Joined row jobs joins₀ made rest joins) where
    pub joined_next
        : (w : ℕ) → Least rest w → (more others : List ℕ) → ((v : ℕ) → has more v ≡ (has made v || holds t w v))
        → ((v : ℕ) → has others v ≡ (has rest v && exists (has rest) (below v)))
        → (joins' : ℕ) → joins' ≡ joins + 1 → Joined row jobs joins₀ more others joins'
    joined_next w least more others joint without joins' one =
        record {
          reached = λ v. same_test _ _ (back v) (on v) ∙ p.reached v;
          counted = omega (arith, one, p.counted, ap length (Members-step rest others w least without));
        }
      where
        back : (v : ℕ) → (has more v || through others v) ≡ true → (has made v || through rest v) ≡ true
        back v h =
            ⊎_elim
            (λ e.
            ⊎_elim
            (λ d. or_left _ _ d)
            (λ d. or_right (has made v) _ (through_by rest v w (below_mem least.small) least.member d))
            (or_cases (has made v) _ (sym (joint v) ∙ e)))
            (λ e.
            let f = through_of others v e in
            or_right (has made v) _ (through_by rest v f.0 f.1 (and_left _ _ (sym (without f.0) ∙ f.2)) f.3))
            (or_cases (has more v) _ h)

        still : (x : ℕ) → has rest x ≡ true → (x ≡ w → ⊥) → has others x ≡ true
        still x e d = without_least rest others w least without x ∙ and_intro _ _ e (not-false _ (ne_eqb x w d))

        on : (v : ℕ) → (has made v || through rest v) ≡ true → (has more v || through others v) ≡ true
        on v h =
            ⊎_elim
            (λ e. or_left _ _ (joint v ∙ or_left _ _ e))
            (λ e.
            let f = through_of rest v e in
            elim (ℕ_discrete f.0 w) [
              | yes d ↦ or_left _ _ (joint v ∙ or_right (has made v) _ (ap (λ x. holds t x v) (sym d) ∙ f.3))
              | no d ↦ or_right (has more v) _
                  (through_by others v f.0 f.1 (still f.0 f.2 d) f.3)
            ])
            (or_cases (has made v) _ h)

    pub joined_end
        : exists (has rest) (below 128) ≡ false
        → ((v : ℕ) → has made v ≡ (has row v || through jobs v)) × (joins ≡ joins₀ + length (members jobs))
    joined_end none = (
      λ v. sym (ap (λ (b : Bool). has made v || b) (nothing v) ∙ or-false (has made v)) ∙ p.reached v,
      omega (arith, p.counted, ap length (members_end rest none)),
    )
      where
        nothing : (v : ℕ) → through rest v ≡ false
        nothing v =
            any_none (λ w. has rest w && holds t w v) (below 128)
            (λ w m. ap (λ (b : Bool). b && holds t w v) (any_miss (has rest) (below 128) none m))

-- first the rows of the jobs below 64, then those of the others
module _ (row low : List ℕ) (first : (v : ℕ) → has low v ≡ (has row v && ltb v 64))
    (high : List ℕ) (second : (v : ℕ) → has high v ≡ (has row v && not (ltb v 64)))
  where
    pub halves_join
        : (t : List (List ℕ)) (made all : List ℕ)
        → ((v : ℕ) → has made v ≡ (has row v || through t low v)) → ((v : ℕ) → has all v ≡ (has made v || through t high v))
        → (v : ℕ) → has all v ≡ (has row v || through t row v)
    halves_join t made all h k v = k v ∙ same_test _ _ back on
      where
        part : (half : List ℕ) (test : ℕ → Bool) → ((w : ℕ) → has half w ≡ (has row w && test w)) → through t half v ≡ true → through t row v ≡ true
        part half test cut e =
            let f = through_of t half v e in
            through_by t row v f.0 f.1 (and_left (has row f.0) (test f.0) (sym (cut f.0) ∙ f.2)) f.3

        back : (has made v || through t high v) ≡ true → (has row v || through t row v) ≡ true
        back e =
            ⊎_elim
            (λ d.
            ⊎_elim
            (λ c. or_left _ _ c)
            (λ c. or_right (has row v) _ (part low (λ w. ltb w 64) first c))
            (or_cases (has row v) _ (sym (h v) ∙ d)))
            (λ d. or_right (has row v) _ (part high (λ w. not (ltb w 64)) second d))
            (or_cases (has made v) _ e)

        on : (has row v || through t row v) ≡ true → (has made v || through t high v) ≡ true
        on e =
            ⊎_elim
            (λ d. or_left _ _ (h v ∙ or_left _ _ d))
            (λ d.
            let f = through_of t row v d in
            ⊎_elim
            (λ c.
            or_left _ _ (h v ∙ or_right (has row v) _ (through_by t low v f.0 f.1 (first f.0 ∙ and_intro _ _ f.2 c) f.3)))
            (λ c. or_right (has made v) _ (through_by t high v f.0 f.1 (second f.0 ∙ and_intro _ _ f.2 (not-false _ c)) f.3))
            (decided (ltb f.0 64)))
            (or_cases (has row v) _ e)
