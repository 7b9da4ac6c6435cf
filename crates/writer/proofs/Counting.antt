-- How many jobs sets have.
use Prim.Native.Nat.{ℕ, ◌+◌, ◌≤◌, ◌<◌}
use mathlib.Core.Path.{◌≡◌, refl, sym, ap, ap₂, subst, ◌∙◌}
use mathlib.Core.List.{List}
use mathlib.Core.Bool.{Bool, true, false, ◌&&◌, ◌||◌, not}
use native.Mathlib.Decide.{dec_lt}
use native.Mathlib.Omega.{arith}
use lib.Dec.{eqb}
use lib.ListN.{length}
use Rattle.poset.specs.Lists.{exists, sum, below}
use Rattle.poset.proofs.Laws.{clash, eqb-true, eqb_same, any_hit, any_none, mem_below, below_mem}
use Rattle.poset.proofs.Sums.{length_keep, length_keep_le, length_below, bit, sum_gap, sum_zero, sum_agree, sum_add, sum_one}
use Rattle.relation.specs.Table.{has, members, Least}

pub few_members : (s : List ℕ) → length (members s) ≤ 128
unfolding members
few_members s = omega (arith, length_keep_le (has s) (below 128), length_below 128)

-- how many jobs two sets have together
count_two : (a b : List ℕ) → length (members a) + length (members b) ≡ sum (λ v. bit (has a v) + bit (has b v)) (below 128)
unfolding members
count_two a b =
    omega (arith, length_keep (has a) (below 128), length_keep (has b) (below 128), sum_add (λ v. bit (has a v)) (λ v. bit (has b v)) (below 128))

bit_le : (a b : Bool) → (a ≡ true → b ≡ true) → bit a ≤ bit b
bit_le true b h = omega (arith, ap bit (h refl))
bit_le false b h = omega arith

-- a set within another that lacks one of its jobs
pub set_falls : (a b : List ℕ) (y : ℕ) → y < 128 → has a y ≡ true → has b y ≡ false → ((v : ℕ) → has b v ≡ true → has a v ≡ true)
    → length (members b) < length (members a)
unfolding members
set_falls a b y small p q within =
    omega (
      arith,
      length_keep (has a) (below 128),
      length_keep (has b) (below 128),
      sum_gap (λ v. bit (has b v)) (λ v. bit (has a v)) 1 (λ v m. bit_le (has b v) (has a v) (within v)) (below_mem small) (omega (arith, ap bit p, ap bit q)),
    )

-- an empty set
pub none_jobs : (s : List ℕ) → ((v : ℕ) → has s v ≡ false) → length (members s) ≡ 0
unfolding members
none_jobs s none = length_keep (has s) (below 128) ∙ sum_zero (λ v. bit (has s v)) (below 128) (λ v m. ap bit (none v))

-- a set and what it is cut into
pub cut_size : (s part rest : List ℕ) → ((v : ℕ) → has rest v ≡ true → has s v ≡ true) → ((v : ℕ) → has part v ≡ (has s v && not (has rest v)))
    → length (members part) + length (members rest) ≡ length (members s)
unfolding members
cut_size s part rest within p =
    count_two part rest
    ∙ sum_agree (λ v. bit (has part v) + bit (has rest v)) (λ v. bit (has s v)) (below 128)
    (λ v m. ap (λ (b : Bool). bit b + bit (has rest v)) (p v) ∙ cut_bits (has s v) (has rest v) (within v))
    ∙ sym (length_keep (has s) (below 128))
  where
    cut_bits : (a b : Bool) → (b ≡ true → a ≡ true) → bit (a && not b) + bit b ≡ bit a
    cut_bits true true h = refl
    cut_bits true false h = refl
    cut_bits false true h = absurd (clash (h refl) refl)
    cut_bits false false h = refl

-- one step of a search, job by job: t to look at, r not found, n near, a with a smaller one to look at, e the one that is looked at
step_same : (t a n r e : Bool) → (t ≡ true → r ≡ false) → (e ≡ true → (t ≡ true) × (a ≡ false)) → (e ≡ false → t ≡ true → a ≡ true)
    → (bit ((t && a) || (n && r)) + bit (r && not (n && r))) + bit e ≡ bit t + bit r
step_same true a n true e h p q = absurd (clash refl (h refl))
step_same true true n false true h p q = absurd (clash refl (p refl).1)
step_same true false n false false h p q = absurd (clash (q refl refl) refl)
step_same true true true false false h p q = refl
step_same true true false false false h p q = refl
step_same true false true false true h p q = refl
step_same true false false false true h p q = refl
step_same false a n r true h p q = absurd (clash (p refl).0 refl)
step_same false a true true false h p q = refl
step_same false a true false false h p q = refl
step_same false a false true false h p q = refl
step_same false a false false false h p q = refl

-- a search has one job fewer before it after each step
pub search_counts : (near : ℕ → Bool) (todo rest found others more fewer : List ℕ) (y : ℕ) → Least todo y
    → ((v : ℕ) → has todo v ≡ true → has rest v ≡ false) → ((v : ℕ) → has found v ≡ (near v && has rest v))
    → ((v : ℕ) → has others v ≡ (has todo v && exists (has todo) (below v))) → ((v : ℕ) → has more v ≡ (has others v || has found v))
    → ((v : ℕ) → has fewer v ≡ (has rest v && not (has found v)))
    → (length (members more) + length (members fewer)) + 1 ≡ length (members todo) + length (members rest)
search_counts near todo rest found others more fewer y least apart f o m w =
    omega (
      arith,
      count_two more fewer,
      count_two todo rest,
      sum_one 1 y 128 least.small,
      sum_add (λ v. bit (has more v) + bit (has fewer v)) (λ v. bit (eqb y v)) (below 128),
      sum_agree (λ v. (bit (has more v) + bit (has fewer v)) + bit (eqb y v)) (λ v. bit (has todo v) + bit (has rest v)) (below 128) (λ v _. all v),
    )
  where
    is_more : (v : ℕ) → has more v ≡ ((has todo v && exists (has todo) (below v)) || (near v && has rest v))
    is_more v = m v ∙ ap₂ ◌||◌ (o v) (f v)

    is_fewer : (v : ℕ) → has fewer v ≡ (has rest v && not (near v && has rest v))
    is_fewer v = w v ∙ ap (λ b. has rest v && not b) (f v)

    this : (v : ℕ) → eqb y v ≡ true → (has todo v ≡ true) × (exists (has todo) (below v) ≡ false)
    this v e =
        subst (λ (u : ℕ). (has todo u ≡ true) × (exists (has todo) (below u) ≡ false)) (eqb-true y v e)
        (least.member, any_none (has todo) (below y) (λ u k. least.least u (mem_below y k)))

    another : (v : ℕ) → eqb y v ≡ false → has todo v ≡ true → exists (has todo) (below v) ≡ true
    another v e t =
        let differ : y ≡ v → ⊥ = λ q. clash (ap (eqb y) (sym q) ∙ eqb_same y) e in
        elim (dec_lt y v) [
          | yes l ↦ any_hit (has todo) (below_mem l) least.member
          | no l ↦ absurd (clash t (least.least v (omega arith)))
        ]

    all : (v : ℕ) → (bit (has more v) + bit (has fewer v)) + bit (eqb y v) ≡ bit (has todo v) + bit (has rest v)
    all v =
        rw (is_more v, is_fewer v)
        (step_same (has todo v) (exists (has todo) (below v)) (near v) (has rest v) (eqb y v) (apart v) (this v) (another v))
