-- How two jobs stand to each other, and what that means for a group of either kind.
use Prim.Native.Nat.{ℕ}
use mathlib.Core.Path.{◌≡◌, refl, sym, ap, ap₂, ◌∙◌}
use mathlib.Core.Bool.{Bool, true, false, ◌&&◌, not}
use mathlib.Core.Logic.{◌⊎◌, inl, inr, ⊎_elim}
use lib.Dec.{eqb}
use Rattle.poset.specs.Order.{Rel, comparable, incomparable}
use Rattle.poset.specs.Tree.{Kind, series, parallel}
pub use Rattle.poset.specs.Decompose.{near}
use Rattle.poset.proofs.Laws.{decided, clash, false_unless, and_left, and_right, and_intro, or_cases, or_left, or_right, not-true, not-false}
use Rattle.poset.proofs.Laws.{eqb_same, eqb_differ}

pub record Free (r : Rel) (u v : ℕ) : Type 0 where
  pub differ : u ≡ v → ⊥
  pub forth : r u v ≡ false
  pub back : r v u ≡ false

pub free : (r : Rel) (u v : ℕ) → incomparable r u v ≡ true → Free r u v
unfolding incomparable
free r u v h =
    let neither = and_right (not (eqb u v)) (not (r u v) && not (r v u)) h in
    record {
      differ = λ e. clash (ap (eqb u) (sym e) ∙ eqb_same u) (not-true (eqb u v) (and_left (not (eqb u v)) (not (r u v) && not (r v u)) h));
      forth = not-true (r u v) (and_left (not (r u v)) (not (r v u)) neither);
      back = not-true (r v u) (and_right (not (r u v)) (not (r v u)) neither);
    }

pub is_free : (r : Rel) (u v : ℕ) → Free r u v → incomparable r u v ≡ true
unfolding incomparable
is_free r u v f =
    and_intro
    (not (eqb u v))
    (not (r u v) && not (r v u))
    (not-false (eqb u v) (eqb_differ u v f.differ))
    (and_intro (not (r u v)) (not (r v u)) (not-false (r u v) f.forth) (not-false (r v u) f.back))

pub tied : (r : Rel) (u v : ℕ) → comparable r u v ≡ true → (r u v ≡ true) ⊎ (r v u ≡ true)
unfolding comparable
tied r u v h = or_cases (r u v) (r v u) h

pub is_tied : (r : Rel) (u v : ℕ) → (r u v ≡ true) ⊎ (r v u ≡ true) → comparable r u v ≡ true
unfolding comparable
is_tied r u v (inl h) = or_left (r u v) (r v u) h
is_tied r u v (inr h) = or_right (r u v) (r v u) h

-- of two comparable jobs that are not one way round, the other way round holds
pub forced : (r : Rel) (u v : ℕ) → comparable r u v ≡ true → (r u v ≡ true → ⊥) → r v u ≡ true
forced r u v c h = ⊎_elim (λ p. absurd (h p)) (λ p. p) (tied r u v c)

pub free_sym : (r : Rel) (u v : ℕ) → Free r u v → Free r v u
free_sym r u v f = record { differ = λ e. f.differ (sym e); forth = f.back; back = f.forth }

abbrev pub other : Kind → Kind
other series = parallel
other parallel = series

-- how a job of an earlier child of a group stands to one of a later child
abbrev pub Stands : Kind → Rel → ℕ → ℕ → Type 0
Stands series r u v = (r u v ≡ true) × (r v u ≡ false)
Stands parallel r u v = Free r u v

pub near_sym : (k : Kind) (r : Rel) (u v : ℕ) → near k r u v ≡ true → near k r v u ≡ true
near_sym series r u v h = is_free r v u (free_sym r u v (free r u v h))
near_sym parallel r u v h = is_tied r v u (⊎_elim (λ p. inr p) (λ p. inl p) (tied r u v h))

-- near under both kinds at once is impossible
pub near_once : (r : Rel) (u v : ℕ) → comparable r u v ≡ true → incomparable r u v ≡ true → ⊥
near_once r u v p q = let f = free r u v q in ⊎_elim (λ h. clash h f.forth) (λ h. clash h f.back) (tied r u v p)

pub near_other : (k : Kind) (r : Rel) (u v : ℕ) → near k r u v ≡ true → near (other k) r u v ≡ true → ⊥
near_other series r u v p q = near_once r u v q p
near_other parallel r u v p q = near_once r u v p q

-- two different jobs are near under one of the kinds
pub near_either : (k : Kind) (r : Rel) (u v : ℕ) → (u ≡ v → ⊥) → near k r u v ≡ false → near (other k) r u v ≡ true
near_either series r u v d h =
    ⊎_elim
    (λ p. is_tied r u v (inl p))
    (λ p. ⊎_elim (λ q. is_tied r u v (inr q)) (λ q. absurd (clash (is_free r u v (record { differ = d; forth = p; back = q })) h)) (decided (r v u)))
    (decided (r u v))
near_either parallel r u v d h =
    is_free r u v
    (record {
      differ = d;
      forth = false_unless (r u v) (λ p. clash (is_tied r u v (inl p)) h);
      back = false_unless (r v u) (λ p. clash (is_tied r u v (inr p)) h);
    })

-- no job is near itself
pub near_irreflexive : (k : Kind) (r : Rel) (u : ℕ) → r u u ≡ false → near k r u u ≡ true → ⊥
near_irreflexive series r u e h = (free r u u h).differ refl
near_irreflexive parallel r u e h = ⊎_elim (λ p. clash p e) (λ p. clash p e) (tied r u u h)

pub stands_near : (k : Kind) (r : Rel) (u v : ℕ) → Stands k r u v → near (other k) r u v ≡ true
stands_near series r u v s = is_tied r u v (inl s.0)
stands_near parallel r u v s = is_free r u v s

pub stands_apart : (k : Kind) (r : Rel) (u v : ℕ) → Stands k r u v → near k r u v ≡ true → ⊥
stands_apart k r u v s h = near_other k r u v h (stands_near k r u v s)

pub stands_differ : (k : Kind) (r : Rel) (u v : ℕ) → Stands k r u v → u ≡ v → ⊥
stands_differ series r u v s e = clash s.0 (ap₂ r e (sym e) ∙ s.1)
stands_differ parallel r u v s e = s.differ e

-- of a job in an earlier child and one in a later, only the first can be before the other, and in a series group it is

abbrev pub is_series : Kind → Bool
is_series series = true
is_series parallel = false

pub stands_forth : (k : Kind) (r : Rel) (u v : ℕ) → Stands k r u v → r u v ≡ is_series k
stands_forth series r u v s = s.0
stands_forth parallel r u v s = s.forth

pub stands_back : (k : Kind) (r : Rel) (u v : ℕ) → Stands k r u v → r v u ≡ false
stands_back series r u v s = s.1
stands_back parallel r u v s = s.back
