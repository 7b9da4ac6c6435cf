-- The closure: a job is before another where a run leads to it, and this is an order where no job is on a cycle.
use Prim.Native.Nat.{ℕ, zero, suc, ◌<◌}
use native.Mathlib.Nat.{eq-or-lt_of_le, le_of_suc-le-suc}
use mathlib.Core.Path.{◌≡◌, refl, sym, ap, Σ_path, ◌∙◌}
use mathlib.Core.List.Memᴰ
use mathlib.Core.List.{List, Memᴰ}
use mathlib.Core.Bool.{Bool, true, false, ◌&&◌, ◌||◌}
use Rattle.std.specs.Prelude.{None}
use mathlib.Core.Logic.{◌⊎◌, inl, inr, ⊎_elim, ◌↔◌}
use native.Mathlib.Omega.{arith}
use lib.Dec.{eqb}
use Rattle.poset.specs.Lists.{exists}
use Rattle.poset.specs.Order.{Rel, Arc, Run, one, then, Within, Strict, arc, via, before, first_on_cycle_of}
use Rattle.poset.proofs.Laws.{and_left, and_right, and_intro, or_cases, or_left, or_right, eqb-true, eqb_same, any_hit, any_found}
use Rattle.poset.proofs.Searches.{first_on_cycle_none}

-- one job more to run through

module _ (r : Rel) (k u v : ℕ) where
  pub via_step : via r (suc k) u v ≡ (via r k u v || (via r k u k && via r k k v))
  unfolding via
  via_step = as_tests (via r k u v) (via r k u k) (via r k k v)
    where
      as_tests : (a b c : Bool) → ◌≡◌ {A = Bool} (elim a [ true ↦ true | false ↦ elim b [ true ↦ c | false ↦ false ] ]) (a || (b && c))
      as_tests true b c = refl
      as_tests false true c = refl
      as_tests false false c = refl

  via_more : via r k u v ≡ true → via r (suc k) u v ≡ true
  via_more p = via_step ∙ or_left _ _ p

  via_through : via r k u k ≡ true → via r k k v ≡ true → via r (suc k) u v ≡ true
  via_through p q = via_step ∙ or_right (via r k u v) _ (and_intro _ _ p q)

  via_cases : via r (suc k) u v ≡ true → (via r k u v ≡ true) ⊎ ((via r k u k ≡ true) × (via r k k v ≡ true))
  via_cases h = ⊎_elim inl (λ e. inr (and_left (via r k u k) _ e, and_right (via r k u k) _ e)) (or_cases (via r k u v) _ (sym via_step ∙ h))

pub via_base : (r : Rel) (k u v : ℕ) → r u v ≡ true → via r k u v ≡ true
unfolding via
via_base r zero u v h = h
via_base r (suc k) u v h = via_more r k u v (via_base r k u v h)

pub via_trans : (r : Rel) (k u w v : ℕ) → w < k → via r k u w ≡ true → via r k w v ≡ true → via r k u v ≡ true
via_trans r zero u w v l p q = absurd (omega arith)
via_trans r (suc k) u w v l p q =
    ⊎_elim
    (λ d.
    via_through r k u v
    (⊎_elim (λ a. ap (via r k u) (sym d) ∙ a) (λ a. a.0) (via_cases r k u w p))
    (⊎_elim (λ b. ap (λ x. via r k x v) (sym d) ∙ b) (λ b. b.1) (via_cases r k w v q)))
    (λ d.
    ⊎_elim
    (λ a.
    ⊎_elim
    (λ b. via_more r k u v (via_trans r k u w v d a b))
    (λ b. via_through r k u v (via_trans r k u w k d a b.0) b.1)
    (via_cases r k w v q))
    (λ a. via_through r k u v a.0 (⊎_elim (λ b. via_trans r k k w v d a.1 b) (λ b. b.1) (via_cases r k w v q)))
    (via_cases r k u w p))
    (eq-or-lt_of_le (le_of_suc-le-suc l))

-- what holds of each step, and of two runs joined where it holds of both, holds of each run
pub via_ind
    : (r : Rel) (P : ℕ → ℕ → Type 0)
    → ((u v : ℕ) → r u v ≡ true → P u v)
    → ((u w v : ℕ) → P u w → P w v → P u v)
    → (k u v : ℕ) → via r k u v ≡ true → P u v
unfolding via
via_ind r P base join zero u v h = base u v h
via_ind r P base join (suc k) u v h =
    ⊎_elim
    (λ e. via_ind r P base join k u v e)
    (λ e. join u k v (via_ind r P base join k u k e.0) (via_ind r P base join k k v e.1))
    (via_cases r k u v h)

-- a run is one step, or is joined of two
pub via_split
    : (r : Rel) (k u v : ℕ) → via r k u v ≡ true
    → (r u v ≡ true) ⊎ ((w : ℕ) × (w < k) × (via r k u w ≡ true) × (via r k w v ≡ true))
unfolding via
via_split r zero u v h = inl h
via_split r (suc k) u v h =
    ⊎_elim
    (λ e. ⊎_elim inl (λ s. inr (s.0, omega arith, via_more r k u s.0 s.2, via_more r k s.0 v s.3)) (via_split r k u v e))
    (λ e. inr (k, omega arith, via_more r k u k e.0, via_more r k k v e.1))
    (via_cases r k u v h)

-- arcs

pub arc_mem : (arcs : List Arc) (u v : ℕ) → (arc arcs u v ≡ true) ↔ Memᴰ (u, v) arcs
unfolding arc
arc_mem arcs u v = (found, λ m. any_hit p m (and_intro _ _ (eqb_same u) (eqb_same v)))
  where
    p : Arc → Bool
    p a = eqb a.0 u && eqb a.1 v

    found : exists p arcs ≡ true → Memᴰ (u, v) arcs
    found h =
        let f = any_found p arcs h in
        let e = eqb f.0.0 u in
        Memᴰ.cast (sym (Σ_path (eqb-true _ _ (and_left e _ f.2)) (eqb-true f.0.1 v (and_right e _ f.2)))) f.1

pub run_append : {arcs : List Arc} {u w v : ℕ} → Run arcs u w → Run arcs w v → Run arcs u v
run_append (one m) s = then m s
run_append (then m t) s = then m (run_append t s)

pub before_is_run : (n : ℕ) (arcs : List Arc) → Within n arcs → (u v : ℕ) → (before n arcs u v ≡ true) ↔ Run arcs u v
unfolding before
before_is_run n arcs within u v =
    (via_ind (arc arcs) (Run arcs) (λ x y h. one ((arc_mem arcs x y).0 h)) (λ x w y s t. run_append s t) n u v, back)
  where
    back : {x y : ℕ} → Run arcs x y → via (arc arcs) n x y ≡ true
    back (one {u = x} {v = y} m) = via_base _ n x y ((arc_mem arcs x y).1 m)
    back (then {u = x} {w = w} {v = y} m t) =
        via_trans (arc arcs) n x w y (within (x, w) m).1 (via_base _ n x w ((arc_mem arcs x w).1 m)) (back t)

pub before_is_strict : (n : ℕ) (arcs : List Arc) → first_on_cycle_of n (before n arcs) ≡ None → Strict n (before n arcs)
unfolding before
before_is_strict n arcs h =
    record {
      irreflexive = (first_on_cycle_none n (before n arcs)).0 h;
      transitive = λ u v w _ lv _ p q. via_trans (arc arcs) n u v w lv p q;
    }
