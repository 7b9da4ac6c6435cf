-- A table filled row by row.
use Prim.Native.Nat.{ℕ, ◌+◌, ◌<◌}
use mathlib.Core.Path.{◌≡◌, ap, ◌∙◌}
use mathlib.Core.List.{List, []}
use native.Mathlib.Decide.{ℕ_discrete}
use native.Mathlib.Omega.{arith}
use lib.ListN.{length, get_or, set, length-set}
use lib.Seq.{get_or-set_same, get_or-set_other}
use Rattle.poset.specs.Order.{Rel}
use Rattle.relation.specs.Table.{has, holds}

pub record Filled (f : Rel) (t : List (List ℕ)) (u : ℕ) : Type 0 where
  pub size : length t ≡ 128
  pub rows : (x v : ℕ) → x < u → holds t x v ≡ f x v

pub filled_none : (f : Rel) (t : List (List ℕ)) → length t ≡ 128 → Filled f t 0
filled_none f t e = record { size = e; rows = λ x v l. absurd (omega arith) }

pub filled_next : (f : Rel) (t : List (List ℕ)) (u : ℕ) (row : List ℕ) → u < 128 → ((v : ℕ) → has row v ≡ f u v) → Filled f t u → Filled f (set t u row) (u + 1)
unfolding holds
filled_next f t u row l h x =
    record {
      size = length-set t u row ∙ x.size;
      rows = λ y v k. by y v k (ℕ_discrete y u);
    }
  where
    by : (y v : ℕ) → y < u + 1 → Dec (y ≡ u) → has (get_or (set t u row) y []) v ≡ f y v
    by y v k (yes e) = rw e (ap (λ s. has s v) (get_or-set_same t u row [] (omega (arith, x.size))) ∙ h v)
    by y v k (no d) = ap (λ s. has s v) (get_or-set_other t u y row [] d) ∙ x.rows y v (omega arith)
