-- What a search from one job has reached, and that it is joined.
use Prim.Native.Nat.{ℕ}
use mathlib.Core.Path.{◌≡◌}
use mathlib.Core.Bool.{true}
use Rattle.poset.specs.Order.{Rel}
use Rattle.poset.proofs.Linked.{Shared, Linked}

-- whatever near jobs of C share, and x has, all of C have
abbrev pub Reached : Rel → ℕ → (ℕ → Type 0) → Type 1
Reached join x C = (L : ℕ → Type 0) → Shared join C L → L x → (u : ℕ) → C u → L u

-- where nearness goes both ways, what is reached is joined
pub reached_linked : (join : Rel) (x : ℕ) (C : ℕ → Type 0) → ((u v : ℕ) → join u v ≡ true → join v u ≡ true) → Reached join x C → Linked join C
reached_linked join x C turn reached L share u v p q h = (alike v q).0 ((alike u p).1 h)
  where
    alike : (w : ℕ) → C w → (L x → L w) × (L w → L x)
    alike =
        reached (λ w. (L x → L w) × (L w → L x))
        (λ a b pa pb e both. ((λ l. share a b pa pb e (both.0 l)), λ l. both.1 (share b a pb pa (turn a b e) l)))
        ((λ l. l), λ l. l)
