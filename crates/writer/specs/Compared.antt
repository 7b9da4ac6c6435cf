-- What the writing of a tree reads of an order.
-- An inner contract: who reads the promise of write_record need not believe it, but specs/Written.antt alone.
use Rattle.std.specs.Prelude.{ℕ, ◌≤◌, ◌<◌, ◌≡◌}
use Rattle.poset.specs.Order.{Rel, Strict, comparable, incomparable}
use Rattle.writer.specs.Parts.{Partial}

abbrev pub transpose : Rel → Rel
transpose r u v = r v u

-- of an order of n jobs: what is before what, turned round, and which jobs are comparable and which are not
pub record Tables (n : ℕ) (under tied free : Rel) : Type 0 where
  pub some : 0 < n
  pub few : n ≤ 128
  pub strict : Strict n (transpose under)
  pub partial : Partial under
  pub tied_is : (u v : ℕ) → u < n → v < n → tied u v ≡ comparable (transpose under) u v
  pub free_is : (u v : ℕ) → u < n → v < n → free u v ≡ incomparable (transpose under) u v
