-- Going down to a job that nothing of a set is before.
use Prim.Native.Nat.{ℕ, ◌<◌}
use mathlib.Core.Path.{◌≡◌, sym, ◌∙◌}
use mathlib.Core.List.{List}
use mathlib.Core.Bool.{true, false, ◌&&◌}
use lib.ListN.{length}
use Rattle.poset.specs.Lists.{exists, below}
use Rattle.poset.specs.Order.{Rel}
use Rattle.poset.proofs.Laws.{clash, false_unless, and_left, and_right, and_intro}
use Rattle.relation.specs.Table.{has, members, Greatest}
use Rattle.writer.specs.Parts.{Jobs, Partial, First}
use Rattle.writer.proofs.Counting.{set_falls}
use Rattle.writer.proofs.Searching.{empty}

-- x is a job of s, and ahead is what of s is before it
pub record Down (under : Rel) (s : List ℕ) (x : ℕ) (ahead : List ℕ) : Type 0 where
  pub small : x < 128
  pub member : has s x ≡ true
  pub before : (v : ℕ) → has ahead v ≡ (under x v && has s v)

module _ (under : Rel) (s : List ℕ) (x : ℕ) (ahead : List ℕ) (d : Down under s x ahead) where
  ahead_in : (v : ℕ) → has ahead v ≡ true → has s v ≡ true
  ahead_in v p = and_right (under x v) (has s v) (sym (d.before v) ∙ p)

  pub down_next : (y : ℕ) (fewer : List ℕ) → Greatest ahead y → ((v : ℕ) → has fewer v ≡ (under y v && has s v)) → Down under s y fewer
  down_next y fewer last f = record { small = last.small; member = ahead_in y last.member; before = f }

  pub down_falls : (y : ℕ) (fewer : List ℕ) → Partial under → Greatest ahead y → ((v : ℕ) → has fewer v ≡ (under y v && has s v))
      → length (members fewer) < length (members ahead)
  down_falls y fewer order last f = set_falls ahead fewer y last.small last.member gone within
    where
      xy : under x y ≡ true
      xy = and_left (under x y) (has s y) (sym (d.before y) ∙ last.member)

      gone : has fewer y ≡ false
      gone = false_unless (has fewer y) (λ p. clash (and_left (under y y) (has s y) (sym (f y) ∙ p)) (order.irreflexive y))

      within : (v : ℕ) → has fewer v ≡ true → has ahead v ≡ true
      within v p =
          let yv = and_left (under y v) (has s v) (sym (f v) ∙ p) in
          d.before v ∙ and_intro (under x v) (has s v) (order.transitive x y v xy yv) (and_right (under y v) (has s v) (sym (f v) ∙ p))

  pub down_end : Jobs s → exists (has ahead) (below 128) ≡ false → First under s x
  down_end jobs e =
      let none = empty ahead (λ v p. jobs v (ahead_in v p)) e in
      record {
        small = d.small;
        member = d.member;
        first = λ v p. false_unless (under x v) (λ q. clash (d.before v ∙ and_intro (under x v) (has s v) q p) (none v));
      }
