-- The smallest job of a set.
use Prim.Native.Nat.{ℕ, ◌<◌}
use mathlib.Core.Path.{◌≡◌, refl, sym, ap, subst, ◌∙◌}
use mathlib.Core.List.{List, [], ◌∷◌, Memᴰ}
use mathlib.Core.Bool.{true}
use mathlib.Core.Logic.{⊎_elim}
use native.Mathlib.Omega.{arith}
use lib.ListN.{length, get_or}
use Rattle.poset.specs.Lists.{exists, below}
use Rattle.poset.proofs.Laws.{decided, clash, any_miss}
use Rattle.poset.proofs.Components.{Of, Sorted}
use Rattle.relation.specs.Table.{has, members, Least}
use Rattle.relation.proofs.Lists.{keep_none}
use Rattle.writer.specs.Parts.{lead}
use Rattle.writer.proofs.Groups.{members_sorted, of_members, members_of}

pub some_any : (s : List ℕ) → 0 < length (members s) → exists (has s) (below 128) ≡ true
unfolding members
some_any s some =
    ⊎_elim (λ h. h)
    (λ h. absurd (omega (arith, ap length (keep_none (has s) (below 128) (λ v m. any_miss (has s) (below 128) h m)))))
    (decided (exists (has s) (below 128)))

module _ (s : List ℕ) where
  pub lead_member : 0 < length (members s) → has s (lead s) ≡ true
  lead_member some = go (members s) refl
    where
      go : (xs : List ℕ) → members s ≡ xs → has s (lead s) ≡ true
      go [] e = absurd (omega (arith, some, ap length e))
      go (x ∷ xs) e = of_members s (lead s) (subst (λ l. Of l (lead s)) (sym e) (Memᴰ.head (ap (λ l. get_or l 0 0) e)))

  pub lead_least : (j : ℕ) → Least s j → lead s ≡ j
  lead_least j l = go (members s) refl
    where
      at : Of (members s) j
      at = members_of s j l.small l.member

      first : (x : ℕ) (xs : List ℕ) → Sorted (x ∷ xs) → has s x ≡ true → Memᴰ j (x ∷ xs) → x ≡ j
      first x xs sorted own (Memᴰ.head e) = sym e
      first x xs sorted own (Memᴰ.tail m) = absurd (clash own (l.least x (sorted.0 j m)))

      go : (xs : List ℕ) → members s ≡ xs → lead s ≡ j
      go [] e = absurd (none (subst (λ l. Of l j) e at))
        where
          none : Memᴰ j [] → ⊥
          none m = elim m [ ]
      go (x ∷ xs) e =
          ap (λ l. get_or l 0 0) e
          ∙ first x xs (subst Sorted e (members_sorted s)) (of_members s x (subst (λ l. Of l x) (sym e) (Memᴰ.head refl))) (subst (λ l. Of l j) e at)

  -- the only job of a set of one
  pub single : length (members s) ≡ 1 → members s ≡ lead s ∷ []
  single one = go (members s) refl
    where
      go : (xs : List ℕ) → members s ≡ xs → members s ≡ lead s ∷ []
      go [] e = absurd (omega (arith, one, ap length e))
      go (x ∷ []) e = e ∙ ap (λ y. y ∷ []) (sym (ap (λ l. get_or l 0 0) e))
      go (x ∷ y ∷ ys) e = absurd (omega (arith, one, ap length e))
