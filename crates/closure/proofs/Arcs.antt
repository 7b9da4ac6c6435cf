-- The pairs of the relation that a list of arcs gives are its different arcs.
use Prim.Native.Nat.{ℕ, suc}
use mathlib.Core.Path.{◌≡◌, refl, sym, ap, ap₂, fun_ext, ◌∙◌}
use mathlib.Core.List.Memᴰ
use mathlib.Core.List.{List, [], ◌∷◌}
use mathlib.Core.Bool.{Bool, true, false, ◌&&◌}
use mathlib.Core.Logic.{⊎_elim}
use lib.Dec.{eqb}
use lib.ListN.{length}
use Rattle.poset.specs.Lists.{exists}
use Rattle.poset.specs.Order.{Arc, Rel, Within, arc, pairs_of}
use Rattle.poset.proofs.Laws.{decided, false_unless, and_left, and_right, and_intro, eqb-true, eqb_same, any_yes, any_not}
use Rattle.closure.specs.Joins.{distinct}
use Rattle.closure.proofs.Counting.{pairs_none, pairs_more}

-- an arc is this pair
abbrev test : ℕ → ℕ → Arc → Bool
test u v a = eqb a.0 u && eqb a.1 v

-- one arc more
module _ (a : Arc) (arcs : List Arc) where
  arc_here : arc (a ∷ arcs) a.0 a.1 ≡ true
  unfolding arc
  arc_here = any_yes (test a.0 a.1) a arcs (and_intro _ _ (eqb_same a.0) (eqb_same a.1))

  names : (u v : ℕ) → test u v a ≡ true → (u ≡ a.0) × (v ≡ a.1)
  names u v e = let d = eqb a.0 u in (sym (eqb-true a.0 u (and_left d _ e)), sym (eqb-true a.1 v (and_right d _ e)))

  arc_else : (u v : ℕ) → ((u ≡ a.0) × (v ≡ a.1) → ⊥) → arc arcs u v ≡ arc (a ∷ arcs) u v
  unfolding arc
  arc_else u v d = sym (any_not (test u v) a arcs (false_unless _ (λ e. d (names u v e))))

  -- where it stands again, nothing is new

  module _ (h : arc arcs a.0 a.1 ≡ true) where
    arc_again : (u v : ℕ) → arc (a ∷ arcs) u v ≡ arc arcs u v
    unfolding arc
    arc_again u v =
        ⊎_elim
        (λ e. any_yes (test u v) a arcs e ∙ sym (ap₂ (arc arcs) (names u v e).0 (names u v e).1 ∙ h))
        (λ e. any_not (test u v) a arcs e)
        (decided (test u v a))

    distinct_again : distinct (a ∷ arcs) ≡ distinct arcs
    unfolding distinct
    distinct_again = rw (h, distinct)

  distinct_new : arc arcs a.0 a.1 ≡ false → distinct (a ∷ arcs) ≡ a ∷ distinct arcs
  unfolding distinct
  distinct_new h = rw (h, distinct)

pub pairs_are_distinct : (n : ℕ) (arcs : List Arc) → Within n arcs → length (pairs_of n (arc arcs)) ≡ length (distinct arcs)
unfolding arc exists distinct
pairs_are_distinct n [] within = pairs_none n (arc []) (λ u v. refl)
pairs_are_distinct n (a ∷ arcs) within =
    let rest = pairs_are_distinct n arcs (λ b m. within b (Memᴰ.tail m)) in
    ⊎_elim
    (λ h.
    ap (λ (r : Rel). length (pairs_of n r)) (fun_ext λ u. fun_ext λ v. arc_again a arcs h u v) ∙ rest
    ∙ sym (ap length (distinct_again a arcs h)))
    (λ h.
    let w = within a (Memᴰ.head refl) in
    pairs_more n (arc arcs) (arc (a ∷ arcs)) a.0 a.1 w.0 w.1 (arc_else a arcs) h (arc_here a arcs)
    ∙ ap suc rest ∙ sym (ap length (distinct_new a arcs h)))
    (decided (arc arcs a.0 a.1))
