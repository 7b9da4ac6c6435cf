-- Runs with one more arc.
use Prim.Native.Nat.{ℕ}
use mathlib.Core.Path.{◌≡◌, refl, sym, ap, subst, ◌∙◌}
use mathlib.Core.List.Memᴰ
use mathlib.Core.List.{List, [], ◌∷◌, ◌++◌, Memᴰ}
use mathlib.Core.Logic.{◌⊎◌, inl, inr, ⊎_elim, ◌≢◌, ◌↔◌}
use Rattle.poset.specs.Order.{Arc, Run, one, then}
use Rattle.poset.proofs.Closure.{run_append}

module _ (arcs : List Arc) (a b : ℕ) where
  abbrev pub grown : List Arc
  grown = arcs ++ (a, b) ∷ []

  added : Memᴰ (a, b) grown
  added = Memᴰ.append_right arcs (Memᴰ.head refl)

  pub kept : {u v : ℕ} → Run arcs u v → Run grown u v
  kept (one m) = one (Memᴰ.append_left ((a, b) ∷ []) m)
  kept (then m r) = then (Memᴰ.append_left ((a, b) ∷ []) m) (kept r)

  -- an arc of these is an old one or the new one
  either : {u v : ℕ} → Memᴰ (u, v) grown → Memᴰ (u, v) arcs ⊎ ((u ≡ a) × (v ≡ b))
  either m =
      ⊎_elim inl (λ x. let e = Memᴰ.eq_of_singleton x in inr (ap (λ (p : Arc). p.0) e, ap (λ (p : Arc). p.1) e)) (Memᴰ.append_cases arcs m)

  -- the same job, or a run
  abbrev Reaches : ℕ → ℕ → Type 0
  Reaches u v = (u ≡ v) ⊎ Run arcs u v

  -- a run is an old one, or goes over the new arc
  through : {u v : ℕ} → Run grown u v → Run arcs u v ⊎ (Reaches u a × Reaches b v)
  through (one m) = ⊎_elim (λ o. inl (one o)) (λ e. inr (inl e.0, inl (sym e.1))) (either m)
  through {u} {v} (then {w = w} m r) = by (either m) (through r)
    where
      by : Memᴰ (u, w) arcs ⊎ ((u ≡ a) × (w ≡ b)) → Run arcs w v ⊎ (Reaches w a × Reaches b v) → Run arcs u v ⊎ (Reaches u a × Reaches b v)
      by (inl o) (inl s) = inl (then o s)
      by (inl o) (inr (inl e, q)) = inr (inr (one (subst (λ (x : ℕ). Memᴰ (u, x) arcs) e o)), q)
      by (inl o) (inr (inr s, q)) = inr (inr (then o s), q)
      by (inr e) (inl s) = inr (inl e.0, inr (subst (λ (x : ℕ). Run arcs x v) e.1 s))
      by (inr e) (inr (p, q)) = inr (inl e.0, q)

  -- so a circle is there exactly where the second job was before the first
  pub circle : ((u : ℕ) × Run arcs u u → ⊥) → a ≢ b → ((u : ℕ) × Run grown u u) ↔ Run arcs b a
  circle no_circle differ = ((λ c. by (through c.1)), λ r. (a, then added (kept r)))
    where
      by : {u : ℕ} → Run arcs u u ⊎ (Reaches u a × Reaches b u) → Run arcs b a
      by {u} (inl r) = absurd (no_circle (u, r))
      by (inr (inl e, inl f)) = absurd (differ (sym (f ∙ e)))
      by (inr (inl e, inr r)) = subst (Run arcs b) e r
      by (inr (inr r, inl f)) = subst (λ (x : ℕ). Run arcs x a) (sym f) r
      by (inr (inr r, inr s)) = run_append s r

  -- and no run is new where the first was before the second
  pub none_new : Run arcs a b → {u v : ℕ} → Run grown u v → Run arcs u v
  none_new run (one m) = ⊎_elim one (λ e. rw (e.0, e.1) run) (either m)
  none_new run {u} {v} (then {w = w} m r) =
      ⊎_elim (λ o. then o (none_new run r))
      (λ (e : (u ≡ a) × (w ≡ b)). run_append (rw e.0 run) (subst (λ (x : ℕ). Run arcs x v) e.1 (none_new run r))) (either m)
