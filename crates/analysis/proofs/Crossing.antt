-- The refusal of an order with an N, and the outcome of an order taken apart.
use Prim.Native.Nat.{ℕ}
use mathlib.Core.Path.{◌≡◌, refl, sym, ap, ap₂, subst, ◌∙◌}
use mathlib.Core.List.{List, flat_map}
use Rattle.std.specs.Prelude.{Option, None, Some}
use Rattle.std.specs.Prelude.{Result, Err}
use Rattle.std.specs.Result.{IsErrAnd}
use Rattle.std.proofs.lemmas.Result.{err_from_is_err_and}
use Rattle.poset.specs.Areas.{overlay, arc_bytes}
use Rattle.poset.specs.Order.{Rel, Four, Strict, first_n_of}
use Rattle.poset.specs.Tree.{Tree}
use Rattle.poset.specs.Decompose.{tree_of}
use Rattle.poset.proofs.Theorems.{tree_of_sound, tree_has_no_n, first_n_none}
use Rattle.analysis.specs.Outcome.{Rooms, Outcome, refuse, accept, fitted, decomposed}
use Rattle.analysis.specs.Result.{refused, crossed_by, Gives}
use Rattle.analysis.specs.declared.Refusal.{Refusal}
use Rattle.analysis.specs.declared.Analysis.{Analysis}

pub gives_same : {o p : Outcome} {bytes area : List ℕ} {r : Result Analysis Refusal} {bytes' area' : List ℕ} → o ≡ p → Gives o bytes area r bytes' area'
    → Gives p bytes area r bytes' area'
gives_same {bytes = bytes} {area = area} {r = r} {bytes' = bytes'} {area' = area'} e g = subst (λ o. Gives o bytes area r bytes' area') e g

-- a refusal leaves the areas
pub gives_refusal : {o : Outcome} {bytes area : List ℕ} (e : Refusal) → o ≡ refused e → Gives o bytes area (Err e) bytes area
unfolding refuse overlay arc_bytes flat_map
gives_refusal {o = o} {bytes = bytes} {area = area} r e = gives_same (sym e) (record {
  answers = refl;
  record_is = refl;
  arcs_are = refl;
  forward_is = tt;
  reverse_is = tt;
  hours_is = tt;
  refusal_is = refl;
})

-- what a `?` hands back of a step that refuses
pub gives_err
    : {o : Outcome} {bytes area : List ℕ} {r : Result Analysis Refusal} (e : Refusal) → IsErrAnd r (λ y. y ≡ e) → o ≡ refused e
    → Gives o bytes area r bytes area
gives_err {o = o} {bytes = bytes} {area = area} {r = r} e is h =
    let p = err_from_is_err_and r is in
    subst (λ r. Gives o bytes area r bytes area) (sym (p.1 ∙ ap Err p.2)) (gives_refusal e h)

-- the outcome, by what the search for an N and for a tree find

abbrev after_n : Rooms → ℕ → List ℕ → Rel → Option Four → Option Tree → Outcome
after_n rs n hours r (Some q) o = refuse 8 q.0 q.1 q.2 q.3
after_n rs n hours r None (Some t) = fitted rs (accept n hours r t)
after_n rs n hours r None None = refuse 8 0 0 0 0

decomposed_is : (rs : Rooms) (n : ℕ) (hours : List ℕ) (r : Rel) → decomposed rs n hours r ≡ after_n rs n hours r (first_n_of n r) (tree_of n r)
unfolding decomposed
decomposed_is rs n hours r = go (first_n_of n r) (tree_of n r)
  where
    go : (a : Option Four) (b : Option Tree)
        → elim a [ Some q ↦ refuse 8 q.0 q.1 q.2 q.3 | None ↦ elim b [ Some t ↦ fitted rs (accept n hours r t) | None ↦ refuse 8 0 0 0 0 ] ]
        ≡ after_n rs n hours r a b
    go (Some q) b = refl
    go None (Some t) = refl
    go None None = refl

-- an order that no tree means
pub crossed_outcome : (rs : Rooms) (n : ℕ) (hours : List ℕ) (r : Rel) → tree_of n r ≡ None → decomposed rs n hours r ≡ refused (crossed_by (first_n_of n r))
crossed_outcome rs n hours r bare = decomposed_is rs n hours r ∙ ap (after_n rs n hours r (first_n_of n r)) bare ∙ go (first_n_of n r)
  where
    go : (o : Option Four) → after_n rs n hours r o None ≡ refused (crossed_by o)
    go (Some q) = refl
    go None = refl

-- an order that a tree means
pub tree_outcome
    : (rs : Rooms) (n : ℕ) (hours : List ℕ) (r : Rel) (t : Tree) → Strict n r → tree_of n r ≡ Some t
    → decomposed rs n hours r ≡ fitted rs (accept n hours r t)
tree_outcome rs n hours r t strict e =
    decomposed_is rs n hours r
    ∙ ap₂ (after_n rs n hours r) ((first_n_none n r).1 (λ h. tree_has_no_n n r (t, (tree_of_sound n r t strict e).0) h)) e
