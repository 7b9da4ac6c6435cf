-- The reason that is told of a tree is the reason in the order that it means; and how large its numbers are.
use Prim.Native.Nat.{ℕ, ◌+◌, ◌≤◌, ◌<◌}
use mathlib.Core.Path.{◌≡◌, refl, sym, ap, ◌∙◌}
use mathlib.Core.Bool.{true}
use mathlib.Core.Logic.{◌↔◌, ◌≢◌}
use native.Mathlib.Omega.{arith}
use lib.Dec.{ltb}
use lib.ListN.{length, length-append}
use Rattle.poset.specs.Order.{Rel, incomparable}
use Rattle.poset.specs.Tree.{series, parallel, Tree, leaf, node, more, groups, leaves, forest_leaves, precedes, Spans, Means}
use Rattle.poset.proofs.Laws.{same_test}
use Rattle.poset.proofs.Shape.{good_once}
use Rattle.poset.proofs.Meaning.{means_fits, spans_holds}
use Rattle.poset.proofs.Standing.{free, is_free, free_sym}
use Rattle.record.proofs.Sizes.{length_leaves, groups_lt, forest_groups_lem}
use Rattle.reason.specs.Claims.{LowestAt, IsReason}
use Rattle.reason.specs.Lowest.{over, lowest, child_of, rule}
use Rattle.reason.specs.Outcome.{ReasonOutcome, tree_reason}
use Rattle.reason.proofs.Lowest.{stands_below, nodes_counted, stands_node, node_few, over_in, in_over, lowest_at, lowest_only}
use Rattle.reason.proofs.Ruling.{two_or_three, lowest_rule}

-- a rule of 1 is a leaf's
same_leaf : (u v : ℕ) (s : Tree) → over u v s ≡ true → rule u v s ≡ 1 → s ≡ leaf u
unfolding rule
same_leaf u v (leaf j) h e = ap leaf (sym (over_in u v (leaf j) h).0)
same_leaf u v (node series t f) h e = absurd (omega (arith, two_or_three (ltb (child_of u (more t f)) (child_of v (more t f)))))
same_leaf u v (node parallel t f) h e = absurd (omega arith)

two_leaves : (u v : ℕ) (s : Tree) → u ≢ v → over u v s ≡ true → 2 ≤ length (leaves s)
unfolding leaves
two_leaves u v (leaf j) differ h = let (p, q) = over_in u v (leaf j) h in absurd (differ (p ∙ sym q))
two_leaves u v (node k t f) differ h = omega (arith, groups_lt t, forest_groups_lem f, length-append (leaves t) (forest_leaves f))

pub tree_reason_lem : (n : ℕ) (r : Rel) (t : Tree) → Means n t r → (u v : ℕ) → u < n → v < n → IsReason t r u v (tree_reason t u v)
unfolding tree_reason
tree_reason_lem n r t means u v p q =
    let fits = means_fits n r t means in
    let at = lowest_at u v t (good_once r t fits.good) (fits.holds.outside u p) (fits.holds.outside v q) in
    let stand = lowest_rule r u v fits.good at in
    record {
      stand = stand;
      decides = (lowest u v t).1;
      lowest = at;
      gives = refl;
      jobs_are = refl;
      one_job = λ e. same_leaf u v (lowest u v t).1 at.both (stand.same.1 e);
    }

module _ (n : ℕ) (t : Tree) (spans : Spans n t) (u v : ℕ) (p : u < n) (q : v < n) where
  -- a tree means its own order
  own_reason : IsReason t (precedes t) u v (tree_reason t u v)
  own_reason = tree_reason_lem n (precedes t) t (record { spans = spans; agrees = λ u v p q. refl }) u v p q

  abbrev o : ReasonOutcome
  o = tree_reason t u v

  -- a position among the nodes, one for each job and each group
  pub position_small : (o.position < n + groups t) × (groups t < n)
  position_small = (
    omega (arith, stands_below t o.position own_reason.lowest.stands, nodes_counted t, length_leaves n t spans),
    omega (arith, groups_lt t, length_leaves n t spans),
  )

  pub jobs_small : o.jobs ≤ n
  unfolding leaves
  jobs_small = omega (arith, own_reason.jobs_are, node_few (stands_node t o.position own_reason.lowest.stands), length_leaves n t spans)

  -- two jobs at least, where they are not one
  pub jobs_two : u ≢ v → 2 ≤ o.jobs
  jobs_two differ = omega (arith, own_reason.jobs_are, two_leaves u v own_reason.decides differ own_reason.lowest.both)

-- the jobs named the other way round

over_turned : (u v : ℕ) (s : Tree) → over v u s ≡ over u v s
over_turned u v s =
    same_test (over v u s) (over u v s)
    (λ h. let (q, p) = over_in v u s h in in_over u v s p q)
    (λ h. let (p, q) = over_in u v s h in in_over v u s q p)

lowest_turned : {u v : ℕ} {t : Tree} {p : ℕ} {s : Tree} → LowestAt u v t p s → LowestAt v u t p s
lowest_turned {u} {v} {s = s} l = record {
  stands = l.stands;
  both = over_turned u v s ∙ l.both;
  none_below = λ x m. over_turned u v x ∙ l.none_below x m;
}

-- two ways to say one thing
either_way : {A B C : Type 0} → A ↔ C → B ↔ C → B ↔ A
either_way f g = (λ b. f.1 (g.0 b), λ a. g.1 (f.0 a))

free_turned : (r : Rel) (u v : ℕ) → incomparable r u v ≡ true → incomparable r v u ≡ true
free_turned r u v h = is_free r v u (free_sym r u v (free r u v h))

pub reasons_turned : (n : ℕ) (t : Tree) → Spans n t → {r : Rel} {u v : ℕ} {o x : ReasonOutcome} → IsReason t r u v o → IsReason t r v u x
    → (x.position ≡ o.position) × (x.jobs ≡ o.jobs)
    × ((x.rule ≡ 1) ↔ (o.rule ≡ 1)) × ((x.rule ≡ 2) ↔ (o.rule ≡ 3)) × ((x.rule ≡ 3) ↔ (o.rule ≡ 2)) × ((x.rule ≡ 4) ↔ (o.rule ≡ 4))
reasons_turned n t spans {r} {u} {v} a b =
    let (place, same) = lowest_only v u t (spans_holds n t spans).0 b.lowest (lowest_turned a.lowest) in (
      place,
      b.jobs_are ∙ ap (λ (s : Tree). length (leaves s)) same ∙ sym a.jobs_are,
      either_way a.stand.same (λ e. sym (b.stand.same.0 e), λ e. b.stand.same.1 (sym e)),
      either_way a.stand.back b.stand.forth,
      either_way a.stand.forth b.stand.back,
      either_way a.stand.free (λ e. free_turned r v u (b.stand.free.0 e), λ h. b.stand.free.1 (free_turned r u v h)),
    )
