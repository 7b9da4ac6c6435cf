-- `seeking::jobs_under` meets its contract.
use Prim.Native.Nat.{◌+◌, ◌≤◌}
use mathlib.Core.List.{[], ◌∷◌}
use native.Mathlib.Omega.{arith}
use Rattle.poset.specs.Tree.{Tree}
use Rattle.record.proofs.Tokens.{tells_group}
use Rattle.reason.specs.Rows.{Ahead}
use Rattle.reason.proofs.Counting.{Counted, counted_none, jobs_few, counted_few, counted_all, counted_room, counted_leaf, counted_group}
use Rattle.reason.proofs.seeking.jobs_under.Goals.{In-loop-token, Joined-from, in-Leaf, in-Chain2}
use Rattle.reason.proofs.seeking.jobs_under.Goals as goal

few : (c : goal.In-loop-token) → (c.loop-token.trees ≤ 128) × (c.loop-token.jobs ≤ 128)
few c =
    let (s, a) = c.requires in
    counted_few _ s _ _ _ (c.loop-token.invariant.1 s a) (jobs_few _ s _ a)

-- with the present node
counted : (c : goal.Joined-from) (s : Tree) → Ahead c.args.nodes.now 0 (s ∷ [])
    → Counted c.args.nodes.now s (c.loop-token.token-index + 1) c.match-from.trees c.match-from.jobs
counted c s a =
    let (some, all) = c.loop-token.invariant in
    elim c.match-from.branch [
      | in-Leaf w ↦ rw (w.trees-is, w.jobs-is) (counted_leaf _ s _ _ _ (all s a) some w.in-Leaf.ensures.0)
      | in-Chain2 w ↦
          let told = tells_group _ c.from.ensures w.in-Chain.is in
          rw (w.trees-is, w.jobs-is, w.from-trees.ensures, told.1) (counted_group _ s _ _ _ (all s a) some told.0)
    ]

pub loop-token-init : goal.loop-token-init
loop-token-init c = (omega arith, λ s a. counted_none _ s _ a)

pub overflow_sub-trees : goal.overflow_sub-trees
overflow_sub-trees c = omega (arith, c.loop-token.invariant.0)

pub overflow_add-jobs : goal.overflow_add-jobs
overflow_add-jobs c = omega (arith, few (goal.at.overflow_add-jobs c).In-loop-token)

pub overflow_add-trees : goal.overflow_add-trees
overflow_add-trees c =
    omega (arith, few (goal.at.overflow_add-trees c).In-loop-token, c.from-trees.ensures, tells_group _ c.from.ensures c.in-Chain.is)

pub returns-then-trees-eq0 : goal.returns-then-trees-eq0
returns-then-trees-eq0 c = λ s a.
    counted_all _ s _ _ _ (counted (goal.at.returns-then-trees-eq0 c).Joined-from s a) (omega (arith, c.if-trees-eq0.true))

pub loop-token-preserved : goal.loop-token-preserved
loop-token-preserved c = (omega (arith, c.if-trees-eq0.false), counted (goal.at.loop-token-preserved c).Joined-from)

pub unreachable-requires : goal.unreachable-requires
unreachable-requires c =
    let (s, a) = c.requires in
    let (some, all) = c.loop-token.invariant in
    omega (arith, counted_room _ s _ _ _ (all s a) some)
