-- The readers of groups meet their contracts, each answer by a law over the kind.
use Prim.Native.Nat.{ℕ}
use mathlib.Core.Path.{◌≡◌, refl, sym, subst, ◌∙◌}
use mathlib.Core.List.{List}
use native.Mathlib.Omega.{arith}
use Rattle.std.specs.Prelude.{Some}
use Rattle.poset.specs.Tree.{series, parallel}
use Rattle.poset.proofs.Laws.{clash}
use Rattle.reader.specs.Fields.{NodeAt}
use Rattle.reader.specs.declared.nodes.Node.{Node}
use Rattle.reader.proofs.Child.{child_leaf, child_same, child_full, child_group}
use Rattle.reader.proofs.Children.{child_bounded, run_begin, run_end, run_last, run_none, run_behind, run_first, run_more}
use Rattle.reader.proofs.Calls.{call_children}
use Rattle.reader.proofs.groups.+groups.Goals.{chain-in-None, chain-in-Some, side-in-None, side-in-Some+else-not-outranks}
use Rattle.reader.proofs.groups.+groups.Goals as goal

-- the node that was read
here : (bs : List ℕ) {i j : ℕ} (n m : Node) → i ≡ j → n ≡ m → NodeAt bs i (Some n) → NodeAt bs j (Some m)
here bs {i} n m e f h = subst (λ (k : ℕ). NodeAt bs k (Some m)) e (subst (λ (x : Node). NodeAt bs i (Some x)) f h)

pub chain-loop-i-init : goal.chain-loop-i-init
chain-loop-i-init t c = run_begin series _ _ _ _ _ _ c.requires.1 0 0

pub chain-returns-in_err-child : goal.chain-returns-in_err-child
chain-returns-in_err-child t c =
    rw c.from_residual.ensures
    (run_none series _ _ _ _ _ _ c.requires.1 _ _ _ _ _ _ _ c.loop-i.invariant _ c.loop-i-test.true c.in_err-child.ensures)

pub chain-joined-longer-requires : goal.chain-joined-longer-requires
chain-joined-longer-requires t c =
    run_last series _ _ _ _ _ _ c.requires.1 _ _ _ _ _ _ _ c.loop-i.invariant _ c.loop-i-test.true _ c.in_ok-child.ensures _ c.in-Some.is

pub chain-loop-i-preserved : goal.chain-loop-i-preserved
chain-loop-i-preserved t c =
    elim c.match-part.branch [
      | chain-in-None w ↦
          rw (w.lists-is, w.longer-is)
          (run_first series _ _ _ _ _ _ c.requires.1 _ _ _ _ _ _ _ c.loop-i.invariant _ c.loop-i-test.true _ c.in_ok-child.ensures w.in-None.is)
      | chain-in-Some w ↦
          rw (w.lists-is, w.longer-is, w.joined-longer.ensures.value, w.joined-longer.ensures.lists)
          (run_more series _ _ _ _ _ _ c.requires.1 _ _ _ _ _ _ _ c.loop-i.invariant _ c.loop-i-test.true _ c.in_ok-child.ensures _ w.in-Some.is
          refl)
    ]

pub chain-returns : goal.chain-returns
chain-returns t c =
    run_end series _ _ _ _ _ _ c.requires.1 _ _ _ _ _ _ _ c.loop-i.invariant (omega (arith, c.loop-i-test.false))

pub chain_child-returns-in-Leaf : goal.chain_child-returns-in-Leaf
chain_child-returns-in-Leaf t c =
    child_leaf series _ _ _ _ c.requires.few _ _ _ (here _ _ _ c.place.ensures c.in-Leaf.is c.in_ok-job.ensures) c.requires _ _ c.leaf.ensures

pub chain_child-returns-in-Chain : goal.chain_child-returns-in-Chain
chain_child-returns-in-Chain t c =
    child_same series _ _ _ _ c.requires.few _ _ (here _ _ _ c.place.ensures c.in-Chain.is c.in_ok-job.ensures) _

pub chain_child-returns-then-groups-count : goal.chain_child-returns-then-groups-count
chain_child-returns-then-groups-count t c =
    child_full series _ _ _ _ c.requires.few _ _ (here _ _ _ c.place.ensures c.in-Side.is c.in_ok-job.ensures) _ c.if-groups-count.true

pub chain_child-side-requires : goal.chain_child-side-requires
chain_child-side-requires t c =
    call_children parallel _ _ (here _ _ _ c.place.ensures c.in-Side.is c.in_ok-job.ensures) c.requires
    (omega (arith, c.if-groups-count.false)) c.decreases

pub chain_child-returns-else-groups-count : goal.chain_child-returns-else-groups-count
chain_child-returns-else-groups-count t c =
    child_group series _ _ _ _ c.requires.few _ _ (here _ _ _ c.place.ensures c.in-Side.is c.in_ok-job.ensures) _ _ c.side.ensures

pub side-loop-i-init : goal.side-loop-i-init
side-loop-i-init t c = run_begin parallel _ _ _ _ _ _ c.requires.1 0 0

pub side-returns-in_err-child : goal.side-returns-in_err-child
side-returns-in_err-child t c =
    rw c.from_residual.ensures
    (run_none parallel _ _ _ _ _ _ c.requires.1 _ _ _ _ _ _ _ c.loop-i.invariant _ c.loop-i-test.true c.in_err-child.ensures)

pub side-overflow_sub-jobs : goal.side-overflow_sub-jobs
side-overflow_sub-jobs t c = omega (arith, (child_bounded parallel c.requires.1.few c.in_ok-child.ensures).onward)

pub side-returns-then-not-outranks : goal.side-returns-then-not-outranks
side-returns-then-not-outranks t c =
    run_behind parallel _ _ _ _ _ _ c.requires.1 _ _ _ _ _ _ _ c.loop-i.invariant _ c.loop-i-test.true _ c.in_ok-child.ensures _ c.in-Some.is
    (λ told. clash told (sym c.outranks.ensures ∙ c.if-not-outranks.true))

pub side-joined-longer-requires : goal.side-joined-longer-requires
side-joined-longer-requires t c = (child_bounded parallel c.requires.1.few c.in_ok-child.ensures).lasts

pub side-loop-i-preserved : goal.side-loop-i-preserved
side-loop-i-preserved t c =
    elim c.match-part.branch [
      | side-in-None w ↦
          rw (w.lists-is, w.longer-is)
          (run_first parallel _ _ _ _ _ _ c.requires.1 _ _ _ _ _ _ _ c.loop-i.invariant _ c.loop-i-test.true _ c.in_ok-child.ensures w.in-None.is)
      | side-in-Some+else-not-outranks w ↦
          rw (w.lists-is, w.longer-is, w.joined-longer.ensures.value, w.joined-longer.ensures.lists)
          (run_more parallel _ _ _ _ _ _ c.requires.1 _ _ _ _ _ _ _ c.loop-i.invariant _ c.loop-i-test.true _ c.in_ok-child.ensures _ w.in-Some.is
          (sym w.outranks.ensures ∙ w.if-not-outranks.false))
    ]

pub side-returns : goal.side-returns
side-returns t c =
    run_end parallel _ _ _ _ _ _ c.requires.1 _ _ _ _ _ _ _ c.loop-i.invariant (omega (arith, c.loop-i-test.false))

pub side_child-returns-in-Leaf : goal.side_child-returns-in-Leaf
side_child-returns-in-Leaf t c =
    child_leaf parallel _ _ _ _ c.requires.few _ _ _ (here _ _ _ c.place.ensures c.in-Leaf.is c.in_ok-job.ensures) c.requires _ _ c.leaf.ensures

pub side_child-returns-in-Side : goal.side_child-returns-in-Side
side_child-returns-in-Side t c =
    child_same parallel _ _ _ _ c.requires.few _ _ (here _ _ _ c.place.ensures c.in-Side.is c.in_ok-job.ensures) _

pub side_child-returns-then-groups-count : goal.side_child-returns-then-groups-count
side_child-returns-then-groups-count t c =
    child_full parallel _ _ _ _ c.requires.few _ _ (here _ _ _ c.place.ensures c.in-Chain.is c.in_ok-job.ensures) _ c.if-groups-count.true

pub side_child-chain-requires : goal.side_child-chain-requires
side_child-chain-requires t c =
    call_children series _ _ (here _ _ _ c.place.ensures c.in-Chain.is c.in_ok-job.ensures) c.requires
    (omega (arith, c.if-groups-count.false)) c.decreases

pub side_child-returns-else-groups-count : goal.side_child-returns-else-groups-count
side_child-returns-else-groups-count t c =
    child_group parallel _ _ _ _ c.requires.few _ _ (here _ _ _ c.place.ensures c.in-Chain.is c.in_ok-job.ensures) _ _ c.chain.ensures
