-- `tree::shape_of`: from the root on, turn after turn.
use Prim.Native.Nat.{ℕ, ◌+◌, ◌-◌}
use mathlib.Core.Path.{◌≡◌, refl, sym, ap, subst, ◌∙◌}
use mathlib.Core.List.{◌∷◌}
use native.Mathlib.Omega.{arith}
use lib.ListN.{get_or}
use Rattle.poset.specs.Decompose.{tree_of}
use Rattle.relation.specs.Table.{holds}
use Rattle.writer.specs.declared.stack.Entry.{Entry}
use Rattle.writer.specs.Compared.{transpose, Tables}
use Rattle.writer.specs.Shapes.{shape}
use Rattle.writer.specs.Stack.{held}
use Rattle.writer.specs.Turns.{State, state_at, state}
use Rattle.writer.proofs.Roots.{tables, transpose_is}
use Rattle.writer.proofs.Shaping.{Shaping, shape_done}
use Rattle.writer.proofs.Stacking.{held_top}
use Rattle.writer.proofs.Turning.{root_shaping, turn_room, turn_next, turn_more, turn_none}
use Rattle.writer.proofs.tree.shape_of.Goals.{After-compare, After-index-draft-p}
use Rattle.writer.proofs.tree.shape_of.Goals as goal

module _ (q : After-compare) where
  compared : Tables q.args.n (holds q.args.under.now) (holds q.compare.new.tied) (holds q.compare.new.free)
  compared =
      let r = q.requires in
      let e = q.compare.ensures in
      tables _ _ _ _ _ r.n_nonzero.0 r.n_nonzero.1 r.strict r.inside r.by_index e.by_index e.by_index_2

  -- the order that is held turned round is the order
  turned : shape (tree_of q.args.n (transpose (holds q.args.under.now))) ≡ shape (tree_of q.args.n (holds q.args.after))
  turned = ap (λ r. shape (tree_of q.args.n r)) (transpose_is (holds q.args.after) (holds q.args.under.now) q.requires.by_index)

pub invariant_of-order : goal.invariant_of-order
invariant_of-order c = record { tables = compared (goal.at.invariant_of-order c).After-compare; rows = c.told-under }

pub loop-p-init : goal.loop-p-init
loop-p-init c =
    root_shaping (compared (goal.at.loop-p-init c).After-compare) _ (state c.begin-p.new.self c.begin-p.result)
    (record { shape = refl; placed = refl; stack = refl }) c.begin-p.ensures

-- an entry is taken from the stack
module _ (q : After-index-draft-p) where
  abbrev height : ℕ
  height = q.loop-p.p.height - 1

  abbrev e : Entry
  e = get_or q.loop-p.draft.entries height q.index-draft-p.result

  abbrev left : State
  left = state_at q.loop-p.draft height q.loop-p.p.count q.loop-p.p.groups q.loop-p.p.placed

  before : Shaping q.args.n (transpose (holds q.args.under.now)) (holds q.compare.new.tied) (holds q.compare.new.free) left.shape left.placed
      (e ∷ left.stack)
  before =
      let same : q.loop-p.p.height ≡ height + 1 = omega (arith, q.loop-p-test.true) in
      subst (Shaping q.args.n (transpose (holds q.args.under.now)) (holds q.compare.new.tied) (holds q.compare.new.free) left.shape left.placed)
      (ap (held q.loop-p.draft.entries) same
      ∙ held_top q.loop-p.draft.entries height q.index-draft-p.result (omega (arith, q.loop-p.p.low, q.loop-p.draft.rows, q.loop-p-test.true)))
      q.loop-p.invariant

pub turn-requires : goal.turn-requires
turn-requires c =
    let q = (goal.at.turn-requires c).After-index-draft-p in
    turn_room (compared (goal.at.turn-requires c).After-compare) (e q) (left q) (before q)

pub returns-in_err-p : goal.returns-in_err-p
returns-in_err-p c =
    let q = (goal.at.returns-in_err-p c).After-index-draft-p in
    let p = (goal.at.returns-in_err-p c).After-compare in
    c.from_residual.ensures ∙ ap shape (sym (turn_none (compared p) (e q) (left q) (before q) c.turn.new.self c.turn.ensures c.in_err-p.was)) ∙ turned p

pub loop-p-smaller : goal.loop-p-smaller
loop-p-smaller c =
    let q = (goal.at.loop-p-smaller c).After-index-draft-p in
    let t = compared (goal.at.loop-p-smaller c).After-compare in
    omega (
      arith,
      (turn_room t (e q) (left q) (before q)).few_fields,
      turn_more t (e q) (left q) (before q) c.turn.new.self c.in_ok-p.p c.turn.ensures c.in_ok-p.was,
    )

pub loop-p-preserved : goal.loop-p-preserved
loop-p-preserved c =
    let q = (goal.at.loop-p-preserved c).After-index-draft-p in
    turn_next (compared (goal.at.loop-p-preserved c).After-compare) (e q) (left q) (before q) c.turn.new.self c.in_ok-p.p c.turn.ensures c.in_ok-p.was

pub returns : goal.returns
returns c =
    let p = (goal.at.returns c).After-compare in
    let none : c.loop-p.p.height ≡ 0 = omega (arith, c.loop-p-test.false) in
    let s = state c.loop-p.draft c.loop-p.p in
    shape_done (compared p)
    (subst (Shaping c.args.n (transpose (holds c.args.under.now)) (holds c.compare.new.tied) (holds c.compare.new.free) s.shape s.placed)
    (ap (held c.loop-p.draft.entries) none) c.loop-p.invariant)
    ∙ turned p
