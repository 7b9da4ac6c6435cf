-- `Stack::of` meets its contract. The invariant: the stack has the runs of the trees in a row from the node that was taken last on.
use Prim.Native.Nat.{ℕ, ◌-◌, ◌<◌}
use mathlib.Core.Path.{◌≡◌, subst, ◌∙◌}
use mathlib.Core.List.{[], ◌∷◌, ◌++◌}
use native.Mathlib.Omega.{arith}
use lib.ListN.{length}
use Rattle.std.proofs.lemmas.Iterator.Adapters.{YieldsList-from_rev_slice}
use Rattle.std.proofs.lemmas.Iterator.Consumers.{YieldsList-turn, YieldsList-end}
use Rattle.std.proofs.lemmas.List.{length-reverse, length_push}
use Rattle.poset.specs.Tree.{Tree}
use Rattle.record.specs.Layout.{hours_of}
use Rattle.reader.specs.Nodes.{Listed, Step}
use Rattle.reader.proofs.Backward.{from_last}
use Rattle.reader.proofs.Pending.{spells, pending, row_step, row_fits}
use Rattle.longest.specs.Stack.{Stacked}
use Rattle.longest.proofs.Rows.{row_end, row_first}
use Rattle.longest.proofs.stack.Stack.of.Goals.{After-from}
use Rattle.longest.proofs.stack.Stack.of.Goals as goal

pub loop-token-init : goal.loop-token-init
loop-token-init c = λ t l. row_end t _ _ l _ _ (omega arith)

-- the node that is taken
module _ (c : goal.After-from) (t : Tree) (l : Listed t c.args.nodes.now (length c.args.nodes.now)) where
  abbrev i : ℕ
  i = length c.args.nodes.now - length c.loop-token.yielded

  step : (0 < i) × Step c.from.result (pending i (spells t)) (pending (i - 1) (spells t))
  step =
      let (inside, is) =
      from_last 0 c.args.nodes.now _ _
      (YieldsList-turn (YieldsList-from_rev_slice c.args.nodes.now cc) c.loop-token.yielded _ c.loop-token.yielded_by _ _ c.in-Some.token c.in-Some.is
      c.next.ensures.steps) in
      (omega arith, rw (c.from.ensures ∙ is) (row_step t _ _ l i (omega arith) (omega arith)))

pub take-requires : goal.take-requires
take-requires c =
    let q = (goal.at.take-requires c).After-from in
    let (t, l) = c.requires.1 in (
      c.requires.0,
      (pending (i q t l) (spells t), pending (i q t l - 1) (spells t), (step q t l).1, row_fits t _ _ l (i q t l - 1), c.loop-token.invariant t l),
    )

pub loop-token-preserved : goal.loop-token-preserved
loop-token-preserved c = λ t l.
    let q = (goal.at.loop-token-preserved c).After-from in
    let place : i q t l - 1 ≡ length c.args.nodes.now - length (c.loop-token.yielded ++ c.in-Some.token ∷ []) =
    omega (arith, length_push c.loop-token.yielded c.in-Some.token) in
    subst (λ (n : ℕ). Stacked (hours_of c.args.hours.now) (pending n (spells t)) c.take.new.self) place
    (c.take.ensures (pending (i q t l) (spells t)) (pending (i q t l - 1) (spells t)) (step q t l).1 (row_fits t _ _ l (i q t l - 1))
    (c.loop-token.invariant t l))

pub returns : goal.returns
returns c = λ t l.
    let nodes = c.args.nodes.now in
    let (_, all) = YieldsList-end (YieldsList-from_rev_slice nodes cc) c.loop-token.yielded _ c.loop-token.yielded_by _ _ c.in-None.is c.next.ensures.steps in
    row_first t _ _ l _ _ _ (omega (arith, all, length-reverse nodes)) (c.loop-token.invariant t l)
