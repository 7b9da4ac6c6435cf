-- `Stack::chain` meets its contract. The invariant: the runs from k on stand as one, and those ahead of them as they did.
use Prim.Native.Nat.{ℕ, ◌<◌}
use mathlib.Core.Path.{sym, subst}
use native.Mathlib.Omega.{arith}
use Rattle.longest.proofs.Folding.{chained_first, chained_next, chained_all, link_small, total_low}
use Rattle.longest.proofs.stack.Stack.chain.Goals as goal

pub loop-k-init : goal.loop-k-init
loop-k-init c = λ rs b. chained_first rs _ _ b

pub bounds-self-from : goal.bounds-self-from
bounds-self-from c =
    let (rs, b) = c.requires in
    let x = c.loop-k.invariant rs b in
    subst (λ (n : ℕ). n < 128) (sym c.from.ensures) (link_small rs _ _ b _ c.loop-k-test.true x.to_end _ _ x)

pub overflow_add-whole : goal.overflow_add-whole
overflow_add-whole c =
    let (rs, b) = c.requires in
    let x = c.loop-k.invariant rs b in
    omega (arith, total_low rs _ _ b _ c.loop-k-test.true x.to_end _ _ x)

pub loop-k-preserved : goal.loop-k-preserved
loop-k-preserved c = λ rs b.
    let x = c.loop-k.invariant rs b in
    rw c.from.ensures (chained_next rs _ _ b _ c.loop-k-test.true x.to_end _ _ x)

pub returns : goal.returns
returns c = λ rs b. chained_all rs _ _ b _ _ _ (c.loop-k.invariant rs b) c.loop-k-test.false
