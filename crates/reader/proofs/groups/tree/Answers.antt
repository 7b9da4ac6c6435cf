-- `groups::tree` meets its contract: a chain is a child of a side group, any other tree the only child of a chain.
use mathlib.Core.Path.{refl}
use native.Mathlib.Omega.{arith}
use Rattle.poset.specs.Tree.{series, parallel}
use Rattle.reader.proofs.Child.{child_group, tree_none, tree_child, tree_chain, tree_full, under_series}
use Rattle.reader.proofs.Calls.{call_children}
use Rattle.reader.proofs.groups.tree.Goals as goal

pub returns-in_err-more : goal.returns-in_err-more
returns-in_err-more c = rw c.from_residual.ensures (tree_none _ _ 0 0 c.requires.few _ _ c.in_err-more.ensures)

pub returns-then-count-eq1 : goal.returns-then-count-eq1
returns-then-count-eq1 c =
    tree_full _ _ 0 0 c.requires.few _ _ _ (rw c.in-Chain.is at c.in_ok-more.ensures) (omega (arith, c.if-count-eq1.true))

pub chain-requires : goal.chain-requires
chain-requires c =
    let two = c.if-count-eq1.false in
    (call_children series _ _ (rw c.in-Chain.is at c.in_ok-more.ensures) c.requires (omega (arith, c.requires.opened, two)) refl).1

pub returns-else-count-eq1 : goal.returns-else-count-eq1
returns-else-count-eq1 c =
    let begins = rw c.in-Chain.is at c.in_ok-more.ensures in
    tree_chain _ _ 0 0 c.requires.few _ _ _ begins _ (child_group parallel _ _ 0 0 c.requires.few _ _ begins _ _ c.chain.ensures)

pub returns-in_default : goal.returns-in_default
returns-in_default c =
    tree_child _ _ 0 0 c.requires.few _ _ (under_series _ 0 0 _ c.in_default.not-Chain c.in_ok-more.ensures) _ c.chain-in_default.ensures
