-- `relation::search::twin` meets its contract.
use Prim.Native.Nat.{◌-◌}
use native.Mathlib.Omega.{arith}
use mathlib.Core.Path.{sym, ◌∙◌}
use Rattle.relation.proofs.Tables.{same_read}
use Rattle.relation.proofs.search.twin.Goals as goal

pub returns-then-same : goal.returns-then-same
returns-then-same c e =
    let a = c.args.a in
    let after = same_read c.args.after.now (a - 1) a _ _ (omega arith) (omega arith) (sym c.same.ensures ∙ c.if-same.true) in
    let under = same_read c.args.under.now (a - 1) a _ _ (omega arith) (omega arith) (sym c.same-then-same.ensures ∙ e) in
    let by_index = c.requires.by_index in
    (omega arith, record { rows = after; columns = λ v l. sym (by_index (a - 1) v) ∙ under v l ∙ by_index a v })
