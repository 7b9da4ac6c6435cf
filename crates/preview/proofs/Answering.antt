-- The answer on an order, and the answer that an outcome has.
use Prim.Native.Nat.{ℕ, ◌≤◌}
use mathlib.Core.Path.{◌≡◌, sym, ap, ◌∙◌}
use mathlib.Core.List.{List}
use Rattle.std.specs.Prelude.{Some}
use lib.ListN.{length}
use Rattle.std.specs.Prelude.{Result, Err}
use Rattle.std.specs.Result.{IsErrAnd}
use Rattle.std.proofs.lemmas.Result.{err_from_is_err_and}
use Rattle.poset.specs.Order.{Rel, Strict, covers, pairs_of}
use Rattle.poset.specs.Tree.{Tree}
use Rattle.poset.specs.Decompose.{tree_of}
use Rattle.poset.proofs.Theorems.{tree_of_sound}
use Rattle.relation.specs.Table.{holds}
use Rattle.writer.specs.Written.{record_of}
use Rattle.writer.specs.declared.writing.Written.{Written}
use Rattle.writer.proofs.Spelling.{bytes_count}
use Rattle.analysis.specs.Answer.{answer}
use Rattle.analysis.specs.Outcome.{roomy, Outcome, refuse, accept, decomposed}
use Rattle.analysis.specs.Result.{refusal_answer, refused, answer_of}
use Rattle.analysis.specs.declared.Accepted.{Accepted}
use Rattle.analysis.specs.declared.Refusal.{Refusal}
use Rattle.analysis.proofs.Crossing.{tree_outcome}
use Rattle.analysis.proofs.Taking.{reduced_pairs}
use Rattle.preview.proofs.Rooms.{fits_roomy}

pub same_answer : {o p : Outcome} → o ≡ p → o.verdict ≡ p.verdict
same_answer e = ap (λ (o : Outcome). o.verdict) e

pub told_refused : {o : Outcome} {k a b c d : ℕ} → o ≡ refuse k a b c d → answer k a b c d ≡ o.verdict
unfolding refuse
told_refused e = same_answer (sym e)

pub told_by : {o : Outcome} (e : Refusal) → o ≡ refused e → refusal_answer e ≡ o.verdict
unfolding refuse
told_by e h = same_answer (sym h)

-- what a `?` hands back of a step that refuses
pub told_err : {o : Outcome} (r : Result Accepted Refusal) (e : Refusal) → IsErrAnd r (λ y. y ≡ e) → o ≡ refused e → answer_of r ≡ o.verdict
unfolding refuse
told_err r e is h =
    let p = err_from_is_err_and r is in
    ap answer_of (p.1 ∙ ap Err p.2) ∙ same_answer (sym h)

-- an order that a tree means, and what is counted of its record and its reduction
pub told_accepted
    : (n : ℕ) → n ≤ 128 → (hours : List ℕ) (r : Rel) → Strict n r → (t : Tree) → tree_of n r ≡ Some t → (w : Written) → w ≡ record_of n hours t
    → (red : List (List ℕ)) → ((u v : ℕ) → holds red u v ≡ covers n r u v) → (count : ℕ) → count ≡ length (pairs_of n (holds red))
    → answer 0 w.count count w.groups 0 ≡ (decomposed roomy n hours r).verdict
unfolding accept
told_accepted n few hours r strict t e w is red same count counts =
    rw (bytes_count n few r strict t e hours w is, counts ∙ ap length (reduced_pairs n r red same), ap (λ (w : Written). w.groups) is)
    (sym (same_answer (tree_outcome roomy n hours r t strict e ∙ fits_roomy n hours r t few strict (tree_of_sound n r t strict e).0.spans)))
