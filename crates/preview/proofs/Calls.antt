-- What the analysis of the list with the order at its end hands back, called with any areas.
use Prim.Native.Nat.{ℕ, ◌*◌, ◌≤◌, ◌<◌}
use mathlib.Core.Path.{◌≡◌, subst, ◌∙◌}
use mathlib.Core.List.{List}
use mathlib.Core.Logic.{◌≢◌}
use lib.ListN.{length}
use Rattle.std.specs.Prelude.{Result}
use Rattle.analysis.specs.Answer.{Answer, answer}
use Rattle.analysis.specs.Outcome.{roomy, refuse, pair_outcome}
use Rattle.analysis.specs.Result.{analysis_answer, rooms, Gives}
use Rattle.analysis.specs.declared.Analysis.{Analysis}
use Rattle.analysis.specs.declared.Refusal.{Refusal}
use Rattle.analysis.proofs.Demands.{untouched_pairs, unchanged}
use Rattle.preview.specs.Outcome.{with_order, previewed}
use Rattle.preview.proofs.Answering.{same_answer}
use Rattle.preview.proofs.Rooms.{InRooms, pairs_in, refused_anyhow, accepted_fits, accepted_9, accepted_10, agrees}

module _
    (n : ℕ) (hours list : List ℕ) (first second : ℕ) {bytes area bytes' area' : List ℕ} {r : Result Analysis Refusal}
    (call : Gives (pair_outcome (rooms bytes area) n hours (with_order list first second)) bytes area r bytes' area') where
  abbrev copy : List ℕ
  copy = with_order list first second

  both : InRooms (rooms bytes area) (pair_outcome roomy n hours copy) (pair_outcome (rooms bytes area) n hours copy)
  both = pairs_in (rooms bytes area) n hours copy

  pub call_refuses : (previewed n hours list first second).number ≢ 0
      → (analysis_answer r ≡ previewed n hours list first second) × (bytes' ≡ bytes) × (area' ≡ area)
  unfolding previewed
  call_refuses h =
      let same = same_answer (refused_anyhow both h) in
      let kept = unchanged call (untouched_pairs (rooms bytes area) n hours copy (λ z. h (subst (λ (a : Answer). a.number ≡ 0) same z))) in
      (call.answers ∙ same, kept.0, kept.1)

  pub call_accepts : (previewed n hours list first second).number ≡ 0 → (previewed n hours list first second).first ≤ length bytes
      → 2 * (previewed n hours list first second).second ≤ length area → analysis_answer r ≡ previewed n hours list first second
  unfolding previewed
  call_accepts h l m = call.answers ∙ same_answer (accepted_fits both h l m)

  pub call_9 : (previewed n hours list first second).number ≡ 0 → length bytes < (previewed n hours list first second).first
      → analysis_answer r ≡ answer 9 0 0 0 0
  unfolding previewed refuse
  call_9 h l = call.answers ∙ same_answer (accepted_9 both h l)

  pub call_10 : (previewed n hours list first second).number ≡ 0 → (previewed n hours list first second).first ≤ length bytes
      → length area < 2 * (previewed n hours list first second).second → analysis_answer r ≡ answer 10 0 0 0 0
  unfolding previewed refuse
  call_10 h l m = call.answers ∙ same_answer (accepted_10 both h l m)

  pub call_agrees : (analysis_answer r).number ≢ 9 → (analysis_answer r).number ≢ 10
      → analysis_answer r ≡ previewed n hours list first second
  unfolding previewed
  call_agrees h k =
      call.answers
      ∙ same_answer
      (agrees both (subst (λ (a : Answer). a.number ≢ 9) call.answers h) (subst (λ (a : Answer). a.number ≢ 10) call.answers k))
