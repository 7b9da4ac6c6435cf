-- What the call hands back. (Document 02, A.6, and A.3 for every later request: bytes that are no record give 11; then a job number that is not
-- below the count gives 14; acceptance has places of 0, since no record is written; with a refusal rule, position and number are 0.)
use Rattle.std.specs.Prelude.{ℕ, ◌≤◌, ◌≡◌, ◌&&◌, cond, List, [], ◌∷◌, ◌⊎◌, ltb, length, None, Some, Result, MatchResult}
use Rattle.poset.specs.Tree.{Tree, leaves}
use Rattle.record.specs.Decode.{decode}
use Rattle.record.specs.Layout.{IsRecord}
use Rattle.analysis.specs.Answer.{Answer, answer}
use Rattle.analysis.specs.Result.{refusal_answer}
use Rattle.analysis.specs.declared.Refusal.{Refusal}
use Rattle.analysis.specs.Sentences.{First, accepted}
use Rattle.reason.specs.Lowest.{lowest, rule}
use Rattle.reason.specs.declared.Reason.{Reason}
use Rattle.reason.specs.declared.Rule.{Rule}
use Rattle.reason.specs.declared.Rule.TheVariants as stand

-- the answer, the rule, the position of the lowest node over both jobs, and how many jobs are under it
pub record ReasonOutcome : Type 0 where
  pub verdict : Answer
  pub rule : ℕ
  pub position : ℕ
  pub jobs : ℕ

-- a refusal has its number and nothing else
abbrev pub turned_away : ℕ → ReasonOutcome
turned_away k = record { verdict = answer k 0 0 0 0; rule = 0; position = 0; jobs = 0 }

-- of two jobs of a tree: the lowest node over both
unfoldable pub tree_reason : Tree → ℕ → ℕ → ReasonOutcome
tree_reason t u v =
    let (p, s) = lowest u v t in
    record { verdict = answer 0 0 0 0 0; rule = rule u v s; position = p; jobs = length (leaves s) }

-- 11: the bytes are no record; 14: a job number is not below the count
unfoldable pub reason_outcome : List ℕ → ℕ → ℕ → ReasonOutcome
reason_outcome bytes u v =
    elim (decode bytes) [
      | None ↦ turned_away 11
      | Some x ↦ cond (ltb u x.0 && ltb v x.0) (tree_reason x.1 u v) (turned_away 14)
    ]

-- the papers' number of a rule: 1 the same job, 2 the first before the second, 3 the second before the first, 4 free
abbrev pub rule_number : Rule → ℕ
rule_number stand.Same = 1
rule_number stand.Before = 2
rule_number stand.After = 3
rule_number stand.Free = 4

-- a reason, by an outcome that is no refusal
pub record ShowsReason (o : ReasonOutcome) (r : Reason) : Type 0 where
  pub answers : answer 0 0 0 0 0 ≡ o.verdict
  pub rule_is : rule_number r.rule ≡ o.rule
  pub position_is : r.position ≡ o.position
  pub jobs_are : r.jobs ≡ o.jobs

-- a refusal, by an outcome that has its number and nothing else
pub record ShowsRefusal (o : ReasonOutcome) (e : Refusal) : Type 0 where
  pub answers : refusal_answer e ≡ o.verdict
  pub rule_is : 0 ≡ o.rule
  pub position_is : 0 ≡ o.position
  pub jobs_are : 0 ≡ o.jobs

-- what the call hands back, by the outcome
abbrev pub Shows : ReasonOutcome → Result Reason Refusal → Type 0
Shows o r = MatchResult r (ShowsReason o) (ShowsRefusal o)

-- k is the right number for bytes and two jobs
abbrev pub ReasonNumber : List ℕ → ℕ → ℕ → ℕ → Type 0
ReasonNumber bytes u v =
    First ((11, (n : ℕ) (t : Tree) (hours : List ℕ) → IsRecord bytes n t hours → ⊥) ∷ [])
    (λ k. (n : ℕ) × (t : Tree) × (hours : List ℕ) × IsRecord bytes n t hours × First ((14, (n ≤ u) ⊎ (n ≤ v)) ∷ []) accepted k)
