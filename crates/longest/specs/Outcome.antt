-- What the call hands back. (Document 02, A.3: bytes that are no record give 11; acceptance has places of 0, since no record is written; with
-- a refusal the total is 0 and there are no jobs.)
use Rattle.std.specs.Prelude.{ℕ, ◌≡◌, List, [], length, None, Some, Result, MatchResult}
use Rattle.poset.specs.Areas.{padded}
use Rattle.record.specs.Layout.{hours_of}
use Rattle.record.specs.Decode.{decode}
use Rattle.analysis.specs.Answer.{Answer, answer}
use Rattle.analysis.specs.Result.{refusal_answer}
use Rattle.analysis.specs.declared.Refusal.{Refusal}
use Rattle.longest.specs.Longest.{longest}
use Rattle.longest.specs.declared.LongestRun.{LongestRun}

-- the answer, the total, and the jobs of the run, earliest first
pub record RunOutcome : Type 0 where
  pub verdict : Answer
  pub total : ℕ
  pub jobs : List ℕ

unfoldable pub run_outcome : List ℕ → RunOutcome
run_outcome bytes =
    elim (decode bytes) [
      | None ↦ record { verdict = answer 11 0 0 0 0; total = 0; jobs = [] }
      | Some x ↦ let run = longest (hours_of x.2) x.1 in record { verdict = answer 0 0 0 0 0; total = run.0; jobs = run.1 }
    ]

-- a run, by an outcome that is no refusal: the total, how many jobs, and these in the first entries of 128, the others 0
pub record ShowsRun (o : RunOutcome) (r : LongestRun) : Type 0 where
  pub answers : answer 0 0 0 0 0 ≡ o.verdict
  pub total_is : r.total ≡ o.total
  pub count_is : r.count ≡ length o.jobs
  pub jobs_are : r.jobs ≡ padded o.jobs

-- a refusal, by an outcome that has its number and nothing else
pub record ShowsRefusal (o : RunOutcome) (e : Refusal) : Type 0 where
  pub answers : refusal_answer e ≡ o.verdict
  pub total_is : 0 ≡ o.total
  pub jobs_are : [] ≡ o.jobs

-- what the call hands back, by the outcome
abbrev pub Shows : RunOutcome → Result LongestRun Refusal → Type 0
Shows o r = MatchResult r (ShowsRun o) (ShowsRefusal o)
