-- What the call hands back. (Document 02, A.5, and A.3 for every later request: bytes that are no record give 11; acceptance has places of 0, since
-- no record is written; with a refusal there are no gangs, no hours and no gang numbers.)
use Rattle.std.specs.Prelude.{ℕ, ◌≡◌, List, [], map, length, get_or, None, Some, Result, MatchResult}
use Rattle.poset.specs.Areas.{padded}
use Rattle.poset.specs.Lists.{below}
use Rattle.poset.specs.Order.{Rel}
use Rattle.record.specs.Layout.{hours_of}
use Rattle.record.specs.Decode.{decode}
use Rattle.analysis.specs.Answer.{Answer, answer}
use Rattle.analysis.specs.Result.{refusal_answer}
use Rattle.analysis.specs.declared.Refusal.{Refusal}
use Rattle.gangs.specs.Antichains.{IsFewest, AreLoads}
use Rattle.gangs.specs.Gangs.{gang_count, gang, gang_hours}
use Rattle.gangs.specs.declared.GangPlan.{GangPlan}

-- the answer, how many gangs, the hours of each, and the gang of each job
pub record GangOutcome : Type 0 where
  pub verdict : Answer
  pub count : ℕ
  pub hours : List ℕ
  pub gangs : List ℕ

unfoldable pub gang_outcome : List ℕ → GangOutcome
gang_outcome bytes =
    elim (decode bytes) [
      | None ↦ record { verdict = answer 11 0 0 0 0; count = 0; hours = []; gangs = [] }
      | Some x ↦
          let n = x.0 in
          let t = x.1 in
          record {
            verdict = answer 0 0 0 0 0;
            count = gang_count t;
            hours = map (gang_hours n (hours_of x.2) t) (below (gang_count t));
            gangs = map (gang t) (below n);
          }
    ]

-- a plan, by an outcome that is no refusal: how many gangs, and in the first entries of 128 the hours of each gang and the gang of each job, the
-- others 0
pub record ShowsPlan (o : GangOutcome) (r : GangPlan) : Type 0 where
  pub answers : answer 0 0 0 0 0 ≡ o.verdict
  pub count_is : r.count ≡ o.count
  pub hours_are : r.hours ≡ padded o.hours
  pub gangs_are : r.gangs ≡ padded o.gangs

-- a refusal, by an outcome that has its number and nothing else
pub record ShowsRefusal (o : GangOutcome) (e : Refusal) : Type 0 where
  pub answers : refusal_answer e ≡ o.verdict
  pub count_is : 0 ≡ o.count
  pub hours_are : [] ≡ o.hours
  pub gangs_are : [] ≡ o.gangs

-- what the call hands back, by the outcome
abbrev pub Shows : GangOutcome → Result GangPlan Refusal → Type 0
Shows o r = MatchResult r (ShowsPlan o) (ShowsRefusal o)

-- what is handed back of an order on n jobs with these hours: the fewest gangs, a number for each job, and the hours of each gang
pub record IsPlan (n : ℕ) (r : Rel) (hours : ℕ → ℕ) (o : GangOutcome) : Type 0 where
  pub one_each : length o.gangs ≡ n
  pub fewest : IsFewest n r o.count (λ u. get_or o.gangs u 0)
  pub load_each : length o.hours ≡ o.count
  pub loads : AreLoads n hours o.count (λ u. get_or o.gangs u 0) (λ g. get_or o.hours g 0)
