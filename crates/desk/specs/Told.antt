-- What a call hands back and leaves in the areas, by the outcome.
use Rattle.std.specs.Prelude.{ℕ, ◌≡◌, List, length}
use Rattle.poset.specs.Areas.{overlay, padded, arc_bytes}
use Rattle.analysis.specs.Outcome.{Outcome}
use Rattle.longest.specs.Outcome.{RunOutcome}
use Rattle.gangs.specs.Outcome.{GangOutcome}
use Rattle.reason.specs.Outcome.{ReasonOutcome}
use Rattle.desk.specs.Packed.{packed}
use Rattle.desk.specs.declared.Plan.{Plan}
use Rattle.desk.specs.declared.Reason.{Reason}
use Rattle.desk.specs.declared.Run.{Run}

-- the answer as one number, and both areas after the call
pub record Told (o : Outcome) (bytes area : List ℕ) (r : ℕ) (bytes' area' : List ℕ) : Type 0 where
  pub answers : r ≡ packed o.verdict
  pub record_is : bytes' ≡ overlay o.bytes bytes
  pub arcs_are : area' ≡ overlay (arc_bytes o.arcs) area

-- the answer as one number, the total, how many jobs, and these in the first entries of 128, the others 0
pub record RunTold (o : RunOutcome) (r : Run) : Type 0 where
  pub answers : r.answer ≡ packed o.verdict
  pub total_is : r.total ≡ o.total
  pub count_is : r.count ≡ length o.jobs
  pub jobs_are : r.jobs ≡ padded o.jobs

-- the answer as one number, how many gangs, and in the first entries of 128 the hours of each gang and the gang of each job, the others 0
pub record GangsTold (o : GangOutcome) (r : Plan) : Type 0 where
  pub answers : r.answer ≡ packed o.verdict
  pub count_is : r.count ≡ o.count
  pub hours_are : r.hours ≡ padded o.hours
  pub gangs_are : r.gangs ≡ padded o.gangs

-- the answer as one number, the rule, the position and how many jobs
pub record ReasonTold (o : ReasonOutcome) (r : Reason) : Type 0 where
  pub answers : r.answer ≡ packed o.verdict
  pub rule_is : r.rule ≡ o.rule
  pub position_is : r.position ≡ o.position
  pub jobs_are : r.jobs ≡ o.jobs
