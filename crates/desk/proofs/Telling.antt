-- What an analysis gives, told as one number, a longest run, gangs, and a reason.
use Prim.Native.Nat.{ℕ}
use mathlib.Core.Path.{◌≡◌, refl, ap, ◌∙◌}
use mathlib.Core.List.{List, []}
use lib.ListN.{length}
use Rattle.poset.specs.Areas.{padded}
use Rattle.std.specs.Prelude.{Result, Ok, Err}
use Rattle.analysis.specs.Answer.{Answer}
use Rattle.analysis.specs.Outcome.{Outcome}
use Rattle.analysis.specs.Result.{refusal_answer, analysis_answer, Gives}
use Rattle.analysis.specs.declared.Analysis.{Analysis}
use Rattle.analysis.specs.declared.Refusal.{Refusal}
use Rattle.desk.specs.Packed.{packed, cut}
use Rattle.longest.specs.Outcome as run
use Rattle.longest.specs.Outcome.{RunOutcome}
use Rattle.gangs.specs.Outcome as gangs
use Rattle.gangs.specs.Outcome.{GangOutcome}
use Rattle.reason.specs.Outcome as reason
use Rattle.reason.specs.Outcome.{ReasonOutcome, rule_number}
use Rattle.reason.specs.declared.Reason.{Reason}
use Rattle.desk.specs.declared.Reason.{Reason as ToldReason}
use Rattle.desk.specs.Told.{Told, RunTold, GangsTold, ReasonTold}
use Rattle.desk.proofs.Packing.{Narrow, cut_narrow}

-- the verdict of an outcome, of which nothing is cut off

pub answer_told : {a b : Answer} {r : ℕ} → a ≡ b → Narrow b → r ≡ packed (cut a) → r ≡ packed b
answer_told {b = b} e w h = h ∙ ap (λ x. packed (cut x)) e ∙ ap packed (cut_narrow b w)

pub gives_told
    : {o : Outcome} {bytes area bytes' area' : List ℕ} {a : Result Analysis Refusal} {r : ℕ} → Gives o bytes area a bytes' area' → Narrow o.verdict
    → r ≡ packed (cut (analysis_answer a)) → Told o bytes area r bytes' area'
gives_told g w h = record {
  answers = answer_told g.answers w h;
  record_is = g.record_is;
  arcs_are = g.arcs_are;
}

-- a refusal has its number and nothing else

pub run_refused : {o : RunOutcome} {e : Refusal} {a : Answer} {r : ℕ} → run.ShowsRefusal o e → Narrow o.verdict → a ≡ refusal_answer e → r ≡ packed (cut a)
    → RunTold o (record { answer = r; total = 0; count = 0; jobs = padded [] })
run_refused s w e h = record {
  answers = answer_told (e ∙ s.answers) w h;
  total_is = s.total_is;
  count_is = ap length s.jobs_are;
  jobs_are = ap padded s.jobs_are;
}

pub gangs_refused : {o : GangOutcome} {e : Refusal} {a : Answer} {r : ℕ} → gangs.ShowsRefusal o e → Narrow o.verdict → a ≡ refusal_answer e → r ≡ packed (cut a)
    → GangsTold o (record { answer = r; count = 0; hours = padded []; gangs = padded [] })
gangs_refused s w e h = record {
  answers = answer_told (e ∙ s.answers) w h;
  count_is = s.count_is;
  hours_are = ap padded s.hours_are;
  gangs_are = ap padded s.gangs_are;
}

pub reason_refused : {o : ReasonOutcome} {e : Refusal} {a : Answer} {r : ℕ} → reason.ShowsRefusal o e → Narrow o.verdict → a ≡ refusal_answer e → r ≡ packed (cut a)
    → ReasonTold o (record { answer = r; rule = 0; position = 0; jobs = 0 })
reason_refused s w e h = record {
  answers = answer_told (e ∙ s.answers) w h;
  rule_is = s.rule_is;
  position_is = s.position_is;
  jobs_are = s.jobs_are;
}

-- the struct that the call makes of a reason or of a refusal

abbrev pub reason_made : Result Reason Refusal → ToldReason
reason_made (Ok r) = record { answer = 0; rule = rule_number r.rule; position = r.position; jobs = r.jobs }
reason_made (Err e) = record { answer = packed (cut (refusal_answer e)); rule = 0; position = 0; jobs = 0 }

pub tells_reason : {o : ReasonOutcome} (x : Result Reason Refusal) → reason.Shows o x → Narrow o.verdict → ReasonTold o (reason_made x)
tells_reason (Ok r) s w = record {
  answers = ap packed s.answers;
  rule_is = s.rule_is;
  position_is = s.position_is;
  jobs_are = s.jobs_are;
}
tells_reason (Err e) s w = reason_refused s w refl refl
