-- What is told of bytes.
use Prim.Native.Nat.{ℕ, ◌*◌, ◌≤◌, ◌<◌}
use mathlib.Core.Path.{◌≡◌, refl, ap}
use mathlib.Core.List.{List, []}
use mathlib.Core.Logic.{◌⊎◌}
use native.Mathlib.Omega.{arith}
use lib.ListN.{length}
use Rattle.poset.specs.Order.{Rel}
use Rattle.poset.specs.Tree.{Tree, Means}
use Rattle.record.specs.Layout.{most_hours, hours_of, IsRecord}
use Rattle.record.proofs.Entries.{hours_most}
use Rattle.record.proofs.Sizes.{length_leaves}
use Rattle.analysis.specs.Answer.{answer}
use Rattle.analysis.proofs.Asked.{Answered, question, ask_verdict, ask_told}
use Rattle.longest.specs.Chains.{IsLongest}
use Rattle.longest.specs.Longest.{longest}
use Rattle.longest.specs.Outcome.{RunOutcome, run_outcome}
use Rattle.longest.specs.Schedules.{IsFewest, earliest_start}
use Rattle.longest.proofs.Longest.{longest_is}
use Rattle.longest.proofs.Scheduling.{tree_fewest}
use Rattle.longest.proofs.Measures.{run_small, run_short, run_some}

-- the question for the longest run

abbrev no_run : RunOutcome
no_run = record { verdict = answer 11 0 0 0 0; total = 0; jobs = [] }

abbrev tree_run : ℕ → Tree → List ℕ → RunOutcome
tree_run n t hours = let run = longest (hours_of hours) t in record { verdict = answer 0 0 0 0 0; total = run.0; jobs = run.1 }

abbrev pub runs : Answered RunOutcome
runs = record { refused = no_run; told = tree_run; verdict = λ o. o.verdict; refuses = refl; accepts = λ n t hours. refl }

pub run_verdict : (bytes : List ℕ) → ((run_outcome bytes).verdict ≡ answer 0 0 0 0 0) ⊎ ((run_outcome bytes).verdict ≡ answer 11 0 0 0 0)
unfolding run_outcome
run_verdict = ask_verdict runs

pub run_told : (bytes : List ℕ) (n : ℕ) (t : Tree) (hours : List ℕ) → IsRecord bytes n t hours → run_outcome bytes ≡ tree_run n t hours
unfolding run_outcome
run_told = ask_told (question runs)

-- the run of a record, in the order that its tree means

module _ (bytes : List ℕ) (n : ℕ) (t : Tree) (hours : List ℕ) (spells : IsRecord bytes n t hours) where
  pub run_longest : (r : Rel) → Means n t r → IsLongest n r (hours_of hours) (run_outcome bytes).total (run_outcome bytes).jobs
  run_longest r means = rw (run_told bytes n t hours spells) (longest_is n r t means (hours_of hours))

  pub run_fewest : (r : Rel) → Means n t r → IsFewest n r (hours_of hours) (earliest_start (hours_of hours) t) (run_outcome bytes).total
  run_fewest r means = rw (run_told bytes n t hours spells) (tree_fewest n r t means (hours_of hours))

  pub total_small : (run_outcome bytes).total ≤ most_hours * n
  total_small =
      omega (
        arith,
        ap (λ (o : RunOutcome). o.total) (run_told bytes n t hours spells),
        run_small most_hours (hours_of hours) (hours_most hours spells.small) t,
        ap (λ (k : ℕ). most_hours * k) (length_leaves n t spells.spans),
      )

  pub jobs_within : (0 < length (run_outcome bytes).jobs) × (length (run_outcome bytes).jobs ≤ n)
  jobs_within =
      let told = ap (λ (o : RunOutcome). length o.jobs) (run_told bytes n t hours spells) in (
        omega (arith, told, run_some (hours_of hours) t),
        omega (arith, told, run_short (hours_of hours) t, length_leaves n t spells.spans),
      )
