-- A record's nodes as they are read, and what is told of its longest run.
use Prim.Native.Nat.{ℕ}
use mathlib.Core.Path.{◌≡◌, refl, ap, ◌∙◌}
use mathlib.Core.List.{List}
use Rattle.std.specs.Prelude.{None}
use native.Mathlib.Omega.{arith}
use lib.ListN.{length}
use Rattle.poset.specs.Areas.{padded}
use Rattle.poset.specs.Tree.{leaves}
use Rattle.poset.proofs.Laws.{mem_count, count_mem}
use Rattle.record.specs.Layout.{hours_of}
use Rattle.record.specs.Decode.{decode}
use Rattle.reader.specs.declared.NodeList.{NodeList}
use Rattle.reader.proofs.Decoded.{Decoded, same_hours, once, small}
use Rattle.analysis.specs.declared.Refusal.TheVariants as refused
use Rattle.longest.specs.Longest.{WorkRun, longest}
use Rattle.longest.specs.Outcome.{run_outcome, ShowsRun, ShowsRefusal}
use Rattle.longest.specs.Stack.{Found, Linked, Shown}
use Rattle.longest.specs.declared.stack.Run.{Run}
use Rattle.longest.specs.declared.showing.Showing.{Showing}
use Rattle.longest.proofs.Measures.{run_short, run_of_leaves}

pub shows_11 : (bytes : List ℕ) → decode bytes ≡ None
    → ShowsRefusal (run_outcome bytes) refused.NoRecord
unfolding run_outcome
shows_11 bytes e = rw (run_outcome, e) (record { answers = refl; total_is = refl; jobs_are = refl })

module _ {bytes : List ℕ} {x : NodeList} (d : Decoded bytes x) where
  abbrev pub run : WorkRun
  run = longest (hours_of x.hours) d.tree

  pub linked : (next : List ℕ) (r : Run) → Found run next r → Linked next r.first r.last run.1
  linked next r found =
      record {
        strand = found.strand;
        once = λ u. omega (arith, run_of_leaves u (hours_of x.hours) d.tree, once d u);
        small = (
          λ u m. (small d).0 u (count_mem u (leaves d.tree) (omega (arith, mem_count m, run_of_leaves u (hours_of x.hours) d.tree))),
          omega (arith, run_short (hours_of x.hours) d.tree, (small d).1),
        );
      }

  pub shows_run : (next : List ℕ) (r : Run) (s : Showing) → Found run next r → Shown run.1 s
      → ShowsRun (run_outcome bytes) (record { total = r.total; count = s.count; jobs = s.jobs })
  unfolding run_outcome
  shows_run next r s found shown =
      let same : run ≡ longest (hours_of d.hours) d.tree = ap (λ (h : ℕ → ℕ). longest h d.tree) (same_hours d) in
      rw (run_outcome, d.decodes)
      (record {
        answers = refl;
        total_is = found.total_is ∙ ap (λ (a : WorkRun). a.0) same;
        count_is = shown.count_is ∙ ap (λ (a : WorkRun). length a.1) same;
        jobs_are = shown.jobs_are ∙ ap (λ (a : WorkRun). padded a.1) same;
      })
