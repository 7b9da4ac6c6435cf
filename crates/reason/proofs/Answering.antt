-- What is told of two jobs of a record's nodes.
use Prim.Native.Nat.{ℕ, ◌≤◌, ◌<◌}
use mathlib.Core.Path.{◌≡◌, refl, ap, ◌∙◌}
use mathlib.Core.Bool.{true, false, ◌&&◌}
use mathlib.Core.List.{List}
use mathlib.Core.Logic.{◌⊎◌, inl, inr}
use Rattle.std.specs.Prelude.{None}
use native.Mathlib.Omega.{arith}
use lib.Dec.{ltb}
use lib.ListN.{length, take}
use Rattle.poset.specs.Tree.{Tree, leaves}
use Rattle.poset.proofs.Laws.{false_unless, and_left, and_right, and_intro, lt_true, ltb-true}
use Rattle.poset.proofs.Meaning.{spans_holds}
use Rattle.record.specs.Decode.{decode}
use Rattle.reader.specs.declared.NodeList.{NodeList}
use Rattle.reader.proofs.Backward.{listed_part}
use Rattle.reader.proofs.Decoded.{Decoded, listed}
use Rattle.analysis.specs.declared.Refusal.TheVariants as refused
use Rattle.reason.specs.Lowest.{rule}
use Rattle.reason.specs.Outcome.{tree_reason, reason_outcome, ShowsReason, ShowsRefusal}
use Rattle.reason.specs.Rows.{Sought, Decided}
use Rattle.reason.specs.declared.seeking.Decision.{Decision}
use Rattle.reason.proofs.Lowest.{lowest_at, lowest_only}

pub shows_11 : (bytes : List ℕ) (u v : ℕ) → decode bytes ≡ None
    → ShowsRefusal (reason_outcome bytes u v) refused.NoRecord
unfolding reason_outcome
shows_11 bytes u v e = rw (reason_outcome, e) (record { answers = refl; rule_is = refl; position_is = refl; jobs_are = refl })

-- whether both jobs are below the count

pub both_below : (u v n : ℕ) → u < n → v < n → (ltb u n && ltb v n) ≡ true
both_below u v n p q = and_intro (ltb u n) (ltb v n) (lt_true u n p) (lt_true v n q)

pub not_below : (u v n : ℕ) → (n ≤ u) ⊎ (n ≤ v) → (ltb u n && ltb v n) ≡ false
not_below u v n h = false_unless (ltb u n && ltb v n) (λ b. by b h)
  where
    by : (ltb u n && ltb v n) ≡ true → (n ≤ u) ⊎ (n ≤ v) → ⊥
    by b (inl l) = omega (arith, ltb-true u n (and_left (ltb u n) (ltb v n) b))
    by b (inr l) = omega (arith, ltb-true v n (and_right (ltb u n) (ltb v n) b))

module _ {bytes : List ℕ} {x : NodeList} (d : Decoded bytes x) (u v : ℕ) where
  pub shows_14 : (x.jobs ≤ u) ⊎ (x.jobs ≤ v) → ShowsRefusal (reason_outcome bytes u v) refused.NoJob
  unfolding reason_outcome
  shows_14 h =
      rw (reason_outcome, d.decodes, not_below u v d.jobs (rw d.jobs_are at h))
      (record { answers = refl; rule_is = refl; position_is = refl; jobs_are = refl })

  -- the nodes alone
  abbrev nodes : List ℕ
  nodes = take x.count x.tokens

  module _ (p : u < x.jobs) (q : v < x.jobs) where
    pub sought : Sought u v d.tree nodes (length nodes)
    sought =
        record {
          jobs = d.jobs;
          spans = d.spells.spans;
          first_below = omega (arith, p, d.jobs_are);
          second_below = omega (arith, q, d.jobs_are);
          nodes = listed_part (listed d);
        }

    pub shows_reason : {r : Decision} (f : Decided u v d.tree nodes r) (n : ℕ) → n ≡ length (leaves f.lowest)
        → ShowsReason (reason_outcome bytes u v) (record { rule = r.rule; position = r.position; jobs = n })
    unfolding reason_outcome tree_reason sought
    shows_reason f n is =
        let (once, holds) = spans_holds d.jobs d.tree d.spells.spans in
        let (place, node) =
        lowest_only u v d.tree once f.at
        (lowest_at u v d.tree once (holds.outside u sought.first_below) (holds.outside v sought.second_below)) in
        rw (reason_outcome, d.decodes, both_below u v d.jobs sought.first_below sought.second_below)
        (record {
          answers = refl;
          rule_is = f.rule_is ∙ ap (rule u v) node;
          position_is = place;
          jobs_are = is ∙ ap (λ (s : Tree). length (leaves s)) node;
        })
