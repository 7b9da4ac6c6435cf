-- What is told of bytes.
use Prim.Native.Nat.{ℕ, ◌*◌, ◌≤◌, ◌<◌}
use mathlib.Core.Path.{◌≡◌, refl, sym, ap, ◌∙◌}
use mathlib.Core.List.{List, [], map}
use mathlib.Core.Logic.{◌⊎◌}
use native.Mathlib.Decide.{dec_lt}
use native.Mathlib.Omega.{arith}
use lib.Dec.{eqb}
use lib.ListN.{get_or, get_or-eq_default}
use Rattle.poset.specs.Lists.{sum, below}
use Rattle.poset.specs.Order.{Rel}
use Rattle.poset.specs.Tree.{Tree, Means}
use Rattle.poset.proofs.Laws.{mem_below, keep_agree}
use Rattle.poset.proofs.Sums
use Rattle.poset.proofs.Sums.{sum_agree}
use Rattle.record.specs.Layout.{most_hours, hours_of, IsRecord}
use Rattle.record.proofs.Entries.{made, length_below, hours_most}
use Rattle.record.proofs.Sizes.{length_leaves}
use Rattle.analysis.specs.Answer.{answer}
use Rattle.analysis.proofs.Asked.{Answered, question, ask_verdict, ask_told}
use Rattle.gangs.specs.Antichains.{IsFewest, AreLoads}
use Rattle.gangs.specs.Gangs.{gang_count, gang, gang_hours}
use Rattle.gangs.specs.Outcome.{GangOutcome, gang_outcome, IsPlan}
use Rattle.gangs.proofs.Fewest.{count_short, tree_fewest, gang_hours_lem, loads_most, tree_loads}

-- the question for the fewest gangs

abbrev no_gangs : GangOutcome
no_gangs = record { verdict = answer 11 0 0 0 0; count = 0; hours = []; gangs = [] }

abbrev tree_gangs : ℕ → Tree → List ℕ → GangOutcome
tree_gangs n t hours =
    record {
      verdict = answer 0 0 0 0 0;
      count = gang_count t;
      hours = map (gang_hours n (hours_of hours) t) (below (gang_count t));
      gangs = map (gang t) (below n);
    }

abbrev pub plans : Answered GangOutcome
plans = record { refused = no_gangs; told = tree_gangs; verdict = λ o. o.verdict; refuses = refl; accepts = λ n t hours. refl }

pub gangs_verdict : (bytes : List ℕ) → ((gang_outcome bytes).verdict ≡ answer 0 0 0 0 0) ⊎ ((gang_outcome bytes).verdict ≡ answer 11 0 0 0 0)
unfolding gang_outcome
gangs_verdict = ask_verdict plans

pub gangs_told : (bytes : List ℕ) (n : ℕ) (t : Tree) (hours : List ℕ) → IsRecord bytes n t hours → gang_outcome bytes ≡ tree_gangs n t hours
unfolding gang_outcome
gangs_told = ask_told (question plans)

-- what holds of gangs and of loads holds of others that are the same below n and below the count

module _ {n : ℕ} {count : ℕ} {f g : ℕ → ℕ} (same : (u : ℕ) → u < n → g u ≡ f u) where
  fewest_same : {r : Rel} → IsFewest n r count f → IsFewest n r count g
  fewest_same x =
      record {
        partition =
            record {
              numbered = λ u l. omega (arith, same u l, x.partition.numbered u l);
              ordered = λ u v p q e. x.partition.ordered u v p q (sym (same u p) ∙ e ∙ same v q);
            };
        none_empty = λ h l. let (u, i, e) = x.none_empty h l in (u, i, same u i ∙ e);
        antichain = x.antichain;
        largest = x.largest;
        fewest = x.fewest;
      }

  loads_same : {hours a b : ℕ → ℕ} → ((h : ℕ) → h < count → b h ≡ a h) → AreLoads n hours count f a → AreLoads n hours count g b
  loads_same {hours} {a} {b} loads x =
      record {
        each = λ h l.
            loads h l ∙ x.each h l
            ∙ ap (sum hours) (keep_agree (λ u. eqb (f u) h) (λ u. eqb (g u) h) (below n) (λ u m. ap (λ (i : ℕ). eqb i h) (sym (same u (mem_below n m)))));
        together = sum_agree b a (below count) (λ h m. loads h (mem_below count m)) ∙ x.together;
      }

tree_plan : (n : ℕ) (r : Rel) (t : Tree) (hours : List ℕ) → Means n t r → IsPlan n r (hours_of hours) (tree_gangs n t hours)
tree_plan n r t hours means =
    let gangs_are : (u : ℕ) → u < n → get_or (map (gang t) (below n)) u 0 ≡ gang t u = made (gang t) n in
    record {
      one_each = length_below (gang t) n;
      fewest = fewest_same gangs_are (tree_fewest n r t means);
      load_each = length_below (gang_hours n (hours_of hours) t) (gang_count t);
      loads = loads_same gangs_are (made (gang_hours n (hours_of hours) t) (gang_count t)) (tree_loads n (hours_of hours) t);
    }

-- the gangs of a record, in the order that its tree means

module _ (bytes : List ℕ) (n : ℕ) (t : Tree) (hours : List ℕ) (spells : IsRecord bytes n t hours) where
  pub record_plan : (r : Rel) → Means n t r → IsPlan n r (hours_of hours) (gang_outcome bytes)
  record_plan r means = rw (gangs_told bytes n t hours spells) (tree_plan n r t hours means)

  pub count_small : (gang_outcome bytes).count ≤ n
  count_small =
      omega (
        arith,
        ap (λ (o : GangOutcome). o.count) (gangs_told bytes n t hours spells),
        count_short t,
        length_leaves n t spells.spans,
      )

  pub load_small : (g : ℕ) → get_or (gang_outcome bytes).hours g 0 ≤ most_hours * n
  load_small g =
      rw (gangs_told bytes n t hours spells)
      (elim (dec_lt g (gang_count t)) [
        | yes l ↦
            omega (
              arith,
              made (gang_hours n (hours_of hours) t) (gang_count t) g l,
              gang_hours_lem n (hours_of hours) t g,
              loads_most most_hours (hours_of hours) (hours_most hours spells.small) t g (below n),
              Sums.length_below n,
            )
        | no l ↦
            rw (get_or-eq_default (map (gang_hours n (hours_of hours) t) (below (gang_count t))) 0 {n = g}
            (omega (arith, length_below (gang_hours n (hours_of hours) t) (gang_count t))))
            (omega arith)
      ])
