-- All that this crate promises. Each theorem is stated in full and cited. (Document 02, A.7)
use Prim.Native.Nat.{ℕ, ◌*◌, ◌/◌, ◌%◌, ◌≤◌, ◌<◌}
use mathlib.Core.Path.{◌≡◌}
use mathlib.Core.Bool.{true}
use mathlib.Core.List.{List, map}
use mathlib.Core.Logic.{◌⊎◌, ◌↔◌, ◌≢◌}
use lib.ListN.{length}
use Rattle.std.specs.Prelude.{Result}
use Rattle.poset.specs.Order.{Run, before, HasN, reduction}
use Rattle.poset.specs.Tree.{Tree, groups, Means, canonical}
use Rattle.relation.specs.Arcs.{pairs}
use Rattle.record.specs.Layout.{layout}
use Rattle.analysis.specs.Answer.{answer}
use Rattle.analysis.specs.Claims.{Named, Unnamed}
use Rattle.analysis.specs.Outcome.{roomy, pair_outcome}
use Rattle.analysis.specs.Result.{analysis_answer, rooms, Gives}
use Rattle.analysis.specs.declared.Analysis.{Analysis}
use Rattle.analysis.specs.declared.Refusal.{Refusal}
use Rattle.preview.specs.Outcome.{with_order, previewed, orders_with, PreviewNumber}
use Rattle.preview.proofs.Numbers
use Rattle.preview.proofs.Calls
use Rattle.preview.proofs.Drafts
use Rattle.preview.proofs.Examples
use Rattle.preview.proofs.Examples.{Example, examples}

-- Of a call of `analyse_pairs` for the list with the order at its end, with any two areas: what it hands back is, by its promise, what `Gives` says.

module _
    (n : ℕ) (hours list : List ℕ) (first second : ℕ) {bytes area bytes' area' : List ℕ} {r : Result Analysis Refusal}
    (call : Gives (pair_outcome (rooms bytes area) n hours (with_order list first second)) bytes area r bytes' area') where
  -- if the preview refuses, so does the analysis, with the same number and places, whatever the areas are, and they stay as they were
  pub preview_refuses : (previewed n hours list first second).number ≢ 0
      → (analysis_answer r ≡ previewed n hours list first second) × (bytes' ≡ bytes) × (area' ≡ area)
  preview_refuses = Calls.call_refuses n hours list first second call

  -- if it accepts, so does the analysis, with the same places, where the areas are as long as these places say
  pub preview_accepts : (previewed n hours list first second).number ≡ 0 → (previewed n hours list first second).first ≤ length bytes
      → 2 * (previewed n hours list first second).second ≤ length area → analysis_answer r ≡ previewed n hours list first second
  preview_accepts = Calls.call_accepts n hours list first second call

  -- where they are not, it is 9 or 10
  pub preview_accepts_9 : (previewed n hours list first second).number ≡ 0 → length bytes < (previewed n hours list first second).first
      → analysis_answer r ≡ answer 9 0 0 0 0
  preview_accepts_9 = Calls.call_9 n hours list first second call

  pub preview_accepts_10 : (previewed n hours list first second).number ≡ 0 → (previewed n hours list first second).first ≤ length bytes
      → length area < 2 * (previewed n hours list first second).second → analysis_answer r ≡ answer 10 0 0 0 0
  preview_accepts_10 = Calls.call_10 n hours list first second call

  -- and whatever the analysis answers beside 9 and 10, the preview had answered
  pub preview_agrees : (analysis_answer r).number ≢ 9 → (analysis_answer r).number ≢ 10 → analysis_answer r ≡ previewed n hours list first second
  preview_agrees = Calls.call_agrees n hours list first second call

-- The number is that of the first sentence in checking order that holds of the list with the order, up to 8, or 0; the places are those that it names.

pub preview_number
    : (n : ℕ) (hours list : List ℕ) (first second : ℕ) → PreviewNumber n hours list first second (previewed n hours list first second).number
preview_number = Numbers.preview_number

pub preview_places
    : (n : ℕ) (hours list : List ℕ) (first second : ℕ) → length list % 2 ≡ 0
    → Named n hours (orders_with list first second) (previewed n hours list first second)
preview_places = Numbers.preview_places

-- the places that it does not name are 0
pub preview_unnamed : (n : ℕ) (hours list : List ℕ) (first second : ℕ) → Unnamed (previewed n hours list first second)
preview_unnamed = Numbers.preview_unnamed

-- acceptance has the places of the record and the reduction that the order means
pub preview_yield
    : (n : ℕ) (hours list : List ℕ) (first second : ℕ) → (previewed n hours list first second).number ≡ 0
    → (t : Tree) × Means n t (before n (orders_with list first second)) × (canonical t ≡ true)
    × (previewed n hours list first second
    ≡ answer 0 (length (layout n hours t)) (length (reduction n (before n (orders_with list first second)))) (groups t) 0)
preview_yield = Numbers.preview_yield

-- an odd list is 2 at 0, whatever else is wrong; then 3 comes ahead of 4, which a full list gets whatever the order is

pub preview_odd
    : (n : ℕ) (hours list : List ℕ) (first second : ℕ) → length list % 2 ≡ 1 → previewed n hours list first second ≡ answer 2 0 0 0 0
preview_odd = Numbers.preview_odd

pub preview_count
    : (n : ℕ) (hours list : List ℕ) (first second : ℕ) → length list % 2 ≡ 0 → (n ≡ 0) ⊎ (128 < n)
    → previewed n hours list first second ≡ answer 3 0 0 0 0
preview_count = Numbers.preview_count

pub preview_full
    : (n : ℕ) (hours list : List ℕ) (first second : ℕ) → length list % 2 ≡ 0 → 0 < n → n ≤ 128 → 4096 ≤ length list / 2
    → previewed n hours list first second ≡ answer 4 0 0 0 0
preview_full = Numbers.preview_full

-- Of a list that is accepted and not full, and an order at its end.

module _ (n : ℕ) (hours list : List ℕ) (accepted : (pair_outcome roomy n hours list).verdict.number ≡ 0) (room : length list / 2 < 4096)
    (first second : ℕ) where
  -- a number that is no job, and a job before itself: told with the order's place, the list's own length in orders

  pub draft_outside : (n ≤ first) ⊎ (n ≤ second) → previewed n hours list first second ≡ answer 5 (length list / 2) 0 0 0
  draft_outside = Drafts.draft_5 n hours list accepted room first second

  pub draft_itself : first < n → second < n → first ≡ second → previewed n hours list first second ≡ answer 6 (length list / 2) 0 0 0
  draft_itself = Drafts.draft_6 n hours list accepted room first second

  module _ (first_job : first < n) (second_job : second < n) (differ : first ≢ second) where
    -- a circle exactly where the second job is before the first already

    pub draft_circle : ((previewed n hours list first second).number ≡ 7) ↔ Run (pairs list) second first
    draft_circle = Drafts.draft_7 n hours list accepted room first second first_job second_job differ

    -- an order that the list has already, followed on: the answer stays as it is without it

    pub draft_known : Run (pairs list) first second → previewed n hours list first second ≡ (pair_outcome roomy n hours list).verdict
    draft_known = Drafts.draft_same n hours list accepted room first second first_job second_job differ

    -- any other: crossed exactly where there is an N then, and else accepted

    pub draft_crossed : (Run (pairs list) second first → ⊥)
        → ((previewed n hours list first second).number ≡ 8) ↔ HasN n (before n (orders_with list first second))
    draft_crossed = Drafts.draft_8 n hours list accepted room first second first_job second_job differ

    pub draft_accepted : (Run (pairs list) second first → ⊥)
        → ((previewed n hours list first second).number ≡ 0) ↔ (HasN n (before n (orders_with list first second)) → ⊥)
    draft_accepted = Drafts.draft_0 n hours list accepted room first second first_job second_job differ

-- small lists: accepted, a circle, an N, the order's place, and the list's own faults in checking order
pub shown_previews : map (λ (e : Example). previewed e.0 e.1 e.2 e.3 e.4) examples ≡ map (λ (e : Example). e.5) examples
shown_previews = Examples.shown_previews
