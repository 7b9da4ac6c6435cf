-- What is known of the lists after a sheet is read.
use Prim.Native.Nat.{ℕ, ◌*◌, ◌≤◌, ◌<◌}
use Rattle.std.specs.Prelude.{Result, Ok, Err}
use mathlib.Core.Path.{◌≡◌, refl, sym, ap, ◌∙◌}
use mathlib.Core.List.{List}
use mathlib.Core.Bool.{Bool, true, false}
use mathlib.Core.Logic.{◌⊎◌, ⊎_elim}
use native.Mathlib.Decide.{dec_lt}
use native.Mathlib.Omega.{arith}
use lib.ListN.{length, take}
use Rattle.poset.specs.Areas.{arc_bytes}
use Rattle.poset.specs.Order.{Arc}
use Rattle.poset.proofs.Laws.{clash}
use Rattle.sheet.specs.Scan.{Read, sheet, broken, scan}
use Rattle.sheet.specs.Listing.{hours_listing, result_of, hours_in, arcs_in, Answers}
use Rattle.sheet.specs.declared.Sheet.{Sheet}
use Rattle.sheet.specs.declared.Broken.{Broken}
use Rattle.sheet.proofs.Listing.{hours_length, hours_front, listing_length, listing_front}
use Rattle.sheet.proofs.Theorems.{scan_sheet}
use Rattle.analysis.proofs.Lengths.{form_long}

abbrev is_sheet : Result Sheet Broken → Bool
is_sheet (Ok x) = true
is_sheet (Err b) = false

abbrev jobs : Result Sheet Broken → ℕ
jobs (Ok x) = x.jobs
jobs (Err b) = b.at

abbrev arc_count : Result Sheet Broken → ℕ
arc_count (Ok x) = x.arcs
arc_count (Err b) = 0

-- the hours and the arcs of a sheet that is read, and where they are
pub record SheetLists (s : List ℕ) (n count : ℕ) (times list : List ℕ) : Type 0 where
  pub hours : List ℕ
  pub arcs : List Arc
  pub read_is : scan s ≡ sheet n hours arcs
  pub size : length arcs ≡ count
  pub hours_front : n ≤ 128 → take n times ≡ hours
  pub few : count ≤ 4096 → 2 * count ≤ length list
  pub front : count ≤ 4096 → take (2 * count) list ≡ arc_bytes arcs

-- what a read of a sheet leaves in a list for 128 jobs and in one with room for 4,096 arcs, or for all that so many bytes may have
module _ (s held_hours held : List ℕ) (r : Result Sheet Broken) (times list : List ℕ) (a : Answers (scan s) held_hours held r times list) where
  pub sheet_lists
      : (n count : ℕ) → r ≡ Ok (record { jobs = n; arcs = count }) → length held_hours ≡ 128 → (8192 ≤ length held) ⊎ (length s ≤ 2 * length held)
      → SheetLists s n count times list
  unfolding result_of hours_in arcs_in
  sheet_lists n count e room size = go (scan s) refl a
    where
      go : (x : Read) → scan s ≡ x → Answers x held_hours held r times list → SheetLists s n count times list
      go (broken p hours arcs) is b = absurd (clash (ap is_sheet e) (ap is_sheet b.result))
      go (sheet m hours arcs) is b =
          let same = sym e ∙ b.result in
          let long : count ≡ length arcs = ap arc_count same in
          let jobs_are : m ≡ n = sym (ap jobs same) in
          let read : scan s ≡ sheet n hours arcs = is ∙ ap (λ k. sheet k hours arcs) jobs_are in
          let each : length hours ≡ n = ((scan_sheet s n hours arcs).0 read).jobs in
          let fits : count ≤ 4096 → 2 * count ≤ length held =
          λ few. ⊎_elim (λ (l : 8192 ≤ length held). omega arith) (λ l. omega (arith, form_long s n hours arcs ((scan_sheet s n hours arcs).0 read))) size in
          record {
            hours = hours;
            arcs = arcs;
            read_is = read;
            size = sym long;
            hours_front =
                λ few.
                ap (take n) b.hours_listed
                ∙ ap (λ k. take k (hours_listing hours held_hours)) (sym each)
                ∙ hours_front hours held_hours (omega arith);
            few = λ few. omega (arith, fits few, ap length b.listed, listing_length arcs held);
            front = λ few. ap (λ k. take (2 * k) list) long ∙ ap (take (2 * length arcs)) b.listed ∙ listing_front arcs held (omega (arith, long, fits few));
          }

  pub broken_read : (p : ℕ) → r ≡ Err (record { at = p }) → scan s ≡ broken p (hours_in (scan s)) (arcs_in (scan s))
  unfolding result_of hours_in arcs_in
  broken_read p e = go (scan s) a
    where
      go : (x : Read) → Answers x held_hours held r times list → x ≡ broken p (hours_in x) (arcs_in x)
      go (sheet m hours arcs) b = absurd (clash (ap is_sheet b.result) (ap is_sheet e))
      go (broken q hours arcs) b = ap (λ k. broken k hours arcs) (ap jobs (sym b.result ∙ e))

  pub hours_long : length times ≡ length held_hours
  hours_long = ap length a.hours_listed ∙ hours_length (hours_in (scan s)) held_hours

  pub list_long : length list ≡ length held
  list_long = ap length a.listed ∙ listing_length (arcs_in (scan s)) held

-- so many numbers are looked at as the list has
pub looked_within
    : (count looked room : ℕ) → (count ≤ 4096 → looked ≡ 2 * count) → (4096 < count → looked ≡ 0) → (count ≤ 4096 → 2 * count ≤ room) → looked ≤ room
looked_within count looked room few many fits =
    elim (dec_lt 4096 count) [ yes l ↦ omega (arith, many l) | no l ↦ omega (arith, few (omega arith), fits (omega arith)) ]
