-- Records in the former plain form, read: refused exactly where their tree is not in this one, and exactly where what its order yields is other bytes.
-- Records without hours, read: refused.
use Prim.Native.Nat.{ℕ, ◌^◌, ◌%◌, ◌≤◌, ◌<◌}
use mathlib.Core.Path.{◌≡◌, sym, ap, subst, ◌∙◌}
use mathlib.Core.List.{List}
use mathlib.Core.Bool.{true, false}
use Rattle.std.specs.Prelude.{None}
use mathlib.Core.Logic.{◌↔◌, ◌≢◌, ⊎_elim}
use native.Mathlib.Omega.{arith}
use lib.ListN.{length}
use Rattle.poset.specs.Order.{Arc, before}
use Rattle.poset.specs.Tree.{Tree, Spans, Means, canonical}
use Rattle.poset.proofs.Laws.{decided, only_if_none}
use Rattle.relation.specs.Arcs.{pairs}
use Rattle.record.specs.Bits.{AllBelow}
use Rattle.record.specs.Layout.{hours_bits, layout, IsRecord}
use Rattle.record.specs.Decode.{decode}
use Rattle.record.proofs.Former.{WasRecord}
use Rattle.record.proofs.Older.{WasOlder, older_small}
use Rattle.record.proofs.Theorems.{decode_none, former_decode, layout_below, older_none}
use Rattle.sheet.specs.Text.{LineForm}
use Rattle.analysis.specs.Bounds.{longest_sheet}
use Rattle.analysis.specs.Outcome.{Rooms, roomy, Outcome, sheet_outcome, pair_outcome, record_outcome}
use Rattle.analysis.specs.Claims.{Yield, Moderate}
use Rattle.analysis.proofs.Fates.{fate}
use Rattle.analysis.proofs.Acceptance.{fate_yield}
use Rattle.analysis.proofs.Inputs.{sheet_arcs, pair_arcs, record_fate}
use Rattle.analysis.proofs.Sheets.{arcs, means, sheet_of, fate_none}

module _ (room : ℕ) (bytes : List ℕ) (n : ℕ) (t : Tree) (hours : List ℕ) (was : WasRecord bytes n t hours) where
  below : AllBelow 256 bytes
  below = subst (AllBelow 256) was.spelt (layout_below n hours t)

  none_plain : (decode bytes ≡ None) ↔ (canonical t ≡ false)
  none_plain =
      let told : ℕ × Tree × List ℕ = (n, t, hours) in
      let e = former_decode bytes n t hours was in
      let p = only_if_none (canonical t) told in
      (λ h. p.0 (sym e ∙ h), λ h. e ∙ p.1 h)

  pub former_refused : ((record_outcome room bytes).verdict.number ≡ 11) ↔ (canonical t ≡ false)
  former_refused =
      let no_record = fate_none room bytes (record_fate room bytes below) in
      let undecoded = decode_none bytes below in
      (λ e. none_plain.0 (undecoded.1 (no_record.0 e)), λ e. no_record.1 (undecoded.0 (none_plain.1 e)))

  pub former_differs : {arcs : List Arc} {o : Outcome} → Yield n hours arcs o → Means n t (before n arcs)
      → ((record_outcome room bytes).verdict.number ≡ 11) ↔ (o.bytes ≢ bytes)
  former_differs {o = o} y means = (
    λ e same. (fate_none room bytes (record_fate room bytes below)).0 e n y.tree hours
        (subst (λ (b : List ℕ). IsRecord b n y.tree hours) same y.spells),
    λ differ. former_refused.1 (not_plain differ),
  )
    where
      not_plain : o.bytes ≢ bytes → canonical t ≡ false
      not_plain differ =
          ⊎_elim
          (λ (p : canonical t ≡ true). absurd (differ (y.bytes_are ∙ ap (layout n hours) (sym (y.only t means p)) ∙ was.spelt)))
          (λ (p : canonical t ≡ false). p)
          (decided (canonical t))

-- a tree's order with hours has a sheet that is accepted
again
    : (n : ℕ) (t : Tree) (hours : List ℕ) → 0 < n → n ≤ 128 → Spans n t → length hours ≡ n → AllBelow (2 ^ hours_bits) hours
    → (s : List ℕ) × (arcs : List Arc) × LineForm s n hours arcs × (length s ≤ longest_sheet) × Means n t (before n arcs)
    × ((sheet_outcome roomy s).verdict.number ≡ 0)
again n t hours least most spans each small =
    let (s, form, short, zero) = sheet_of n t hours least most spans each small in
    (s, arcs n t hours least most spans each small, form, short, means n t hours least most spans each small, zero)

pub former_again
    : (bytes : List ℕ) (n : ℕ) (t : Tree) (hours : List ℕ) → WasRecord bytes n t hours
    → (s : List ℕ) × (arcs : List Arc) × LineForm s n hours arcs × (length s ≤ longest_sheet) × Means n t (before n arcs)
    × ((sheet_outcome roomy s).verdict.number ≡ 0)
former_again bytes n t hours was = again n t hours was.least was.most was.spans was.each was.small

pub older_again
    : (bytes : List ℕ) (n : ℕ) (t : Tree) → WasOlder bytes n t → (hours : List ℕ) → length hours ≡ n → Moderate hours
    → (s : List ℕ) × (arcs : List Arc) × LineForm s n hours arcs × (length s ≤ longest_sheet) × Means n t (before n arcs)
    × ((sheet_outcome roomy s).verdict.number ≡ 0)
older_again bytes n t was hours each moderate =
    again n t hours was.least was.most was.spans each (λ h m. omega (arith, moderate h m))

pub older_refused : (room : ℕ) (bytes : List ℕ) (n : ℕ) (t : Tree) → WasOlder bytes n t → (record_outcome room bytes).verdict.number ≡ 11
older_refused room bytes n t was =
    (fate_none room bytes (record_fate room bytes (older_small bytes n t was))).1 (older_none bytes n t was)

pub former_sheet
    : (rooms : Rooms) (s : List ℕ) (n : ℕ) (hours : List ℕ) (arcs : List Arc) → length s ≤ longest_sheet → LineForm s n hours arcs
    → (sheet_outcome rooms s).verdict.number ≡ 0 → (room : ℕ) (bytes : List ℕ) (t : Tree) → WasRecord bytes n t hours → Means n t (before n arcs)
    → ((record_outcome room bytes).verdict.number ≡ 11) ↔ ((sheet_outcome rooms s).bytes ≢ bytes)
former_sheet rooms s n hours arcs short form zero room bytes t was means =
    let same = sheet_arcs rooms s n hours arcs short form in
    rw same (former_differs room bytes n t hours was (fate_yield rooms n hours arcs (fate rooms n hours arcs) (rw same at zero)) means)

pub former_pairs
    : (rooms : Rooms) (n : ℕ) (hours list : List ℕ) → length list % 2 ≡ 0 → (pair_outcome rooms n hours list).verdict.number ≡ 0
    → (room : ℕ) (bytes : List ℕ) (t : Tree) → WasRecord bytes n t hours → Means n t (before n (pairs list))
    → ((record_outcome room bytes).verdict.number ≡ 11) ↔ ((pair_outcome rooms n hours list).bytes ≢ bytes)
former_pairs rooms n hours list even zero room bytes t was means =
    let same = pair_arcs rooms n hours list even in
    let y = fate_yield rooms n hours (pairs list) (fate rooms n hours (pairs list)) (rw same at zero) in
    rw same (former_differs room bytes n t hours was y means)
