-- An order that a tree means: its record and its reduced orders, and the room for them.
use Prim.Native.Nat.{ℕ, ◌*◌, ◌≤◌, ◌<◌}
use mathlib.Core.Path.{◌≡◌, sym, ap, ap₂, fun_ext, ◌∙◌}
use mathlib.Core.List.{List}
use mathlib.Core.Bool.{false}
use Rattle.std.specs.Prelude.{Some}
use native.Mathlib.Omega.{arith}
use lib.Dec.{ltb}
use lib.ListN.{length, take}
use Rattle.std.specs.Prelude.{Ok, Err}
use Rattle.poset.specs.Areas.{overlay, padded, arc_bytes}
use Rattle.poset.specs.Order.{Rel, Strict, covers, pairs_of, reduction}
use Rattle.poset.specs.Tree.{Tree, leaves, reversed, groups}
use Rattle.poset.specs.Decompose.{tree_of}
use Rattle.poset.proofs.Laws.{lt_true, false_unless, ltb-true}
use Rattle.poset.proofs.Theorems.{reduction_fits}
use Rattle.relation.specs.Table.{holds}
use Rattle.record.specs.Layout.{layout}
use Rattle.writer.specs.Written.{record_of}
use Rattle.writer.specs.declared.writing.Written.{Written}
use Rattle.writer.proofs.Spelling.{bytes_count, bytes_are}
use Rattle.analysis.specs.Answer.{answer}
use Rattle.analysis.specs.Outcome.{Rooms, Outcome, refuse, accept, arcs_fit, fitted, decomposed}
use Rattle.analysis.specs.Result.{rooms, Gives}
use Rattle.analysis.specs.declared.Refusal.TheVariants as refusal
use Rattle.analysis.proofs.Crossing.{gives_same, gives_refusal, tree_outcome}

pub reduced_pairs : (n : ℕ) (r : Rel) (t : List (List ℕ)) → ((u v : ℕ) → holds t u v ≡ covers n r u v) → pairs_of n (holds t) ≡ reduction n r
unfolding reduction
reduced_pairs n r t h = ap (pairs_of n) (fun_ext λ u. fun_ext λ v. h u v)

pub count_few : (n : ℕ) (r : Rel) (t : List (List ℕ)) (count : ℕ) → n ≤ 128 → Strict n r → ((u v : ℕ) → holds t u v ≡ covers n r u v)
    → count ≡ length (pairs_of n (holds t)) → count ≤ 4096
count_few n r t count few strict same counts = omega (arith, reduction_fits n r few strict, ap length (reduced_pairs n r t same))

-- the room for a record, then for the reduced orders

module _ (rs : Rooms) (o : Outcome) where
  pub short_record : rs.record_room < length o.bytes → fitted rs o ≡ refuse 9 0 0 0 0
  unfolding fitted
  short_record l = rw (fitted, lt_true rs.record_room (length o.bytes) l)

  pub long_record : length o.bytes ≤ rs.record_room → fitted rs o ≡ arcs_fit rs.arc_room o
  unfolding fitted
  long_record l =
      let no_more : ltb rs.record_room (length o.bytes) ≡ false =
      false_unless (ltb rs.record_room (length o.bytes)) (λ h. omega (arith, ltb-true rs.record_room (length o.bytes) h)) in
      rw (fitted, no_more)

module _ (room : ℕ) (o : Outcome) where
  pub short_arcs : room < 2 * length o.arcs → arcs_fit room o ≡ refuse 10 0 0 0 0
  unfolding arcs_fit
  short_arcs l = rw (arcs_fit, lt_true room (2 * length o.arcs) l)

  pub long_arcs : 2 * length o.arcs ≤ room → arcs_fit room o ≡ o
  unfolding arcs_fit
  long_arcs l =
      let no_more : ltb room (2 * length o.arcs) ≡ false =
      false_unless (ltb room (2 * length o.arcs)) (λ h. omega (arith, ltb-true room (2 * length o.arcs) h)) in
      rw (arcs_fit, no_more)

-- what an order yields: a record of so many bytes, those of it that are written, the reduction, the sequences and the hours
abbrev pub yielded : ℕ → List ℕ → ℕ → List ℕ → Rel → Tree → Outcome
yielded size written n hours r t =
    record {
      verdict = answer 0 size (length (reduction n r)) (groups t) 0;
      bytes = written;
      arcs = reduction n r;
      forward = leaves t;
      reverse = reversed t;
      hours = hours;
    }

-- and what a call hands back of it, where the area has room for the reduced orders or not
module _ (n : ℕ) (hours : List ℕ) (r : Rel) (t : Tree) (size : ℕ) (written : List ℕ)
    (red : List (List ℕ)) (same : (u v : ℕ) → holds red u v ≡ covers n r u v) (count : ℕ) (counts : count ≡ length (pairs_of n (holds red)))
    (bytes area : List ℕ) (whole : Outcome) (fits : whole ≡ arcs_fit (length area) (yielded size written n hours r t)) where
  arcs_length : length (reduction n r) ≡ count
  arcs_length = ap length (sym (reduced_pairs n r red same)) ∙ sym counts

  pub gives_short : length area < 2 * count → Gives whole bytes area (Err refusal.ArcRoom) bytes area
  gives_short l =
      gives_refusal refusal.ArcRoom (fits ∙ short_arcs (length area) (yielded size written n hours r t) (omega (arith, arcs_length)))

  pub gives_long : 2 * count ≤ length area → (k : ℕ) (forward reverse all bytes' area' : List ℕ) → k ≡ groups t → forward ≡ padded (leaves t)
      → reverse ≡ padded (reversed t) → all ≡ padded hours → bytes' ≡ overlay written bytes → area' ≡ overlay (arc_bytes (pairs_of n (holds red))) area
      → Gives whole bytes area
      (Ok (record { accepted = record { bytes = size; arcs = count; groups = k }; forward = forward; reverse = reverse; hours = all })) bytes' area'
  gives_long l k forward reverse all bytes' area' number forth back times spelt listed =
      gives_same (sym (fits ∙ long_arcs (length area) (yielded size written n hours r t) (omega (arith, arcs_length))))
      (record {
        answers = ap₂ (λ (c g : ℕ). answer 0 size c g 0) (sym arcs_length) number;
        record_is = spelt;
        arcs_are = listed ∙ ap (λ l. overlay (arc_bytes l) area) (reduced_pairs n r red same);
        forward_is = forth;
        reverse_is = back;
        hours_is = times;
        refusal_is = tt;
      })

-- an order taken apart
module _ (n : ℕ) (few : n ≤ 128) (hours : List ℕ) (r : Rel) (strict : Strict n r) (t : Tree) (e : tree_of n r ≡ Some t)
    (w : Written) (is : w ≡ record_of n hours t)
    (red : List (List ℕ)) (same : (u v : ℕ) → holds red u v ≡ covers n r u v) (count : ℕ) (counts : count ≡ length (pairs_of n (holds red)))
    (bytes area : List ℕ) where
  abbrev whole : Outcome
  whole = decomposed (rooms bytes area) n hours r

  record_length : length (layout n hours t) ≡ w.count
  record_length = sym (bytes_count n few r strict t e hours w is)

  accepted : whole ≡ fitted (rooms bytes area) (accept n hours r t)
  accepted = tree_outcome (rooms bytes area) n hours r t strict e

  fitting : w.count ≤ length bytes → whole ≡ arcs_fit (length area) (yielded w.count (layout n hours t) n hours r t)
  unfolding accept
  fitting l =
      accepted
      ∙ long_record (rooms bytes area) (accept n hours r t) (omega (arith, record_length))
      ∙ ap (λ (k : ℕ). arcs_fit (length area) (yielded k (layout n hours t) n hours r t)) record_length

  pub gives_9 : length bytes < w.count → Gives whole bytes area (Err refusal.RecordRoom) bytes area
  unfolding accept
  gives_9 l =
      gives_refusal refusal.RecordRoom (accepted ∙ short_record (rooms bytes area) (accept n hours r t) (omega (arith, record_length)))

  pub gives_10 : w.count ≤ length bytes → length area < 2 * count → Gives whole bytes area (Err refusal.ArcRoom) bytes area
  gives_10 l = gives_short n hours r t w.count (layout n hours t) red same count counts bytes area whole (fitting l)

  pub gives_0 : w.count ≤ length bytes → 2 * count ≤ length area → (all bytes' area' : List ℕ) → all ≡ padded hours
      → bytes' ≡ overlay (take w.count w.bytes) bytes
      → area' ≡ overlay (arc_bytes (pairs_of n (holds red))) area
      → Gives whole bytes area
      (Ok (record { accepted = record { bytes = w.count; arcs = count; groups = w.groups }; forward = w.forward; reverse = w.reverse; hours = all }))
      bytes' area'
  gives_0 l m all bytes' area' times eb ea =
      gives_long n hours r t w.count (layout n hours t) red same count counts bytes area whole (fitting l) m _ _ _ all bytes' area'
      (ap (λ (w : Written). w.groups) is) (ap (λ (w : Written). w.forward) is) (ap (λ (w : Written). w.reverse) is) times
      (eb ∙ ap (λ l. overlay l bytes) (bytes_are n few r strict t e hours w is)) ea
