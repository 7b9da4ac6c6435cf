-- Bytes read as a record: the order of the sequences that were read, and the outcome.
use Prim.Native.Nat.{ℕ, ◌*◌, ◌≤◌, ◌<◌}
use mathlib.Core.Path.{◌≡◌, refl, sym, ap, ◌∙◌}
use mathlib.Core.List.{List, []}
use mathlib.Core.Bool.{◌&&◌}
use Rattle.std.specs.Prelude.{Option, None, Some, option_map, Ok, Err}
use lib.ListN.{length, take}
use Rattle.poset.specs.Areas.{overlay, padded, arc_bytes}
use Rattle.poset.specs.Lists.{occurrences, ahead_in}
use Rattle.poset.specs.Order.{Rel, Strict, covers, pairs_of}
use Rattle.poset.specs.Tree.{Tree, leaves, reversed, groups}
use Rattle.relation.specs.Table.{holds, Inside}
use Rattle.record.specs.Bits.{AllBelow}
use Rattle.record.specs.Layout.{IsRecord}
use Rattle.record.specs.Decode.{decode}
use Rattle.record.proofs.Theorems.{layout_decode}
use Rattle.reader.specs.Answer.{reading}
use Rattle.reader.specs.declared.Reading.{Reading}
use Rattle.reader.proofs.Realized.{order_ready, order_precedes, order_inside, order_strict}
use Rattle.analysis.specs.Outcome.{Outcome, arcs_fit, read_back, record_outcome}
use Rattle.analysis.specs.Result.{Gives}
use Rattle.analysis.specs.declared.Refusal.TheVariants as refusal
use Rattle.analysis.proofs.Crossing.{gives_refusal}
use Rattle.analysis.proofs.Taking.{yielded, gives_short, gives_long}
use Rattle.analysis.proofs.ReadBack.{record_some}

-- what was read is of the tree that the bytes decode to
pub record Decoded (bytes : List ℕ) (x : Reading) : Type 0 where
  pub tree : Tree
  pub hours : List ℕ
  pub decodes : decode bytes ≡ Some (x.count, tree, hours)
  pub spells : IsRecord bytes x.count tree hours
  pub groups_are : x.groups ≡ groups tree
  pub forward_is : x.forward ≡ padded (leaves tree)
  pub reverse_is : x.reverse ≡ padded (reversed tree)
  pub hours_is : x.hours ≡ padded hours

pub gives_11 : (bytes area : List ℕ) → None ≡ option_map reading (decode bytes)
    → Gives (record_outcome (length area) bytes) [] area (Err refusal.NoRecord) [] area
unfolding record_outcome
gives_11 bytes area reads = go (decode bytes) refl reads
  where
    go : (o : Option (ℕ × Tree × List ℕ)) → decode bytes ≡ o → None ≡ option_map reading o
        → Gives (record_outcome (length area) bytes) [] area (Err refusal.NoRecord) [] area
    go None e h = gives_refusal refusal.NoRecord (rw (record_outcome, e))
    go (Some y) e h = absurd (cc)

module _ (bytes : List ℕ) (x : Reading) where
  pub decoded : AllBelow 256 bytes → Some x ≡ option_map reading (decode bytes) → Decoded bytes x
  decoded small reads = go (decode bytes) refl reads
    where
      go : (o : Option (ℕ × Tree × List ℕ)) → decode bytes ≡ o → Some x ≡ option_map reading o → Decoded bytes x
      go None e h = absurd (cc)
      go (Some (n, t, hours)) e h =
          let same : x ≡ reading (n, t, hours) = cc in
          let decodes : decode bytes ≡ Some (x.count, t, hours) =
          e ∙ ap (λ (k : ℕ). Some (k, t, hours)) (sym (ap (λ (r : Reading). r.count) same)) in
          record {
            tree = t;
            hours = hours;
            decodes = decodes;
            spells = layout_decode bytes x.count t hours small decodes;
            groups_are = ap (λ (r : Reading). r.groups) same;
            forward_is = ap (λ (r : Reading). r.forward) same;
            reverse_is = ap (λ (r : Reading). r.reverse) same;
            hours_is = ap (λ (r : Reading). r.hours) same;
          }

  module _ (d : Decoded bytes x) where
    pub ready : ((x.count ≤ 128) × (length x.forward ≡ 128) × (length x.reverse ≡ 128))
        × (AllBelow 128 (take x.count x.forward) × ((u : ℕ) → occurrences u (take x.count x.forward) ≤ 1)
        × ((u : ℕ) → occurrences u (take x.count x.reverse) ≡ occurrences u (take x.count x.forward)))
    ready = order_ready x.count d.tree d.spells.spans _ _ d.forward_is d.reverse_is d.spells.most

    module _ (after : List (List ℕ))
        (held : (u v : ℕ) → holds after u v ≡ (ahead_in u v (take x.count x.forward) && ahead_in u v (take x.count x.reverse))) where
      pub after_inside : Inside x.count after
      after_inside = order_inside x.count d.tree d.spells.spans _ _ d.forward_is d.reverse_is after held

      pub after_strict : Strict x.count (holds after)
      after_strict = order_strict x.count d.tree d.spells.spans _ _ d.forward_is d.reverse_is after held

      module _ (red : List (List ℕ)) (same : (u v : ℕ) → holds red u v ≡ covers x.count (holds after) u v)
          (count : ℕ) (counts : count ≡ length (pairs_of x.count (holds red))) (area : List ℕ) where
        abbrev whole : Outcome
        whole = record_outcome (length area) bytes

        fitting : whole ≡ arcs_fit (length area) (yielded (length bytes) [] x.count d.hours (holds after) d.tree)
        unfolding read_back
        fitting =
            record_some (length area) bytes x.count d.tree d.hours d.decodes
            ∙ ap (λ (r : Rel). arcs_fit (length area) (yielded (length bytes) [] x.count d.hours r d.tree))
            (sym (order_precedes x.count d.tree d.spells.spans _ _ d.forward_is d.reverse_is after held))

        pub back_10 : length area < 2 * count → Gives whole [] area (Err refusal.ArcRoom) [] area
        back_10 = gives_short x.count d.hours (holds after) d.tree (length bytes) [] red same count counts [] area whole fitting

        pub back_0 : 2 * count ≤ length area → (area' : List ℕ) → area' ≡ overlay (arc_bytes (pairs_of x.count (holds red))) area
            → Gives whole [] area
            (Ok (record {
              accepted = record { bytes = length bytes; arcs = count; groups = x.groups };
              forward = x.forward;
              reverse = x.reverse;
              hours = x.hours;
            })) [] area'
        unfolding overlay
        back_0 l area' listed =
            gives_long x.count d.hours (holds after) d.tree (length bytes) [] red same count counts [] area whole fitting l _ _ _ _ [] area'
            d.groups_are d.forward_is d.reverse_is d.hours_is refl listed
