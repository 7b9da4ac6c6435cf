-- Hours in an array with an entry for each of 128 jobs.
use Prim.Native.Nat.{ℕ, ◌-◌, ◌^◌}
use mathlib.Core.Path.{◌≡◌, sym, ap, subst, ◌∙◌}
use mathlib.Core.List.{List, ◌++◌}
use Rattle.std.specs.Prelude.{None}
use native.Mathlib.Decide.{dec_lt}
use native.Mathlib.Omega.{arith}
use lib.Dec.{ltb}
use lib.ListN.{length}
use Rattle.poset.specs.Areas.{padded}
use Rattle.poset.specs.Tree.{Tree}
use Rattle.relation.specs.Arcs.{place}
use Rattle.record.specs.Bits.{AllBelow, bits, bytes_of}
use Rattle.record.specs.Layout.{hours_bits, most_hours, layout}
use Rattle.record.proofs.Entries.{entry_padded, padded_below, tree_agree}
use Rattle.writer.specs.Written.{record_of}
use Rattle.writer.specs.declared.writing.Written.{Written}
use Rattle.analysis.proofs.Places.{place_none}
use Rattle.analysis.proofs.Fates.{ltb_is}

-- hours that are not too large
pub large_below : (hours : List ℕ) → place (ltb most_hours) hours ≡ None → AllBelow (2 ^ hours_bits) hours
large_below hours e h m =
    elim (dec_lt most_hours h) [ yes l ↦ absurd (place_none (ltb most_hours) _ (ltb_is most_hours) hours e h m l) | no l ↦ omega arith ]

-- An array with an entry for each job. A record of it is that of the hours.

layout_padded : (n : ℕ) (hours : List ℕ) (t : Tree) → layout n (padded hours) t ≡ layout n hours t
unfolding layout
layout_padded n hours t =
    ap (λ (l : List ℕ). bytes_of (bits 7 (n - 1) ++ l)) (tree_agree (padded hours) hours t (λ j _. entry_padded hours (128 - length hours) j))

written_padded : (n : ℕ) (hours : List ℕ) (t : Tree) → record_of n (padded hours) t ≡ record_of n hours t
written_padded n hours t = rw (layout_padded n hours t)

-- an array of all entries, of which a record is written
module _ (hours : List ℕ) {all : List ℕ} (is : all ≡ padded hours) where
  pub all_below_lem : AllBelow (2 ^ hours_bits) hours → AllBelow (2 ^ hours_bits) all
  all_below_lem low = subst (AllBelow (2 ^ hours_bits)) (sym is) (padded_below hours low)

  pub written_all : (n : ℕ) (t : Tree) {w : Written} → w ≡ record_of n all t → w ≡ record_of n hours t
  written_all n t e = e ∙ ap (λ (h : List ℕ). record_of n h t) is ∙ written_padded n hours t
