-- The bytes of all rounds, and what is given where the arcs are refused.
use Prim.Native.Nat.{ℕ, zero, suc, ◌+◌, ◌*◌, ◌^◌, ◌≤◌, ◌<◌}
use native.Mathlib.Nat.{suc-mul}
use native.Mathlib.Numerals.{add-one}
use native.Mathlib.Omega.{arith}
use mathlib.Core.Path.{◌≡◌, refl, sym, ap, ◌∙◌}
use mathlib.Core.List.{List}
use mathlib.Core.Bool.{true, false}
use mathlib.Core.Logic.{⊎_elim}
use lib.ListN.{replicate}
use borrow.Author.Tests.{le-leb, lt-leb}
use Rattle.poset.specs.Order.{Arc, Rel, Strict, before}
use Rattle.poset.specs.Decompose.{tree_of}
use Rattle.poset.proofs.Laws.{found_or_none}
use Rattle.record.specs.Bits.{AllBelow}
use Rattle.record.specs.Layout.{hours_bits, most_record_bytes}
use Rattle.record.proofs.Below.{below_nil, below_cons}
use Rattle.relation_bench.specs.Steps.{fits, acyclic}
use Rattle.writer.specs.Written.{record_of, written}
use Rattle.writer.proofs.Spelling.{bytes_few}
use Rattle.writer_bench.specs.Rounds.{count_of, alike, bytes_written}

-- i rounds of k bytes
pub record Summed (k rounds sum i : ℕ) : Type 0 where
  pub within : i ≤ rounds
  pub sum_is : sum ≡ i * k
  pub few : sum ≤ i * most_record_bytes

pub summed_next : (k rounds sum i : ℕ) → i < rounds → k ≤ most_record_bytes → Summed k rounds sum i → Summed k rounds (sum + k) (i + 1)
summed_next k rounds sum i l small x =
    record {
      within = omega arith;
      sum_is = ap (λ a. a + k) x.sum_is ∙ sym (suc-mul i k) ∙ ap (λ a. a * k) (sym (add-one i));
      few = omega (arith, x.few);
    }

-- a record fits in its room
pub record_few : (n : ℕ) (hours : List ℕ) → n ≤ 128 → (r : Rel) → Strict n r → count_of (written n hours (tree_of n r)) ≤ most_record_bytes
record_few n hours few r strict =
    ⊎_elim
    (λ (t, e). omega (arith, bytes_few n few r strict t e hours (record_of n hours t) refl, ap (λ o. count_of (written n hours o)) e))
    (λ e. omega (arith, ap (λ o. count_of (written n hours o)) e))
    (found_or_none (tree_of n r))

-- such hours are small
pub alike_below : (n : ℕ) → n ≤ 128 → AllBelow (2 ^ hours_bits) (alike n)
alike_below n few = each 128
  where
    each : (k : ℕ) → AllBelow (2 ^ hours_bits) (replicate k n)
    each zero = below_nil
    each (suc k) = below_cons (omega arith) (each k)

module _ (rounds n : ℕ) (arcs : List Arc) where
  pub no_job : n < 1 → 0 ≡ bytes_written rounds n arcs
  unfolding bytes_written
  no_job l = rw (lt-leb 1 n l, bytes_written)

  module _ (one : 1 ≤ n) where
    pub many_rounds : 1000000 < rounds → 0 ≡ bytes_written rounds n arcs
    unfolding bytes_written
    many_rounds l = rw (le-leb 1 n one, lt-leb rounds 1000000 l, bytes_written)

    module _ (few : rounds ≤ 1000000) where
      pub unfit : fits n arcs ≡ false → 0 ≡ bytes_written rounds n arcs
      unfolding bytes_written
      unfit f = rw (le-leb 1 n one, le-leb rounds 1000000 few, f, bytes_written)

      module _ (f : fits n arcs ≡ true) where
        pub cyclic : acyclic n (before n arcs) ≡ false → 0 ≡ bytes_written rounds n arcs
        unfolding bytes_written
        cyclic a = rw (le-leb 1 n one, le-leb rounds 1000000 few, f, a, bytes_written)

        pub all_written : acyclic n (before n arcs) ≡ true → rounds * count_of (written n (alike n) (tree_of n (before n arcs))) ≡ bytes_written rounds n arcs
        unfolding bytes_written
        all_written a = rw (le-leb 1 n one, le-leb rounds 1000000 few, f, a, bytes_written)
