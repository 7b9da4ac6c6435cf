-- Fields packed one after another.
use Prim.Native.Nat.{ℕ, suc, ◌+◌, ◌*◌, ◌-◌, ◌≤◌, ◌<◌}
use mathlib.Core.Path.{◌≡◌, sym, ap, subst, refl, ◌∙◌}
use mathlib.Core.List.{List, [], ◌∷◌, ◌++◌, flat_map, append_assoc, append-nil}
use native.Mathlib.Numerals.{add-one}
use native.Mathlib.Omega.{arith}
use lib.ListN.{length, take, drop, get_or, replicate, length-append, length-replicate, take-append-drop}
use lib.Seq.{take-suc, take-length, length-take-le}
use Rattle.poset.proofs.Laws.{flat_map_append}
use Rattle.record.specs.Bits.{bits, bits_of}
use Rattle.record.specs.Layout.{most_record_bytes}
use Rattle.record.specs.Tokens.{field_bits}
use Rattle.record.proofs.Fields.{length_bits}
use Rattle.record.proofs.Bytes.{length_bits_of}
use Rattle.record.proofs.Below.{below_nil}
use Rattle.writer.specs.declared.pack.Packing.{Packing}
use Rattle.writer.specs.Packing.{Holds, Ready, Puts, Ends}

module _ (hours : List ℕ) where
  abbrev all_bits : List ℕ → List ℕ
  all_bits xs = flat_map (field_bits hours) xs

  all_one : (x : ℕ) → all_bits (x ∷ []) ≡ field_bits hours x
  unfolding flat_map
  all_one x = append-nil (field_bits hours x)

  all_next : (xs : List ℕ) (i : ℕ) → i < length xs → all_bits (take (suc i) xs) ≡ all_bits (take i xs) ++ field_bits hours (get_or xs i 0)
  all_next xs i h =
      ap all_bits (take-suc xs i 0 h)
      ∙ flat_map_append (field_bits hours) (take i xs) (get_or xs i 0 ∷ [])
      ∙ ap (λ l. all_bits (take i xs) ++ l) (all_one (get_or xs i 0))

  all_length : (xs : List ℕ) (i : ℕ) → length (all_bits (take i xs)) ≤ length (all_bits xs)
  all_length xs i =
      let whole = ap (λ l. length (all_bits l)) (sym (take-append-drop i xs)) ∙ ap length (flat_map_append (field_bits hours) (take i xs) (drop i xs)) in
      omega (arith, whole, length-append (all_bits (take i xs)) (all_bits (drop i xs)))

-- the first i fields are packed after the count
pub record SoFar (n : ℕ) (hours fields bytes : List ℕ) (p : Packing) (i : ℕ) : Type 0 where
  pub within : i ≤ length fields
  pub held : Holds (bits 7 (n - 1) ++ all_bits hours (take i fields)) bytes p
  pub few : p.have < 8

module _ (n : ℕ) (hours fields : List ℕ) where
  pub start : 0 < n → n ≤ 128 → SoFar n hours fields (replicate most_record_bytes 0) (record { at = 0; have = 7; value = n - 1 }) 0
  unfolding bits_of flat_map
  start low high =
      record {
        within = omega arith;
        held = record {
          size = length-replicate {A = ℕ} most_record_bytes 0;
          whole = omega arith;
          low = below_nil;
          blank = refl;
          these = append-nil (bits 7 (n - 1));
        };
        few = omega arith;
      }

  module _ (bytes : List ℕ) (p : Packing) (i : ℕ) (s : SoFar n hours fields bytes p i) where
    pub next : (bytes' : List ℕ) (q : Packing) → i < length fields → Puts (field_bits hours (get_or fields i 0)) bytes p bytes' q
        → SoFar n hours fields bytes' q (i + 1)
    next bytes' q h step =
        record {
          within = omega arith;
          held =
              subst (λ l. Holds l bytes' q)
              (append_assoc (bits 7 (n - 1)) (all_bits hours (take i fields)) (field_bits hours (get_or fields i 0))
              ∙ ap (λ l. bits 7 (n - 1) ++ l) (sym (all_next hours fields i h) ∙ ap (λ k. all_bits hours (take k fields)) (sym (add-one i))))
              (step.held _ s.held);
          few = step.few;
        }

    -- there is room

    held_length : 8 * p.at + p.have ≡ 7 + length (all_bits hours (take i fields))
    held_length =
        let h = s.held in
        omega (
          arith,
          ap length h.these,
          length-append (bits 7 (n - 1)) (all_bits hours (take i fields)),
          length-append (bits_of (take p.at bytes)) (bits p.have p.value),
          length_bits 7 (n - 1),
          length_bits p.have p.value,
          length_bits_of (take p.at bytes),
          length-take-le p.at bytes (omega (arith, h.size, h.whole)),
        )

    module _ (room : 7 + length (all_bits hours fields) ≤ 8 * most_record_bytes) where
      pub ready : Ready p 0
      ready = record { room = omega (arith, held_length, all_length hours fields i); few = s.few }

      pub ready_for_field : i < length fields → Ready p (length (field_bits hours (get_or fields i 0)))
      ready_for_field h =
          record {
            room =
                omega (
                  arith,
                  held_length,
                  all_length hours fields (suc i),
                  ap length (all_next hours fields i h),
                  length-append (all_bits hours (take i fields)) (field_bits hours (get_or fields i 0)),
                );
            few = s.few;
          }

    pub done : (bytes' : List ℕ) (count : ℕ) → length fields ≤ i → ((bs : List ℕ) → Holds bs bytes p → Ends bs bytes' count)
        → Ends (bits 7 (n - 1) ++ all_bits hours fields) bytes' count
    done bytes' count h step =
        let e : i ≡ length fields = omega (arith, s.within) in
        subst (λ l. Ends (bits 7 (n - 1) ++ all_bits hours l) bytes' count) (ap (λ k. take k fields) e ∙ take-length fields) (step _ s.held)
