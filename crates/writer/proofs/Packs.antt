-- What some bits more do to packed bits.
use Prim.Native.Nat.{ℕ, ◌+◌, ◌*◌, ◌-◌, ◌/◌, ◌%◌, ◌^◌, ◌≤◌, ◌<◌}
use mathlib.Core.Path.{◌≡◌, refl, sym, ap, ap₂, subst, ◌∙◌}
use mathlib.Core.List.{List, [], ◌∷◌, ◌++◌, append_assoc, append-nil}
use native.Mathlib.Nat.{mod-lt, add-zero}
use native.Mathlib.Omega.{arith}
use lib.Arith.{digits_lt}
use lib.ListN.{length, take, drop, set, replicate, length-set, length-append}
use lib.Pow.{pow_pos, pow-add, low, mod-pow-add, shl-shr, split}
use Rattle.record.specs.Bits.{AllBelow, bits, bits_of, bytes_of}
use Rattle.record.specs.Layout.{most_record_bytes}
use Rattle.record.proofs.Fields.{length_bits, bits_mod, bits_append, bits_below}
use Rattle.record.proofs.Bytes.{Filled, bits_zero, bits_of_below, bytes_filled, filled_unique}
use Rattle.record.proofs.Below.{below_nil, below_cons, below_append}
use Rattle.writer.specs.declared.pack.Packing.{Packing}
use Rattle.writer.specs.Packing.{Holds, Ready, Takes, Moves, Puts, Ends}
use Rattle.writer.proofs.Stores.{stored, blank_next, whole_list}

pub bits_of_append : (xs ys : List ℕ) → bits_of (xs ++ ys) ≡ bits_of xs ++ bits_of ys
unfolding bits_of
bits_of_append [] ys = refl
bits_of_append (x ∷ xs) ys = ap (λ l. bits 8 x ++ l) (bits_of_append xs ys) ∙ sym (append_assoc (bits 8 x) (bits_of xs) (bits_of ys))

bits_of_one : (b : ℕ) → bits_of (b ∷ []) ≡ bits 8 b
unfolding bits_of
bits_of_one b = append-nil (bits 8 b)

-- a byte is stored after the whole bytes
bits_stored : (bytes : List ℕ) (at b : ℕ) → at < length bytes → bits_of (take (at + 1) (set bytes at b)) ≡ bits_of (take at bytes) ++ bits 8 b
bits_stored bytes at b h =
    ap bits_of (stored bytes at b h)
    ∙ bits_of_append (take at bytes) (b ∷ [])
    ∙ ap (λ l. bits_of (take at bytes) ++ l) (bits_of_one b)

stored_low : (bytes : List ℕ) (at b : ℕ) → at < length bytes → b < 256 → AllBelow 256 (take at bytes) → AllBelow 256 (take (at + 1) (set bytes at b))
stored_low bytes at b h small low =
    subst (AllBelow 256) (sym (stored bytes at b h)) (below_append low (below_cons small below_nil))

-- bits more in hand

module _ (p : Packing) (width field : ℕ) (few : p.have + width < 64) (fits : field < 2 ^ width) where
  abbrev value : ℕ
  value = p.value * 2 ^ width % 2 ^ 64 + field

  -- what is shifted out was not in hand
  kept : p.value * 2 ^ width % 2 ^ 64 ≡ p.value % 2 ^ (64 - width) * 2 ^ width
  kept =
      let e : 64 ≡ 64 - width + width = omega arith in
      let none : p.value * 2 ^ width % 2 ^ width ≡ 0 =
      ap (λ x. x % 2 ^ width) (sym (add-zero (p.value * 2 ^ width))) ∙ low p.value width (pow_pos width) in
      ap (λ k. p.value * 2 ^ width % 2 ^ k) e
      ∙ mod-pow-add (p.value * 2 ^ width) (64 - width) width
      ∙ ap₂ (λ x y. x % 2 ^ (64 - width) * 2 ^ width + y) (shl-shr p.value width) none
      ∙ add-zero _

  pub value_fits : value < 2 ^ 64
  value_fits =
      let e : 64 - width + width ≡ 64 = omega arith in
      rw kept
      (subst (λ k. p.value % 2 ^ (64 - width) * 2 ^ width + field < 2 ^ k) e
      (rw (pow-add 2 (64 - width) width) (digits_lt (mod-lt p.value (pow_pos (64 - width))) fits)))

  pub takes : Takes (bits width field) p (record { at = p.at; have = p.have + width; value = value })
  takes =
      let e : 64 - width ≡ 64 - width - p.have + p.have = omega arith in
      record {
        place = refl;
        more = ap (λ k. p.have + k) (sym (length_bits width field));
        bits_are =
            ap (λ v. bits (p.have + width) (v + field)) kept
            ∙ bits_append p.have width (p.value % 2 ^ (64 - width)) field fits
            ∙ ap (λ l. l ++ bits width field) (ap (λ k. bits p.have (p.value % 2 ^ k)) e ∙ bits_mod (64 - width - p.have) p.have p.value);
      }

pub takes_held : {these bytes : List ℕ} {p q : Packing} → Takes these p q → (bs : List ℕ) → Holds bs bytes p → Holds (bs ++ these) bytes q
takes_held {these} {bytes} {p} {q} t bs h =
    let same : bs ++ these ≡ bits_of (take p.at bytes) ++ bits q.have q.value =
    ap (λ l. l ++ these) h.these
    ∙ append_assoc (bits_of (take p.at bytes)) (bits p.have p.value) these
    ∙ ap (λ l. bits_of (take p.at bytes) ++ l) (sym t.bits_are) in
    record {
      size = h.size;
      whole = omega (arith, h.whole, t.place);
      low = subst (λ k. AllBelow 256 (take k bytes)) (sym t.place) h.low;
      blank = subst (λ k. drop k bytes ≡ replicate (most_record_bytes - k) 0) (sym t.place) h.blank;
      these = subst (λ k. bs ++ these ≡ bits_of (take k bytes) ++ bits q.have q.value) (sym t.place) same;
    }

pub takes_both : {these those : List ℕ} {p q r : Packing} → Takes these p q → Takes those q r → Takes (these ++ those) p r
takes_both {these} {those} {p} {q} {r} t u = record {
  place = u.place ∙ t.place;
  more = omega (arith, t.more, u.more, length-append these those);
  bits_are = u.bits_are ∙ ap (λ l. l ++ those) t.bits_are ∙ append_assoc (bits p.have p.value) these those;
}

-- where there is room for k bits more, there is for the bytes that they complete
pub takes_room
    : {k : ℕ} {these : List ℕ} {p q : Packing} → length these ≡ k → Ready p (length these) → Takes these p q
    → (k ≤ q.have) × (q.have < 8 + k) × (8 * q.at + q.have ≤ 8 * most_record_bytes)
takes_room e r t = omega (arith, r.room, r.few, t.place, t.more)

-- eight bits in hand as a byte

module _ (bytes : List ℕ) (p : Packing) (many : 8 ≤ p.have) (room : p.at < most_record_bytes) where
  abbrev rest : ℕ
  rest = p.have - 8

  abbrev byte : ℕ
  byte = p.value / 2 ^ rest % 256

  spelt : bits p.have p.value ≡ bits 8 byte ++ bits rest p.value
  spelt =
      let e : p.have ≡ 8 + rest = omega arith in
      ap₂ bits e (sym (split p.value rest))
      ∙ bits_append 8 rest (p.value / 2 ^ rest) (p.value % 2 ^ rest) (mod-lt p.value (pow_pos rest))
      ∙ ap₂ ◌++◌ (sym (bits_mod 0 8 (p.value / 2 ^ rest))) (low_bits rest p.value)
    where
      low_bits : (k v : ℕ) → bits k (v % 2 ^ k) ≡ bits k v
      low_bits k v = let e : k ≡ 0 + k = omega arith in ap (λ i. bits k (v % 2 ^ i)) e ∙ bits_mod 0 k v

  pub moves : Moves bytes p (set bytes p.at byte) (record { at = p.at + 1; have = rest; value = p.value })
  moves = record {
    place = refl;
    fewer = omega arith;
    held = λ bs h.
        let inside : p.at < length bytes = omega (arith, h.size) in
        record {
          size = length-set bytes p.at byte ∙ h.size;
          whole = omega arith;
          low = stored_low bytes p.at byte inside (mod-lt (p.value / 2 ^ rest) (omega arith)) h.low;
          blank = blank_next bytes p.at byte most_record_bytes room h.blank;
          these =
              h.these
              ∙ ap (λ l. bits_of (take p.at bytes) ++ l) spelt
              ∙ sym (append_assoc (bits_of (take p.at bytes)) (bits 8 byte) (bits rest p.value))
              ∙ ap (λ l. l ++ bits rest p.value) (sym (bits_stored bytes p.at byte inside));
        };
  }

-- no bits more

held_nil : {bs bytes : List ℕ} {p : Packing} → Holds bs bytes p → Holds (bs ++ []) bytes p
held_nil {bs} {bytes} {p} h = subst (λ l. Holds l bytes p) (sym (append-nil bs)) h

pub puts_none : {bytes : List ℕ} {p : Packing} → p.have < 8 → Puts [] bytes p bytes p
puts_none few = record { held = λ bs h. held_nil h; few = few }

pub puts_moved : {bytes bytes' : List ℕ} {p q : Packing} → Moves bytes p bytes' q → p.have < 16 → Puts [] bytes p bytes' q
puts_moved m few = record { held = λ bs h. held_nil (m.held bs h); few = omega (arith, m.fewer) }

-- bits taken, a byte or two moved, and one more if there is one

module _ {these bytes bytes' bytes'' : List ℕ} {p q r s : Packing} (t : Takes these p q) (m : Moves bytes q bytes' r) (n : Puts [] bytes' r bytes'' s) where
  pub puts_after : Puts these bytes p bytes'' s
  puts_after = record {
    held = λ bs h. subst (λ l. Holds l bytes'' s) (append-nil (bs ++ these)) (n.held (bs ++ these) (m.held (bs ++ these) (takes_held t bs h)));
    few = n.few;
  }

pub Moves-both
    : {bytes bytes' bytes'' : List ℕ} {p q r : Packing} → Moves bytes p bytes' q → Puts [] bytes' q bytes'' r → Puts [] bytes p bytes'' r
Moves-both m n = record { held = λ bs h. n.held bs (m.held bs h); few = n.few }

-- the bits in hand with zeros after them are the last byte

held_below : (bs bytes : List ℕ) (p : Packing) → Holds bs bytes p → AllBelow 2 bs
held_below bs bytes p h =
    subst (AllBelow 2) (sym h.these) (below_append (bits_of_below (take p.at bytes)) (bits_below p.have p.value))

-- the whole bytes, filled with zeros
ends : (bs bytes : List ℕ) (count : ℕ) → length bytes ≡ most_record_bytes → count ≤ most_record_bytes → Filled bs (take count bytes) → AllBelow 2 bs
    → drop count bytes ≡ replicate (most_record_bytes - count) 0 → Ends bs bytes count
ends bs bytes count size few fill low blank =
    let (number, these) = whole_list bytes (bytes_of bs) count most_record_bytes (omega arith) (filled_unique fill (bytes_filled bs low)) blank in
    record { number = number; these = these }

pub holds_none : (bs bytes : List ℕ) (p : Packing) → p.have ≡ 0 → Holds bs bytes p → Ends bs bytes p.at
unfolding bits
holds_none bs bytes p e h =
    ends bs bytes p.at h.size h.whole
    (record {
      fill = 0;
      few = omega arith;
      same =
          sym (append-nil (bits_of (take p.at bytes)))
          ∙ ap (λ k. bits_of (take p.at bytes) ++ bits k p.value) (sym e)
          ∙ sym h.these
          ∙ sym (append-nil bs);
      small = h.low;
    })
    (held_below bs bytes p h) h.blank

pub holds_last : (bs bytes : List ℕ) (p : Packing) → p.at < most_record_bytes → p.have < 8 → (p.have ≡ 0 → ⊥) → Holds bs bytes p
    → Ends bs (set bytes p.at (p.value * 2 ^ (8 - p.have) % 2 ^ 64 % 256)) (p.at + 1)
holds_last bs bytes p room few e h =
    let b = p.value * 2 ^ (8 - p.have) % 2 ^ 64 % 256 in
    let free = 8 - p.have in
    let eight : p.have + free ≡ 8 = omega arith in
    let spelt : bits 8 b ≡ bits p.have p.value ++ replicate free 0 =
    bits_mod 0 8 (p.value * 2 ^ free % 2 ^ 64)
    ∙ bits_mod 56 8 (p.value * 2 ^ free)
    ∙ ap (bits 8) (sym (add-zero (p.value * 2 ^ free)))
    ∙ ap (λ k. bits k (p.value * 2 ^ free + 0)) (sym eight)
    ∙ bits_append p.have free p.value 0 (pow_pos free)
    ∙ ap (λ l. bits p.have p.value ++ l) (bits_zero free) in
    ends bs (set bytes p.at b) (p.at + 1) (length-set bytes p.at b ∙ h.size) (omega arith)
    (record {
      fill = free;
      few = omega arith;
      same =
          bits_stored bytes p.at b (omega (arith, h.size))
          ∙ ap (λ l. bits_of (take p.at bytes) ++ l) spelt
          ∙ sym (append_assoc (bits_of (take p.at bytes)) (bits p.have p.value) (replicate free 0))
          ∙ ap (λ l. l ++ replicate free 0) (sym h.these);
      small = stored_low bytes p.at b (omega (arith, h.size)) (mod-lt _ (omega arith)) h.low;
    })
    (held_below bs bytes p h) (blank_next bytes p.at b most_record_bytes room h.blank)
