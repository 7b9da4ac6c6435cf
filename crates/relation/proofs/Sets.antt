-- Rows of two words as sets of jobs.
use Prim.Native.Nat.{ℕ, zero, suc, ◌+◌, ◌-◌, ◌/◌, ◌%◌, ◌^◌, ◌≤◌, ◌<◌, min}
use native.Mathlib.Nat.{div-eq_of_lt, mod-eq_of_lt, eq-or-lt_of_le, lt_of_lt_of_le, lt_irrefl, zero-lt-suc}
use native.Mathlib.Decide.{dec_lt, ℕ_discrete}
use native.Mathlib.Omega.{arith}
use mathlib.Core.Path.{◌≡◌, refl, sym, ap, ap₂, subst, ◌∙◌}
use mathlib.Core.List.{List, [], ◌∷◌, ◌++◌, map, append-nil, Memᴰ}
use mathlib.Core.Bool.{Bool, true, false, ◌&&◌, ◌||◌, not, xor}
use mathlib.Core.Logic.{◌⊎◌, inl, inr, ⊎_elim}
use mir.Syntax.{w64}
use mir.Val.{Fits}
use lib.Dec.{eqb, ltb}
use lib.ListN.{length, get_or, set, length-append, length-map, get_or-eq_default}
use lib.Pointwise.{bytes_decides}
use lib.Seq.{get_or-set_same, get_or-set_other}
use lib.Bits.{bit_and, bit_or, or_add_and, and_le_l, and_le_r}
use lib.Count.{count_trailing_zeros, count_leading_zeros, ones, ones-le}
use borrow.Author.Tests.{lt-ltb, le-ltb, eq-eqb, ne_eqb, ltb-true, eqb-true}
use Rattle.std.specs.Prelude.{bytes_eq}
use Rattle.std.proofs.lemmas.List.{ext_get_or}
use Rattle.poset.specs.Lists.{exists, keep, up_from, below}
use Rattle.poset.proofs.Laws.{clash, false_unless, not-true, not-false, same_test, any_hit, any_found, any_miss, any_none}
use Rattle.poset.proofs.Laws.{keep_yes, keep_not, keep_mem, mem_keep, keep_agree, below_mem, mem_below, mem_up_from, below_add}
use Rattle.relation.specs.Table.{bit, has, members, Least, Greatest}
use Rattle.relation.proofs.Lists.{and-true, and_false, and_comm, or-false, keep_append, keep_none, keep_shift, keep_from}
use Rattle.relation.proofs.Lists.{any_after}
use Rattle.relation.proofs.Words.{same_bits, bit_tested, bit_and_lem, bit_or_lem, bit_complement, bit_zero, bit_power, bit_ones}
use Rattle.relation.proofs.Words.{Lowest, lowest, highest, ones_count}

-- what a row has, by its words

pub has_low : (s : List ℕ) (v : ℕ) → v < 64 → has s v ≡ bit (get_or s 0 0) v
unfolding has
has_low s v l = ap₂ (λ (q i : ℕ). bit (get_or s q 0) i) (div-eq_of_lt l) (mod-eq_of_lt l)

pub has_high : (s : List ℕ) (i : ℕ) → i < 64 → has s (64 + i) ≡ bit (get_or s 1 0) i
unfolding has
has_high s i l =
    let q : (64 + i) / 64 ≡ 1 = omega arith in
    let r : (64 + i) % 64 ≡ i = omega arith in
    ap₂ (λ (q i : ℕ). bit (get_or s q 0) i) q r

pub has_beyond : (s : List ℕ) (v : ℕ) → length s ≡ 2 → 128 ≤ v → has s v ≡ false
unfolding has
has_beyond s v n l =
    let q : length s ≤ v / 64 = omega arith in
    ap (λ (w : ℕ). bit w (v % 64)) (get_or-eq_default s 0 q) ∙ bit_zero (v % 64)

pub has_small : (s : List ℕ) → length s ≡ 2 → (v : ℕ) → has s v ≡ true → v < 128
has_small s n v e = elim (dec_lt v 128) [ yes l ↦ l | no l ↦ absurd (clash e (has_beyond s v n (omega arith))) ]

-- a row with no job below 128 has none
pub has_none : (s : List ℕ) → length s ≡ 2 → exists (has s) (below 128) ≡ false → (v : ℕ) → has s v ≡ false
has_none s n h v = false_unless _ (λ e. clash e (any_miss (has s) (below 128) h (below_mem (has_small s n v e))))

-- a job in one of two rows alone

in_neither : (b : Bool) → xor b b ≡ false
unfolding xor
in_neither true = refl
in_neither false = refl

in_both : (a b : Bool) → xor a b ≡ false → a ≡ b
unfolding xor
in_both true true h = refl
in_both true false h = h
in_both false true h = sym h
in_both false false h = refl

pub same_jobs : (a b : List ℕ) → not (exists (λ v. xor (has a v) (has b v)) (below 128)) ≡ true → (v : ℕ) → v < 128 → has a v ≡ has b v
same_jobs a b h v l =
    in_both _ _ (any_miss (λ x. xor (has a x) (has b x)) (below 128) (not-true _ h) (below_mem l))

-- a test of a job's bit in its word
pub has_tested
    : (s : List ℕ) (v w : ℕ) → v < 128 → ((v < 64) × (w ≡ get_or s 0 0)) ⊎ ((64 ≤ v) × (w ≡ get_or s 1 0))
    → eqb (bit_and (w / 2 ^ (v % 64)) 1) 1 ≡ has s v
unfolding has
has_tested s v w l h = bit_tested w (v % 64) ∙ ap (λ (x : ℕ). bit x (v % 64)) (⊎_elim low high h)
  where
    low : (v < 64) × (w ≡ get_or s 0 0) → w ≡ get_or s (v / 64) 0
    low p = let q : 0 ≡ v / 64 = omega arith in p.1 ∙ ap (λ (k : ℕ). get_or s k 0) q

    high : (64 ≤ v) × (w ≡ get_or s 1 0) → w ≡ get_or s (v / 64) 0
    high p = let q : 1 ≡ v / 64 = omega arith in p.1 ∙ ap (λ (k : ℕ). get_or s k 0) q

-- what holds of the bits of both words, and from 128 on, holds of every job
pub job_ind : (P : ℕ → Type 0) → ((i : ℕ) → i < 64 → P i) → ((i : ℕ) → i < 64 → P (64 + i)) → ((v : ℕ) → 128 ≤ v → P v) → (v : ℕ) → P v
job_ind P low high beyond v =
    elim (dec_lt v 64) [
      | yes l ↦ low v l
      | no l ↦ elim (dec_lt v 128) [
        | yes m ↦ let e : 64 + (v - 64) ≡ v = omega arith in subst P e (high (v - 64) (omega arith))
        | no m ↦ beyond v (omega arith)
      ]
    ]

-- a row of two words that has the jobs h
pub row_of
    : (x y : ℕ) (h : ℕ → Bool) → ((i : ℕ) → i < 64 → bit x i ≡ h i) → ((i : ℕ) → i < 64 → bit y i ≡ h (64 + i))
    → ((v : ℕ) → 128 ≤ v → h v ≡ false) → (v : ℕ) → has (x ∷ y ∷ []) v ≡ h v
row_of x y h low high beyond =
    job_ind (λ v. has (x ∷ y ∷ []) v ≡ h v)
    (λ i l. has_low (x ∷ y ∷ []) i l ∙ low i l)
    (λ i l. has_high (x ∷ y ∷ []) i l ∙ high i l)
    (λ v l. has_beyond (x ∷ y ∷ []) v refl l ∙ sym (beyond v l))

-- an operation on words, bit by bit, makes a row of two rows
pub pointwise
    : (g : Bool → Bool → Bool) → g false false ≡ false → (a b : List ℕ) → length a ≡ 2 → length b ≡ 2 → (x y : ℕ)
    → ((i : ℕ) → i < 64 → bit x i ≡ g (bit (get_or a 0 0) i) (bit (get_or b 0 0) i))
    → ((i : ℕ) → i < 64 → bit y i ≡ g (bit (get_or a 1 0) i) (bit (get_or b 1 0) i))
    → (v : ℕ) → has (x ∷ y ∷ []) v ≡ g (has a v) (has b v)
pointwise g z a b m n x y low high =
    row_of x y (λ v. g (has a v) (has b v))
    (λ i l. low i l ∙ sym (ap₂ g (has_low a i l) (has_low b i l)))
    (λ i l. high i l ∙ sym (ap₂ g (has_high a i l) (has_high b i l)))
    (λ v l. ap₂ g (has_beyond a v m l) (has_beyond b v n l) ∙ z)

pub bit_but : (a b i : ℕ) → i < 64 → Fits w64 b → bit (bit_and a (2 ^ 64 - 1 - b)) i ≡ (bit a i && not (bit b i))
bit_but a b i l h = bit_and_lem a _ i ∙ ap (λ (t : Bool). bit a i && t) (bit_complement 64 i b l h.fits)

-- a word joined under a mask
pub bit_masked
    : (test : Bool) (m : ℕ) → ((i : ℕ) → i < 64 → bit m i ≡ test) → (a b i : ℕ) → i < 64 → bit (bit_or a (bit_and b m)) i ≡ (bit a i || (test && bit b i))
bit_masked test m mask a b i l =
    bit_or_lem a _ i ∙ ap (λ (t : Bool). bit a i || t) (bit_and_lem b m i ∙ ap (λ (t : Bool). bit b i && t) (mask i l) ∙ and_comm (bit b i) test)

-- some rows

-- the two tests agree, shifted by a word
eqb_shift : (a b : ℕ) → eqb (64 + a) (64 + b) ≡ eqb a b
eqb_shift a b =
    same_test _ _ (λ e. eq-eqb a b (omega (arith, eqb-true (64 + a) (64 + b) e))) (λ e. eq-eqb (64 + a) (64 + b) (omega (arith, eqb-true a b e)))

pub ltb_agree : (a b c d : ℕ) → (a < b → c < d) → (c < d → a < b) → ltb a b ≡ ltb c d
ltb_agree a b c d f g = same_test _ _ (λ e. lt-ltb c d (f (ltb-true a b e))) (λ e. lt-ltb a b (g (ltb-true c d e)))

pub only_low : (v : ℕ) → v < 64 → (x : ℕ) → has (2 ^ v ∷ 0 ∷ []) x ≡ eqb v x
only_low v l =
    row_of (2 ^ v) 0 (eqb v)
    (λ i _. bit_power v i)
    (λ i _. bit_zero i ∙ sym (ne_eqb v (64 + i) (λ e. omega arith)))
    (λ x m. ne_eqb v x (λ e. omega arith))

pub only_high : (v : ℕ) → 64 ≤ v → v < 128 → (x : ℕ) → has (0 ∷ 2 ^ (v - 64) ∷ []) x ≡ eqb v x
only_high v l h =
    row_of 0 (2 ^ (v - 64)) (eqb v)
    (λ i m. bit_zero i ∙ sym (ne_eqb v i (λ e. omega arith)))
    (λ i _. bit_power (v - 64) i ∙ sym (eqb_shift (v - 64) i) ∙ ap (λ (u : ℕ). eqb u (64 + i)) whole)
    (λ x m. ne_eqb v x (λ e. omega arith))
  where
    whole : 64 + (v - 64) ≡ v
    whole = omega arith

-- the a lowest bits of the one word, and the b lowest of the other
pub all_below_lem : (n a b : ℕ) → n ≤ 128 → a ≡ min n 64 → b ≡ n - 64 → (v : ℕ) → has ((2 ^ a - 1) ∷ (2 ^ b - 1) ∷ []) v ≡ ltb v n
all_below_lem n a b h p q =
    row_of (2 ^ a - 1) (2 ^ b - 1) (λ v. ltb v n)
    (λ i l. bit_ones a i ∙ ltb_agree i a i n (λ m. omega arith) (λ m. omega arith))
    (λ i l. bit_ones b i ∙ ltb_agree i b (64 + i) n (λ m. omega arith) (λ m. omega arith))
    (λ v l. le-ltb v n (omega arith))

-- a row into which a job is put, in its word
pub put_in
    : (s : List ℕ) (v : ℕ) → length s ≡ 2 → v < 128 → (x : ℕ)
    → has (set s (v / 64) (bit_or (get_or s (v / 64) 0) (2 ^ (v % 64)))) x ≡ (has s x || eqb v x)
unfolding has
put_in s v two l x = by (ℕ_discrete (x / 64) (v / 64))
  where
    word : ℕ
    word = bit_or (get_or s (v / 64) 0) (2 ^ (v % 64))

    by : Dec (x / 64 ≡ v / 64) → bit (get_or (set s (v / 64) word) (x / 64) 0) (x % 64) ≡ (bit (get_or s (x / 64) 0) (x % 64) || eqb v x)
    by (yes e) =
        let inside : v / 64 < length s = rw two (omega arith) in
        let same : eqb (v % 64) (x % 64) ≡ eqb v x =
        same_test _ _ (λ d. eq-eqb v x (omega (arith, eqb-true (v % 64) (x % 64) d))) (λ d. eq-eqb (v % 64) (x % 64) (omega (arith, eqb-true v x d))) in
        rw (e, get_or-set_same s (v / 64) word 0 inside, bit_or_lem, bit_power, same)
    by (no d) = rw (get_or-set_other s (v / 64) (x / 64) word 0 d, ne_eqb v x (λ e. d (omega arith))) (sym (or-false _))

-- the two halves of a row
module _ (s : List ℕ) (two : length s ≡ 2) where
  pub low_half : (v : ℕ) → has (get_or s 0 0 ∷ 0 ∷ []) v ≡ (has s v && ltb v 64)
  low_half =
      row_of (get_or s 0 0) 0 (λ v. has s v && ltb v 64)
      (λ i l. sym (has_low s i l) ∙ sym (ap (λ (b : Bool). has s i && b) (lt-ltb i 64 l) ∙ and-true (has s i)))
      (λ i l. bit_zero i ∙ sym (ap (λ (b : Bool). has s (64 + i) && b) (le-ltb (64 + i) 64 (omega arith)) ∙ and_false (has s (64 + i))))
      (λ v l. ap (λ (b : Bool). b && ltb v 64) (has_beyond s v two l))

  pub high_half : (v : ℕ) → has (0 ∷ get_or s 1 0 ∷ []) v ≡ (has s v && not (ltb v 64))
  high_half =
      row_of 0 (get_or s 1 0) (λ v. has s v && not (ltb v 64))
      (λ i l. bit_zero i ∙ sym (ap (λ (b : Bool). has s i && not b) (lt-ltb i 64 l) ∙ and_false (has s i)))
      (λ i l. sym (has_high s i l) ∙ sym (ap (λ (b : Bool). has s (64 + i) && not b) (le-ltb (64 + i) 64 (omega arith)) ∙ and-true (has s (64 + i))))
      (λ v l. ap (λ (b : Bool). b && not (ltb v 64)) (has_beyond s v two l))

members_split : (s : List ℕ) → members s ≡ keep (has s) (below 64) ++ keep (has s) (up_from 64 64)
unfolding members
members_split s = ap (keep (has s)) (below_add 64 64) ∙ keep_append (has s) (below 64) (up_from 64 64)

-- a set and its halves

module _ (s low : List ℕ) (l : (v : ℕ) → has low v ≡ (has s v && ltb v 64)) where
  pub members_low : members s ≡ members low ++ keep (has s) (up_from 64 64)
  members_low = members_split s ∙ ap (λ zs. zs ++ keep (has s) (up_from 64 64)) (sym lows)
    where
      lows : members low ≡ keep (has s) (below 64)
      lows =
          members_split low
          ∙ ap₂ ◌++◌
          (keep_agree (has low) (has s) (below 64)
          (λ v m. l v ∙ ap (λ (b : Bool). has s v && b) (lt-ltb v 64 (mem_below 64 m)) ∙ and-true (has s v)))
          (keep_none (has low) (up_from 64 64)
          (λ v m. l v ∙ ap (λ (b : Bool). has s v && b) (le-ltb v 64 (mem_up_from 64 64 m).0) ∙ and_false (has s v)))
          ∙ append-nil _

  pub low_count : length (members low) ≤ length (members s)
  low_count = omega (arith, ap length members_low, length-append (members low) (keep (has s) (up_from 64 64)))

  module _ (high : List ℕ) (h : (v : ℕ) → has high v ≡ (has s v && not (ltb v 64))) where
    pub members_halves : members s ≡ members low ++ members high
    members_halves = members_low ∙ ap (λ zs. members low ++ zs) (sym highs)
      where
        highs : members high ≡ keep (has s) (up_from 64 64)
        highs =
            members_split high
            ∙ ap₂ ◌++◌
            (keep_none (has high) (below 64)
            (λ v m. h v ∙ ap (λ (b : Bool). has s v && not b) (lt-ltb v 64 (mem_below 64 m)) ∙ and_false (has s v)))
            (keep_agree (has high) (has s) (up_from 64 64)
            (λ v m. h v ∙ ap (λ (b : Bool). has s v && not b) (le-ltb v 64 (mem_up_from 64 64 m).0) ∙ and-true (has s v)))

    pub halves_count : length (members s) ≡ length (members low) + length (members high)
    halves_count = ap length members_halves ∙ length-append (members low) (members high)

-- what code knows of a row
pub record Row (s : List ℕ) : Type 0 where
  pub two : length s ≡ 2
  pub low : Fits w64 (get_or s 0 0)
  pub high : Fits w64 (get_or s 1 0)

-- rows that have the same jobs are equal, word by word

module _ (a b : List ℕ) (r : Row a) (s : Row b) where
  same_rows : ((v : ℕ) → v < 128 → has a v ≡ has b v) → a ≡ b
  same_rows h = ext_get_or 0 a b (omega (arith, r.two, s.two)) words
    where
      words : (i : ℕ) → i < length a → get_or a i 0 ≡ get_or b i 0
      words zero l = same_bits 64 _ _ r.low.fits s.low.fits (λ i m. sym (has_low a i m) ∙ h i (omega arith) ∙ has_low b i m)
      words (suc zero) l =
          same_bits 64 _ _ r.high.fits s.high.fits (λ i m. sym (has_high a i m) ∙ h (64 + i) (omega arith) ∙ has_high b i m)
      words (suc (suc i)) l = absurd (omega (arith, r.two))

  pub equal_rows : bytes_eq a b ≡ not (exists (λ v. xor (has a v) (has b v)) (below 128))
  equal_rows = same_test _ _ alike (λ e. (bytes_decides a b).1 (same_rows (same_jobs a b e)))
    where
      alike : bytes_eq a b ≡ true → not (exists (λ v. xor (has a v) (has b v)) (below 128)) ≡ true
      alike e =
          let same : a ≡ b = (bytes_decides a b).0 e in
          not-false _ (any_none _ (below 128) (λ v _. rw same (in_neither (has b v))))

-- a job that is not the smallest has a smaller one
after_least : (s : List ℕ) (z : ℕ) → Least s z → (v : ℕ) → (has s v && not (eqb v z)) ≡ (has s v && exists (has s) (below v))
after_least s z h v = by (dec_lt z v) ∙ ap (λ (b : Bool). has s v && b) (sym (any_after (has s) z h.least h.member v))
  where
    before : (v ≡ z) ⊎ (v < z) → (has s v && not (eqb v z)) ≡ (has s v && ltb z v)
    before (inl e) = ap (λ (b : Bool). has s v && b) (ap not (eq-eqb v z e) ∙ sym (le-ltb z v (omega arith)))
    before (inr l) = rw (h.least v l)

    by : Dec (z < v) → (has s v && not (eqb v z)) ≡ (has s v && ltb z v)
    by (yes l) = ap (λ (b : Bool). has s v && b) (ap not (ne_eqb v z (λ e. omega arith)) ∙ sym (lt-ltb z v l))
    by (no l) = before (eq-or-lt_of_le (omega arith))

-- a set without its smallest member
pub without_least
    : (s t : List ℕ) (z : ℕ) → Least s z → ((v : ℕ) → has t v ≡ (has s v && exists (has s) (below v)))
    → (v : ℕ) → has t v ≡ (has s v && not (eqb v z))
without_least s t z h rest v = rest v ∙ sym (after_least s z h v)

module _ (s : List ℕ) (r : Row s) where
  -- a word that is not 0 has its lowest bit

  module _ (h : get_or s 0 0 ≡ 0 → ⊥) where
    first_word : (count_trailing_zeros 64 (get_or s 0 0) < 64) × Lowest (get_or s 0 0) (count_trailing_zeros 64 (get_or s 0 0))
    first_word = lowest 64 (get_or s 0 0) (omega arith) r.low.fits

    pub smallest_low : Least s (count_trailing_zeros 64 (get_or s 0 0))
    smallest_low =
        let z = count_trailing_zeros 64 (get_or s 0 0) in
        let l : z < 64 = first_word.0 in
        record {
          small = omega arith;
          member = has_low s z l ∙ first_word.1.set;
          least = λ u m. has_low s u (omega arith) ∙ first_word.1.clear u m;
        }

    pub rest_low : (v : ℕ) → has (bit_and (get_or s 0 0) (get_or s 0 0 - 1) ∷ get_or s 1 0 ∷ []) v ≡ (has s v && exists (has s) (below v))
    rest_low v =
        row_of _ (get_or s 1 0) (λ u. has s u && not (eqb u z)) low high beyond v ∙ after_least s z smallest_low v
      where
        z : ℕ
        z = count_trailing_zeros 64 (get_or s 0 0)

        low : (i : ℕ) → i < 64 → bit (bit_and (get_or s 0 0) (get_or s 0 0 - 1)) i ≡ (has s i && not (eqb i z))
        low i l = bit_and_lem _ _ i ∙ first_word.1.dropped i ∙ ap (λ (b : Bool). b && not (eqb i z)) (sym (has_low s i l))

        high : (i : ℕ) → i < 64 → bit (get_or s 1 0) i ≡ (has s (64 + i) && not (eqb (64 + i) z))
        high i l =
            sym (has_high s i l) ∙ sym (and-true _) ∙ ap (λ (b : Bool). has s (64 + i) && not b) (sym (ne_eqb (64 + i) z (λ e. omega (arith, first_word.0))))

        beyond : (v : ℕ) → 128 ≤ v → (has s v && not (eqb v z)) ≡ false
        beyond v l = ap (λ (b : Bool). b && not (eqb v z)) (has_beyond s v r.two l)

  module _ (e : get_or s 0 0 ≡ 0) (h : get_or s 1 0 ≡ 0 → ⊥) where
    second_word : (count_trailing_zeros 64 (get_or s 1 0) < 64) × Lowest (get_or s 1 0) (count_trailing_zeros 64 (get_or s 1 0))
    second_word = lowest 64 (get_or s 1 0) (omega arith) r.high.fits

    low_clear : (i : ℕ) → i < 64 → has s i ≡ false
    low_clear i l = has_low s i l ∙ ap (λ (w : ℕ). bit w i) e ∙ bit_zero i

    smallest_high : Least s (64 + count_trailing_zeros 64 (get_or s 1 0))
    smallest_high =
        record { small = omega (arith, second_word.0); member = has_high s z second_word.0 ∙ second_word.1.set; least = least }
      where
        z : ℕ
        z = count_trailing_zeros 64 (get_or s 1 0)

        least : (u : ℕ) → u < 64 + z → has s u ≡ false
        least u m =
            elim (dec_lt u 64) [
              | yes l ↦ low_clear u l
              | no l ↦
                  let w : 64 + (u - 64) ≡ u = omega arith in
                  ap (has s) (sym w) ∙ has_high s (u - 64) (omega (arith, second_word.0)) ∙ second_word.1.clear (u - 64) (omega arith)
            ]

    rest_high : (v : ℕ) → has (0 ∷ bit_and (get_or s 1 0) (get_or s 1 0 - 1) ∷ []) v ≡ (has s v && exists (has s) (below v))
    rest_high v =
        row_of 0 _ (λ u. has s u && not (eqb u (64 + z))) low high beyond v ∙ after_least s (64 + z) smallest_high v
      where
        z : ℕ
        z = count_trailing_zeros 64 (get_or s 1 0)

        low : (i : ℕ) → i < 64 → bit 0 i ≡ (has s i && not (eqb i (64 + z)))
        low i l = bit_zero i ∙ ap (λ (b : Bool). b && not (eqb i (64 + z))) (sym (low_clear i l))

        high : (i : ℕ) → i < 64 → bit (bit_and (get_or s 1 0) (get_or s 1 0 - 1)) i ≡ (has s (64 + i) && not (eqb (64 + i) (64 + z)))
        high i l =
            bit_and_lem _ _ i ∙ second_word.1.dropped i ∙ ap₂ (λ (a b : Bool). a && not b) (sym (has_high s i l)) (sym (eqb_shift i z))

        beyond : (v : ℕ) → 128 ≤ v → (has s v && not (eqb v (64 + z))) ≡ false
        beyond v l = ap (λ (b : Bool). b && not (eqb v (64 + z))) (has_beyond s v r.two l)

  -- a row has a member where its words are not both 0

  empty : get_or s 0 0 ≡ 0 → get_or s 1 0 ≡ 0 → (v : ℕ) → has s v ≡ false
  empty p q =
      job_ind (λ v. has s v ≡ false)
      (λ i l. has_low s i l ∙ ap (λ (w : ℕ). bit w i) p ∙ bit_zero i)
      (λ i l. has_high s i l ∙ ap (λ (w : ℕ). bit w i) q ∙ bit_zero i)
      (λ v l. has_beyond s v r.two l)

  least_found : (z : ℕ) → Least s z → exists (has s) (below 128) ≡ true
  least_found z h = any_hit (has s) (below_mem h.small) h.member

  pub inhabited : not (eqb (bit_or (get_or s 0 0) (get_or s 1 0)) 0) ≡ exists (has s) (below 128)
  inhabited = by (ℕ_discrete (get_or s 0 0) 0) (ℕ_discrete (get_or s 1 0) 0)
    where
      x : ℕ
      x = get_or s 0 0

      y : ℕ
      y = get_or s 1 0

      differs : (x + y ≡ 0 → ⊥) → not (eqb (bit_or x y) 0) ≡ true
      differs h = ap not (ne_eqb (bit_or x y) 0 (λ e. h (omega (arith, or_add_and x y, and_le_l x y, and_le_r x y))))

      by : Dec (x ≡ 0) → Dec (y ≡ 0) → not (eqb (bit_or x y) 0) ≡ exists (has s) (below 128)
      by (yes p) (yes q) = rw (p, q) (sym (any_none (has s) (below 128) (λ v _. empty p q v)))
      by (yes p) (no q) = differs (λ e. q (omega arith)) ∙ sym (least_found _ (smallest_high p q))
      by (no p) q = differs (λ e. p (omega arith)) ∙ sym (least_found _ (smallest_low p))

  -- so where the first word is 0 the second is not, and has the smallest member
  module _ (h : exists (has s) (below 128) ≡ true) (p : get_or s 0 0 ≡ 0) where
    pub second_some : get_or s 1 0 ≡ 0 → ⊥
    second_some q = let f = any_found (has s) (below 128) h in clash f.2 (empty p q f.0)

    pub smallest_second : Least s (64 + count_trailing_zeros 64 (get_or s 1 0))
    smallest_second = smallest_high p second_some

    pub rest_second : (v : ℕ) → has (0 ∷ bit_and (get_or s 1 0) (get_or s 1 0 - 1) ∷ []) v ≡ (has s v && exists (has s) (below v))
    rest_second = rest_high p second_some

  -- a word that is not 0 has its highest bit

  pub largest_high : (get_or s 1 0 ≡ 0 → ⊥) → Greatest s (127 - count_leading_zeros 64 (get_or s 1 0))
  largest_high h =
      let f = highest 64 (get_or s 1 0) (omega arith) r.high.fits in
      let z = 64 - 1 - count_leading_zeros 64 (get_or s 1 0) in
      let e : 127 - count_leading_zeros 64 (get_or s 1 0) ≡ 64 + z = omega (arith, f.0) in
      rw e (record {
        small = omega arith;
        member = has_high s z (omega arith) ∙ f.1.set;
        greatest =
            job_ind (λ u. 64 + z < u → has s u ≡ false)
            (λ i l m. absurd (omega arith))
            (λ i l m. has_high s i l ∙ f.1.clear i (omega arith))
            (λ v l m. has_beyond s v r.two l);
      })

  pub largest_low : get_or s 1 0 ≡ 0 → (get_or s 0 0 ≡ 0 → ⊥) → Greatest s (63 - count_leading_zeros 64 (get_or s 0 0))
  largest_low e h =
      let f = highest 64 (get_or s 0 0) (omega arith) r.low.fits in
      let z = 64 - 1 - count_leading_zeros 64 (get_or s 0 0) in
      record {
        small = omega arith;
        member = has_low s z (omega arith) ∙ f.1.set;
        greatest =
            job_ind (λ u. z < u → has s u ≡ false)
            (λ i l m. has_low s i l ∙ f.1.clear i m)
            (λ i l m. has_high s i l ∙ ap (λ (w : ℕ). bit w i) e ∙ bit_zero i)
            (λ v l m. has_beyond s v r.two l);
      }

  pub size_small : ones (get_or s 0 0) + ones (get_or s 1 0) ≤ 128
  size_small = omega (arith, ones-le 64 (get_or s 0 0) r.low.fits, ones-le 64 (get_or s 1 0) r.high.fits)

  pub size : ones (get_or s 0 0) + ones (get_or s 1 0) ≡ length (members s)
  unfolding members below
  size =
      ap₂ ◌+◌ (ones_count 64 (get_or s 0 0) r.low.fits ∙ sym low) (ones_count 64 (get_or s 1 0) r.high.fits ∙ sym high)
      ∙ sym (ap length (members_split s) ∙ length-append (keep (has s) (below 64)) (keep (has s) (up_from 64 64)))
    where
      low : length (keep (has s) (below 64)) ≡ length (keep (bit (get_or s 0 0)) (below 64))
      low = ap length (keep_agree (has s) (bit (get_or s 0 0)) (below 64) (λ i m. has_low s i (mem_below 64 m)))

      high : length (keep (has s) (up_from 64 64)) ≡ length (keep (bit (get_or s 1 0)) (below 64))
      high =
          ap length
          (keep_shift (has s) 64 0 64
          ∙ ap (map (λ i. 64 + i)) (keep_agree (λ i. has s (64 + i)) (bit (get_or s 1 0)) (below 64) (λ i m. has_high s i (mem_below 64 m))))
          ∙ length-map (keep (bit (get_or s 1 0)) (below 64)) (λ i. 64 + i)

-- the members, one after the other

members_from : (p : ℕ → Bool) (z : ℕ) → z < 128 → ((i : ℕ) → i < z → p i ≡ false) → keep p (below 128) ≡ keep p (z ∷ up_from (suc z) (127 - z))
unfolding up_from
members_from p z l clear =
    let e : 128 ≡ z + suc (127 - z) = omega arith in
    ap (λ (n : ℕ). keep p (below n)) e ∙ keep_from p z clear (suc (127 - z))

pub members_head : (s : List ℕ) (z : ℕ) → Least s z → members s ≡ z ∷ keep (has s) (up_from (suc z) (127 - z))
unfolding members
members_head s z h = members_from (has s) z h.small h.least ∙ keep_yes (has s) z (up_from (suc z) (127 - z)) h.member

pub Members-step
    : (s t : List ℕ) (z : ℕ) → Least s z → ((v : ℕ) → has t v ≡ (has s v && exists (has s) (below v))) → members s ≡ z ∷ members t
unfolding members
Members-step s t z h rest =
    members_head s z h
    ∙ ap {B = List ℕ} (λ zs. z ∷ zs)
    (keep_agree (has s) (has t) above later ∙ sym (members_from (has t) z h.small clear ∙ keep_not (has t) z above gone))
  where
    above : List ℕ
    above = up_from (suc z) (127 - z)

    later : (v : ℕ) → Memᴰ v above → has s v ≡ has t v
    later v l =
        let some = any_hit (has s) (below_mem {n = v} (mem_up_from (suc z) (127 - z) l).0) h.member in
        sym (rest v ∙ ap (λ (b : Bool). has s v && b) some ∙ and-true (has s v))

    clear : (i : ℕ) → i < z → has t i ≡ false
    clear i l = rest i ∙ ap (λ (b : Bool). b && exists (has s) (below i)) (h.least i l)

    gone : has t z ≡ false
    gone =
        rest z ∙ ap (λ (b : Bool). has s z && b) (any_none (has s) (below z) (λ i l. h.least i (mem_below z l))) ∙ and_false (has s z)

pub members_less
    : (s t : List ℕ) (z : ℕ) → Least s z → ((v : ℕ) → has t v ≡ (has s v && exists (has s) (below v))) → length (members t) < length (members s)
members_less s t z h rest = omega (arith, ap length (Members-step s t z h rest))

pub members_end : (s : List ℕ) → exists (has s) (below 128) ≡ false → members s ≡ []
unfolding members
members_end s h = keep_none (has s) (below 128) (λ v m. any_miss (has s) (below 128) h m)

pub members_mem : (s : List ℕ) {v : ℕ} → Memᴰ v (members s) → (v < 128) × (has s v ≡ true)
unfolding members
members_mem s m = let f = mem_keep (has s) (below 128) m in (mem_below 128 f.0, f.1)

-- the members of a row that has jobs below n alone
pub members_below : (n : ℕ) (s : List ℕ) → n ≤ 128 → ((v : ℕ) → has s v ≡ true → v < n) → keep (has s) (below n) ≡ members s
unfolding members
members_below n s l h =
    let e : n + (128 - n) ≡ 128 = omega arith in
    sym (ap (λ (m : ℕ). keep (has s) (below m)) (sym e) ∙ ap (keep (has s)) (below_add n (128 - n))
    ∙ keep_append (has s) (below n) (up_from n (128 - n)) ∙ ap (λ zs. keep (has s) (below n) ++ zs) beyond ∙ append-nil _)
  where
    beyond : keep (has s) (up_from n (128 - n)) ≡ []
    beyond =
        keep_none (has s) (up_from n (128 - n)) λ v m.
        false_unless _ λ e. lt_irrefl v (lt_of_lt_of_le (h v e) (mem_up_from n (128 - n) m).0)

pub members_some : (s : List ℕ) (z : ℕ) → Least s z → 0 < length (members s)
unfolding members
members_some s z h = some (keep_mem (has s) (below_mem h.small) h.member)
  where
    some : {x : ℕ} {xs : List ℕ} → Memᴰ x xs → 0 < length xs
    some (Memᴰ.head {xs = xs} e) = zero-lt-suc (length xs)
    some (Memᴰ.tail {xs = xs} m) = zero-lt-suc (length xs)
