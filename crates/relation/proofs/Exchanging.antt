-- A table turned round digit by digit: a step on a pair of rows, on all pairs, and the steps one after the other.
use Prim.Native.Nat.{ℕ, ◌+◌, ◌-◌, ◌*◌, ◌/◌, ◌%◌, ◌^◌, ◌≤◌, ◌<◌}
use native.Mathlib.Nat.{eq-or-lt_of_le, mod-le, mod-eq_of_lt, div-lt_iff_lt-mul, one-mul, mul-div_cancel}
use native.Mathlib.Decide.{dec_lt}
use native.Mathlib.Omega.{arith}
use mathlib.Core.Path.{◌≡◌, refl, sym, ap, ap₂, fun_ext, ◌∙◌}
use mathlib.Core.List.{List, [], ◌∷◌}
use mathlib.Core.Bool.{Bool, true, false, not}
use mathlib.Core.Logic.{◌⊎◌, inl, inr, ⊎_elim}
use lib.Bits.{bit_and, bit_or}
use lib.ListN.{length, get_or, set, length-set, get_or-eq_default}
use lib.Pow.{pow_pos, split}
use mir.Syntax.{w64}
use mir.Val.{Fits}
use Rattle.poset.specs.Order.{Rel}
use Rattle.poset.specs.Lists.{exists, below, up_from}
use Rattle.poset.proofs.Laws.{decided, clash, false_unless, any_miss, below_mem}
use Rattle.relation.specs.Table.{bit, has, holds, Inside}
use Rattle.relation.specs.Exchange.{first_row_of, second_row_of, exchanged, Until}
use Rattle.relation.proofs.Words.{bit_zero, bit_beyond, bit_shl, bit_shr, bit_chosen, bit_other}
use Rattle.relation.proofs.Sets.{has_low, has_high, has_beyond, row_of}
use Rattle.relation.proofs.Tables.{row_here, row_there}
use Rattle.relation.proofs.Digits.{set_le, stays_above, stays_below, digit_above, lower_set, lower_clear, lower_add, lower_sub}
use Rattle.relation.proofs.Digits.{index, smaller, smaller_clear, larger_set, index_smaller, index_larger, of_pair, index_above}

-- the columns of a word without digit e, for each e below 6; a test of all their bits shows it

abbrev pub masks : List ℕ
masks =
    0x5555_5555_5555_5555 ∷ 0x3333_3333_3333_3333 ∷ 0x0f0f_0f0f_0f0f_0f0f ∷ 0x00ff_00ff_00ff_00ff ∷ 0x0000_ffff_0000_ffff ∷ 0x0000_0000_ffff_ffff ∷ []

unlike : Bool → Bool → Bool
unlike a b = elim a [ true ↦ not b | false ↦ b ]

unlike_none : (a b : Bool) → unlike a b ≡ false → a ≡ b
unfolding unlike
unlike_none true true q = refl
unlike_none true false q = q
unlike_none false true q = sym q
unlike_none false false q = refl

wrong : ℕ → ℕ → Bool
wrong e i = unlike (bit (get_or masks e 0) i) (not (bit i e))

none_wrong : exists (λ e. exists (wrong e) (below 64)) (below 6) ≡ false
unfolding wrong unlike exists below up_from bit
none_wrong = refl

mask_right : (e : ℕ) → e < 6 → (i : ℕ) → i < 64 → bit (get_or masks e 0) i ≡ not (bit i e)
unfolding wrong
mask_right e l i m =
    unlike_none _ _ (any_miss (wrong e) (below 64) (any_miss (λ e. exists (wrong e) (below 64)) (below 6) none_wrong (below_mem l)) (below_mem m))

-- what step e asks, where e is k, is what its loop asks for k
pub asked_within
    : (k : ℕ) → k < 6 → (e w : ℕ) (t : List (List ℕ)) → e ≡ k → ((e < w) × (w ≤ 7) × (length t ≡ 128)) × Until (2 ^ w) t
    → ((k < 6) × (k < w) × (w ≤ 7) × (length t ≡ 128)) × (((i : ℕ) → i < 64 → bit (get_or masks k 0) i ≡ not (bit i k)) × Until (2 ^ w) t)
asked_within k l e w t h p = ((l, omega (arith, p.0.0), p.0.1, p.0.2), (mask_right k l, p.1))

-- a row after a step, by the digit of its columns

module _ (e : ℕ) (a b : ℕ → Bool) (v : ℕ) (x : Bool) where
  first_by : (bit v e ≡ true → x ≡ b (v - 2 ^ e)) → (bit v e ≡ false → x ≡ a v) → x ≡ first_row_of e a b v
  unfolding first_row_of
  first_by p q = ⊎_elim (λ (h : bit v e ≡ true). rw (h, first_row_of) (p h)) (λ (h : bit v e ≡ false). rw (h, first_row_of) (q h)) (decided (bit v e))

  second_by : (bit v e ≡ true → x ≡ b v) → (bit v e ≡ false → x ≡ a (v + 2 ^ e)) → x ≡ second_row_of e a b v
  unfolding second_row_of
  second_by p q = ⊎_elim (λ (h : bit v e ≡ true). rw (h, second_row_of) (p h)) (λ (h : bit v e ≡ false). rw (h, second_row_of) (q h)) (decided (bit v e))

-- rows of two words

module _ (a b : List ℕ) (two_a : length a ≡ 2) (two_b : length b ≡ 2) (e : ℕ) where
  beyond_first : e < 7 → (v : ℕ) → 128 ≤ v → first_row_of e (has a) (has b) v ≡ false
  beyond_first l v m =
      sym (first_by e (has a) (has b) v false
      (λ h. sym (has_beyond b (v - 2 ^ e) two_b (stays_above e 7 v l h m)))
      (λ h. sym (has_beyond a v two_a m)))

  beyond_second : (v : ℕ) → 128 ≤ v → second_row_of e (has a) (has b) v ≡ false
  beyond_second v m =
      sym (second_by e (has a) (has b) v false
      (λ h. sym (has_beyond b v two_b m))
      (λ h. sym (has_beyond a (v + 2 ^ e) two_a (omega arith))))

  module _ (l : e < 6) (clear : ℕ) (fits : Fits w64 clear) (mask : (i : ℕ) → i < 64 → bit clear i ≡ not (bit i e)) where
    -- the columns with digit e, moved down to those without it, and the other way
    taken : (i : ℕ) → i < 64 → bit i e ≡ true → bit clear i ≡ false
    taken i m h = mask i m ∙ ap not h

    kept : (i : ℕ) → i < 64 → bit i e ≡ false → bit clear i ≡ true
    kept i m h = mask i m ∙ ap not h

    abbrev chosen : ℕ → ℕ → ℕ
    chosen x y = bit_or (bit_and x clear) (bit_and y (2 ^ 64 - 1 - clear))

    abbrev shl : ℕ → ℕ
    shl x = x * 2 ^ (2 ^ e) % 2 ^ 64

    abbrev shr : ℕ → ℕ
    shr x = x / 2 ^ (2 ^ e)

    pub first_within : (v : ℕ) → has (chosen (get_or a 0 0) (shl (get_or b 0 0)) ∷ chosen (get_or a 1 0) (shl (get_or b 1 0)) ∷ []) v ≡ first_row_of e
        (has a) (has b) v
    first_within = row_of _ _ (first_row_of e (has a) (has b)) low high (beyond_first (omega arith))
      where
        low : (i : ℕ) → i < 64 → bit (chosen (get_or a 0 0) (shl (get_or b 0 0))) i ≡ first_row_of e (has a) (has b) i
        low i m =
            first_by e (has a) (has b) i _
            (λ h.
            bit_other (get_or a 0 0) (shl (get_or b 0 0)) clear i m fits.fits (taken i m h)
            ∙ bit_shl (get_or b 0 0) (2 ^ e) i (set_le i e h) m ∙ sym (has_low b (i - 2 ^ e) (omega arith)))
            (λ h. bit_chosen (get_or a 0 0) (shl (get_or b 0 0)) clear i m fits.fits (kept i m h) ∙ sym (has_low a i m))

        high : (i : ℕ) → i < 64 → bit (chosen (get_or a 1 0) (shl (get_or b 1 0))) i ≡ first_row_of e (has a) (has b) (64 + i)
        high i m =
            first_by e (has a) (has b) (64 + i) _
            (λ h.
            let h' = sym (digit_above e 6 i l) ∙ h in
            let s : 64 + (i - 2 ^ e) ≡ 64 + i - 2 ^ e = omega (arith, set_le i e h') in
            bit_other (get_or a 1 0) (shl (get_or b 1 0)) clear i m fits.fits (taken i m h')
            ∙ bit_shl (get_or b 1 0) (2 ^ e) i (set_le i e h') m ∙ sym (has_high b (i - 2 ^ e) (omega arith)) ∙ ap (has b) s)
            (λ h.
            bit_chosen (get_or a 1 0) (shl (get_or b 1 0)) clear i m fits.fits (kept i m (sym (digit_above e 6 i l) ∙ h)) ∙ sym (has_high a i m))

    pub second_within : (v : ℕ) → has (chosen (shr (get_or a 0 0)) (get_or b 0 0) ∷ chosen (shr (get_or a 1 0)) (get_or b 1 0) ∷ []) v ≡ second_row_of
        e (has a) (has b) v
    second_within = row_of _ _ (second_row_of e (has a) (has b)) low high beyond_second
      where
        low : (i : ℕ) → i < 64 → bit (chosen (shr (get_or a 0 0)) (get_or b 0 0)) i ≡ second_row_of e (has a) (has b) i
        low i m =
            second_by e (has a) (has b) i _
            (λ h. bit_other (shr (get_or a 0 0)) (get_or b 0 0) clear i m fits.fits (taken i m h) ∙ sym (has_low b i m))
            (λ h.
            bit_chosen (shr (get_or a 0 0)) (get_or b 0 0) clear i m fits.fits (kept i m h)
            ∙ bit_shr (get_or a 0 0) (2 ^ e) i ∙ sym (has_low a (i + 2 ^ e) (stays_below e 6 i l h m)))

        high : (i : ℕ) → i < 64 → bit (chosen (shr (get_or a 1 0)) (get_or b 1 0)) i ≡ second_row_of e (has a) (has b) (64 + i)
        high i m =
            second_by e (has a) (has b) (64 + i) _
            (λ h. bit_other (shr (get_or a 1 0)) (get_or b 1 0) clear i m fits.fits (taken i m (sym (digit_above e 6 i l) ∙ h)) ∙ sym (has_high b i m))
            (λ h.
            let h' = sym (digit_above e 6 i l) ∙ h in
            let s : 64 + (i + 2 ^ e) ≡ 64 + i + 2 ^ e = omega arith in
            bit_chosen (shr (get_or a 1 0)) (get_or b 1 0) clear i m fits.fits (kept i m h')
            ∙ bit_shr (get_or a 1 0) (2 ^ e) i ∙ sym (has_high a (i + 2 ^ e) (stays_below e 6 i l h' m)) ∙ ap (has a) s)

-- the words themselves change places

module _ (a b : List ℕ) (two_a : length a ≡ 2) (two_b : length b ≡ 2) where
  low_clear : (i : ℕ) → i < 64 → bit i 6 ≡ false
  low_clear i m = bit_beyond i 6 m

  high_set : (i : ℕ) → i < 64 → bit (64 + i) 6 ≡ true
  unfolding bit
  high_set i m = let d : (64 + i) / 64 % 2 ≡ 1 = omega arith in rw d

  pub first_across : (v : ℕ) → has (get_or a 0 0 ∷ get_or b 0 0 ∷ []) v ≡ first_row_of 6 (has a) (has b) v
  first_across =
      row_of _ _ (first_row_of 6 (has a) (has b))
      (λ i m. first_by 6 (has a) (has b) i _ (λ h. absurd (clash h (low_clear i m))) (λ h. sym (has_low a i m)))
      (λ i m.
      let s : i ≡ 64 + i - 64 = omega arith in
      first_by 6 (has a) (has b) (64 + i) _ (λ h. sym (has_low b i m) ∙ ap (has b) s) (λ h. absurd (clash (high_set i m) h)))
      (beyond_first a b two_a two_b 6 (omega arith))

  pub second_across : (v : ℕ) → has (get_or a 1 0 ∷ get_or b 1 0 ∷ []) v ≡ second_row_of 6 (has a) (has b) v
  second_across =
      row_of _ _ (second_row_of 6 (has a) (has b))
      (λ i m.
      let s : 64 + i ≡ i + 64 = omega arith in
      second_by 6 (has a) (has b) i _ (λ h. absurd (clash h (low_clear i m))) (λ h. sym (has_high a i m) ∙ ap (has a) s))
      (λ i m. second_by 6 (has a) (has b) (64 + i) _ (λ h. sym (has_high b i m)) (λ h. absurd (clash (high_set i m) h)))
      (beyond_second a b two_a two_b 6)

-- a relation after a step, by the digits of both numbers
module _ (e : ℕ) (r : Rel) (u v : ℕ) (x : Bool) where
  crossed_by
      : (bit u e ≡ true → bit v e ≡ true → x ≡ r u v) → (bit u e ≡ true → bit v e ≡ false → x ≡ r (u - 2 ^ e) (v + 2 ^ e))
      → (bit u e ≡ false → bit v e ≡ true → x ≡ r (u + 2 ^ e) (v - 2 ^ e)) → (bit u e ≡ false → bit v e ≡ false → x ≡ r u v)
      → x ≡ exchanged e r u v
  unfolding exchanged
  crossed_by yy yn ny nn =
      ⊎_elim
      (λ (h : bit u e ≡ true). rw (h, exchanged) (second_by e (r (u - 2 ^ e)) (r u) v x (yy h) (yn h)))
      (λ (h : bit u e ≡ false). rw (h, exchanged) (first_by e (r u) (r (u + 2 ^ e)) v x (ny h) (nn h)))
      (decided (bit u e))

-- rows from 2 ^ w on that are empty stay so
pub crossed_empty
    : (e w : ℕ) (r : Rel) → e < w → ((u v : ℕ) → 2 ^ w ≤ u → r u v ≡ false) → (u v : ℕ) → 2 ^ w ≤ u → exchanged e r u v ≡ false
crossed_empty e w r l empty u v m =
    sym (crossed_by e r u v false
    (λ p q. sym (empty u v m))
    (λ p q. sym (empty (u - 2 ^ e) (v + 2 ^ e) (stays_above e w u l p m)))
    (λ p q. sym (empty (u + 2 ^ e) (v - 2 ^ e) (omega arith)))
    (λ p q. sym (empty u v m)))

pub until_inside : (n w : ℕ) (t : List (List ℕ)) → n ≤ 2 ^ w → Inside n t → Until (2 ^ w) t
until_inside n w t l inside u v m = false_unless _ (λ h. omega (arith, (inside u v h).0))

-- no table has a row from 128 on
pub until_rows : (t : List (List ℕ)) → length t ≡ 128 → Until 128 t
unfolding holds has
until_rows t h u v l = ap (λ s. bit (get_or s (v / 64) 0) (v % 64)) (get_or-eq_default t [] (rw h l)) ∙ bit_zero (v % 64)

-- the pairs of rows before pair m have been through step e
pub record Paired (e : ℕ) (before t : List (List ℕ)) (pairs m : ℕ) : Type 0 where
  pub within : m ≤ pairs
  pub rows : length t ≡ 128
  pub done : (u v : ℕ) → index e u < m → holds t u v ≡ exchanged e (holds before) u v
  pub left : (u v : ℕ) → m ≤ index e u → holds t u v ≡ holds before u v

module _ (e : ℕ) (before : List (List ℕ)) (pairs : ℕ) where
  pub paired_none : length before ≡ 128 → Paired e before before pairs 0
  paired_none h = record { within = omega arith; rows = h; done = λ u v l. absurd (omega arith); left = λ u v l. refl }

  module _ (t : List (List ℕ)) (m : ℕ) (p : Paired e before t pairs m) where
    pub paired_end
        : (w : ℕ) → pairs ≡ 2 ^ (w - 1) → pairs ≤ m → e < w → Until (2 ^ w) before → (u v : ℕ) → holds t u v ≡ exchanged e (holds before) u v
    paired_end w s l k empty u v = by (dec_lt (index e u) m)
      where
        by : Dec (index e u < m) → holds t u v ≡ exchanged e (holds before) u v
        by (yes h) = p.done u v h
        by (no h) =
            let above = index_above e w u k (omega arith) in
            p.left u v (omega arith) ∙ empty u v above ∙ sym (crossed_empty e w (holds before) k empty u v above)

    -- the next pair, of rows k and k'
    module _ (k k' : ℕ) (near : k ≡ smaller e m) (far : k' ≡ smaller e m + 2 ^ e) (room : k' < 128) (x y : List ℕ)
        (one : (v : ℕ) → has x v ≡ first_row_of e (has (get_or t k [])) (has (get_or t k' [])) v)
        (two : (v : ℕ) → has y v ≡ second_row_of e (has (get_or t k [])) (has (get_or t k' [])) v)
      where
        index_k : index e k ≡ m
        index_k = ap (index e) near ∙ index_smaller e m

        index_k' : index e k' ≡ m
        index_k' = ap (index e) far ∙ index_larger e m

        was : (u : ℕ) → index e u ≡ m → has (get_or t u []) ≡ holds before u
        unfolding holds
        was u h = fun_ext λ v. p.left u v (omega arith)

        here : (u v : ℕ) → (u ≡ smaller e m) ⊎ (u ≡ smaller e m + 2 ^ e) → holds (set (set t k x) k' y) u v ≡ exchanged e (holds before) u v
        unfolding exchanged
        here u v (inl c) =
            let d : k' ≡ k + 2 ^ e = omega arith in
            let h : u ≡ k = omega arith in
            let clear : bit k e ≡ false = ap (λ (z : ℕ). bit z e) near ∙ smaller_clear e m in
            rw h (row_there (set t k x) k' y k v (λ h. omega (arith, pow_pos e)) ∙ row_here t k x (rw p.rows (omega arith)) v ∙ one v
            ∙ ap₂ (λ f g. first_row_of e f g v) (was k index_k) (was k' index_k' ∙ ap (holds before) d) ∙ rw (clear, exchanged))
        here u v (inr c) =
            let d : k ≡ k' - 2 ^ e = omega arith in
            let h : u ≡ k' = omega arith in
            let isset : bit k' e ≡ true = ap (λ (z : ℕ). bit z e) far ∙ larger_set e m in
            rw h (row_here (set t k x) k' y (rw (length-set t k x, p.rows) room) v ∙ two v
            ∙ ap₂ (λ f g. second_row_of e f g v) (was k index_k ∙ ap (holds before) d) (was k' index_k') ∙ rw (isset, exchanged))

        there : (u v : ℕ) → (index e u ≡ m → ⊥) → holds (set (set t k x) k' y) u v ≡ holds t u v
        there u v n =
            row_there (set t k x) k' y u v (λ h. n (ap (index e) h ∙ index_k')) ∙ row_there t k x u v (λ h. n (ap (index e) h ∙ index_k))

        pub paired_next : m < pairs → Paired e before (set (set t k x) k' y) pairs (m + 1)
        paired_next l =
            record {
              within = omega arith;
              rows = length-set (set t k x) k' y ∙ length-set t k x ∙ p.rows;
              done =
                  λ u v d.
                  ⊎_elim
                  (λ (c : index e u ≡ m). here u v (of_pair e m u c))
                  (λ (c : index e u < m). there u v (λ h. omega arith) ∙ p.done u v c)
                  (eq-or-lt_of_le (omega arith));
              left = λ u v d. there u v (λ h. omega arith) ∙ p.left u v (omega arith);
            }

-- a relation with the digits below e of both numbers exchanged
pub turned : ℕ → Rel → Rel
turned e r u v = r (u - u % 2 ^ e + v % 2 ^ e) (v - v % 2 ^ e + u % 2 ^ e)

turned_next : (e : ℕ) (r : Rel) (u v : ℕ) → turned (e + 1) r u v ≡ exchanged e (turned e r) u v
unfolding turned
turned_next e r u v =
    crossed_by e (turned e r) u v _
    (λ p q.
    ap₂ r
    (omega (arith, lower_set u e p, lower_set v e q, mod-le u (2 ^ (e + 1)), mod-le v (2 ^ (e + 1))))
    (omega (arith, lower_set u e p, lower_set v e q, mod-le u (2 ^ (e + 1)), mod-le v (2 ^ (e + 1)))))
    (λ p q.
    ap₂ r
    (omega (arith, lower_set u e p, lower_clear v e q, lower_sub u e p, lower_add v e, mod-le u (2 ^ (e + 1)), mod-le v (2 ^ (e + 1))))
    (omega (arith, lower_set u e p, lower_clear v e q, lower_sub u e p, lower_add v e, mod-le u (2 ^ (e + 1)), mod-le v (2 ^ (e + 1)))))
    (λ p q.
    ap₂ r
    (omega (arith, lower_clear u e p, lower_set v e q, lower_add u e, lower_sub v e q, mod-le u (2 ^ (e + 1)), mod-le v (2 ^ (e + 1))))
    (omega (arith, lower_clear u e p, lower_set v e q, lower_add u e, lower_sub v e q, mod-le u (2 ^ (e + 1)), mod-le v (2 ^ (e + 1)))))
    (λ p q. ap₂ r (omega (arith, lower_clear u e p, lower_clear v e q)) (omega (arith, lower_clear u e p, lower_clear v e q)))

-- the steps below e are done
pub record Turned (t r : List (List ℕ)) (w e : ℕ) : Type 0 where
  pub within : e ≤ w
  pub rows : length r ≡ 128
  pub empty : Until (2 ^ w) r
  pub held : (u v : ℕ) → holds r u v ≡ turned e (holds t) u v

module _ (t : List (List ℕ)) (w : ℕ) where
  pub turned_none : length t ≡ 128 → Until (2 ^ w) t → Turned t t w 0
  unfolding turned
  turned_none h empty = record { within = omega arith; rows = h; empty = empty; held = λ u v. ap₂ (holds t) (omega arith) (omega arith) }

  module _ (r : List (List ℕ)) (e : ℕ) (p : Turned t r w e) where
    pub turned_step : (s : List (List ℕ)) → e < w → length s ≡ 128 → ((u v : ℕ) → holds s u v ≡ exchanged e (holds r) u v) → Turned t s w (e + 1)
    turned_step s l h step =
        record {
          within = omega arith;
          rows = h;
          empty = λ u v m. step u v ∙ crossed_empty e w (holds r) l p.empty u v m;
          held =
              λ u v. step u v ∙ ap (λ q. exchanged e q u v) (fun_ext λ x. fun_ext λ y. p.held x y) ∙ sym (turned_next e (holds t) u v);
        }

    pub turned_end : (n : ℕ) → w ≤ e → n ≤ 2 ^ w → Inside n t → (u v : ℕ) → holds r u v ≡ holds t v u
    unfolding turned
    turned_end n l m inside u v = p.held u v ∙ by (dec_lt u (2 ^ e)) (dec_lt v (2 ^ e))
      where
        small : n ≤ 2 ^ e
        small = let h : e ≡ w = omega (arith, p.within) in rw h m

        -- a number that is below 2 ^ e but for its digits below e
        under : (x : ℕ) → x - x % 2 ^ e < 2 ^ e → x < 2 ^ e
        under x h =
            let q : x / 2 ^ e * 2 ^ e / 2 ^ e < 1 = (div-lt_iff_lt-mul (pow_pos e)).1 (omega (arith, split x e, one-mul (2 ^ e))) in
            omega (arith, (div-lt_iff_lt-mul {x = x} {y = 1} (pow_pos e)).0 (omega (arith, mul-div_cancel (x / 2 ^ e) (pow_pos e))), one-mul (2 ^ e))

        by : Dec (u < 2 ^ e) → Dec (v < 2 ^ e) → turned e (holds t) u v ≡ holds t v u
        by (yes a) (yes b) = ap₂ (holds t) (omega (arith, mod-eq_of_lt a, mod-eq_of_lt b)) (omega (arith, mod-eq_of_lt a, mod-eq_of_lt b))
        by (no a) b =
            false_unless _ (λ h. a (under u (omega (arith, (inside _ _ h).0, small)))) ∙ sym (false_unless _ (λ h. omega (arith, (inside v u h).1, small)))
        by (yes a) (no b) =
            false_unless _ (λ h. b (under v (omega (arith, (inside _ _ h).1, small)))) ∙ sym (false_unless _ (λ h. omega (arith, (inside v u h).0, small)))
