-- The jobs after a job that are after another such job: a sweep over the first, from both ends, that leaves out what it has found.
use Prim.Native.Nat.{ℕ, ◌+◌, ◌-◌, ◌*◌, ◌%◌, ◌^◌, ◌≤◌, ◌<◌, min, suc-le-suc}
use native.Mathlib.Decide.{ℕ_discrete}
use native.Mathlib.Omega.{arith}
use native.Mathlib.Nat.{lt_of_lt_of_le, zero-add}
use mathlib.Core.Path.{◌≡◌, sym, ap, ap₂, ◌∙◌}
use mathlib.Core.List.{List, [], ◌∷◌}
use mathlib.Core.Bool.{Bool, true, false, ◌&&◌, ◌||◌, not}
use mathlib.Core.Logic.{◌⊎◌, inl, inr, ⊎_elim}
use lib.Dec.{eqb, ltb}
use lib.ListN.{length, get_or}
use lib.Bits.{bit_and, bit_or}
use borrow.Author.Tests.{lt-ltb, le-ltb, ltb-true, eq-eqb, ne_eqb}
use Rattle.poset.specs.Lists.{exists, below}
use Rattle.poset.specs.Order.{Rel, Strict, covers}
use Rattle.poset.proofs.Laws.{decided, clash, false_unless, same_test, and_left, and_right, and_intro, or_cases, or_left, or_right, not-false}
use Rattle.poset.proofs.Laws.{any_hit, any_found, any_miss, below_mem, mem_below}
use Rattle.relation.specs.Table.{bit, has, holds, members, Least, Inside}
use Rattle.relation.proofs.Lists.{and-true, and_false, or-false, keep_fewer}
use Rattle.relation.proofs.Words.{bit_zero, bit_power, one_shifted}
use Rattle.relation.proofs.Sets.{ltb_agree, row_of, bit_masked, without_least, Members-step}

module _ (n : ℕ) (r : Rel) (u : ℕ) where
  -- some job is after u and before v
  abbrev pub between : ℕ → Bool
  between v = exists (λ w. r u w && r w v) (below n)

  -- the sweep has found far, and has rest before it
  pub record Swept (far rest : List ℕ) : Type 0 where
    pub sound : (v : ℕ) → has far v ≡ true → between v ≡ true
    pub closed : (w v : ℕ) → has far w ≡ true → r w v ≡ true → has far v ≡ true
    pub part : (w : ℕ) → has rest w ≡ true → r u w ≡ true
    pub done : (w : ℕ) → r u w ≡ true → (has rest w ≡ true) ⊎ ((v : ℕ) → r w v ≡ true → has far v ≡ true)

module _ (n : ℕ) (r : Rel) (u : ℕ) (strict : Strict n r) (inside : (u v : ℕ) → r u v ≡ true → (u < n) × (v < n)) where
  -- the sweep starts with the jobs after u that are before another job
  pub Swept-none
      : n ≤ 128 → (far rest dom : List ℕ) → ((v : ℕ) → has far v ≡ false) → ((w : ℕ) → has dom w ≡ exists (r w) (below 128))
      → ((w : ℕ) → has rest w ≡ (r u w && has dom w)) → Swept n r u far rest
  Swept-none l far rest dom none some row =
      record {
        sound = λ v e. absurd (clash e (none v));
        closed = λ w v e. absurd (clash e (none w));
        part = λ w e. and_left _ _ (sym (row w) ∙ e);
        done = λ w e. ⊎_elim (λ d. inl (row w ∙ and_intro _ _ e d)) (λ d. inr (λ v g. absurd (clash (before w v g) d))) (decided (has dom w));
      }
    where
      before : (w v : ℕ) → r w v ≡ true → has dom w ≡ true
      before w v e = some w ∙ any_hit (r w) (below_mem (lt_of_lt_of_le (inside w v e).1 l)) e

  module _ (far rest : List ℕ) (s : Swept n r u far rest) where
    pub swept_end : n ≤ 128 → exists (has rest) (below 128) ≡ false → (v : ℕ) → has far v ≡ between n r u v
    swept_end l e v = same_test _ _ (s.sound v) back
      where
        back : between n r u v ≡ true → has far v ≡ true
        back h =
            let f = any_found (λ w. r u w && r w v) (below n) h in
            let p = and_left (r u f.0) _ f.2 in
            ⊎_elim
            (λ d. absurd (clash d (any_miss (has rest) (below 128) e (below_mem (lt_of_lt_of_le (mem_below n f.1) l)))))
            (λ g. g v (and_right (r u f.0) _ f.2))
            (s.done f.0 p)

    -- the row of a job of the rest joins what is found
    pub swept_join : (w : ℕ) → has rest w ≡ true → (far' : List ℕ) → ((v : ℕ) → has far' v ≡ (has far v || r w v)) → Swept n r u far' rest
    swept_join w m far' joined =
        record {
          sound = λ v e. ⊎_elim (s.sound v) (found v) (or_cases (has far v) _ (sym (joined v) ∙ e));
          closed =
              λ x v e d.
              ⊎_elim
              (λ g. kept v (s.closed x v g d))
              (λ g. joined v ∙ or_right (has far v) _ (strict.transitive w x v (inside w x g).0 (inside w x g).1 (inside x v d).1 g d))
              (or_cases (has far x) _ (sym (joined x) ∙ e));
          part = s.part;
          done = λ x e. ⊎_elim inl (λ g. inr (λ v d. kept v (g v d))) (s.done x e);
        }
      where
        kept : (v : ℕ) → has far v ≡ true → has far' v ≡ true
        kept v e = joined v ∙ or_left _ _ e

        found : (v : ℕ) → r w v ≡ true → between n r u v ≡ true
        found v e = any_hit (λ x. r u x && r x v) (below_mem (inside w v e).0) (and_intro _ _ (s.part w m) e)

    -- the smallest job, whose row has joined, leaves the rest, and so does what is found
    pub swept_leave
        : (w : ℕ) → Least rest w → ((v : ℕ) → r w v ≡ true → has far v ≡ true) → (others rest' : List ℕ)
        → ((v : ℕ) → has others v ≡ (has rest v && exists (has rest) (below v)))
        → ((v : ℕ) → has rest' v ≡ (has others v && not (has far v))) → Swept n r u far rest'
    swept_leave w least all others rest' without left =
        record {
          sound = s.sound;
          closed = s.closed;
          part = λ x e. s.part x (and_left _ _ (sym (without x) ∙ and_left _ _ (sym (left x) ∙ e)));
          done = λ x e. ⊎_elim (still x) inr (s.done x e);
        }
      where
        still : (x : ℕ) → has rest x ≡ true → (has rest' x ≡ true) ⊎ ((v : ℕ) → r x v ≡ true → has far v ≡ true)
        still x e =
            ⊎_elim
            (λ g. inr (λ v d. s.closed x v g d))
            (λ g. elim (ℕ_discrete x w) [ yes c ↦ inr (λ v d. all v (rw (sym c) d)) | no c ↦ inl (rest_has g c) ])
            (decided (has far x))
          where
            rest_has : has far x ≡ false → (x ≡ w → ⊥) → has rest' x ≡ true
            rest_has g c = left x ∙ and_intro _ _ (without_least rest others w least without x ∙ and_intro _ _ e (not-false _ (ne_eqb x w c))) (not-false _ g)

  -- a step of the sweep: the rows of the smallest job w and of another job x of the rest join
  module _ (far rest : List ℕ) (s : Swept n r u far rest) (w x : ℕ) (least : Least rest w) (member : has rest x ≡ true)
      (near far' others rest' : List ℕ)
      (first : (v : ℕ) → has near v ≡ (has far v || r w v))
      (second : (v : ℕ) → has far' v ≡ (has near v || r x v))
      (without : (v : ℕ) → has others v ≡ (has rest v && exists (has rest) (below v)))
      (left : (v : ℕ) → has rest' v ≡ (has others v && not (has far' v)))
    where
      pub swept_next : Swept n r u far' rest'
      swept_next =
          swept_leave far' rest (swept_join near rest (swept_join far rest s w least.member near first) x member far' second) w least
          (λ v e. second v ∙ or_left _ _ (first v ∙ or_right (has far v) _ e)) others rest' without left

-- the sweep ends: each time the smallest job is left out, whatever else is
pub swept_less
    : (rest others gone rest' : List ℕ) (w : ℕ) → Least rest w → ((v : ℕ) → has others v ≡ (has rest v && exists (has rest) (below v)))
    → ((v : ℕ) → has rest' v ≡ (has others v && not (has gone v))) → length (members rest') < length (members rest)
unfolding members
swept_less rest others gone rest' w least without left =
    rw (Members-step rest others w least without)
    (suc-le-suc (keep_fewer (has rest') (has others) (λ v e. and_left _ _ (sym (left v) ∙ e)) (below 128)))

-- a word made bit by bit: bit i is job start + i, and has the jobs below u that pass a test
pub record Chosen (p : ℕ → Bool) (start end w u : ℕ) : Type 0 where
  pub from : start ≤ u
  pub within : u ≤ end
  pub done : (i : ℕ) → i < 64 → bit w i ≡ (ltb (start + i) u && p (start + i))

module _ (p : ℕ → Bool) (start end : ℕ) where
  pub chosen_none : start ≤ end → Chosen p start end 0 start
  chosen_none l =
      record {
        from = omega arith;
        within = l;
        done = λ i _. bit_zero i ∙ sym (ap (λ b. b && p (start + i)) (le-ltb (start + i) start (omega arith)));
      }

  module _ (w u : ℕ) (c : Chosen p start end w u) where
    pub chosen_next
        : u < end → end ≤ start + 64 → (test : Bool) (m : ℕ) → test ≡ p u → ((i : ℕ) → i < 64 → bit m i ≡ test)
        → Chosen p start end (bit_or w (bit_and (1 * 2 ^ (u - start) % 2 ^ 64) m)) (u + 1)
    chosen_next l h test m e mask =
        record {
          from = omega arith;
          within = omega arith;
          done =
              λ i k.
              bit_masked test m mask w (1 * 2 ^ (u - start) % 2 ^ 64) i k
              ∙ ap₂ (λ a b. a || b) (c.done i k) (ap₂ (λ a b. a && b) e (one i)) ∙ by i (ℕ_discrete (start + i) u);
        }
      where
        one : (i : ℕ) → bit (1 * 2 ^ (u - start) % 2 ^ 64) i ≡ eqb (u - start) i
        one i = ap (λ x. bit x i) (one_shifted (u - start) (omega arith)) ∙ bit_power (u - start) i

        by
            : (i : ℕ) → Dec (start + i ≡ u)
            → ((ltb (start + i) u && p (start + i)) || (p u && eqb (u - start) i)) ≡ (ltb (start + i) (u + 1) && p (start + i))
        by i (yes d) =
            rw (d, le-ltb u u (omega arith), lt-ltb u (u + 1) (omega arith), eq-eqb (u - start) i (omega arith)) (and-true (p u))
        by i (no d) =
            rw (ne_eqb (u - start) i (λ g. d (omega arith)), and_false (p u), or-false (ltb (start + i) u && p (start + i)))
            (ap (λ b. b && p (start + i)) (ltb_agree (start + i) u (start + i) (u + 1) (λ k. omega arith) (λ k. omega arith)))

    pub chosen_end : end ≤ u → (i : ℕ) → i < 64 → bit w i ≡ (ltb (start + i) end && p (start + i))
    chosen_end l i k =
        let e : u ≡ end = omega arith in
        c.done i k ∙ ap (λ x. ltb (start + i) x && p (start + i)) e

-- the row of two such words, where only jobs below n pass the test
module _ (p : ℕ → Bool) (n : ℕ) (inside : (v : ℕ) → p v ≡ true → v < n) where
  pub chosen_row
      : n ≤ 128 → (half x y : ℕ) → half ≡ min n 64 → ((i : ℕ) → i < 64 → bit x i ≡ (ltb (0 + i) half && p (0 + i)))
      → ((i : ℕ) → i < 64 → bit y i ≡ (ltb (half + i) n && p (half + i))) → (v : ℕ) → has (x ∷ y ∷ []) v ≡ p v
  chosen_row l half x y e first second =
      row_of x y p
      (λ i k.
      first i k ∙ ap (λ j. ltb j half && p j) (zero-add i)
      ∙ same_test _ _ (and_right (ltb i half) (p i)) (λ t. and_intro _ _ (lt-ltb i half (omega (arith, inside i t))) t))
      (λ i k. second i k ∙ same_test _ _ (forth i) (λ t. back i (inside (64 + i) t) t))
      (λ v k. false_unless _ λ t. omega (arith, inside v t))
    where
      forth : (i : ℕ) → (ltb (half + i) n && p (half + i)) ≡ true → p (64 + i) ≡ true
      forth i t =
          let m = ltb-true (half + i) n (and_left _ (p (half + i)) t) in
          let d : half ≡ 64 = omega arith in
          ap (λ h. p (h + i)) (sym d) ∙ and_right (ltb (half + i) n) _ t

      back : (i : ℕ) → 64 + i < n → p (64 + i) ≡ true → (ltb (half + i) n && p (half + i)) ≡ true
      back i m t =
          let d : half ≡ 64 = omega arith in
          rw d (and_intro _ _ (lt-ltb (64 + i) n m) t)

-- the rows of the reduction
module _ (t : List (List ℕ)) (n : ℕ) where
  pub covers_inside : Inside n t → (u v : ℕ) → covers n (holds t) u v ≡ true → (u < n) × (v < n)
  unfolding covers
  covers_inside inside u v e = inside u v (and_left (holds t u v) _ e)

  pub covers_row
      : (u : ℕ) (row far : List ℕ) → ((v : ℕ) → has row v ≡ (has (get_or t u []) v && not (has far v)))
      → ((v : ℕ) → has far v ≡ between n (holds t) u v) → (v : ℕ) → has row v ≡ covers n (holds t) u v
  unfolding covers holds
  covers_row u row far h f v = h v ∙ ap (λ b. has (get_or t u []) v && not b) (f v)
