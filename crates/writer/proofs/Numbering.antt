-- The numbers of the parts of a set, stored at its jobs.
use Prim.Native.Nat.{ℕ, ◌+◌, ◌<◌, ◌%◌}
use mathlib.Core.Path.{◌≡◌, refl, sym, ap, ap₂, ◌∙◌}
use mathlib.Core.List.{List, []}
use mathlib.Core.Bool.{Bool, true, false, ◌&&◌, ◌||◌, not}
use mathlib.Core.Logic.{◌⊎◌, inl, inr, ⊎_elim}
use native.Mathlib.Omega.{arith}
use native.Mathlib.Decide.{dec_lt}
use lib.Dec.{eqb, ltb}
use lib.ListN.{length, get_or, set, length-set}
use lib.Seq.{get_or-set_same, get_or-set_other}
use Rattle.poset.specs.Lists.{exists, below}
use Rattle.poset.specs.Order.{Rel}
use Rattle.poset.proofs.Laws.{clash, false_unless, and_left, or_cases, or_left, or_right, same_test, and_intro, and_right, not-true, not-false}
use Rattle.poset.proofs.Laws.{eqb-true, eqb_same, any_hit, below_mem, any_none, mem_below}
use Rattle.relation.specs.Table.{has, Least}
use Rattle.writer.specs.Parts.{Jobs, PartOf, Marked, Numbered}
use Rattle.writer.proofs.Searching.{Searching, empty}

-- marks, one after another

pub marked_none : (p : ℕ → Bool) (number : ℕ) (numbers : List ℕ) → length numbers ≡ 128 → ((v : ℕ) → p v ≡ false) → Marked p number numbers numbers
marked_none p number numbers e none = record { size = e; here = λ v q. absurd (clash q (none v)); others = λ v q. refl }

pub marked_one : (y number : ℕ) (numbers : List ℕ) → length numbers ≡ 128 → y < 128 → Marked (eqb y) number numbers (set numbers y number)
marked_one y number numbers e small =
    record {
      size = length-set numbers y number ∙ e;
      here = λ v q.
          ap (λ k. get_or (set numbers y number) k 0) (sym (eqb-true y v q)) ∙ get_or-set_same numbers y number 0 (omega (arith, e));
      others = λ v q. get_or-set_other numbers y v number 0 (λ h. clash (ap (eqb y) h ∙ eqb_same y) q);
    }

pub marked_same : (p q : ℕ → Bool) (number : ℕ) (numbers numbers' : List ℕ) → ((v : ℕ) → q v ≡ p v) → Marked p number numbers numbers'
    → Marked q number numbers numbers'
marked_same p q number numbers numbers' e m =
    record { size = m.size; here = λ v h. m.here v (sym (e v) ∙ h); others = λ v h. m.others v (sym (e v) ∙ h) }

pub marked_both : (p q r : ℕ → Bool) (number : ℕ) (numbers numbers' numbers'' : List ℕ) → ((v : ℕ) → r v ≡ (p v || q v))
    → Marked p number numbers numbers' → Marked q number numbers' numbers'' → Marked r number numbers numbers''
marked_both p q r number numbers numbers' numbers'' e m n =
    record { size = n.size; here = λ v h. at v (q v) refl (sym (e v) ∙ h); others = λ v h. away v (sym (e v) ∙ h) }
  where
    at : (v : ℕ) (b : Bool) → q v ≡ b → (p v || q v) ≡ true → get_or numbers'' v 0 ≡ number
    at v true k h = n.here v k
    at v false k h = n.others v k ∙ m.here v (⊎_elim (λ a. a) (λ a. absurd (clash a k)) (or_cases (p v) (q v) h))

    away : (v : ℕ) → (p v || q v) ≡ false → get_or numbers'' v 0 ≡ get_or numbers v 0
    away v h =
        n.others v (false_unless (q v) (λ k. clash (or_right (p v) (q v) k) h))
        ∙ m.others v (false_unless (p v) (λ k. clash (or_left (p v) (q v) k) h))

-- all members but the smallest
without_least : (s others : List ℕ) (y : ℕ) → Least s y → ((v : ℕ) → has others v ≡ (has s v && exists (has s) (below v)))
    → (v : ℕ) → has others v ≡ (has s v && not (eqb y v))
without_least s others y least o v =
    o v ∙ same_test (has s v && exists (has s) (below v)) (has s v && not (eqb y v)) to from
  where
    to : (has s v && exists (has s) (below v)) ≡ true → (has s v && not (eqb y v)) ≡ true
    to h =
        and_intro (has s v) (not (eqb y v)) (and_left (has s v) _ h)
        (not-false (eqb y v)
        (false_unless (eqb y v)
        (λ e. clash (ap (λ k. exists (has s) (below k)) (eqb-true y v e) ∙ and_right (has s v) _ h)
        (any_none (has s) (below y) (λ u m. least.least u (mem_below y m))))))

    from : (has s v && not (eqb y v)) ≡ true → (has s v && exists (has s) (below v)) ≡ true
    from h =
        let p : has s v ≡ true = and_left (has s v) (not (eqb y v)) h in
        elim (dec_lt y v) [
          | yes l ↦ and_intro (has s v) (exists (has s) (below v)) p (any_hit (has s) (below_mem l) least.member)
          | no l ↦ absurd (elim (dec_lt v y) [
            | yes k ↦ clash p (least.least v k)
            | no k ↦ clash (same l k) (not-true (eqb y v) (and_right (has s v) (not (eqb y v)) h))
          ])
        ]
      where
        same : (y < v → ⊥) → (v < y → ⊥) → eqb y v ≡ true
        same l k = let e : y ≡ v = omega arith in ap (eqb y) (sym e) ∙ eqb_same y

-- a run over the jobs of a set: those that are not left have the number
pub record Marking (s rest : List ℕ) (number : ℕ) (numbers numbers' : List ℕ) : Type 0 where
  pub within : (v : ℕ) → has rest v ≡ true → has s v ≡ true
  pub marked : Marked (λ v. has s v && not (has rest v)) number numbers numbers'

-- nothing of a set is outside it
none_apart : (a : Bool) → (a && not a) ≡ false
none_apart true = refl
none_apart false = refl

-- job by job: in s, left, the next one
run_step : (s r e : Bool) → (r ≡ true → s ≡ true) → (e ≡ true → r ≡ true) → (s && not (r && not e)) ≡ ((s && not r) || e)
run_step true true true h k = refl
run_step true true false h k = refl
run_step false true e h k = absurd (clash (h refl) refl)
run_step s false true h k = absurd (clash (k refl) refl)
run_step true false false h k = refl
run_step false false false h k = refl

run_end : (s r : Bool) → r ≡ false → s ≡ (s && not r)
run_end s true e = absurd (clash refl e)
run_end true false e = refl
run_end false false e = refl

module _ (s : List ℕ) (number : ℕ) (numbers : List ℕ) where
  pub marking_start : length numbers ≡ 128 → Marking s s number numbers numbers
  marking_start e =
      record { within = λ v p. p; marked = marked_none (λ v. has s v && not (has s v)) number numbers e (λ v. none_apart (has s v)) }

  pub marking_next : (rest others numbers' : List ℕ) (y : ℕ) → Marking s rest number numbers numbers' → Least rest y
      → ((v : ℕ) → has others v ≡ (has rest v && exists (has rest) (below v))) → Marking s others number numbers (set numbers' y number)
  marking_next rest others numbers' y i least o =
      record {
        within = λ v p. i.within v (and_left (has rest v) (exists (has rest) (below v)) (sym (o v) ∙ p));
        marked =
            marked_both (λ v. has s v && not (has rest v)) (eqb y) (λ v. has s v && not (has others v)) number numbers numbers' (set numbers' y number)
            (λ v. ap (λ b. has s v && not b) (without_least rest others y least o v) ∙ run_step (has s v) (has rest v) (eqb y v) (i.within v) (mine v))
            i.marked
            (marked_one y number numbers' i.marked.size least.small);
      }
    where
      mine : (v : ℕ) → eqb y v ≡ true → has rest v ≡ true
      mine v e = ap (has rest) (sym (eqb-true y v e)) ∙ least.member

  pub marking_end : (rest numbers' : List ℕ) → Marking s rest number numbers numbers' → Jobs s → exists (has rest) (below 128) ≡ false
      → Marked (has s) number numbers numbers'
  marking_end rest numbers' i jobs e =
      marked_same (λ v. has s v && not (has rest v)) (has s) number numbers numbers'
      (λ v. run_end (has s v) (has rest v) (empty rest (λ u p. jobs u (i.within u p)) e v))
      i.marked

-- the two halves of a set
halves : (a b : Bool) → a ≡ ((a && b) || (a && not b))
halves true true = refl
halves true false = refl
halves false true = refl
halves false false = refl

pub marked_halves : (s low high : List ℕ) (number : ℕ) (numbers numbers' numbers'' : List ℕ) → ((v : ℕ) → has low v ≡ (has s v && ltb v 64))
    → ((v : ℕ) → has high v ≡ (has s v && not (ltb v 64))) → Marked (has low) number numbers numbers' → Marked (has high) number numbers' numbers''
    → Marked (has s) number numbers numbers''
marked_halves s low high number numbers numbers' numbers'' l h =
    marked_both (has low) (has high) (has s) number numbers numbers' numbers''
    (λ v. halves (has s v) (ltb v 64) ∙ sym (ap₂ ◌||◌ (l v) (h v)))

pub jobs_within : (s part : List ℕ) (b : ℕ → Bool) → Jobs s → ((v : ℕ) → has part v ≡ (has s v && b v)) → Jobs part
jobs_within s part b jobs e v p = jobs v (and_left (has s v) (b v) (sym (e v) ∙ p))

-- in a search, the jobs that are found and not to be looked at any more

abbrev pub gone : List ℕ → List ℕ → List ℕ → ℕ → Bool
gone s todo rest v = has s v && (not (has rest v) && not (has todo v))

-- job by job: in s, to look at, the first of these, not found, near to it
gone_start : (s t : Bool) → (s && (not (s && not t) && not t)) ≡ false
gone_start true true = refl
gone_start true false = refl
gone_start false t = refl

gone_step : (s t e r n : Bool) → (t ≡ true → (s ≡ true) × (r ≡ false)) → (r ≡ true → s ≡ true) → (e ≡ true → t ≡ true)
    → (s && (not (r && not (n && r)) && not ((t && not e) || (n && r)))) ≡ ((s && (not r && not t)) || e)
gone_step true true true false true h j k = refl
gone_step true true true false false h j k = refl
gone_step true true false false true h j k = refl
gone_step true true false false false h j k = refl
gone_step true true e true n h j k = absurd (clash refl (h refl).1)
gone_step false true e r n h j k = absurd (clash (h refl).0 refl)
gone_step s false true r n h j k = absurd (clash (k refl) refl)
gone_step true false false true true h j k = refl
gone_step true false false true false h j k = refl
gone_step true false false false true h j k = refl
gone_step true false false false false h j k = refl
gone_step false false false r n h j k = refl

gone_end : (s t r : Bool) → t ≡ false → (s && not r) ≡ (s && (not r && not t))
gone_end s true r e = absurd (clash refl e)
gone_end s false true e = refl
gone_end s false false e = refl

gone_all : (s t r : Bool) → r ≡ false → (t ≡ true → s ≡ true) → s ≡ ((s && (not r && not t)) || t)
gone_all s t true e h = absurd (clash refl e)
gone_all true true false e h = refl
gone_all true false false e h = refl
gone_all false true false e h = absurd (clash (h refl) refl)
gone_all false false false e h = refl

module _ (near : Rel) (s : List ℕ) (x number : ℕ) (numbers : List ℕ) where
  pub gone_none : (todo rest : List ℕ) → length numbers ≡ 128 → ((v : ℕ) → has rest v ≡ (has s v && not (has todo v)))
      → Marked (gone s todo rest) number numbers numbers
  gone_none todo rest e r =
      marked_none (gone s todo rest) number numbers e
      (λ v. ap (λ b. has s v && (not b && not (has todo v))) (r v) ∙ gone_start (has s v) (has todo v))

  module _ (todo rest numbers' : List ℕ) (i : Searching near s x todo rest) (m : Marked (gone s todo rest) number numbers numbers') where
    pub gone_next : (y : ℕ) (found others more fewer : List ℕ) → Least todo y
        → ((v : ℕ) → has found v ≡ (near y v && has rest v))
        → ((v : ℕ) → has others v ≡ (has todo v && exists (has todo) (below v)))
        → ((v : ℕ) → has more v ≡ (has others v || has found v))
        → ((v : ℕ) → has fewer v ≡ (has rest v && not (has found v)))
        → Marked (gone s more fewer) number numbers (set numbers' y number)
    gone_next y found others more fewer least f o w z =
        marked_both (gone s todo rest) (eqb y) (gone s more fewer) number numbers numbers' (set numbers' y number)
        (λ v. ap₂ (λ a b. has s v && (not a && not b)) (is_fewer v) (is_more v)
        ∙ gone_step (has s v) (has todo v) (eqb y v) (has rest v) (near y v) (i.todo_in v) (i.rest_in v) (mine v))
        m
        (marked_one y number numbers' m.size least.small)
      where
        is_more : (v : ℕ) → has more v ≡ ((has todo v && not (eqb y v)) || (near y v && has rest v))
        is_more v = w v ∙ ap₂ ◌||◌ (without_least todo others y least o v) (f v)

        is_fewer : (v : ℕ) → has fewer v ≡ (has rest v && not (near y v && has rest v))
        is_fewer v = z v ∙ ap (λ b. has rest v && not b) (f v)

        mine : (v : ℕ) → eqb y v ≡ true → has todo v ≡ true
        mine v e = ap (has todo) (sym (eqb-true y v e)) ∙ least.member

    -- nothing is left to look at
    pub marked_found : (part : List ℕ) → ((v : ℕ) → has todo v ≡ false) → ((v : ℕ) → has part v ≡ (has s v && not (has rest v)))
        → Marked (has part) number numbers numbers'
    marked_found part none p =
        marked_same (gone s todo rest) (has part) number numbers numbers'
        (λ v. p v ∙ gone_end (has s v) (has todo v) (has rest v) (none v))
        m

    -- nothing is left to find, and what is to be looked at gets the number
    pub marked_all : (numbers'' : List ℕ) → ((v : ℕ) → has rest v ≡ false) → Marked (has todo) number numbers' numbers''
        → Marked (has s) number numbers numbers''
    marked_all numbers'' none =
        marked_both (gone s todo rest) (has todo) (has s) number numbers numbers' numbers''
        (λ v. gone_all (has s v) (has todo v) (has rest v) (none v) (λ t. (i.todo_in v t).0))
        m

-- the parts so far have their numbers
pub record Numbering (s left : List ℕ) (parts : List (List ℕ)) (count : ℕ) (numbers numbers' : List ℕ) : Type 0 where
  pub apart : (i v : ℕ) → i < count → has (get_or parts i []) v ≡ true → has left v ≡ false
  pub numbered : Numbered s parts count numbers numbers'

module _ (s : List ℕ) (numbers : List ℕ) where
  pub numbering_start : (parts : List (List ℕ)) → length numbers ≡ 128 → Numbering s s parts 0 numbers numbers
  numbering_start parts e =
      record {
        apart = λ i v l p. absurd (omega arith);
        numbered = record { size = e; here = λ i v l p. absurd (omega arith); others = λ v p. refl };
      }

  pub numbering_next : (near : Rel) (left : List ℕ) (parts : List (List ℕ)) (count : ℕ) (numbers' numbers'' : List ℕ) (x : ℕ) (part fewer : List ℕ)
      → Numbering s left parts count numbers numbers' → length parts ≡ 128 → count < 128 → ((v : ℕ) → has left v ≡ true → has s v ≡ true)
      → PartOf near left x part → Marked (has part) (count % 256) numbers' numbers''
      → ((v : ℕ) → has fewer v ≡ (has left v && not (has part v)))
      → Numbering s fewer (set parts count part) (count + 1) numbers numbers''
  numbering_next near left parts count numbers' numbers'' x part fewer n long small within p m f =
      record {
        apart = λ i v l q.
            ⊎_elim
            (λ k. false_unless (has fewer v) (λ h. clash (fewer_left v h).0 (n.apart i v k (before i v k q))))
            (λ e. false_unless (has fewer v) (λ h. clash (last i v e q) (fewer_left v h).1))
            (either i l);
        numbered =
            record {
              size = m.size;
              here = λ i v l q.
                  ⊎_elim
                  (λ k. m.others v (not_part v (n.apart i v k (before i v k q))) ∙ n.numbered.here i v k (before i v k q))
                  (λ e. m.here v (last i v e q) ∙ whole i e)
                  (either i l);
              others = λ v q. m.others v (not_part v (false_unless (has left v) (λ h. clash (within v h) q))) ∙ n.numbered.others v q;
            };
      }
    where
      either : (i : ℕ) → i < count + 1 → (i < count) ⊎ (i ≡ count)
      either i l = elim (dec_lt i count) [ yes k ↦ inl k | no k ↦ inr (omega arith) ]

      before : (i v : ℕ) → i < count → has (get_or (set parts count part) i []) v ≡ true → has (get_or parts i []) v ≡ true
      before i v k q = ap (λ t. has t v) (sym (get_or-set_other parts count i part [] (λ e. omega arith))) ∙ q

      last : (i v : ℕ) → i ≡ count → has (get_or (set parts count part) i []) v ≡ true → has part v ≡ true
      last i v e q =
          ap (λ t. has t v) (sym (ap (λ k. get_or (set parts count part) k []) e ∙ get_or-set_same parts count part [] (omega (arith, long)))) ∙ q

      whole : (i : ℕ) → i ≡ count → count % 256 ≡ i
      whole i e = omega arith

      fewer_left : (v : ℕ) → has fewer v ≡ true → (has left v ≡ true) × (has part v ≡ false)
      fewer_left v h =
          let k = sym (f v) ∙ h in
          (and_left (has left v) (not (has part v)) k, not-true (has part v) (and_right (has left v) (not (has part v)) k))

      not_part : (v : ℕ) → has left v ≡ false → has part v ≡ false
      not_part v h = false_unless (has part v) (λ q. clash (p.within v q) h)
