-- Searches over the members of sets, smallest first, and what is left of the search for an N at each of its jobs.
use Prim.Native.Nat.{ℕ, ◌≤◌, ◌<◌}
use native.Mathlib.Nat.{lt_of_lt_of_le}
use mathlib.Core.Path.{◌≡◌, refl, sym, ap, ap₂, fun_ext, ◌∙◌}
use mathlib.Core.List.{List, Memᴰ}
use mathlib.Core.Bool.{Bool, true, false, ◌&&◌, ◌||◌, not}
use Rattle.std.specs.Prelude.{Option, None, Some}
use mathlib.Core.Logic.{⊎_elim}
use lib.Dec.{eqb, ltb}
use borrow.Author.Tests.{lt-ltb, ltb-true}
use Rattle.poset.specs.Lists.{exists, below, first, only_if}
use Rattle.poset.specs.Order.{Rel, Four, incomparable, is_n}
use Rattle.poset.proofs.Laws.{clash, false_unless, and_left, and_right, and_intro}
use Rattle.poset.proofs.Laws.{any_miss, any_none, below_mem, mem_below, first_here, first_later, found_or_none, only_if_none}
use Rattle.poset.proofs.Searches.{none_first, none_below, at_b, at_c, at_d}
use Rattle.relation.specs.Table.{has, members, apart, Least}
use Rattle.relation.proofs.Lists.{and_comm, not_or, first_keep, first_agree, first_append_here, first_append_later, led_none, led_some}
use Rattle.relation.proofs.Sets.{members_head, Members-step, members_end, members_below, members_mem, members_low, members_halves}

-- a search over a list that has the members of a set before it
module _ {B : Type 0} (f : ℕ → Option B) (js : List ℕ) where
  abbrev pub Sought : List ℕ → Type 0
  Sought rest = first f js ≡ first f (members rest)

  module _ (rest : List ℕ) (s : Sought rest) where
    pub sought_end : exists (has rest) (below 128) ≡ false → None ≡ first f js
    unfolding first
    sought_end h = sym (s ∙ ap (first f) (members_end rest h))

    module _ (z : ℕ) (least : Least rest z) where
      pub sought_hit : {b : B} → f z ≡ Some b → Some b ≡ first f js
      sought_hit h = sym (s ∙ ap (first f) (members_head rest z least) ∙ first_here f z _ h)

      pub sought_next
          : (others : List ℕ) → ((v : ℕ) → has others v ≡ (has rest v && exists (has rest) (below v))) → f z ≡ None → Sought others
      sought_next others without h = s ∙ ap (first f) (Members-step rest others z least without) ∙ first_later f z _ h

-- a search over a set, one half after the other
module _ {B : Type 0} (f : ℕ → Option B) (s low : List ℕ) (l : (v : ℕ) → has low v ≡ (has s v && ltb v 64)) where
  pub by_words_here : {b : B} → first f (members low) ≡ Some b → Some b ≡ first f (members s)
  by_words_here e = sym (ap (first f) (members_low s low l) ∙ first_append_here f (members low) _ e)

  pub by_words_later
      : (high : List ℕ) → ((v : ℕ) → has high v ≡ (has s v && not (ltb v 64))) → first f (members low) ≡ None
      → first f (members high) ≡ first f (members s)
  by_words_later high h e = sym (ap (first f) (members_halves s low l high h) ∙ first_append_later f (members low) (members high) e)

-- among the jobs below n, the set has all at which there is something
pub sought_all
    : {B : Type 0} (f : ℕ → Option B) (n : ℕ) → n ≤ 128 → (s : List ℕ) → ((x : ℕ) → has s x ≡ true → x < n)
    → ((x : ℕ) → x < n → has s x ≡ false → f x ≡ None) → Sought f (below n) s
sought_all f n l s within miss =
    sym (ap (first f) (sym (members_below n s l within)) ∙ first_keep (has s) f (below n) (λ x m. miss x (mem_below n m)))

-- incomparable jobs below n

module _ (n : ℕ) (r : Rel) (u v : ℕ) where
  pub apart_below : u < n → v < n → apart n r u v ≡ incomparable r u v
  unfolding apart
  apart_below l m = rw (lt-ltb u n l, lt-ltb v n m)

  pub apart_both : apart n r u v ≡ true → (u < n) × (v < n) × (incomparable r u v ≡ true)
  unfolding apart
  apart_both h =
      let later = and_right (ltb u n) (ltb v n && incomparable r u v) h in (
        ltb-true u n (and_left (ltb u n) (ltb v n && incomparable r u v) h),
        ltb-true v n (and_left (ltb v n) (incomparable r u v) later),
        and_right (ltb v n) (incomparable r u v) later,
      )

  -- the row of u, from the set of the jobs below n and that of the jobs near u
  pub apart_row
      : u < n → (all near row : List ℕ) → has row v ≡ (has all v && not (has near v)) → has all v ≡ ltb v n
      → has near v ≡ (eqb u v || (r u v || r v u)) → has row v ≡ apart n r u v
  unfolding apart incomparable
  apart_row l all near row h a q =
      h ∙ ap₂ (λ x y. x && not y) a q ∙ ap (λ x. ltb v n && x) (not_or (eqb u v) (r u v) (r v u)) ∙ sym (rw (lt-ltb u n l))

-- a search for a job whose row has a job of a set
module _ (free : Rel) (ds : List ℕ) where
  abbrev pub meets : ℕ → Bool
  meets c = exists (λ d. has ds d && free c d) (below 128)

  abbrev pub meeting : ℕ → Option ℕ
  meeting c = only_if (meets c) c

  module _ (c : ℕ) (s : List ℕ) (h : (d : ℕ) → has s d ≡ (has ds d && free c d)) where
    met : exists (has s) (below 128) ≡ meets c
    met = ap (λ p. exists p (below 128)) (fun_ext h)

    pub meeting_hit : exists (has s) (below 128) ≡ true → meeting c ≡ Some c
    unfolding only_if
    meeting_hit e = rw (sym met ∙ e)

    pub meeting_miss : exists (has s) (below 128) ≡ false → meeting c ≡ None
    meeting_miss e = (only_if_none _ _).1 (sym met ∙ e)

-- the tests of an N, at b, c and d

module _ (r : Rel) (a b : ℕ) where
  n_apart : (c d : ℕ) → incomparable r a b ≡ false → is_n r a b c d ≡ false
  unfolding is_n
  n_apart c d h = false_unless _ λ e. clash (and_left _ _ (and_right (r b d) _ (and_right (r b c) _ (and_right (r a c) _ e)))) h

  n_above : (c d : ℕ) → (r a c && r b c) ≡ false → is_n r a b c d ≡ false
  unfolding is_n
  n_above c d h = false_unless _ λ e. clash (and_intro _ _ (and_left (r a c) _ e) (and_left (r b c) _ (and_right (r a c) _ e))) h

  n_fourth
      : (c d : ℕ) → incomparable r a b ≡ true → (r a c && r b c) ≡ true
      → is_n r a b c d ≡ ((r b d && incomparable r a d) && incomparable r c d)
  unfolding is_n
  n_fourth c d apart above =
      rw (and_left (r a c) (r b c) above, and_right (r a c) (r b c) above, apart) (turn (r b d) (incomparable r c d) (incomparable r a d))
    where
      turn : (x y z : Bool) → (x && (y && z)) ≡ ((x && z) && y)
      turn true y z = and_comm y z
      turn false y z = refl

-- what the search finds with a and b
module _ (n : ℕ) (r : Rel) (a b : ℕ) where
  apart_none : incomparable r a b ≡ false → at_b n r a b ≡ None
  apart_none h =
      (none_below (at_c n r a b) n).1 λ c _. (none_below (at_d n r a b c) n).1 λ d _. (only_if_none _ _).1 (n_apart r a b c d h)

  above_none : (c : ℕ) → (r a c && r b c) ≡ false → at_c n r a b c ≡ None
  above_none c h = (none_below (at_d n r a b c) n).1 λ d _. (only_if_none _ _).1 (n_above r a b c d h)

-- the jobs that make an N with a and b: c among cs, which both are before, and d among ds, which are after b and incomparable to a
pub record Sides (n : ℕ) (r : Rel) (a b : ℕ) (free : Rel) (cs ds : List ℕ) : Type 0 where
  pub small : n ≤ 128
  pub inside : (u v : ℕ) → r u v ≡ true → (u < n) × (v < n)
  pub apart_ab : apart n r a b ≡ true
  pub frees : (u v : ℕ) → free u v ≡ apart n r u v
  pub above : (c : ℕ) → has cs c ≡ (r a c && r b c)
  pub beside : (d : ℕ) → has ds d ≡ (r b d && free a d)

module _ (n : ℕ) (r : Rel) (a b : ℕ) (free : Rel) (cs ds : List ℕ) (p : Sides n r a b free cs ds) where
  sought_c : Sought (at_c n r a b) (below n) cs
  sought_c =
      sought_all (at_c n r a b) n p.small cs
      (λ c e. (p.inside a c (and_left _ _ (sym (p.above c) ∙ e))).1)
      (λ c _ e. above_none n r a b c (sym (p.above c) ∙ e))

  module _ (c : ℕ) (on : has cs c ≡ true) where
    both : (r a c && r b c) ≡ true
    both = sym (p.above c) ∙ on

    fourth : (d : ℕ) → d < n → is_n r a b c d ≡ (has ds d && free c d)
    fourth d l =
        let ab = apart_both n r a b p.apart_ab in
        let lc = (p.inside a c (and_left _ _ both)).1 in
        n_fourth r a b c d ab.2 both
        ∙ ap₂ (λ x y. (r b d && x) && y)
        (sym (p.frees a d ∙ apart_below n r a d ab.0 l))
        (sym (p.frees c d ∙ apart_below n r c d lc l))
        ∙ ap (λ x. x && free c d) (sym (p.beside d))

    pub fourth_miss : meets free ds c ≡ false → at_c n r a b c ≡ None
    fourth_miss e =
        (none_below (at_d n r a b c) n).1 λ d l.
        (only_if_none _ _).1 (fourth d l ∙ any_miss (λ x. has ds x && free c x) (below 128) e (below_mem (lt_of_lt_of_le l p.small)))

    -- the search for d is over the set of the jobs that make an N
    pub fourth_first : (s : List ℕ) → ((d : ℕ) → has s d ≡ (has ds d && free c d)) → at_c n r a b c ≡ first (λ d. Some (a, b, c, d)) (members s)
    unfolding only_if
    fourth_first s h = sought_all (at_d n r a b c) n p.small s within miss ∙ agree
      where
        within : (d : ℕ) → has s d ≡ true → d < n
        within d e = (p.inside b d (and_left _ _ (sym (p.beside d) ∙ and_left _ _ (sym (h d) ∙ e)))).1

        miss : (d : ℕ) → d < n → has s d ≡ false → at_d n r a b c d ≡ None
        miss d l e = (only_if_none _ _).1 (fourth d l ∙ sym (h d) ∙ e)

        agree : first (at_d n r a b c) (members s) ≡ first (λ d. Some (a, b, c, d)) (members s)
        agree =
            first_agree (at_d n r a b c) (λ d. Some (a, b, c, d)) (members s) λ d m.
            let e = (members_mem s m).1 in rw (fourth d (within d e) ∙ sym (h d) ∙ e)

    -- and finds something where there is such a job
    fourth_some : at_c n r a b c ≡ None → meets free ds c ≡ false
    fourth_some e =
        any_none (λ d. has ds d && free c d) (below 128) λ d _.
        false_unless _ λ t.
        let l = (p.inside b d (and_left _ _ (sym (p.beside d) ∙ and_left _ _ t))).1 in
        clash t (sym (fourth d l) ∙ (only_if_none _ _).0 ((none_below (at_d n r a b c) n).0 e d l))

  misses : (c : ℕ) → Memᴰ c (members cs) → meets free ds c ≡ false → at_c n r a b c ≡ None
  misses c m = fourth_miss c (members_mem cs m).1

  -- no job is after b and incomparable to a
  pub no_fourth : exists (has ds) (below 128) ≡ false → None ≡ at_b n r a b
  no_fourth e =
      sym (sought_c ∙ none_first (at_c n r a b) (members cs)
      λ c m. misses c m (any_none (λ d. has ds d && free c d) (below 128) λ d k. ap (λ x. x && free c d) (any_miss (has ds) (below 128) e k)))

  -- the search for c
  module _ (found : Option ℕ) (h : found ≡ first (meeting free ds) (members cs)) where
    pub no_third : found ≡ None → None ≡ at_b n r a b
    no_third e = sym (sought_c ∙ led_none (meets free ds) (at_c n r a b) (members cs) misses (sym h ∙ e))

    module _ (c : ℕ) (e : found ≡ Some c) where
      led : Memᴰ c (members cs) × (meets free ds c ≡ true) × ((q : Four) → at_c n r a b c ≡ Some q → first (at_c n r a b) (members cs) ≡ Some q)
      led = led_some (meets free ds) (at_c n r a b) (members cs) misses (sym h ∙ e)

      pub third_small : c < 128
      third_small = (members_mem cs led.0).0

      pub third_found : (s : List ℕ) → ((d : ℕ) → has s d ≡ (has ds d && free c d)) → first (λ d. Some (a, b, c, d)) (members s) ≡ at_b n r a b
      third_found s t =
          let on = (members_mem cs led.0).1 in
          sym (fourth_first c on s t)
          ∙ ⊎_elim
          (λ q. q.1 ∙ sym (sought_c ∙ led.2 q.0 q.1))
          (λ z. absurd (clash led.1 (fourth_some c on z)))
          (found_or_none (at_c n r a b c))

-- the search with a has jobs before it that are incomparable to a
pub record Beside (n : ℕ) (r : Rel) (a : ℕ) (bs : List ℕ) : Type 0 where
  pub sought : Sought (at_b n r a) (below n) bs
  pub beside : (b : ℕ) → has bs b ≡ true → apart n r a b ≡ true

module _ (n : ℕ) (r : Rel) (a : ℕ) (bs : List ℕ) where
  pub beside_first : n ≤ 128 → a < n → ((b : ℕ) → has bs b ≡ apart n r a b) → Beside n r a bs
  beside_first l k h =
      record {
        sought =
            sought_all (at_b n r a) n l bs
            (λ b e. (apart_both n r a b (sym (h b) ∙ e)).1)
            (λ b m e. apart_none n r a b (sym (apart_below n r a b k m) ∙ sym (h b) ∙ e));
        beside = λ b e. sym (h b) ∙ e;
      }

  pub beside_next
      : Beside n r a bs → (b : ℕ) → Least bs b → (others : List ℕ) → ((v : ℕ) → has others v ≡ (has bs v && exists (has bs) (below v)))
      → at_b n r a b ≡ None → Beside n r a others
  beside_next p b least others without h =
      record {
        sought = sought_next (at_b n r a) (below n) bs p.sought b least others without h;
        beside = λ x e. p.beside x (and_left _ _ (sym (without x) ∙ e));
      }
