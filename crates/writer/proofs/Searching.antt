-- The search for the part of a set that a job falls to: jobs to look at, and jobs not yet found.
use Prim.Native.Nat.{ℕ, ◌<◌}
use mathlib.Core.Path.{◌≡◌, refl, sym, ap, subst, ◌∙◌}
use mathlib.Core.List.{List}
use mathlib.Core.Bool.{Bool, true, false, ◌&&◌, ◌||◌, not}
use mathlib.Core.Logic.{◌⊎◌, inl, inr, ⊎_elim}
use native.Mathlib.Omega.{arith}
use native.Mathlib.Decide.{ℕ_discrete, dec_lt}
use lib.Dec.{eqb}
use Rattle.poset.specs.Lists.{exists, below}
use Rattle.poset.specs.Order.{Rel}
use Rattle.poset.proofs.Laws.{decided, clash, false_unless, and_left, and_right, and_intro, or_cases, or_left, or_right}
use Rattle.poset.proofs.Laws.{not-true, not-false, eqb-true, eqb_same, any_miss, below_mem}
use Rattle.relation.specs.Table.{has, Least}
use Rattle.writer.specs.Parts.{Walk, start, next, PartOf, Jobs}

-- a job of s that is found
abbrev Found : List ℕ → List ℕ → ℕ → Type 0
Found s rest v = (has s v ≡ true) × (has rest v ≡ false)

pub record Searching (near : Rel) (s : List ℕ) (x : ℕ) (todo rest : List ℕ) : Type 0 where
  pub rest_in : (v : ℕ) → has rest v ≡ true → has s v ≡ true
  pub todo_in : (v : ℕ) → has todo v ≡ true → Found s rest v
  pub own : Found s rest x
  pub looked : (u v : ℕ) → Found s rest u → has todo u ≡ false → has rest v ≡ true → near u v ≡ false
  pub joined : (u : ℕ) → Found s rest u → Walk near (Found s rest) x u

pub path_within : (near : Rel) (S R : ℕ → Type 0) → ((v : ℕ) → S v → R v) → {x u : ℕ} → Walk near S x u → Walk near R x u
path_within near S R to start = start
path_within near S R to (next {v = v} p s e) = next (path_within near S R to p) (to v s) e

-- a test of two parts

but_true : (a b : Bool) → (a && not b) ≡ true → (a ≡ true) × (b ≡ false)
but_true a b h = (and_left a (not b) h, not-true b (and_right a (not b) h))

but_intro : (a b : Bool) → a ≡ true → b ≡ false → (a && not b) ≡ true
but_intro a b p q = and_intro a (not b) p (not-false b q)

module _ (near : Rel) (s : List ℕ) (x : ℕ) where
  -- only x is found
  pub search_start : (todo rest : List ℕ) → has s x ≡ true → ((v : ℕ) → has todo v ≡ eqb x v)
      → ((v : ℕ) → has rest v ≡ (has s v && not (has todo v))) → Searching near s x todo rest
  search_start todo rest h t r =
      record {
        rest_in = λ v p. (but_true (has s v) (has todo v) (sym (r v) ∙ p)).0;
        todo_in = λ v p. is_x v (eqb-true x v (sym (t v) ∙ p));
        own = is_x x refl;
        looked = λ u v f away p. absurd (clash (mine u f) away);
        joined = λ u f. subst (λ w. Walk near (Found s rest) x w) (eqb-true x u (sym (t u) ∙ mine u f)) start;
      }
    where
      not_rest : (v : ℕ) → has todo v ≡ true → has rest v ≡ false
      not_rest v p = false_unless (has rest v) (λ q. clash p (but_true (has s v) (has todo v) (sym (r v) ∙ q)).1)

      is_x : (v : ℕ) → x ≡ v → Found s rest v
      is_x v e =
          (ap (has s) (sym e) ∙ h, not_rest v (t v ∙ ap (eqb x) (sym e) ∙ eqb_same x))

      mine : (u : ℕ) → Found s rest u → has todo u ≡ true
      mine u f =
          ⊎_elim (λ p. p) (λ p. absurd (clash (r u ∙ but_intro (has s u) (has todo u) f.0 p) f.1)) (decided (has todo u))

  -- y is looked at: what is near to it is found
  module _ (todo rest : List ℕ) (y : ℕ) (found others more fewer : List ℕ) (i : Searching near s x todo rest) (least : Least todo y)
      (f : (v : ℕ) → has found v ≡ (near y v && has rest v))
      (o : (v : ℕ) → has others v ≡ (has todo v && exists (has todo) (below v)))
      (m : (v : ℕ) → has more v ≡ (has others v || has found v))
      (w : (v : ℕ) → has fewer v ≡ (has rest v && not (has found v))) where
    y_found : Found s rest y
    y_found = i.todo_in y least.member

    found_rest : (v : ℕ) → has found v ≡ true → has rest v ≡ true
    found_rest v p = and_right (near y v) (has rest v) (sym (f v) ∙ p)

    found_near : (v : ℕ) → has found v ≡ true → near y v ≡ true
    found_near v p = and_left (near y v) (has rest v) (sym (f v) ∙ p)

    fewer_rest : (v : ℕ) → has fewer v ≡ true → has rest v ≡ true
    fewer_rest v p = (but_true (has rest v) (has found v) (sym (w v) ∙ p)).0

    others_todo : (v : ℕ) → has others v ≡ true → has todo v ≡ true
    others_todo v p = and_left (has todo v) (exists (has todo) (below v)) (sym (o v) ∙ p)

    old : (v : ℕ) → Found s rest v → Found s fewer v
    old v p = (p.0, false_unless (has fewer v) (λ q. clash (fewer_rest v q) p.1))

    new : (v : ℕ) → has found v ≡ true → Found s fewer v
    new v p = (
      i.rest_in v (found_rest v p),
      false_unless (has fewer v) (λ q. clash p (but_true (has rest v) (has found v) (sym (w v) ∙ q)).1),
    )

    cases : (v : ℕ) → Found s fewer v → Found s rest v ⊎ (has found v ≡ true)
    cases v p =
        ⊎_elim
        (λ q. inr (⊎_elim (λ a. a) (λ a. absurd (clash (w v ∙ but_intro (has rest v) (has found v) q a) p.1)) (decided (has found v))))
        (λ q. inl (p.0, q))
        (decided (has rest v))

    -- a job that is not to be looked at any more is y, or was looked at before
    past : (u : ℕ) → has more u ≡ false → (has todo u ≡ false) ⊎ (u ≡ y)
    past u p =
        ⊎_elim
        (λ q. inr (same u q
        (false_unless (exists (has todo) (below u)) (λ a. clash (m u ∙ or_left (has others u) (has found u) (o u ∙ and_intro (has todo u) _ q a)) p))))
        (λ q. inl q)
        (decided (has todo u))
      where
        same : (u : ℕ) → has todo u ≡ true → exists (has todo) (below u) ≡ false → u ≡ y
        same u q none =
            elim (ℕ_discrete u y) [
              | yes e ↦ e
              | no e ↦ absurd (⊎_elim (λ l. clash q (least.least u l))
                  (λ l. clash least.member (any_miss (has todo) (below u) none (below_mem l))) (apart u y e))
            ]
          where
            apart : (a b : ℕ) → (a ≡ b → ⊥) → (a < b) ⊎ (b < a)
            apart a b e = elim (dec_lt a b) [ yes l ↦ inl l | no l ↦ inr (omega arith) ]

    pub search_next : Searching near s x more fewer
    search_next =
        record {
          rest_in = λ v p. i.rest_in v (fewer_rest v p);
          todo_in = λ v p.
              ⊎_elim (λ q. old v (i.todo_in v (others_todo v q))) (λ q. new v q) (or_cases (has others v) (has found v) (sym (m v) ∙ p));
          own = old x i.own;
          looked = λ u v p away q.
              ⊎_elim
              (λ a. ⊎_elim (λ t. i.looked u v a t (fewer_rest v q)) (λ e. near_y u v e q) (past u away))
              (λ a. absurd (clash (m u ∙ or_right (has others u) (has found u) a) away))
              (cases u p);
          joined = λ u p.
              ⊎_elim
              (λ a. path_within near (Found s rest) (Found s fewer) old (i.joined u a))
              (λ a. next (path_within near (Found s rest) (Found s fewer) old (i.joined y y_found)) (new u a) (found_near u a))
              (cases u p);
        }
      where
        near_y : (u v : ℕ) → u ≡ y → has fewer v ≡ true → near u v ≡ false
        near_y u v e q =
            ap (λ a. near a v) e
            ∙ false_unless (near y v)
            (λ a. clash (f v ∙ and_intro (near y v) (has rest v) a (fewer_rest v q)) (but_true (has rest v) (has found v) (sym (w v) ∙ q)).1)

  -- nothing is left to look at, or nothing to find
  pub search_end : (todo rest part : List ℕ) → Searching near s x todo rest → ((u : ℕ) → has todo u ≡ false)
      → ((v : ℕ) → has part v ≡ (has s v && not (has rest v))) → PartOf near s x part
  search_end todo rest part i none p =
      record {
        within = λ v q. (but_true (has s v) (has rest v) (sym (p v) ∙ q)).0;
        own = to x i.own;
        far = λ u v q h away. i.looked u v (from u q) (none u) (left v h away);
        joined = λ u q. path_within near (Found s rest) (λ v. has part v ≡ true) to (i.joined u (from u q));
      }
    where
      to : (v : ℕ) → Found s rest v → has part v ≡ true
      to v q = p v ∙ but_intro (has s v) (has rest v) q.0 q.1

      from : (v : ℕ) → has part v ≡ true → Found s rest v
      from v q = but_true (has s v) (has rest v) (sym (p v) ∙ q)

      left : (v : ℕ) → has s v ≡ true → has part v ≡ false → has rest v ≡ true
      left v h away = ⊎_elim (λ q. q) (λ q. absurd (clash (to v (h, q)) away)) (decided (has rest v))

  pub search_all : (todo rest : List ℕ) → Searching near s x todo rest → ((u : ℕ) → has rest u ≡ false) → PartOf near s x s
  search_all todo rest i none =
      record {
        within = λ v q. q;
        own = i.own.0;
        far = λ u v q h away. absurd (clash h away);
        joined = λ u q. path_within near (Found s rest) (λ v. has s v ≡ true) (λ v a. a.0) (i.joined u (q, none u));
      }

-- what is to be looked at or found are jobs
pub todo_jobs : (near : Rel) (s : List ℕ) (x : ℕ) (todo rest : List ℕ) → Jobs s → Searching near s x todo rest → Jobs todo
todo_jobs near s x todo rest jobs i v p = jobs v (i.todo_in v p).0

pub rest_jobs : (near : Rel) (s : List ℕ) (x : ℕ) (todo rest : List ℕ) → Jobs s → Searching near s x todo rest → Jobs rest
rest_jobs near s x todo rest jobs i v p = jobs v (i.rest_in v p)

-- an empty set, as a test over the jobs below 128 finds it
pub empty : (s : List ℕ) → Jobs s → exists (has s) (below 128) ≡ false → (v : ℕ) → has s v ≡ false
empty s jobs e v = false_unless (has s v) (λ h. clash h (any_miss (has s) (below 128) e (below_mem (jobs v h))))
