-- The parts of a group put onto the stack, from the last to the first.
use Prim.Native.Nat.{ℕ, zero, suc, ◌+◌, ◌≤◌, ◌<◌}
use mathlib.Core.Path.{◌≡◌, refl, sym, ap, ap₂, ◌∙◌}
use mathlib.Core.List.{List, [], ◌∷◌, ◌++◌}
use mathlib.Core.Bool.{Bool, not}
use native.Mathlib.Numerals.{add-one}
use native.Mathlib.Omega.{arith}
use lib.ListN.{length, take, drop, get_or, set, drop_of_length-le}
use lib.Seq.{drop-cons, take-suc, length-take-le}
use Rattle.std.specs.Prelude.{reverse}
use Rattle.std.proofs.lemmas.List.{take_more_set, reverse-append, length-reverse}
use Rattle.relation.specs.Table.{members}
use Rattle.writer.specs.Stack.{held, jobs_of, start_at, opened}
use Rattle.writer.specs.declared.stack.Entry.{Entry}

-- the top of a stack, and the others
pub held_top : (es : List Entry) (height : ℕ) (d : Entry) → height < length es → held es (height + 1) ≡ get_or es height d ∷ held es height
held_top es height d l =
    ap reverse (ap (λ k. take k es) (add-one height) ∙ take-suc es height d l) ∙ reverse-append (take height es) (get_or es height d ∷ [])

-- an entry stored on top
pub stacked : (es : List Entry) (h : ℕ) (e : Entry) → h < length es → held (set es h e) (h + 1) ≡ e ∷ held es h
stacked es h e l = ap reverse (take_more_set es h e l) ∙ reverse-append (take h es) (e ∷ [])

pub height_is : (es : List Entry) (h : ℕ) → h ≤ length es → length (held es h) ≡ h
height_is es h l = length-reverse (take h es) ∙ length-take-le h es l

abbrev entry : List ℕ → ℕ → Bool → Entry
entry s a k = record { set = s; start = a; series = k }

pub jobs_drop : (i : ℕ) (xs : List (List ℕ)) → jobs_of (drop i xs) ≤ jobs_of xs
jobs_drop zero xs = omega arith
jobs_drop (suc i) [] = omega arith
jobs_drop (suc i) (x ∷ xs) = omega (arith, jobs_drop i xs)

module _ (parts : List (List ℕ)) (e : Entry) (old : List Entry) where
  -- the parts from i on are on the stack
  pub record Pushing (stack : List Entry) (i later : ℕ) : Type 0 where
    pub few : i ≤ length parts
    pub level : length stack + i ≡ length old + length parts
    pub after : later ≡ jobs_of (drop i parts)
    pub so_far : stack ≡ opened e (drop i parts) ++ old

  pub push_start : Pushing old (length parts) 0
  push_start =
      let none : drop (length parts) parts ≡ [] = drop_of_length-le parts {i = length parts} (omega arith) in
      record { few = omega arith; level = refl; after = ap jobs_of (sym none); so_far = ap (λ l. opened e l ++ old) (sym none) }

  module _ (stack : List Entry) (i later j : ℕ) (x : Pushing stack i later) (is : i ≡ suc j) where
    -- the part that comes next
    next_part : drop j parts ≡ get_or parts j [] ∷ drop i parts
    next_part = let here : j < length parts = omega (arith, x.few) in drop-cons parts j [] here ∙ ap (λ k. get_or parts j [] ∷ drop k parts) (sym is)

    pub fits_whole : jobs_of parts ≡ length (members e.set) → later + length (members (get_or parts j [])) ≤ length (members e.set)
    fits_whole w = omega (arith, x.after, ap jobs_of next_part, jobs_drop j parts)

    pub push_next : (p : List ℕ) (start size : ℕ) → p ≡ get_or parts j [] → size ≡ length (members p)
        → start ≡ start_at e.series e.start (length (members e.set)) later size
        → Pushing (entry p start (not e.series) ∷ stack) j (later + size)
    push_next p start size q s a =
        let here = length (members (get_or parts j [])) in
        let same : size ≡ here = s ∙ ap (λ t. length (members t)) q in
        let at : start ≡ start_at e.series e.start (length (members e.set)) (jobs_of (drop i parts)) here =
        a ∙ ap₂ (start_at e.series e.start (length (members e.set))) x.after same in
        record {
          few = omega (arith, x.few);
          level = omega (arith, x.level);
          after = omega (arith, x.after, same, ap jobs_of next_part);
          so_far =
              ap₂ ◌∷◌ (λ i. entry (q i) (at i) (not e.series)) x.so_far
              ∙ ap (λ l. opened e l ++ old) (sym next_part);
        }

  pub push_end : (stack : List Entry) (i later : ℕ) → Pushing stack i later → i ≡ 0 → stack ≡ opened e parts ++ old
  push_end stack i later x z = x.so_far ∙ ap (λ k. opened e (drop k parts) ++ old) z
