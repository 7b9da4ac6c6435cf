-- A set taken apart, one part after another.
use Prim.Native.Nat.{ℕ, ◌+◌, ◌≤◌, ◌<◌}
use mathlib.Core.Path.{◌≡◌, sym, ap, subst, ◌∙◌}
use mathlib.Core.List.{List, [], ◌∷◌, ◌++◌, append_assoc, append-nil, Memᴰ}
use mathlib.Core.Bool.{Bool, true, false, ◌&&◌, not}
use native.Mathlib.Numerals.{add-one}
use native.Mathlib.Omega.{arith}
use lib.ListN.{length, take, set, length-set}
use lib.Seq.{take-suc-set}
use Rattle.poset.specs.Lists.{exists, below}
use Rattle.poset.specs.Order.{Rel}
use Rattle.poset.proofs.Laws.{clash, false_unless, and_left, and_right, not-true, any_found, keep_mem}
use Rattle.relation.specs.Table.{has, members}
use Rattle.writer.specs.Parts.{Jobs, PartOf, StartsAt, Splits}
use Rattle.writer.proofs.Counting.{few_members, set_falls}
use Rattle.writer.proofs.Searching.{empty}

-- the parts so far, with the parts of what is left, are the parts of s
pub record Splitting (near under : Rel) (series : Bool) (s left : List ℕ) (parts : List (List ℕ)) (count : ℕ) : Type 0 where
  pub size : length parts ≡ 128
  pub within : (v : ℕ) → has left v ≡ true → has s v ≡ true
  pub room : count + length (members left) ≤ length (members s)
  pub so_far : (more : List (List ℕ)) → Splits near under series left more → Splits near under series s (take count parts ++ more)

pub starts_small : (under : Rel) (series : Bool) (s : List ℕ) (x : ℕ) → StartsAt under series s x → (x < 128) × (has s x ≡ true)
starts_small under true s x f = (f.small, f.member)
starts_small under false s x l = (l.small, l.member)

module _ (near under : Rel) (series : Bool) (s : List ℕ) where
  pub split_start : (parts : List (List ℕ)) → length parts ≡ 128 → Splitting near under series s s parts 0
  split_start parts e = record { size = e; within = λ v p. p; room = omega arith; so_far = λ more h. h }

  module _ (left : List ℕ) (parts : List (List ℕ)) (count : ℕ) (i : Splitting near under series s left parts count)
      (x : ℕ) (part fewer : List ℕ) (at : StartsAt under series left x) (p : PartOf near left x part)
      (f : (v : ℕ) → has fewer v ≡ (has left v && not (has part v))) where
    fewer_left : (v : ℕ) → has fewer v ≡ true → has left v ≡ true
    fewer_left v q = and_left (has left v) (not (has part v)) (sym (f v) ∙ q)

    pub left_falls : length (members fewer) < length (members left)
    left_falls =
        let here = starts_small under series left x at in
        set_falls left fewer x here.0 here.1
        (false_unless (has fewer x) (λ q. clash p.own (not-true (has part x) (and_right (has left x) (not (has part x)) (sym (f x) ∙ q)))))
        fewer_left

    pub split_next : Splitting near under series s fewer (set parts count part) (count + 1)
    split_next =
        record {
          size = length-set parts count part ∙ i.size;
          within = λ v q. i.within v (fewer_left v q);
          room = omega (arith, i.room, left_falls);
          so_far = λ more h.
              subst (Splits near under series s)
              (sym (append_assoc (take count parts) (part ∷ []) more) ∙ ap (λ l. l ++ more) (sym stored))
              (i.so_far (part ∷ more) (x, fewer, at, p, f, h));
        }
      where
        stored : take (count + 1) (set parts count part) ≡ take count parts ++ (part ∷ [])
        stored =
            ap (λ k. take k (set parts count part)) (add-one count)
            ∙ take-suc-set parts count part (omega (arith, i.size, i.room, few_members s, left_falls))

  pub split_end : (left : List ℕ) (parts : List (List ℕ)) (count : ℕ) → Splitting near under series s left parts count → Jobs left
      → exists (has left) (below 128) ≡ false → Splits near under series s (take count parts)
  split_end left parts count i jobs e =
      subst (Splits near under series s) (append-nil (take count parts))
      (i.so_far [] (empty left jobs e))

-- a set that is not empty
room_left : (left : List ℕ) → exists (has left) (below 128) ≡ true → 0 < length (members left)
unfolding members
room_left left h = let (x, m, p) = any_found (has left) (below 128) h in some_length (keep_mem (has left) m p)
  where
    some_length : {x : ℕ} {xs : List ℕ} → Memᴰ x xs → 0 < length xs
    some_length (Memᴰ.head e) = omega arith
    some_length (Memᴰ.tail m) = omega arith

-- where something is left there is room for a part
pub part_room : (near under : Rel) (series : Bool) (s left : List ℕ) (parts : List (List ℕ)) (count : ℕ) → Splitting near under series s left parts count
    → exists (has left) (below 128) ≡ true → count < 128
part_room near under series s left parts count i h = omega (arith, i.room, few_members s, room_left left h)
