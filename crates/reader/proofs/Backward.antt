-- The nodes of a tree as a slice, and a list that is taken from its last element to its first.
use Prim.Native.Nat.{ℕ, ◌+◌, ◌-◌, ◌≤◌, ◌<◌}
use mathlib.Core.Path.{◌≡◌, ap, ◌∙◌}
use mathlib.Core.List.{List, reverse}
use borrow.Rule.Slice.PartMut.{mid_of, mid_len}
use native.Mathlib.Omega.{arith}
use lib.ListN.{length, get_or, take}
use lib.Seq.{take-length}
use Rattle.std.proofs.lemmas.List.{get_or_default, get_or-drop, get_or-reverse, get_or-take, length-reverse}
use Rattle.poset.specs.Tree.{Tree}
use Rattle.reader.specs.Nodes.{Listed}

-- the part of a list that has a tree's nodes
pub listed_part : {t : Tree} {list : List ℕ} {count : ℕ} → Listed t list count → Listed t (take count list) (length (take count list))
listed_part {list = list} {count = count} l =
    record {
      once = l.once;
      small = l.small;
      number = ap length l.these;
      these = take-length (take count list) ∙ l.these;
    }

module _ {A : Type 0} (d : A) where
  -- the element that is taken after n others
  pub from_last : (xs : List A) (n : ℕ) (x : A) → (n < length (reverse xs)) × (x ≡ get_or (reverse xs) n x)
      → (n < length xs) × (x ≡ get_or xs (length xs - n - 1) d)
  from_last xs n x (l, e) =
      let inside : n < length xs = omega (arith, length-reverse xs) in
      let place : length xs - 1 - n ≡ length xs - n - 1 = omega arith in (
        inside,
        e ∙ get_or-reverse xs n x inside ∙ get_or_default xs (length xs - 1 - n) x d (omega arith) ∙ ap (λ (i : ℕ). get_or xs i d) place,
      )

  -- the same of a part, the elements from a to e
  pub part_from_last : (xs : List A) (a e n : ℕ) (x : A) → e ≤ length xs
      → (n < length (reverse (mid_of a (e - a) xs))) × (x ≡ get_or (reverse (mid_of a (e - a) xs)) n x)
      → (a + n < e) × (x ≡ get_or xs (e - n - 1) d)
  part_from_last xs a e n x inside t =
      let (l, q) = from_last (mid_of a (e - a) xs) n x t in
      let size : length (mid_of a (e - a) xs) ≡ e - a = mid_len a e xs inside in
      let place : a + (length (mid_of a (e - a) xs) - n - 1) ≡ e - n - 1 = omega arith in (
        omega arith,
        q ∙ get_or-take (e - a) _ (length (mid_of a (e - a) xs) - n - 1) d (omega arith)
            ∙ get_or-drop a xs (length (mid_of a (e - a) xs) - n - 1) d
            ∙ ap (λ (i : ℕ). get_or xs i d) place,
      )
