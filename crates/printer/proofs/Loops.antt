-- A loop that writes the text of each element of a list.
use Prim.Native.Nat.{ℕ, ◌+◌, ◌*◌, ◌≤◌, ◌<◌}
use mathlib.Core.Path.{◌≡◌, sym, ap, ◌∙◌}
use mathlib.Core.List.{List, [], ◌∷◌, ◌++◌, append-nil, flat_map}
use native.Mathlib.Nat.{mul-add}
use native.Mathlib.Numerals.{add-one}
use native.Mathlib.Omega.{arith}
use lib.ListN.{length, take, get_or}
use lib.Seq.{take-suc, take_all}
use Rattle.poset.proofs.Laws.{flat_map_append}
use Rattle.printer.specs.declared.page.Page.{Page}
use Rattle.printer.specs.Buffer.{Writes}
use Rattle.printer.proofs.Buffers.{writes_none, join, writes_of}

module _ {A B : Type 0} (f : A → List B) where
  flat_map_take : (xs : List A) (i : ℕ) (z : A) → i < length xs → flat_map f (take i xs) ++ f (get_or xs i z) ≡ flat_map f (take (i + 1) xs)
  unfolding flat_map
  flat_map_take xs i z h =
      ap (λ (l : List B). flat_map f (take i xs) ++ l) (sym (append-nil (f (get_or xs i z))))
      ∙ sym (flat_map_append f (take i xs) (get_or xs i z ∷ []))
      ∙ ap (flat_map f) (sym (take-suc xs i z h) ∙ ap (λ (n : ℕ). take n xs) (sym (add-one i)))

module _ {A : Type 0} (f : A → List ℕ) (most : ℕ) (xs : List A) (p : Page) where
  -- the texts of the first i elements were written, each of at most so many bytes
  pub record Turn (q : Page) (i : ℕ) : Type 0 where
    pub passed : i ≤ length xs
    pub bound : q.len ≤ p.len + most * i
    pub text : Writes p (flat_map f (take i xs)) q

  pub turn_first : Turn p 0
  unfolding flat_map
  turn_first = record { passed = omega arith; bound = omega arith; text = writes_none p }

  pub turn_next : {q r : Page} {i : ℕ} (z : A) → p.len ≤ length p.out.now → i < length xs → Turn q i
      → Writes q (f (get_or xs i z)) r → r.len ≤ q.len + most → Turn r (i + 1)
  turn_next {q} {r} {i} z h l t w m = record {
    passed = omega arith;
    bound = omega (arith, t.bound, mul-add most i 1);
    text = writes_of (flat_map_take f xs i z l) (join h t.text w);
  }

  pub turn_last : {q : Page} {i : ℕ} → length xs ≤ i → Turn q i → Writes p (flat_map f xs) q
  turn_last {i = i} h t = writes_of (ap (flat_map f) (take_all i xs h)) t.text
