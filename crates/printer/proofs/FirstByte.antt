-- A record's first 7 bits are the job count minus 1.
use Prim.Native.Nat.{ℕ, zero, suc, ◌+◌, ◌-◌, ◌*◌, ◌/◌, ◌%◌, ◌^◌, ◌≤◌, ◌<◌}
use mathlib.Core.Path.{◌≡◌, sym, ap, ap₂, ◌∙◌}
use mathlib.Core.List.{List, ◌++◌}
use native.Mathlib.Nat.{zero-add, suc-add}
use native.Mathlib.Numerals.{add-one}
use native.Mathlib.Omega.{arith}
use lib.ListN.{get_or}
use lib.Pow.{shr-shr}
use Rattle.poset.specs.Tree.{Tree, leaf, node}
use Rattle.record.specs.Bits.{bits, packed, bytes_of}
use Rattle.record.specs.Layout.{tree_bits, layout}

halves : (k x : ℕ) → x / 2 ^ suc k * 2 + x / 2 ^ k % 2 ≡ x / 2 ^ k
halves k x =
    let e : x / 2 ^ suc k ≡ x / 2 ^ k / 2 = ap (λ (j : ℕ). x / 2 ^ j) (sym (add-one k)) ∙ sym (shr-shr x k 1) in
    omega arith

packed_bits : (j k x : ℕ) (rest : List ℕ) → packed (j + k) (x / 2 ^ j) (bits j x ++ rest) ≡ packed k x rest
unfolding packed bits
packed_bits zero k x rest = let e : x / 2 ^ 0 ≡ x = omega arith in ap₂ (λ (i v : ℕ). packed i v rest) (zero-add k) e
packed_bits (suc j) k x rest =
    ap (λ (i : ℕ). packed i (x / 2 ^ suc j) (bits (suc j) x ++ rest)) (suc-add j k)
    ∙ ap (λ (v : ℕ). packed (j + k) v (bits j x ++ rest)) (halves j x)
    ∙ packed_bits j k x rest

layout_packed : (n : ℕ) (hours : List ℕ) (t : Tree) → n ≤ 128 → layout n hours t ≡ packed 1 (n - 1) (tree_bits hours t)
unfolding layout bytes_of bits
layout_packed n hours t m =
    let e : (n - 1) / 2 ^ 6 % 2 ≡ (n - 1) / 2 ^ 6 = omega arith in
    ap (λ (v : ℕ). packed 7 v (bits 6 (n - 1) ++ tree_bits hours t)) e ∙ packed_bits 6 1 (n - 1) (tree_bits hours t)

packed_first : (x : ℕ) (hours : List ℕ) (t : Tree) → get_or (packed 1 x (tree_bits hours t)) 0 0 / 2 ≡ x
unfolding packed tree_bits bits
packed_first x hours (leaf j) = omega arith
packed_first x hours (node k t f) = omega arith

pub first_byte : (n : ℕ) (hours : List ℕ) (t : Tree) → 0 < n → n ≤ 128 → get_or (layout n hours t) 0 0 / 2 + 1 ≡ n
first_byte n hours t l m =
    let e = ap (λ (bytes : List ℕ). get_or bytes 0 0) (layout_packed n hours t m) in omega (arith, packed_first (n - 1) hours t)
