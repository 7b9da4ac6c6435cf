-- Narrow answers, and a packed number taken apart.
use Prim.Native.Nat.{ℕ, ◌<◌}
use mathlib.Core.Path.{◌≡◌}
use native.Mathlib.Omega.{arith}
use Rattle.analysis.specs.Answer.{Answer, answer}
use Rattle.desk.specs.Packed.{packed, unpacked, cut}

-- the number has 8 bits, the places 16, 16, 8 and 16
pub record Narrow (a : Answer) : Type 0 where
  pub number_fits : a.number < 256
  pub first_fits : a.first < 65536
  pub second_fits : a.second < 65536
  pub third_fits : a.third < 256
  pub fourth_fits : a.fourth < 65536

same_answer : {k k' a a' b b' c c' d d' : ℕ} → k ≡ k' → a ≡ a' → b ≡ b' → c ≡ c' → d ≡ d' → answer k a b c d ≡ answer k' a' b' c' d'
same_answer p q r s t = rw (p, q, r, s, t)

pub cut_narrow : (a : Answer) → Narrow a → cut a ≡ a
cut_narrow a w = same_answer (omega arith) (omega arith) (omega arith) (omega arith) (omega arith)

pub unpacked_packed : (a : Answer) → Narrow a → unpacked (packed a) ≡ a
unpacked_packed a w = same_answer (omega arith) (omega arith) (omega arith) (omega arith) (omega arith)
