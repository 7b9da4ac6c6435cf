-- An answer as one number.
use Rattle.std.specs.Prelude.{ℕ, ◌+◌, ◌*◌, ◌/◌, ◌%◌, ◌^◌}
use Rattle.analysis.specs.Answer.{Answer, answer}

-- 256 times the first place, 2^24 times the second, 2^40 times the third and 2^48 times the fourth
abbrev pub packed : Answer → ℕ
packed a = a.number + 256 * a.first + 2 ^ 24 * a.second + 2 ^ 40 * a.third + 2 ^ 48 * a.fourth

-- the answer that a number packs
abbrev pub unpacked : ℕ → Answer
unpacked r = answer (r % 256) (r / 256 % 2 ^ 16) (r / 2 ^ 24 % 2 ^ 16) (r / 2 ^ 40 % 256) (r / 2 ^ 48)

-- an answer cut to the bits that this leaves it: 8 for the number, 16, 16, 8 and 16 for the places. No outcome's answer has more.
abbrev pub cut : Answer → Answer
cut a = answer (a.number % 256) (a.first % 2 ^ 16) (a.second % 2 ^ 16) (a.third % 256) (a.fourth % 2 ^ 16)
