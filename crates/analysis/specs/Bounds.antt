-- The bound that the analysis and the program share.
use Rattle.std.specs.Prelude.{ℕ}

-- the bytes of the longest sheet
abbrev pub longest_sheet : ℕ
longest_sheet = 37637
