-- What areas and arrays hold after a call.
use Rattle.std.specs.Prelude.{ℕ, ◌-◌, length, drop, replicate}
use mathlib.Core.List.{List, [], ◌∷◌, ◌++◌, flat_map}
use Rattle.poset.specs.Order.{Arc}

-- what is written, and then the area's own bytes (Document 01: an area's bytes after the written ones stay)
unfoldable pub overlay : List ℕ → List ℕ → List ℕ
overlay written area = written ++ drop (length written) area

-- two numbers for each arc, as an area or a list holds them
unfoldable pub arc_bytes : List Arc → List ℕ
arc_bytes = flat_map (λ a. a.0 ∷ a.1 ∷ [])

-- a list in the first entries of 128, the others 0: a sequence, hours, gangs
abbrev pub padded : List ℕ → List ℕ
padded xs = xs ++ replicate (128 - length xs) 0
