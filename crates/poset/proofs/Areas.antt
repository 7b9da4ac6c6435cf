-- Arcs as an area or a list holds them.
use Prim.Native.Nat.{◌*◌}
use native.Mathlib.Omega.{arith}
use mathlib.Core.Path.{◌≡◌, refl}
use mathlib.Core.List.{List, [], ◌∷◌, ◌++◌, flat_map}
use lib.ListN.{length}
use Rattle.poset.specs.Order.{Arc}
use Rattle.poset.specs.Areas.{arc_bytes}
use Rattle.poset.proofs.Laws.{flat_map_append}

pub bytes_append : (a b : List Arc) → arc_bytes (a ++ b) ≡ arc_bytes a ++ arc_bytes b
unfolding arc_bytes
bytes_append = flat_map_append (λ a. a.0 ∷ a.1 ∷ [])

pub bytes_length : (a : List Arc) → length (arc_bytes a) ≡ 2 * length a
unfolding arc_bytes flat_map
bytes_length [] = refl
bytes_length (x ∷ a) = omega (arith, bytes_length a)
