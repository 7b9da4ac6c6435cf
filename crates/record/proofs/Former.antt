-- Records in the former plain form. (Document 02, A.8: of branches side by side the hall laid out the one with the smallest job first.)
use Prim.Native.Nat.{ℕ, ◌^◌, ◌≤◌, ◌<◌}
use mathlib.Core.Path.{◌≡◌, subst}
use mathlib.Core.List.{List}
use mathlib.Core.Bool.{Bool, true, ◌&&◌}
use lib.Dec.{ltb}
use lib.ListN.{length}
use Rattle.poset.specs.Lists.{only_if}
use Rattle.poset.specs.Tree.{Kind, series, parallel, Tree, leaf, node, Forest, last, more, Spans, least, alternates, canonical}
use Rattle.record.specs.Bits.{AllBelow}
use Rattle.record.specs.Layout.{hours_bits, layout}
use Rattle.record.specs.Decode.{decode}
use Rattle.record.proofs.Records.{decode_any}

unfoldable pub formerly_ahead : Kind → Tree → Tree → Bool
formerly_ahead series s t = true
formerly_ahead parallel s t = ltb (least s) (least t)

unfoldable mutual
  pub formerly_canonical : Tree → Bool
  formerly_canonical (leaf j) = true
  formerly_canonical (node k t f) = alternates k t && (formerly_canonical t && forest_formerly k t f)

  pub forest_formerly : Kind → Tree → Forest → Bool
  forest_formerly k s (last t) = alternates k t && (formerly_canonical t && formerly_ahead k s t)
  forest_formerly k s (more t f) = alternates k t && (formerly_canonical t && (formerly_ahead k s t && forest_formerly k t f))

-- the bytes were the record of a tree on n jobs with these hours
pub record WasRecord (bytes : List ℕ) (n : ℕ) (t : Tree) (hours : List ℕ) : Type 0 where
  pub least : 0 < n
  pub most : n ≤ 128
  pub spans : Spans n t
  pub plain : formerly_canonical t ≡ true
  pub each : length hours ≡ n
  pub small : AllBelow (2 ^ hours_bits) hours
  pub spelt : layout n hours t ≡ bytes

pub former_decode : (bytes : List ℕ) (n : ℕ) (t : Tree) (hours : List ℕ) → WasRecord bytes n t hours → decode bytes ≡ only_if (canonical t) (n, t, hours)
former_decode bytes n t hours w =
    subst (λ (b : List ℕ). decode b ≡ only_if (canonical t) (n, t, hours)) w.spelt
    (decode_any n hours t w.least w.most w.spans w.each w.small)
