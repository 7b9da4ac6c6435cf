-- What reading gives of a record, read as a whole: its sequences, or its nodes.
use Prim.Native.Nat.{ℕ, ◌+◌}
use mathlib.Core.Path.{◌≡◌, sym, ap, ◌∙◌}
use mathlib.Core.List.{List}
use Rattle.std.specs.Prelude.{Some, option_map}
use native.Mathlib.Omega.{arith}
use lib.ListN.{length, take}
use Rattle.poset.specs.Areas.{padded}
use Rattle.poset.specs.Tree.{Tree}
use Rattle.record.specs.Bits.{AllBelow}
use Rattle.record.specs.Layout.{IsRecord}
use Rattle.record.specs.Decode.{decode}
use Rattle.record.specs.Tokens.{tokens, listing}
use Rattle.record.proofs.Sizes.{length_leaves}
use Rattle.record.proofs.Theorems.{layout_decode}
use Rattle.record.proofs.Tokens.{tokens_length}
use Rattle.reader.specs.Answer.{reading, nodes}
use Rattle.reader.specs.Nodes.{HasNodes}
use Rattle.reader.specs.Parts.{Lists, walk}
use Rattle.reader.specs.Whole.{Holds}
use Rattle.reader.specs.declared.parts.Part.{Part}

module _ (bytes : List ℕ) (v : Lists) (p : Part) (t : Tree) (h : Holds bytes v p t) where
  pub gives_reading : (reverse : List ℕ) → reverse ≡ padded (walk v.next p.done p.first)
      → Some (record { count = p.done; groups = p.groups; forward = v.forward; reverse = reverse; hours = v.hours }) ≡ option_map reading (decode bytes)
  gives_reading reverse e =
      let back = e ∙ ap padded h.back in
      (λ i. Some (record { count = p.done; groups = h.inner i; forward = h.forth i; reverse = back i; hours = h.times i }))
      ∙ ap (option_map reading) (sym h.decoded)

  module _ (small : AllBelow 256 bytes) where
    is : IsRecord bytes p.done t (take p.done v.hours)
    is = layout_decode bytes p.done t (take p.done v.hours) small h.decoded

    number : p.done + p.groups ≡ length (tokens t)
    number = omega (arith, h.inner, tokens_length t, length_leaves p.done t is.spans)

    pub has_nodes : HasNodes bytes (p.done + p.groups) t
    has_nodes = record { jobs = p.done; hours = take p.done v.hours; spelt = is; number = number }

    pub gives_nodes : (ts : List ℕ) → ts ≡ listing (tokens t)
        → Some (record { jobs = p.done; count = p.done + p.groups; tokens = ts; hours = v.hours }) ≡ option_map nodes (decode bytes)
    gives_nodes ts e =
        (λ i. Some (record { jobs = p.done; count = number i; tokens = e i; hours = h.times i })) ∙ ap (option_map nodes) (sym h.decoded)
