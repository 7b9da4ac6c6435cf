-- A question to a record: what is told of its job count, its tree and its hours, or one thing of bytes that are none.
use Prim.Native.Nat.{ℕ}
use mathlib.Core.Path.{◌≡◌, subst}
use mathlib.Core.List.{List}
use Rattle.std.specs.Prelude.{None, Some}
use mathlib.Core.Logic.{◌⊎◌, inl, inr, ⊎_elim}
use Rattle.poset.specs.Tree.{Tree}
use Rattle.poset.proofs.Laws.{found_or_none}
use Rattle.record.specs.Bits.{AllBelow}
use Rattle.record.specs.Layout.{IsRecord}
use Rattle.record.specs.Decode.{decode}
use Rattle.record.proofs.Theorems.{decode_record, decode_none, layout_below}

module _ {A : Type 0} (refused : A) (told : ℕ → Tree → List ℕ → A) where
  abbrev pub asked : List ℕ → A
  asked bytes = elim (decode bytes) [ None ↦ refused | Some x ↦ told x.0 x.1 x.2 ]

  asked_none : (bytes : List ℕ) → decode bytes ≡ None → asked bytes ≡ refused
  asked_none bytes e = rw (asked, e)

  asked_some : (bytes : List ℕ) (x : ℕ × Tree × List ℕ) → decode bytes ≡ Some x → asked bytes ≡ told x.0 x.1 x.2
  asked_some bytes x e = rw (asked, e)

  pub asked_either : (bytes : List ℕ) → ((n : ℕ) × (t : Tree) × (hours : List ℕ) × (asked bytes ≡ told n t hours)) ⊎ (asked bytes ≡ refused)
  asked_either bytes =
      ⊎_elim
      (λ (h : (x : ℕ × Tree × List ℕ) × (decode bytes ≡ Some x)). let (x, e) = h in inl (x.0, x.1, x.2, asked_some bytes x e))
      (λ (h : decode bytes ≡ None). inr (asked_none bytes h))
      (found_or_none (decode bytes))

  pub asked_told : (bytes : List ℕ) (n : ℕ) (t : Tree) (hours : List ℕ) → IsRecord bytes n t hours → asked bytes ≡ told n t hours
  asked_told bytes n t hours r =
      asked_some bytes (n, t, hours) ((decode_record bytes n t hours (subst (AllBelow 256) r.spelt (layout_below n hours t))).1 r)

  pub asked_refused : (bytes : List ℕ) → AllBelow 256 bytes → ((n : ℕ) (t : Tree) (hours : List ℕ) → IsRecord bytes n t hours → ⊥)
      → asked bytes ≡ refused
  asked_refused bytes below h = asked_none bytes ((decode_none bytes below).1 h)
