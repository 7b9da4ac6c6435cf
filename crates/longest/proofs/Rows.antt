-- The stack at the last node of a tree, and at the first.
use Prim.Native.Nat.{ℕ, ◌≤◌}
use mathlib.Core.Path.{◌≡◌, refl, sym, ap, subst, ◌∙◌}
use mathlib.Core.List.{List, [], ◌∷◌}
use native.Mathlib.Omega.{arith}
use lib.ListN.{replicate}
use Rattle.poset.specs.Tree.{Tree}
use Rattle.reader.specs.Nodes.{Listed}
use Rattle.reader.proofs.Pending.{spells, pending, pending_end}
use Rattle.longest.specs.Stack.{no_run, Stacked}
use Rattle.longest.specs.declared.stack.Stack.{Stack}

abbrev pub empty : Stack
empty = record { top = 128; runs = replicate 128 no_run; next = replicate 128 0 }

module _ (t : Tree) (list : List ℕ) (count : ℕ) (l : Listed t list count) (hours : ℕ → ℕ) where
  pub row_end : (i : ℕ) → i ≡ count → Stacked hours (pending i (spells t)) empty
  row_end i e =
      subst (λ (ts : List Tree). Stacked hours ts empty)
      (sym (ap (λ (n : ℕ). pending n (spells t)) (e ∙ l.number) ∙ pending_end (spells t)))
      (record { sized = record { runs_size = refl; next_size = refl }; height = refl; entries = tt })

  -- at the first node the tree alone
  pub row_first : (i : ℕ) (w : Stack) → i ≤ 0 → Stacked hours (pending i (spells t)) w → Stacked hours (t ∷ []) w
  row_first i w first s = let zero_th : i ≡ 0 = omega arith in subst (λ (n : ℕ). Stacked hours (pending n (spells t)) w) zero_th s
