-- What a lent buffer holds after something was written into it.
use Rattle.std.specs.Prelude.{ℕ, ◌+◌, ◌≤◌, ◌≡◌, List, [], ◌∷◌, ◌++◌, length, take, drop}
use mathlib.Core.List.{flat_map}
use Rattle.record.specs.Layout.{most_record_bytes}
use Rattle.sheet.specs.Text.{space, line_feed}
use Rattle.printer.specs.declared.page.Page.{Page}

-- s over what was held, from a place on
unfoldable pub over : List ℕ → ℕ → List ℕ → List ℕ
over held at s = take at held ++ s ++ drop (at + length s) held

-- s was written after the text of a page, in the same buffer
pub record Writes (page : Page) (s : List ℕ) (page' : Page) : Type 0 where
  pub ends : page'.len ≡ page.len + length s
  pub holds : page'.out.now ≡ over page.out.now page.len s
  pub room : length page'.out.now ≡ length page.out.now
  pub same : page'.out.ghost_name ≡ page.out.ghost_name

-- s was written at the start: its length, and what is held now
pub record Prints (held s held' : List ℕ) (end : ℕ) : Type 0 where
  pub ends : end ≡ length s
  pub fits : end ≤ length held
  pub holds : held' ≡ s ++ drop (length s) held

-- a word, then numbers, each after a space, by what is written for a number
unfoldable pub line_of : {A : Type 0} → (A → List ℕ) → List ℕ → List A → List ℕ
line_of text word numbers = word ++ flat_map (λ n. space ∷ text n) numbers ++ line_feed ∷ []

-- an acceptance's record, its arcs at two bytes for each and its sequences are no longer than the papers allow, and the buffer has room for any such text
pub record Limits (bytes reduced forward reverse held : List ℕ) : Type 0 where
  pub record_long : length bytes ≤ most_record_bytes
  pub arcs_long : length reduced ≤ 8192
  pub forward_long : length forward ≤ 128
  pub reverse_long : length reverse ≤ 128
  pub room : 40000 ≤ length held
