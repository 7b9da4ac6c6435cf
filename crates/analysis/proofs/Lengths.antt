-- How many bytes a sheet has.
use Prim.Native.Nat.{ℕ, ◌+◌, ◌*◌, ◌^◌, ◌≤◌, ◌<◌}
use mathlib.Core.Path.{◌≡◌, refl, ap}
use mathlib.Core.List.Memᴰ
use mathlib.Core.List.{List, [], ◌∷◌, ◌++◌, map}
use native.Mathlib.Omega.{arith}
use lib.ListN.{length, length-append}
use Rattle.poset.specs.Order.{Arc, Within}
use Rattle.record.specs.Bits.{AllBelow}
use Rattle.record.proofs.Below.{below_head, below_tail}
use Rattle.sheet.specs.Text.{most_digits, hours_digits, LineEnd, feed, return_feed, end_bytes, space, decimal, arc_text, lines, text, LineForm}
use Rattle.sheet.specs.Reading.{longest_line}
use Rattle.sheet.proofs.Decimal.{decimal_length, decimal_some}
use Rattle.analysis.specs.Bounds.{longest_sheet}

-- one or two at the end of a line
end_length : (e : LineEnd) → (0 < length (end_bytes e)) × (length (end_bytes e) ≤ 2)
unfolding end_bytes
end_length feed = omega arith
end_length return_feed = omega arith

line_length
    : (l : List ℕ) (e : LineEnd) (rest : List ℕ)
    → (length l + 1 + length rest ≤ length (l ++ (end_bytes e ++ rest))) × (length (l ++ (end_bytes e ++ rest)) ≤ length l + 2 + length rest)
line_length l e rest = omega (arith, length-append l (end_bytes e ++ rest), length-append (end_bytes e) rest, end_length e)

-- at least four for an arc

arcs_long : (arcs : List Arc) (ends : List LineEnd) → length ends ≡ length (map arc_text arcs) → 4 * length arcs ≤ length (text (map arc_text arcs) ends)
unfolding text arc_text
arcs_long [] ends e = omega arith
arcs_long (a ∷ arcs) [] e = absurd (omega arith)
arcs_long (a ∷ arcs) (x ∷ ends) e =
    omega (
      arith,
      arcs_long arcs ends (omega arith),
      line_length (arc_text a) x (text (map arc_text arcs) ends),
      length-append (decimal a.0) (space ∷ decimal a.1),
      decimal_some a.0,
      decimal_some a.1,
    )

lines_long
    : (ls : List (List ℕ)) (arcs : List Arc) (ends : List LineEnd) → length ends ≡ length (ls ++ map arc_text arcs)
    → 4 * length arcs ≤ length (text (ls ++ map arc_text arcs) ends)
unfolding text
lines_long [] arcs ends e = arcs_long arcs ends e
lines_long (l ∷ ls) arcs [] e = absurd (omega arith)
lines_long (l ∷ ls) arcs (x ∷ ends) e = omega (arith, lines_long ls arcs ends (omega arith), line_length l x (text (ls ++ map arc_text arcs) ends))

pub form_long : (s : List ℕ) (n : ℕ) (hours : List ℕ) (arcs : List Arc) → LineForm s n hours arcs → 4 * length arcs ≤ length s
unfolding lines
form_long s n hours arcs f =
    let t = f.form.written in
    omega (arith, lines_long (decimal n ∷ map decimal hours) arcs t.ends t.each, ap length t.written)

-- at most `longest_line` for an arc; for the count, and for hours, as many as its digits and its end may have

arcs_short
    : (arcs : List Arc) (ends : List LineEnd) → Within (10 ^ most_digits) arcs → length (text (map arc_text arcs) ends) ≤ longest_line * length arcs
unfolding text arc_text
arcs_short [] ends w = omega arith
arcs_short (a ∷ arcs) [] w = omega arith
arcs_short (a ∷ arcs) (x ∷ ends) w =
    let small = w a (Memᴰ.head refl) in
    omega (
      arith,
      arcs_short arcs ends (λ b m. w b (Memᴰ.tail m)),
      line_length (arc_text a) x (text (map arc_text arcs) ends),
      length-append (decimal a.0) (space ∷ decimal a.1),
      decimal_length 2 a.0 small.0,
      decimal_length 2 a.1 small.1,
    )

module _ (arcs : List Arc) (w : Within (10 ^ most_digits) arcs) where
  hours_short
      : (hours : List ℕ) (ends : List LineEnd) → AllBelow (10 ^ hours_digits) hours
      → length (text (map decimal hours ++ map arc_text arcs) ends) ≤ (hours_digits + 2) * length hours + longest_line * length arcs
  unfolding text
  hours_short [] ends b = omega (arith, arcs_short arcs ends w)
  hours_short (h ∷ hours) [] b = omega arith
  hours_short (h ∷ hours) (x ∷ ends) b =
      omega (
        arith,
        hours_short hours ends (below_tail b),
        line_length (decimal h) x (text (map decimal hours ++ map arc_text arcs) ends),
        decimal_length 3 h (below_head b),
      )

  text_short
      : (n : ℕ) (hours : List ℕ) (ends : List LineEnd) → n < 10 ^ most_digits → AllBelow (10 ^ hours_digits) hours
      → length (text (lines n hours arcs) ends) ≤ most_digits + 2 + (hours_digits + 2) * length hours + longest_line * length arcs
  unfolding lines text
  text_short n hours [] l b = omega arith
  text_short n hours (x ∷ ends) l b =
      omega (
        arith,
        hours_short hours ends b,
        line_length (decimal n) x (text (map decimal hours ++ map arc_text arcs) ends),
        decimal_length 2 n l,
      )

-- so none within the limits is too long
pub form_short
    : (s : List ℕ) (n : ℕ) (hours : List ℕ) (arcs : List Arc) → LineForm s n hours arcs → n ≤ 128 → length arcs ≤ 4096 → length s ≤ longest_sheet
form_short s n hours arcs f jobs few =
    let k = f.form in
    omega (arith, text_short arcs k.small n hours k.written.ends k.count k.hours_small, ap length k.written.written, f.jobs)
