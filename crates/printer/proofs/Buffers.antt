-- Texts written into a buffer one after another.
use Prim.Native.Nat.{ℕ, ◌+◌, ◌≤◌}
use mathlib.Core.Path.{◌≡◌, refl, sym, ap, ap₂, ◌∙◌}
use mathlib.Core.List.{List, [], ◌++◌, append_assoc, append-nil}
use native.Mathlib.Nat.{add_assoc, add-zero}
use native.Mathlib.Omega.{arith}
use lib.ListN.{length, take, drop, length-append, length-drop, take-append-drop}
use lib.Seq.{length-take-le, take_at, drop_at, drop-drop}
use borrow.Rule.Slice.PartMut.{put_mid, post_of}
use Rattle.printer.specs.declared.page.Page.{Page}
use Rattle.printer.specs.Buffer.{over, Writes, Prints}

over_nil : (d : List ℕ) (at : ℕ) → over d at [] ≡ d
unfolding over
over_nil d at = rw (append-nil, add-zero, take-append-drop)

over_over : (d : List ℕ) (at : ℕ) (s t : List ℕ) → at ≤ length d → over (over d at s) (at + length s) t ≡ over d at (s ++ t)
unfolding over
over_over d at s t h =
    let p : List ℕ = take at d ++ s in
    let q : List ℕ = drop (at + length s) d in
    let long : length p ≡ at + length s = omega (arith, length-append (take at d) s, length-take-le at d h) in
    let after : drop (at + length s + length t) (p ++ q) ≡ drop (at + length (s ++ t)) d =
    sym (drop-drop (length t) (at + length s) (p ++ q))
    ∙ ap (drop (length t)) (drop_at p q (at + length s) long)
    ∙ drop-drop (length t) (at + length s) d
    ∙ ap (λ (n : ℕ). drop n d) (add_assoc at (length s) (length t) ∙ ap (λ (n : ℕ). at + n) (sym (length-append s t)))
    in
    ap₂ (λ (a b : List ℕ). a ++ t ++ b) (take_at p q (at + length s) long) after
    ∙ ap (λ (l : List ℕ). l ++ drop (at + length (s ++ t)) d) (append_assoc (take at d) s t)

over_long : (d : List ℕ) (at : ℕ) (s : List ℕ) → at + length s ≤ length d → length (over d at s) ≡ length d
unfolding over
over_long d at s h =
    omega (
      arith,
      length-append (take at d ++ s) (drop (at + length s) d),
      length-append (take at d) s,
      length-take-le at d (omega arith),
      length-drop (at + length s) d,
    )

-- a part of the buffer was overwritten
put_over : (d s ys : List ℕ) (at k : ℕ) → ys ≡ s → k ≡ length s → put_mid at k d ys ≡ over d at s
unfolding over
put_over d s ys at k e n =
    ap₂ (λ (l : List ℕ) (m : ℕ). take at d ++ (l ++ post_of at m d)) e n
    ∙ sym (append_assoc (take at d) s (post_of at (length s) d))
    ∙ ap (λ (l : List ℕ). take at d ++ s ++ l) (drop-drop (length s) at d)

pub writes_part : {p q : Page} {s : List ℕ} (k : ℕ) (ys : List ℕ) → p.len + length s ≤ length p.out.now → ys ≡ s → k ≡ length s
    → q.len ≡ p.len + length s → q.out.now ≡ put_mid p.len k p.out.now ys → q.out.ghost_name ≡ p.out.ghost_name → Writes p s q
writes_part {p} {q} {s} k ys h e n l o g =
    let held : q.out.now ≡ over p.out.now p.len s = o ∙ put_over p.out.now s ys p.len k e n in record {
      ends = l;
      holds = held;
      room = ap length held ∙ over_long p.out.now p.len s h;
      same = g;
    }

-- nothing
pub writes_none : (p : Page) → Writes p [] p
writes_none p = record { ends = omega arith; holds = sym (over_nil p.out.now p.len); room = refl; same = refl }

-- one text after another
pub join : {p q r : Page} {s t : List ℕ} → p.len ≤ length p.out.now → Writes p s q → Writes q t r → Writes p (s ++ t) r
join {p} {q} {r} {s} {t} h v w = record {
  ends = omega (arith, v.ends, w.ends, length-append s t);
  holds = w.holds ∙ ap₂ (λ (l : List ℕ) (n : ℕ). over l n t) v.holds v.ends ∙ over_over p.out.now p.len s t h;
  room = w.room ∙ v.room;
  same = w.same ∙ v.same;
}

-- the same text, written otherwise
pub writes_of : {p q : Page} {s t : List ℕ} → s ≡ t → Writes p s q → Writes p t q
writes_of {p} {q} {s} {t} e w = rw e at w

-- written on a page that was empty, where the buffer is what the page lends
pub prints : {p q : Page} {d d' s : List ℕ} → p.out.now ≡ d → p.len ≡ 0 → d' ≡ q.out.now → q.len ≤ length d → Writes p s q → Prints d s d' q.len
unfolding over
prints {p} {q} {d} {d'} {s} o z o' h w =
    let e : p.len + length s ≡ length s = omega arith in
    let f : 0 + length s ≡ length s = omega arith in record {
      ends = w.ends ∙ e;
      fits = h;
      holds = o' ∙ w.holds ∙ ap₂ (λ (l : List ℕ) (n : ℕ). over l n s) o z ∙ ap (λ (n : ℕ). s ++ drop n d) f;
    }

pub prints_of : {d d' s t : List ℕ} {r : ℕ} → s ≡ t → Prints d s d' r → Prints d t d' r
prints_of e w = rw e at w
