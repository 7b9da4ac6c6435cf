-- `parts::Parts::split_as`: by the kind of group.
use Prim.Native.Nat.{ℕ}
use mathlib.Core.Path.{◌≡◌, sym, subst, ◌∙◌}
use mathlib.Core.List.{List}
use mathlib.Core.Bool.{Bool}
use native.Mathlib.Omega.{arith}
use lib.ListN.{length, take, drop, length-append, length-drop}
use lib.Seq.{take_at, length-take-le}
use Rattle.poset.specs.Order.{Rel}
use Rattle.writer.specs.Parts.{Taken, close_of}
use Rattle.writer.proofs.Roots.{cut_taken, cut_few, cut_leading, cut_arranged}
use Rattle.writer.proofs.parts.Parts.split_as.Goals as goal

-- a set taken apart for one kind, which is the kind asked for
taken_as : (tied free under : Rel) (s : List ℕ) (parts : List (List ℕ)) (count : ℕ) (numbers numbers' : List ℕ) {asked kind : Bool}
    → asked ≡ kind → Taken (close_of kind tied free) under kind s parts count numbers numbers'
    → Taken (close_of asked tied free) under asked s parts count numbers numbers'
taken_as tied free under s parts count numbers numbers' e =
    subst (λ b. Taken (close_of b tied free) under b s parts count numbers numbers') (sym e)

pub arrange-requires : goal.arrange-requires
arrange-requires c = cut_leading c.split-count.ensures.cut

pub whole_as_front-arrange : goal.whole_as_front-arrange
whole_as_front-arrange c = (cut_few c.split-count.ensures.cut, omega arith)

pub returns-then-series : goal.returns-then-series
returns-then-series c =
    let e = c.split.ensures in
    taken_as _ _ _ _ _ _ _ _ c.if-series.true (cut_taken e.cut e.numbered)

pub returns-else-series : goal.returns-else-series
returns-else-series c =
    let e = c.split-count.ensures in
    let count = c.split-count.result in
    let list = c.split-count.new.self.list in
    let new = c.arrange.new.parts in
    let front : length (take count list) ≡ count = length-take-le count list (omega (arith, cut_few e.cut, e.cut.size)) in
    let long : length new ≡ count = c.arrange.auto.parts ∙ front in
    taken_as _ _ _ _ _ _ _ _ c.if-series.false
    (cut_arranged e.cut e.numbered _
    (omega (arith, length-append new (drop count list), length-drop count list, long, cut_few e.cut, e.cut.size))
    (take_at new (drop count list) count long ∙ c.arrange.ensures))
