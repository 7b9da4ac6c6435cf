-- `stack::spread`: from the last part to the first.
use Prim.Native.Nat.{◌+◌, ◌-◌, ◌≤◌, ◌<◌}
use mathlib.Core.Path.{◌≡◌, refl, sym, ap, subst, ◌∙◌}
use mathlib.Core.List.{List, []}
use native.Mathlib.Omega.{arith}
use Rattle.std.proofs.lemmas.List.{get_or_default}
use lib.ListN.{length, length-set, get_or}
use Rattle.relation.specs.Table.{members}
use Rattle.writer.specs.declared.stack.Entry.{Entry}
use Rattle.writer.specs.Parts.{size_of}
use Rattle.writer.specs.Stack.{held}
use Rattle.writer.proofs.Stacking.{Pushing, push_start, push_next, push_end, fits_whole, stacked}
use Rattle.writer.proofs.stack.spread.Goals.{After-set}
use Rattle.writer.proofs.stack.spread.Goals as goal

pub loop-i-init : goal.loop-i-init
loop-i-init c = (c.told-entries, refl, push_start c.args.parts.now c.args.e _)

-- the part that is next
module _ (c : After-set) where
  abbrev before : List Entry
  before = held c.args.entries.now c.args.height

  abbrev now : List Entry
  now = held c.loop-i.entries c.loop-i.top

  is : c.index-parts-i.result ≡ get_or c.args.parts.now (c.loop-i.i - 1) []
  is =
      c.index-parts-i.is
      ∙ get_or_default c.args.parts.now (c.loop-i.i - 1) c.index-parts-i.result [] (omega (arith, c.loop-i.invariant.2.few, c.loop-i-test.true))

  counted : c.set.inside.size ≡ length (members c.index-parts-i.result)
  counted = c.set.invariant.counted ∙ ap size_of c.set.view_is

  fits : c.loop-i.later + c.set.inside.size ≤ length (members c.args.e.set)
  fits =
      omega (
        arith,
        counted,
        ap size_of is,
        fits_whole c.args.parts.now c.args.e before now c.loop-i.i c.loop-i.later (c.loop-i.i - 1) c.loop-i.invariant.2
            (omega (arith, c.loop-i-test.true)) c.requires.same_jobs,
      )

  low : c.loop-i.top < 128
  low = omega (arith, c.loop-i.invariant.1, c.loop-i-test.true, c.requires.room)

pub start_of-start-requires : goal.start_of-start-requires
start_of-start-requires c =
    record { whole_bound = c.requires.fits; size_bound = fits (goal.at.start_of-start-requires c).After-set }

pub overflow_add-later : goal.overflow_add-later
overflow_add-later c = record { fits = omega (arith, fits (goal.at.overflow_add-later c).After-set, c.requires.fits) }

pub loop-i-preserved : goal.loop-i-preserved
loop-i-preserved c =
    let q = (goal.at.loop-i-preserved c).After-set in
    let l = c.loop-i in
    let a = c.args in (
      length-set l.entries l.top _ ∙ l.invariant.0,
      omega (arith, l.invariant.1, c.loop-i-test.true),
      subst (λ es. Pushing a.parts.now a.e (before q) es (l.i - 1) (l.later + c.set.inside.size))
          (sym (stacked l.entries l.top _ (omega (arith, low q, l.invariant.0))))
          (push_next a.parts.now a.e (before q) (now q) l.i l.later (l.i - 1) l.invariant.2 (omega (arith, c.loop-i-test.true))
          c.index-parts-i.result c.start_of-start.result c.set.inside.size (is q) (counted q) c.start_of-start.ensures),
    )

pub returns : goal.returns
returns c =
    let l = c.loop-i in
    record {
      value = omega (arith, l.invariant.1);
      rows = l.invariant.0;
      these = push_end c.args.parts.now c.args.e (held c.args.entries.now c.args.height) _ l.i l.later l.invariant.2 (omega arith);
    }
