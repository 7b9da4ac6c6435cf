-- `Numbering::take` meets its contract: a law for a leaf, and one for a group.
use Prim.Native.Nat.{◌<◌}
use mathlib.Core.Path.{refl, subst}
use native.Mathlib.Omega.{arith}
use Rattle.gangs.specs.Places.{At, kind_of}
use Rattle.gangs.proofs.Taking.{IsKind, job_low, gang_low, hours_low, done, leaf_taken, group_taken}
use Rattle.gangs.proofs.numbering.Numbering.take.Goals.{Then-token-lt256, then-token-lt384, else-token-lt384}
use Rattle.gangs.proofs.numbering.Numbering.take.Goals as goal

-- a leaf's gang, and its job
leaf-low : (c : goal.Then-token-lt256) → (c.args.present.at < 128) × (c.args.token < 128)
leaf-low c =
    let (t, xs, ready) = c.requires.1 in
    (gang_low t _ c.requires.0 _ _ xs ready c.if-token-lt256.true, job_low t _ c.requires.0 _ _ xs ready c.if-token-lt256.true)

pub bounds-self-token : goal.bounds-self-token
bounds-self-token c = (leaf-low (goal.at.bounds-self-token c).Then-token-lt256).1

pub bounds-jobs-token : goal.bounds-jobs-token
bounds-jobs-token c = (leaf-low (goal.at.bounds-jobs-token c).Then-token-lt256).1

pub bounds-self-from : goal.bounds-self-from
bounds-self-from c = omega (arith, c.from-then-token-lt256.ensures, leaf-low (goal.at.bounds-self-from c).Then-token-lt256)

pub overflow_add-self : goal.overflow_add-self
overflow_add-self c =
    let (t, xs, ready) = c.requires.1 in
    rw (c.from-then-token-lt256.ensures, c.from.ensures)
    (omega (arith, hours_low t _ c.requires.0 _ _ xs ready c.if-token-lt256.true))

pub bounds-self-from-then-token-lt256 : goal.bounds-self-from-then-token-lt256
bounds-self-from-then-token-lt256 c =
    omega (arith, c.from-then-token-lt256.ensures, leaf-low (goal.at.bounds-self-from-then-token-lt256 c).Then-token-lt256)

pub overflow_add-at : goal.overflow_add-at
overflow_add-at c = omega (arith, leaf-low (goal.at.overflow_add-at c).Then-token-lt256)

pub go_on-requires : goal.go_on-requires
go_on-requires c =
    let (t, xs, ready) = c.requires.1 in
    let (o, os, d, e) = done t _ c.requires.0 _ _ xs ready c.if-token-lt256.true _ refl refl refl c.max.ensures in
    (t, o, os, d)

pub returns-then-token-lt256 : goal.returns-then-token-lt256
returns-then-token-lt256 c = λ t xs ready.
    let (o, os, d, e) = done t _ c.requires.0 _ _ xs ready c.if-token-lt256.true _ refl refl refl c.max.ensures in
    rw (c.from-then-token-lt256.ensures, c.from.ensures)
    (leaf_taken t _ c.requires.0 _ _ xs ready c.if-token-lt256.true _ (subst (At t _) e (c.go_on.ensures t o os d)))

pub returns : goal.returns
returns c = λ t xs ready.
    let kind : IsKind c.args.token (kind_of c.if-token-lt384.result) =
    elim c.if-token-lt384.branch [
      | then-token-lt384 w ↦ rw w.result-is w.if-token-lt384.true
      | else-token-lt384 w ↦ rw w.result-is w.if-token-lt384.false
    ] in
    group_taken t _ c.requires.0 _ _ xs ready c.if-token-lt256.false _ kind refl refl refl
