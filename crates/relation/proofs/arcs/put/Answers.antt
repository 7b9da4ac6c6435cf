-- `relation::arcs::put` meets its contract.
use Prim.Native.Nat.{◌+◌, ◌*◌, ◌<◌}
use native.Mathlib.Omega.{arith}
use mathlib.Core.List.{[]}
use lib.ListN.{length, get_or}
use Rattle.std.proofs.lemmas.List.{get_or_default}
use Rattle.relation.proofs.Flat.{pairs_at, put_row}
use Rattle.relation.proofs.arcs.put.Goals.{Start}
use Rattle.relation.proofs.arcs.put.Goals as goal

-- the two jobs of the arc
jobs : (c : goal.Start) → (get_or c.args.arcs.now (2 * c.args.k) 0 < 128) × (get_or c.args.arcs.now (2 * c.args.k + 1) 0 < 128)
jobs c = c.requires.within _ (pairs_at c.args.arcs.now c.args.k c.requires.k_in_bounds)

pub offset_bounds-t-u : goal.offset_bounds-t-u
offset_bounds-t-u c = omega (arith, jobs (goal.at.offset_bounds-t-u c).Start)

pub bounds-t-u : goal.bounds-t-u
bounds-t-u c = omega (arith, jobs (goal.at.bounds-t-u c).Start)

pub listed : goal.listed
listed c = omega (arith, jobs (goal.at.listed c).Start)

pub insert-requires : goal.insert-requires
insert-requires c = omega (arith, jobs (goal.at.insert-requires c).Start)

pub returns : goal.returns
returns c =
    let t = c.args.t.now in
    let xs = c.args.arcs.now in
    let u = get_or xs (2 * c.args.k) 0 in
    let l : u < length t = omega (arith, jobs (goal.at.returns c).Start) in
    let e = get_or_default t u c.index-t-u.result [] l in
    rw (c.from-u.ensures) (put_row xs t c.args.k _ l (rw (c.from-u.ensures, c.from-v.ensures, e) at c.insert.ensures))
