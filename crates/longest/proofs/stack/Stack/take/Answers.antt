-- `Stack::take` meets its contract: a law for a leaf, and one for a group of either kind.
use Prim.Native.Nat.{◌+◌, ◌%◌, ◌<◌}
use mathlib.Core.List.{List}
use Rattle.poset.specs.Tree.{Kind, series, parallel, Tree}
use Rattle.record.specs.Layout.{hours_of}
use Rattle.reader.specs.Nodes.{Step, Fits}
use Rattle.longest.specs.Stack.{Stacked}
use Rattle.record.proofs.Entries.{hours_most}
use Rattle.longest.proofs.Stacking.{taken_leaf, IsGroup, Opened, taken_group}
use Rattle.longest.proofs.stack.Stack.take.Goals.{Start}
use Rattle.longest.proofs.stack.Stack.take.Goals as goal

leaf-of : (s : Start) → s.args.token < 256 → (s.args.token < 128) × (0 < s.args.self.now.top)
leaf-of s low =
    let a = s.args in
    let (ts, us, step, fits, stacked) = s.requires.1 in
    let leaf = taken_leaf (hours_of a.hours.now) (hours_most a.hours.now s.requires.0) a.self.now a.token low ts us step fits stacked in
    (leaf.0, leaf.1)

opened-at : (k : Kind) (s : Start) → IsGroup k s.args.token → (ts us : List Tree) → Step s.args.token ts us → Fits us
    → Stacked (hours_of s.args.hours.now) ts s.args.self.now
    → Opened (hours_of s.args.hours.now) (hours_most s.args.hours.now s.requires.0) s.args.self.now k (s.args.self.now.top + s.args.token % 128) us
opened-at k s g = taken_group _ _ _ k s.args.token g

pub overflow_sub-self : goal.overflow_sub-self
overflow_sub-self c = (leaf-of (goal.at.overflow_sub-self c).Start c.if-token-lt256.true).1

pub bounds-hours-token : goal.bounds-hours-token
bounds-hours-token c = (leaf-of (goal.at.bounds-hours-token c).Start c.if-token-lt256.true).0

pub returns-then-token-lt256 : goal.returns-then-token-lt256
returns-then-token-lt256 c =
    let a = c.args in λ ts us step fits stacked.
    rw c.from.ensures
    (taken_leaf (hours_of a.hours.now) (hours_most a.hours.now c.requires.0) a.self.now a.token c.if-token-lt256.true ts us step fits stacked).2

pub chain-requires : goal.chain-requires
chain-requires c =
    let s = (goal.at.chain-requires c).Start in
    let (ts, us, step, fits, stacked) = s.requires.1 in
    let o = opened-at series s (c.if-token-lt256.false, c.if-token-lt384.true) ts us step fits stacked in
    (o.children, o.beside)

pub side-requires : goal.side-requires
side-requires c =
    let s = (goal.at.side-requires c).Start in
    let (ts, us, step, fits, stacked) = s.requires.1 in
    let o = opened-at parallel s c.if-token-lt384.false ts us step fits stacked in
    (o.children, o.beside)

pub returns-then-token-lt384 : goal.returns-then-token-lt384
returns-then-token-lt384 c =
    let s = (goal.at.returns-then-token-lt384 c).Start in λ ts us step fits stacked.
    let o = opened-at series s (c.if-token-lt256.false, c.if-token-lt384.true) ts us step fits stacked in
    o.closed _ (c.chain.ensures o.children o.beside)

pub returns-else-token-lt384 : goal.returns-else-token-lt384
returns-else-token-lt384 c =
    let s = (goal.at.returns-else-token-lt384 c).Start in λ ts us step fits stacked.
    let o = opened-at parallel s c.if-token-lt384.false ts us step fits stacked in
    o.closed _ (c.side.ensures.joins o.children o.beside)
