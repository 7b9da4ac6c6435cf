-- The line of the counts, then the other four parts, one after another.
use Rattle.std.proofs.Common.{◌≤◌, ◌∷◌, [], length, ap, rules, arith}
use Rattle.printer.specs.Text.{ascii}
use Rattle.printer.proofs.Buffers.{prints, join, writes_of}
use Rattle.printer.proofs.Digits.{Small, small_none, small_more, small_bytes, same_line}
use Rattle.printer.proofs.Lines.{record_long, accepted_is}
use Rattle.printer.proofs.accepted_text.Goals as goal

pub arcs-requires : goal.arcs-requires
arcs-requires c = omega (arith, ap length c.new-page.ensures.held, record_long c.args.«record».now)

pub line-requires-2 : goal.line-requires-2
line-requires-2 c = omega (arith, ap length c.new-page.ensures.held, record_long c.args.«record».now)

pub line-requires-3 : goal.line-requires-3
line-requires-3 c = omega (arith, ap length c.new-page.ensures.held, record_long c.args.«record».now)

pub returns : goal.returns
unfolding ascii
returns c =
    let a = c.args in
    let room = ap length c.new-page.ensures.held in
    let counts : Small (length a.«record».now ∷ a.arcs ∷ a.groups ∷ []) =
    small_more (length a.«record».now) (omega arith)
    (small_more a.arcs (omega (arith, c.ranges.arcs)) (small_more a.groups (omega (arith, c.ranges.groups)) small_none))
    in
    let forward = small_bytes a.forward.now (λ i. omega (arith, c.type_inv.forward i)) in
    let reverse = small_bytes a.reverse.now (λ i. omega (arith, c.type_inv.reverse i)) in
    let within : c.new-page.result.len ≤ length c.new-page.result.out.now = omega arith in
    let first_two = join within (writes_of (same_line (ascii "accepted") _ counts) c.line.ensures.text) c.«record».ensures in
    let three = join within first_two c.arcs.ensures.text in
    let four = join within three (writes_of (same_line (ascii "forward") _ forward) c.line-2.ensures.text) in
    let all = join within four (writes_of (same_line (ascii "reverse") _ reverse) c.line-3.ensures.text) in
    prints c.new-page.ensures.held c.new-page.ensures.empty (search rules) (omega (arith, record_long a.«record».now))
    (writes_of (accepted_is a.arcs a.groups a.«record».now a.reduced.now a.forward.now a.reverse.now) all)
