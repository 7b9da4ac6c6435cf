-- The lines of the arcs passed are written: one more by each turn, of at most eight bytes.
use Rattle.std.proofs.Common.{◌≡◌, [], ap, ◌∙◌, arith}
use mathlib.Core.List.{flat_map}
use Rattle.sheet.specs.Text.{line_feed}
use Rattle.printer.proofs.Arcs.{pair_line, same_arcs}
use Rattle.printer.proofs.Digits.{small_bytes}
use Rattle.printer.proofs.Buffers.{join, writes_of}
use Rattle.printer.proofs.Loops.{turn_first, turn_next, turn_last}
use Rattle.printer.proofs.page.Page.arcs.Goals as goal

pub loop-u-init : goal.loop-u-init
loop-u-init c = turn_first pair_line 8 c.as_chunks.result.0.now c.args.self.now

pub loop-u-preserved : goal.loop-u-preserved
unfolding pair_line line_feed
loop-u-preserved c =
    turn_next pair_line 8 c.as_chunks.result.0.now c.args.self.now [] (omega arith) (omega arith) c.loop-u.invariant
    (join (omega arith) (join (omega arith) c.number.ensures.text c.spaced.ensures.text) c.word.ensures)
    (omega arith)

pub returns : goal.returns
returns c =
    let l = c.args.reduced.now in
    let small = small_bytes l (λ i. omega (arith, c.type_inv.reduced i)) in
    let all : flat_map pair_line c.as_chunks.result.0.now ≡ _ = ap (flat_map pair_line) c.as_chunks.ensures.front ∙ same_arcs l small in record {
      text = writes_of all (turn_last pair_line 8 c.as_chunks.result.0.now c.args.self.now (omega arith) c.loop-u.invariant);
      most = omega arith;
    }
