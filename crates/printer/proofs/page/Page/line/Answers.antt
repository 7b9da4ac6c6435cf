-- The word, the numbers one after another, then the line end.
use Rattle.std.proofs.Common.{◌≡◌, ◌+◌, ◌*◌, ◌∷◌, length, ap, arith}
use Rattle.sheet.specs.Text.{space, line_feed}
use Rattle.printer.specs.Buffer.{line_of}
use Rattle.printer.proofs.Buffers.{join, writes_of}
use Rattle.printer.proofs.Loops.{turn_first, turn_next, turn_last}
use Rattle.printer.proofs.page.Page.line.Goals as goal

pub loop-n-init : goal.loop-n-init
loop-n-init t c = turn_first _ _ c.args.numbers.now c.word.new.self

pub loop-n-preserved : goal.loop-n-preserved
loop-n-preserved t c =
    turn_next _ _ c.args.numbers.now c.word.new.self c.n-item.result (omega arith) (omega arith) c.loop-n.invariant
    (writes_of (ap (λ n. space ∷ t.T.Integer.text n) c.n-item.is) c.spaced.ensures.text)
    (omega arith)

pub returns : goal.returns
unfolding line_of line_feed
returns t c =
    let all : c.loop-n.n-index ≡ length c.args.numbers.now = omega arith in
    let bytes = ap (λ k. (t.T.Integer.MAX_STR_LEN + 1) * k) all in
    let written = turn_last _ _ c.args.numbers.now c.word.new.self (omega arith) c.loop-n.invariant in
    record { text = join {r = c.word-2.new.self} (omega arith) (join (omega arith) c.word.ensures written) c.word-2.ensures; most = omega (arith, bytes) }
