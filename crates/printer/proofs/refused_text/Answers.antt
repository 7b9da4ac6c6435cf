-- The word, the number and the four places.
use Rattle.std.proofs.Common.{◌∷◌, [], ap, ◌∙◌, rules, arith}
use Rattle.analysis.specs.Answer.{Answer}
use Rattle.analysis.specs.Outcome.{refuse}
use Rattle.printer.specs.Text.{ascii, printed}
use Rattle.printer.proofs.Buffers.{prints, writes_of}
use Rattle.printer.proofs.Digits.{Small, small_none, small_more, same_line}
use Rattle.printer.proofs.Given.{refused_number}
use Rattle.printer.proofs.Lines.{refused_is}
use Rattle.printer.proofs.refused_text.Goals as goal

pub returns : goal.returns
unfolding ascii
returns c =
    let t = c.from-told.result in
    let i = c.from-told.type_inv in
    let small : Small (t.number ∷ t.first ∷ t.second ∷ t.third ∷ t.fourth ∷ []) =
    small_more t.number (omega (arith, i))
    (small_more t.first (omega (arith, i))
    (small_more t.second (omega (arith, i)) (small_more t.third (omega (arith, i)) (small_more t.fourth (omega (arith, i)) small_none))))
    in
    let text = refused_is t.number t.first t.second t.third t.fourth (refused_number t c.args.refusal c.from-told.ensures) in
    let same = ap (λ (a : Answer). printed (refuse a.number a.first a.second a.third a.fourth)) c.from-told.ensures in
    prints c.new-page.ensures.held c.new-page.ensures.empty (search rules) (omega arith)
    (writes_of (same_line (ascii "refused") _ small ∙ text ∙ same) c.line.ensures.text)
