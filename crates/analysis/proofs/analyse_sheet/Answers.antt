-- `analyse_sheet` meets its contract: the sheet's length decides 1, and which list it gets.
use Rattle.analysis.proofs.Crossing.{gives_refusal}
use Rattle.analysis.proofs.Steps.{sheet_long}
use Rattle.analysis.proofs.analyse_sheet.Goals as goal

pub returns-then-sheet-gt-LONGEST_SHEET : goal.returns-then-sheet-gt-LONGEST_SHEET
returns-then-sheet-gt-LONGEST_SHEET c = gives_refusal _ (sheet_long _ _ c.if-sheet-gt-LONGEST_SHEET.true)
