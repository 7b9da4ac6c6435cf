-- `desk_tests::ordersheet_test_sheet` meets its contract: the analysis does, and its answer is narrow.
use Rattle.desk.proofs.Bounds.{sheet_narrow}
use Rattle.desk_tests.proofs.Showing.{gives_shown}
use Rattle.desk_tests.proofs.ordersheet_test_sheet.Goals as goal

pub returns : goal.returns
returns c =
    gives_shown c.analyse_sheet-found.ensures (sheet_narrow _ _) c.shown.ensures
