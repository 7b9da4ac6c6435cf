-- `desk_tests::ordersheet_test_pairs` meets its contract: the analysis does, and its answer is narrow.
use Rattle.desk.proofs.Bounds.{pair_narrow}
use Rattle.desk_tests.proofs.Showing.{gives_shown}
use Rattle.desk_tests.proofs.ordersheet_test_pairs.Goals as goal

pub returns : goal.returns
returns c =
    gives_shown c.analyse_pairs-found.ensures (pair_narrow _ _ _ _) c.shown.ensures
