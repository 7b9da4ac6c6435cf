-- `desk_tests::ordersheet_test_read` meets its contract: the reading does, and its answer is narrow.
use mathlib.Core.Path.{ap, ◌∙◌}
use Rattle.reader.proofs.Whole.{slice_below}
use Rattle.desk.proofs.Bounds.{record_narrow}
use Rattle.desk_tests.specs.Shown.{entered}
use Rattle.desk_tests.proofs.Showing.{entered_is, hours_same, gives_shown}
use Rattle.desk_tests.proofs.ordersheet_test_read.Goals as goal

pub returns : goal.returns
returns c =
    let bytes = c.args.bytes.now in record {
      hours_after =
          entered_is c.entries.result.2 c.args.hours.now c.enter.ensures
          ∙ ap (λ e. entered e.2 c.args.hours.now) c.entries.ensures
          ∙ ap (λ xs. entered xs c.args.hours.now) (hours_same _ c.analyse_record-found.ensures);
      shown = gives_shown c.analyse_record-found.ensures (record_narrow _ bytes (slice_below bytes c.type_inv.bytes)) c.shown.ensures;
    }
