-- `desk::ordersheet_longest_run` meets its contract: the call for the run does, and a refusal's answer is narrow.
use Rattle.desk.proofs.Bounds.{run_narrow}
use Rattle.desk.proofs.Telling.{run_refused}
use Rattle.desk.proofs.ordersheet_longest_run.Goals as goal

pub returns-in-Err : goal.returns-in-Err
returns-in-Err c = run_refused c.in-Err.ensures (run_narrow c.args.bytes.now) c.from.ensures c.packed.ensures
