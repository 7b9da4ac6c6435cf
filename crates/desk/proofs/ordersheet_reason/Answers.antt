-- `desk::ordersheet_reason` meets its contract: the call for the reason does, and a refusal's answer is narrow.
use Rattle.desk.proofs.Bounds.{reason_narrow}
use Rattle.desk.proofs.Telling.{reason_refused}
use Rattle.desk.proofs.ordersheet_reason.Goals as goal

pub returns-in-Err : goal.returns-in-Err
returns-in-Err c = reason_refused c.in-Err.ensures (reason_narrow c.args.bytes.now _ _) c.from-in-Err.ensures c.packed.ensures
