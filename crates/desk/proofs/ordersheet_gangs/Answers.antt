-- `desk::ordersheet_gangs` meets its contract: the call for the gangs does, and a refusal's answer is narrow.
use Rattle.desk.proofs.Bounds.{gangs_narrow}
use Rattle.desk.proofs.Telling.{gangs_refused}
use Rattle.desk.proofs.ordersheet_gangs.Goals as goal

pub returns-in-Err : goal.returns-in-Err
returns-in-Err c = gangs_refused c.in-Err.ensures (gangs_narrow c.args.bytes.now) c.from.ensures c.packed.ensures
