-- `sheet::put_hours` meets its contract. Assumes nothing.
use Rattle.sheet.proofs.Listing.{hours_room, hours_past}
use Rattle.sheet.proofs.put_hours.Goals as goal

pub returns-then-i-hours : goal.returns-then-i-hours
returns-then-i-hours c = let a = c.args in hours_room a.i a.value a.hours.now c.if-i-hours.true

pub returns-else-i-hours : goal.returns-else-i-hours
returns-else-i-hours c = let a = c.args in hours_past a.i a.value a.hours.now c.if-i-hours.false
