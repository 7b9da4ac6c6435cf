-- `sheet::put_arc` meets its contract. Assumes nothing.
use Rattle.sheet.proofs.Listing.{adds_room, adds_none}
use Rattle.sheet.proofs.put_arc.Goals as goal

pub returns-then-i-list : goal.returns-then-i-list
returns-then-i-list c = let a = c.args in adds_room a.i a.from a.to a.list.now c.if-i-list.true

pub returns-else-i-list : goal.returns-else-i-list
returns-else-i-list c = let a = c.args in adds_none a.i a.from a.to a.list.now c.if-i-list.false
