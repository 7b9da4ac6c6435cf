-- `sheet::line::number_line` meets its contract. Assumes nothing.
use Rattle.sheet.proofs.Reading.{number_padded}
use Rattle.sheet.proofs.line.number_line.Goals as goal

pub returns-then-s-lt-LONGEST_LINE : goal.returns-then-s-lt-LONGEST_LINE
returns-then-s-lt-LONGEST_LINE g c = number_padded c.padded.ensures c.last_number.result c.last_number.ensures
