use Rattle.dating.proofs.line.Laws.{line_map}
use Rattle.dating.proofs.line.number_of_line.Goals as goal
use Rattle.calendar.specs.Refusal.{number_or_refusal}

pub returns : goal.returns
returns c = rw c.number_or_refusal.ensures (line_map number_or_refusal _ c.day_of_line.ensures)
