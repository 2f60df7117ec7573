use Rattle.dating.proofs.line.Laws.{day_read}
use Rattle.dating.proofs.line.day_of_line.Goals as goal

pub returns : goal.returns
returns c = day_read _ _ _ _ c.in_ok-reading_of_line.ensures
