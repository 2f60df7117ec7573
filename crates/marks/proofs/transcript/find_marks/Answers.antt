use Rattle.marks.proofs.transcript.Laws.{filled}
use Rattle.marks.proofs.transcript.find_marks.Goals as goal

pub returns : goal.returns
returns c = filled _ _ _ _ c.in_ok-count.ensures c.fill_places.ensures
