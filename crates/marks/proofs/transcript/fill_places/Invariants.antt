use Rattle.marks.proofs.transcript.Laws.{Filling}
use Rattle.marks.proofs.transcript.fill_places.Given as goal

abbrev pub invariant-loop-mark : goal.invariant-loop-mark
invariant-loop-mark l = Filling l.text l.initial.places l.place l.mark-iterator l.places
