use Rattle.mark_answers.proofs.transcript.Laws.{Telling}
use Rattle.mark_answers.proofs.transcript.tell_marks.Given as goal

abbrev pub invariant-loop-mark : goal.invariant-loop-mark
invariant-loop-mark l =
    Telling l.text l.skip l.initial.output l.written l.told l.mark-iterator.iter l.mark-iterator.n l.output
