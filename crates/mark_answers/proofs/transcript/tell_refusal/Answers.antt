use Rattle.mark_answers.proofs.transcript.Laws.{refused_put}
use Rattle.mark_answers.proofs.transcript.tell_refusal.Goals as goal

pub returns : goal.returns
returns c = refused_put _ _ _ _ c.requires (rw (c.from-2.ensures, c.from.ensures) at c.put_field.ensures)
