use native.Mathlib.Omega.{arith}
use Rattle.answers.proofs.block.Laws.{last_answered}
use Rattle.answers.proofs.block.answer_last.Goals as goal

pub returns-in_default : goal.returns-in_default
returns-in_default c = last_answered _ _ c.told-buffer c.min.ensures _ _ _ c.in_default.len_at_least (omega (arith, c.told-output)) c.put_answer.ensures
