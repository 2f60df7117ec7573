use native.Mathlib.Omega.{arith}
use Rattle.dating.proofs.answer.Laws.{refused_length}
use Rattle.dating.proofs.answer.put_refused.Goals as goal

pub put_number-requires : goal.put_number-requires
put_number-requires c = rw (c.from-2.ensures, c.from.ensures) (omega (arith, refused_length c.args.refusal, c.requires))
