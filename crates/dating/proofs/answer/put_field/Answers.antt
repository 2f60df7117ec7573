use native.Mathlib.Omega.{arith}
use Rattle.words.proofs.numeral.Laws.{numeral_length}
use Rattle.dating.proofs.writer.Laws.{field_length}
use Rattle.dating.proofs.answer.put_field.Goals as goal

pub put_number-requires : goal.put_number-requires
put_number-requires c = let a = c.args in omega (arith, field_length a.number a.behind, (numeral_length a.number).1)
