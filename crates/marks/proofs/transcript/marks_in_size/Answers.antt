use native.Mathlib.Omega.{arith}
use Rattle.marks.proofs.transcript.Laws.{too_few}
use Rattle.marks.proofs.transcript.marks_in_size.Goals as goal

pub returns-then-count-size : goal.returns-then-count-size
returns-then-count-size c =
    too_few _ _ (omega arith) c.if-not-is_utf8.ensures _ c.count_marks-count.ensures (omega (arith, c.if-count-size.true))
