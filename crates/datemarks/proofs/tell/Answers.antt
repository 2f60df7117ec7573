use Rattle.std.proofs.Common.{◌<◌, arith}
use Rattle.mark_answers.proofs.Claims.{marks_few}
use Rattle.datemarks.proofs.tell.Goals as goal

pub overflow_add-skip : goal.overflow_add-skip
overflow_add-skip g c =
    let some : 0 < c.answer_marks-told.result.marks = omega (arith, c.if-told-eq0.false) in
    omega (arith, marks_few _ _ _ _ _ c.answer_marks-told.ensures some)

pub loop-skip-smaller : goal.loop-skip-smaller
loop-skip-smaller g c =
    let some : 0 < c.answer_marks-told.result.marks = omega (arith, c.if-told-eq0.false) in
    omega (arith, marks_few _ _ _ _ _ c.answer_marks-told.ensures some)
