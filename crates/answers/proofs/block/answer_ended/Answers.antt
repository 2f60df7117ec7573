use native.Mathlib.Omega.{arith}
use Rattle.answers.proofs.block.Laws.{at_first, line_answered, all_answered}
use Rattle.answers.proofs.block.answer_ended.Goals as goal

pub loop-end-init : goal.loop-end-init
loop-end-init c = at_first _ _

pub overflow_add-written : goal.overflow_add-written
overflow_add-written c =
    let end = c.in-Some.ensures in
    let answered = line_answered c.loop-end.invariant c.requires end.ends end.inside _ _ c.put_answer-written.ensures in
    omega (arith, answered.small)

pub loop-end-preserved : goal.loop-end-preserved
loop-end-preserved c =
    let end = c.in-Some.ensures in line_answered c.loop-end.invariant c.requires end.ends end.inside _ _ c.put_answer-written.ensures

pub returns : goal.returns
returns c = all_answered c.loop-end.invariant c.requires c.in_default.ensures.ends
