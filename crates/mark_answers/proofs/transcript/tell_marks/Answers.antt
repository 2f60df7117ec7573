use native.Mathlib.Omega.{arith}
use Rattle.std.proofs.Common.{rules}
use Rattle.marks.proofs.walk.Laws.{Found}
use Rattle.mark_answers.proofs.transcript.Laws.{tell_first, tell_length, tell_few, tell_last, tell_full, tell_mark, tell_next}
use Rattle.mark_answers.proofs.transcript.tell_marks.Goals as goal
use Rattle.mark_answers.proofs.transcript.tell_marks.Goals.{In-Some}

-- the mark that is told
mark : (c : In-Some) → Found c.args.text.now c.in-Some.mark
mark c = tell_mark c.loop-mark.invariant c.in-Some.ensures.steps.1

pub loop-mark-init : goal.loop-mark-init
loop-mark-init c =
    let skipping = c.skip-mark-items.ensures in
    rw (c.into_iter-mark-iterator.ensures.into_iter_gives, skipping.source, skipping.count, c.marks_of.ensures) (tell_first _ _ c.requires.utf8)

pub slice_bounds-put_mark-end : goal.slice_bounds-put_mark-end
slice_bounds-put_mark-end c = search (rules, mark (goal.at.slice_bounds-put_mark-end c).In-Some)

pub put_mark-written-requires : goal.put_mark-written-requires
put_mark-written-requires c =
    let found = mark (goal.at.put_mark-written-requires c).In-Some in
    (omega (arith, c.requires.short), omega arith)

pub overflow_add-told : goal.overflow_add-told
overflow_add-told c = omega (arith, tell_few c.loop-mark.invariant)

pub loop-mark-preserved : goal.loop-mark-preserved
loop-mark-preserved c =
    let steps = c.in-Some.ensures.steps in
    tell_next c.loop-mark.invariant steps.1 _ _ _ steps.0 (omega (arith, c.if-output-written-lt49.false, tell_length c.loop-mark.invariant)) c.put_mark-written.ensures

pub returns-in-None : goal.returns-in-None
returns-in-None c = tell_last c.loop-mark.invariant c.in-None.ensures.steps.1

pub returns-then-output-written-lt49 : goal.returns-then-output-written-lt49
returns-then-output-written-lt49 c =
    tell_full c.loop-mark.invariant (omega (arith, c.if-output-written-lt49.true, tell_length c.loop-mark.invariant))
