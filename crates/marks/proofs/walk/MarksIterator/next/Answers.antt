use mathlib.Core.Path.{refl}
use native.Mathlib.Omega.{arith}
use Rattle.std.proofs.lemmas.List.{take_rest}
use Rattle.marks.proofs.mark.Marks.{none_on, after_mark}
use Rattle.marks.proofs.walk.Laws.{moved, Found, step}
use Rattle.marks.specs.Transcript.{mark_of}
use Rattle.marks.specs.Walk.{IsFirstFrom}
use Rattle.marks.proofs.walk.MarksIterator.next.Goals as goal
use Rattle.marks.proofs.walk.MarksIterator.next.Goals.{In_ok-mark}

-- the mark that is found
found : (c : In_ok-mark)
    → let m = c.self.inside in
    let mark = moved m.at m.characters c.in_ok-mark.mark in
    IsFirstFrom m.text.now m.at (mark_of mark) × Found m.text.now mark
found c =
    let m = c.self.inside in
    step _ _ _ _ c.self.invariant.0 c.self.invariant.1 (rw (take_rest m.text.now m.at) at c.in_ok-mark.ensures)

pub returns-in_err-mark-clause-steps : goal.returns-in_err-mark-clause-steps
returns-in_err-mark-clause-steps c =
    let m = c.self.inside in
    rw (c.from_residual.ensures, ← c.self.view_is) (none_on c.self.invariant.0 (rw (take_rest m.text.now m.at) at c.in_err-mark.ensures), refl)

pub overflow_add-found : goal.overflow_add-found
overflow_add-found c = omega (arith, found (goal.at.overflow_add-found c).In_ok-mark)

pub overflow_add-found-2 : goal.overflow_add-found-2
overflow_add-found-2 c = omega (arith, found (goal.at.overflow_add-found-2 c).In_ok-mark)

pub overflow_add-found-3 : goal.overflow_add-found-3
overflow_add-found-3 c = omega (arith, found (goal.at.overflow_add-found-3 c).In_ok-mark)

pub overflow_add-found-4 : goal.overflow_add-found-4
overflow_add-found-4 c = omega (arith, found (goal.at.overflow_add-found-4 c).In_ok-mark)

pub overflow_add-self : goal.overflow_add-self
overflow_add-self c = omega (arith, found (goal.at.overflow_add-self c).In_ok-mark)

pub overflow_add-self-2 : goal.overflow_add-self-2
overflow_add-self-2 c = omega (arith, found (goal.at.overflow_add-self-2 c).In_ok-mark)

pub invariant_of-self : goal.invariant_of-self
invariant_of-self c =
    let step = found (goal.at.invariant_of-self c).In_ok-mark in
    (after_mark step.1.is_mark, step.1.after)

pub returns-clause-steps : goal.returns-clause-steps
returns-clause-steps c =
    let step = found (goal.at.returns-clause-steps c).In_ok-mark in
    rw (← c.self.view_is) (step.0, step.1.counted, refl)

pub returns-clause-goes : goal.returns-clause-goes
returns-clause-goes c =
    let step = found (goal.at.returns-clause-goes c).In_ok-mark in
    rw (← c.self.view_is) record { on = λ e. (tt, tt, omega arith); keeps = tt; rests = λ e. e }
