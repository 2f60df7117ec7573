use mathlib.Core.Logic.{inl}
use native.Mathlib.Omega.{arith}
use Rattle.answers.proofs.Walk.{at_first}
use Rattle.answers.proofs.page.Laws.{all_filled, line_room, fill_line}
use Rattle.answers.specs.Steps.{EndsAt}
use Rattle.answers.proofs.page.fill_places.Goals as goal

pub loop-start-init : goal.loop-start-init
loop-start-init c = inl (at_first _ _ _)

pub overflow_add-place : goal.overflow_add-place
overflow_add-place c = omega (arith, line_room c.requires c.loop-start.invariant c.loop-start-test.true _ c.end_from.ensures.ends)

pub loop-start-preserved : goal.loop-start-preserved
loop-start-preserved c =
    let ends : EndsAt c.args.page.now c.loop-start.start c.unwrap_or-end.result = rw c.unwrap_or-end.ensures c.end_from.ensures.ends in
    fill_line c.requires c.loop-start.invariant c.loop-start-test.true _ ends _ _ c.number_of_line.ensures c.put_number.ensures

pub returns : goal.returns
returns c = all_filled c.requires c.loop-start.invariant c.loop-start-test.false
