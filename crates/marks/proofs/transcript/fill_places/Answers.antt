use native.Mathlib.Omega.{arith}
use Rattle.std.proofs.Common.{rules}
use Rattle.marks.proofs.walk.Laws.{Found, walk_mark}
use Rattle.marks.proofs.transcript.Laws.{fill_first, fill_room, fill_next, fill_last}
use Rattle.marks.proofs.transcript.fill_places.Goals as goal
use Rattle.marks.proofs.transcript.fill_places.Goals.{In-Some}

-- the mark that is found
mark : (c : In-Some) → Found c.args.text.now c.in-Some.mark
mark c = walk_mark c.loop-mark.invariant.ahead c.in-Some.ensures.steps

pub loop-mark-init : goal.loop-mark-init
loop-mark-init c =
    rw (c.into_iter-mark-iterator.ensures.into_iter_gives, c.marks_of-mark-items.ensures) (fill_first c.requires)

pub slice_bounds-number_of_line-end : goal.slice_bounds-number_of_line-end
slice_bounds-number_of_line-end c = search (rules, mark (goal.at.slice_bounds-number_of_line-end c).In-Some)

pub put_place-requires : goal.put_place-requires
put_place-requires c =
    let found = mark (goal.at.put_place-requires c).In-Some in
    (fill_room c.loop-mark.invariant c.in-Some.ensures.steps, omega (arith, c.requires.short))

pub loop-mark-preserved : goal.loop-mark-preserved
loop-mark-preserved c =
    fill_next c.loop-mark.invariant c.in-Some.ensures.steps _ _ c.number_of_line-number.ensures c.put_place.ensures

pub returns : goal.returns
returns c = fill_last c.loop-mark.invariant c.in-None.ensures.steps
