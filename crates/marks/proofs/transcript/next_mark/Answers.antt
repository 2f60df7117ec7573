use mathlib.Core.Path.{◌≡◌, sym}
use Prim.Native.Nat.{◌+◌}
use native.Mathlib.Omega.{arith}
use lib.ListN.{take, length-take}
use lib.Seq.{length-take-le}
use Rattle.std.proofs.Common.{rules}
use Rattle.marks.proofs.mark.Marks.{end_inside}
use Rattle.marks.proofs.walk.Laws.{counted_to, starts_few}
use Rattle.marks.specs.Utf8.{starts}
use Rattle.marks.proofs.transcript.next_mark.Goals as goal
use Rattle.marks.proofs.transcript.next_mark.Goals.{After-count_starts}

-- the characters before the end of the mark
counted : (c : After-count_starts)
    → c.count_starts-start_character.result + c.count_starts.result ≡ starts (take c.in_ok-start.field-0.end c.args.text.now)
counted c =
    counted_to c.args.text.now c.in_ok-start.field-0.start c.in_ok-start.field-0.end _ _
    c.in_ok-start.ensures.0.forward c.count_starts-start_character.ensures c.count_starts.ensures

pub slice_bounds-count_starts-end : goal.slice_bounds-count_starts-end
slice_bounds-count_starts-end c =
    let mark = c.in_ok-start.ensures.0 in
    sym (length-take-le _ c.args.text.now (omega (arith, end_inside mark, mark.forward)))

pub slice_bounds-count_starts-end-2 : goal.slice_bounds-count_starts-end-2
slice_bounds-count_starts-end-2 c = search (rules, c.in_ok-start.ensures.0.forward, end_inside c.in_ok-start.ensures.0)

pub overflow_add-end_character : goal.overflow_add-end_character
overflow_add-end_character c =
    let end = c.in_ok-start.field-0.end in
    let s = c.args.text.now in
    omega (arith, counted (goal.at.overflow_add-end_character c).After-count_starts, starts_few (take end s), length-take end s)

pub returns : goal.returns
returns c =
    (c.in_ok-start.ensures, (c.count_starts-start_character.ensures, counted (goal.at.returns c).After-count_starts))
