use mathlib.Core.Path.{◌∙◌}
use Prim.Native.Nat.{◌+◌, ◌-◌, ◌%◌, ◌≤◌}
use native.Mathlib.Omega.{arith}
use lib.ListN.{length-set}
use Rattle.words.proofs.numeral.Laws.{more_length}
use Rattle.dating.proofs.writer.Laws.{sets_last, last_digit, first_digit, field_length, digits_left, digit_left}
use Rattle.words.specs.Numeral.{numeral}
use Rattle.dating.proofs.writer.put_number.Goals as goal
use Rattle.dating.proofs.writer.put_number.Goals.{After-loop-place}

-- the one digit that is left after the loop
left : (c : After-loop-place) → c.loop-place.rest ≤ 9
left c = let inv = c.loop-place.invariant in digit_left c.loop-place.rest (omega (arith, inv.0, c.ranges.number)) (omega (arith, inv.1))

pub loop-place-preserved : goal.loop-place-preserved
loop-place-preserved c =
    let l = c.loop-place in let inv = l.invariant in let n = l.rest in
    let high : n ≤ 18446744073709551616 = omega (arith, inv.0, c.ranges.number) in
    let low = digits_left n (omega (arith, inv.1)) in
    let more = more_length n low high in
    let same = length-set l.buffer (l.place - 1) (48 + n % 10) in (
      omega (arith, inv.0),
      omega (arith, inv.1),
      rw same (omega (arith, inv.2)),
      same ∙ inv.3,
      rw inv.1 (last_digit l.buffer c.args.at n low high) ∙ inv.4,
    )

pub overflow_cast-buffer-2 : goal.overflow_cast-buffer-2
overflow_cast-buffer-2 c = omega (arith, left (goal.at.overflow_cast-buffer-2 c).After-loop-place)

pub overflow_add-buffer-2 : goal.overflow_add-buffer-2
overflow_add-buffer-2 c = omega (arith, left (goal.at.overflow_add-buffer-2 c).After-loop-place)

pub returns : goal.returns
returns c =
    let a = c.args in
    let l = field_length a.number a.behind in
    record {
      behind = omega (arith, c.digit_count.ensures);
      bytes =
          first_digit c.loop-place.buffer a.at c.loop-place.rest (left (goal.at.returns c).After-loop-place)
          ∙ c.loop-place.invariant.4
          ∙ rw c.digit_count.ensures (sets_last (numeral a.number) a.buffer.now a.at a.behind);
    }
