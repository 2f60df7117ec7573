use mathlib.Core.Path.{ap}
use native.Mathlib.Omega.{arith}
use lib.ListN.{length}
use Rattle.words.proofs.numeral.Laws.{one_digit, numeral_length, more_length}
use Rattle.dating.proofs.writer.digit_count.Goals as goal

pub overflow_add-count : goal.overflow_add-count
overflow_add-count c = omega (arith, (numeral_length c.args.number).1, (numeral_length c.loop-rest.rest).0, c.loop-rest.invariant)

pub loop-rest-preserved : goal.loop-rest-preserved
loop-rest-preserved c =
    let inv = c.loop-rest.invariant in
    let l = more_length c.loop-rest.rest c.loop-rest-test.true (omega (arith, inv.0, c.ranges.number)) in
    (omega (arith, inv.0), omega (arith, inv.1))

pub returns : goal.returns
returns c = omega (arith, ap length (one_digit c.loop-rest.rest (omega (arith, c.loop-rest-test.false))), c.loop-rest.invariant)
