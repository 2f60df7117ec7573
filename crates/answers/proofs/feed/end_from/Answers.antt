use native.Mathlib.Omega.{arith}
use Rattle.answers.proofs.feed.Laws.{quiet_first, chunk_none, chunk_some, rest_none, rest_some}
use Rattle.answers.proofs.feed.end_from.Goals as goal

pub loop-part-init : goal.loop-part-init
loop-part-init c = quiet_first _ _ c.requires

pub overflow_add-result : goal.overflow_add-result
overflow_add-result c = omega (arith, (chunk_some c.loop-part.invariant c.in-Some.ensures.cases c.in-Some-first_feed.ensures).1)

pub returns-in-Some-first_feed : goal.returns-in-Some-first_feed
returns-in-Some-first_feed c =
    let end = chunk_some c.loop-part.invariant c.in-Some.ensures.cases c.in-Some-first_feed.ensures in record { ends = end.0; inside = end.1 }

pub loop-part-preserved : goal.loop-part-preserved
loop-part-preserved c = chunk_none c.loop-part.invariant c.in-Some.ensures.cases c.in_default-first_feed.ensures

pub returns-in_err-before-clause-ends : goal.returns-in_err-before-clause-ends
returns-in_err-before-clause-ends c = rw c.from_residual.ensures (rest_none c.loop-part.invariant c.in_err-before.ensures)

pub returns-clause-ends : goal.returns-clause-ends
returns-clause-ends c = (rest_some c.loop-part.invariant c.in_ok-before.ensures).0
