use Rattle.std.proofs.Common.{rules, ◌≡◌, ◌+◌, ◌<◌, eqb, arith}
use Rattle.std.specs.List.{sum_by, count_by}
use Rattle.answers.proofs.feed.Laws.{feeds_parted, feeds_few}
use Rattle.dating.specs.Answer.{line_feed}
use Rattle.answers.specs.Steps.{feeds}
use Rattle.answers.proofs.feed.count_feeds.Goals as goal
use Rattle.answers.proofs.feed.count_feeds.Goals.{After-count}

counted : (c : After-count) → c.sum-counted.result + c.count.result ≡ feeds c.args.bytes.now
counted c =
    let eights : c.sum-counted.result ≡ sum_by feeds c.as_chunks.result.0.now = search rules in
    let rest : c.count.result ≡ count_by (λ b. eqb b line_feed) c.as_chunks.result.1.now = search rules in
    rw (eights, rest, c.as_chunks.ensures.front, c.as_chunks.ensures.back) (feeds_parted c.args.bytes.now)

pub sum-counted-requires-clause-fits : goal.sum-counted-requires-clause-fits
sum-counted-requires-clause-fits c =
    let s = c.args.bytes.now in
    let whole = rw (← c.as_chunks.ensures.front) at (feeds_parted s) in
    let fits : sum_by feeds c.as_chunks.result.0.now < 18446744073709551616 = omega (arith, whole, feeds_few s) in
    search rules

pub overflow_add-result : goal.overflow_add-result
overflow_add-result c = omega (arith, counted c, feeds_few c.args.bytes.now)

pub returns : goal.returns
returns c = counted c
