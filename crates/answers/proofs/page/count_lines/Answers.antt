use Rattle.std.proofs.Common.{rules, arith, ◌≡◌, ◌+◌, length, eqb, false, not}
use Rattle.std.specs.Option.{MatchOption, option_copied}
use Rattle.dating.specs.Answer.{line_feed}
use Rattle.answers.proofs.page.Laws.{lines_told}
use Rattle.answers.proofs.Lines.{lines_few}
use Rattle.answers.specs.Lines.{lines_of}
use Rattle.answers.proofs.page.count_lines.Goals as goal
use Rattle.answers.proofs.page.count_lines.Goals.{After-from}

counted : (c : After-from) → c.count_feeds.result + c.from.result ≡ length (lines_of c.args.page.now)
counted c =
    let unended = c.is_some_and-unended.result in
    let last : MatchOption (option_copied c.last.result) (unended ≡ false) (λ b. unended ≡ not (eqb b line_feed)) = search rules in
    rw (c.count_feeds.ensures, c.from.ensures) (lines_told _ unended (rw c.last.ensures.value at last))

pub overflow_add-result : goal.overflow_add-result
overflow_add-result c = omega (arith, counted c, lines_few c.args.page.now)

pub returns : goal.returns
returns c = counted c
