use Rattle.dating.proofs.writer.Laws.{date_put}
use Rattle.calendar.specs.Year.{named}
use Rattle.dating.proofs.writer.put_date.Goals as goal
use Rattle.dating.proofs.writer.put_date.Goals.{After-put_number-letter_at}

pub returns : goal.returns
returns c =
    let year = (goal.at.returns c).After-put_number-letter_at in
    let month = year.before.before.before.before in
    let day = month.before.before.before.before in
    let a = day.args in
    date_put (named a.style a.date.year) _ _ day.put_number-month_at.ensures month.put_number-year_at.ensures year.put_number-letter_at.ensures _ c.letter.ensures
