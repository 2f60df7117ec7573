use native.Mathlib.Omega.{arith}
use Rattle.dating.proofs.answer.Laws.{fields_length}
use Rattle.dating.proofs.writer.Laws.{put_on, put_length}
use Rattle.dating.proofs.answer.put_fields.Goals as goal

pub put_number-day_at-requires : goal.put_number-day_at-requires
put_number-day_at-requires c = omega (arith, (fields_length _ _ c.args.day.in_span).0, c.requires)

pub put_number-weekday_at-requires : goal.put_number-weekday_at-requires
put_number-weekday_at-requires c =
    let day = c.put_number-day_at.ensures in
    rw c.from.ensures (omega (arith, (fields_length _ _ c.args.day.in_span).0, c.requires, put_length day, day.behind))

pub put_number-requires : goal.put_number-requires
put_number-requires c =
    let day = c.put_number-day_at.ensures in
    let weekday = rw c.from.ensures at c.put_number-weekday_at.ensures in
    let same = put_length (put_on day weekday) in
    rw (c.from-2.ensures, c.weekday.ensures)
    (omega (arith, (fields_length _ _ c.args.day.in_span).0, c.requires, day.behind, weekday.behind))

pub returns : goal.returns
returns c =
    put_on (put_on c.put_number-day_at.ensures (rw c.from.ensures at c.put_number-weekday_at.ensures))
    (rw (c.from-2.ensures, c.weekday.ensures) at c.put_number.ensures)
