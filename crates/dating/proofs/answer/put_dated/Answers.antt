use native.Mathlib.Omega.{arith}
use Rattle.dating.proofs.answer.Laws.{fields_length, dated_put, feed_room}
use Rattle.dating.proofs.writer.Laws.{put_length}
use Rattle.dating.proofs.answer.put_dated.Goals as goal

pub put_day-end-requires : goal.put_day-end-requires
put_day-end-requires c =
    let head = (fields_length _ _ c.args.day.in_span).1 in
    omega (arith, c.requires, put_length c.put_fields-date_at.ensures, c.put_fields-date_at.ensures.behind)

pub bounds-buffer-end : goal.bounds-buffer-end
bounds-buffer-end c = feed_room _ _ c.put_fields-date_at.ensures c.put_day-end.ensures c.args.day.in_span c.requires

pub overflow_add-result : goal.overflow_add-result
overflow_add-result c = omega (arith, feed_room _ _ c.put_fields-date_at.ensures c.put_day-end.ensures c.args.day.in_span c.requires)

pub returns : goal.returns
returns c = dated_put _ _ c.put_fields-date_at.ensures c.put_day-end.ensures
