use Rattle.std.proofs.lemmas.Result.{err_from_is_err_and}
use Rattle.dating.proofs.writer.Laws.{outside, written}
use Rattle.dating.proofs.writer.write_in_style.Goals as goal

pub returns-in_err-day : goal.returns-in_err-day
returns-in_err-day c =
    let p = err_from_is_err_and c.from_residual.result c.from_residual.ensures.1 in
    let e = c.in_err-day.ensures in
    rw (p.1, p.2) (outside _ _ _ c.if-buffer-lt12.false _ e.0 e.1)

pub returns : goal.returns
returns c =
    let e = c.in_ok-day.ensures in
    written _ _ _ c.if-buffer-lt12.false _ _ (rw (e.0, e.1) at c.in_ok-day.day.in_span) (rw (e.0, e.1) at c.put_day.ensures)
