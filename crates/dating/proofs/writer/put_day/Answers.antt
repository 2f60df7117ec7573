use native.Mathlib.Omega.{arith}
use Rattle.dating.proofs.writer.Laws.{twelve_bytes, day_put}
use Rattle.dating.proofs.writer.put_day.Goals as goal

pub put_date-requires : goal.put_date-requires
put_date-requires c = omega (arith, twelve_bytes c.args.day.style _ _ _ _ c.date.ensures, c.requires)

pub returns : goal.returns
returns c = day_put _ _ _ _ _ c.date.ensures c.put_date.ensures
