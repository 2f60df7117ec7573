use mathlib.Core.Path.{sym, ◌∙◌, ◌≡◌}
use Prim.Native.Nat.{◌≤◌}
use lib.IntN.{pos, ◌+ℤ◌}
use mir.Val.{to_z, of_z}
use mir.Syntax.{w64}
use native.Mathlib.Omega.{arith}
use Rattle.calendar.proofs.refusal.Laws.{passed_day}
use Rattle.calendar.specs.Span.{earliest, latest}
use Rattle.church.proofs.easter.Laws.{easter_small, near_days}
use Rattle.church.proofs.feast.Laws.{offset, hung_near, hung_rule, hung_told, signed_day}
use Rattle.church.specs.Feast.{days_from}
use Rattle.church.proofs.feast.hung_on_easter.Goals as goal
use Rattle.church.proofs.feast.hung_on_easter.Goals.{After-from}

small : (c : After-from) → (earliest ≤ c.in_ok-easter.easter) × (c.in_ok-easter.easter ≤ latest)
small c = let e = passed_day _ _ _ _ (sym c.easter_of_year.ensures ∙ c.in_ok-easter.was) in rw (← e.1) (easter_small c.args.named.style _ e.0)

sum : (c : After-from)
    → to_z w64 (of_z w64 (to_z w64 (of_z w64 c.from.result) +ℤ to_z w64 (of_z w64 c.from-days.result)))
    ≡ pos (days_from (offset c.args.feast) c.in_ok-easter.easter)
sum c = signed_day _ _ _ _ (hung_near _ c.requires) (omega (arith, small c)) (small c).1 c.from.ensures c.from-days.ensures

pub overflow_cast-from : goal.overflow_cast-from
overflow_cast-from c =
    let from = (goal.at.overflow_cast-from c).After-from in
    rw (sum from) (tt, omega (arith, small from, near_days (offset c.args.feast) c.in_ok-easter.easter (hung_near _ c.requires)))

pub returns : goal.returns
returns c =
    rw (c.day_within.ensures, sum (goal.at.returns c).After-from, c.dates_by.ensures, hung_rule _ c.requires)
    (sym (hung_told _ _ _ (sym c.easter_of_year.ensures ∙ c.in_ok-easter.was)))
