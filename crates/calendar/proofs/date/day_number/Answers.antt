use mathlib.Core.Bool.{cond}
use mathlib.Core.Path.{◌≡◌, refl}
use Prim.Native.Nat.{◌+◌, ◌-◌, ◌*◌, ◌/◌, ◌≤◌}
use native.Mathlib.Omega.{arith}
use lib.Dec.{ltb}
use borrow.Author.Tests.{lt-ltb, le-ltb}
use Rattle.calendar.proofs.date.Dates.{DateBounds, date_bounds, day_by_offset}
use Rattle.calendar.proofs.span.Laws.{served_small}
use Rattle.calendar.specs.Date.{day_number}
use Rattle.calendar.specs.Year.{leap}
use Rattle.calendar.proofs.date.day_number.Goals as goal
use Rattle.calendar.proofs.date.day_number.Goals.{After-new_year-start, Joined-month-gt2, Start, else-month-gt2, then-month-gt2}

year_is : (c : Start) → (1 ≤ c.args.year) × (c.args.year ≤ 9999)
year_is c = served_small _ _ c.requires.0

bounds : (c : Start) → DateBounds (leap c.args.calendar c.args.year) c.args.month c.args.day
bounds c = date_bounds _ _ _ _ c.requires.1

behind_is : (c : Joined-month-gt2) → c.if-month-gt2.behind_february ≡ cond (ltb 2 c.args.month) 1 0
behind_is c =
    let month = c.args.month in
    elim c.if-month-gt2.branch [
      | then-month-gt2 w ↦ rw (lt-ltb 2 month (omega arith)) w.behind_february-is
      | else-month-gt2 w ↦ rw (le-ltb 2 month (omega arith)) w.behind_february-is
    ]

sum_is : (c : After-new_year-start)
    → let a = c.args in
    c.new_year-start.result + (979 * a.month - 966) / 32 + (a.day - 1)
    ≡ day_number a.calendar a.year a.month a.day + 367 * c.if-month-gt2.behind_february
sum_is c =
    let start = c.before.before.before in
    rw (c.new_year-start.ensures, behind_is c.before.before) (day_by_offset _ _ _ _ _ (year_is start).0 (bounds start) refl)

pub overflow_sub-result-3 : goal.overflow_sub-result-3
overflow_sub-result-3 c = omega (arith, sum_is (goal.at.overflow_sub-result-3 c).After-new_year-start)

pub returns : goal.returns
returns c = omega (arith, sum_is (goal.at.returns c).After-new_year-start)
