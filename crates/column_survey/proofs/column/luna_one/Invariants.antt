use Rattle.std.proofs.Common.{◌-◌, ◌≤◌}
use Rattle.church.specs.Column.{luna}
use Rattle.column_survey.proofs.column.luna_one.Given as goal

abbrev pub invariant-loop-calendar : goal.invariant-loop-calendar
invariant-loop-calendar l = l.day ≤ luna l.calendar l.year

abbrev pub decreases-loop-calendar : goal.decreases-loop-calendar
decreases-loop-calendar l = luna l.calendar l.year - l.day
