use Rattle.std.proofs.Common.{◌*◌, ◌<◌}
use Rattle.column_survey.proofs.survey.Given as goal

abbrev pub invariant-loop-year : goal.invariant-loop-year
invariant-loop-year l = (l.tally.years < l.year) × (l.tally.days < 30 * l.year) × (l.tally.limits < l.year)
