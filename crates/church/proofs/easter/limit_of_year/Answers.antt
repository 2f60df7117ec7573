use Rattle.church.proofs.arithmetic.Laws.{one_limit}
use Rattle.church.specs.Arithmetic.{arithmetic_limit}
use Rattle.church.proofs.easter.limit_of_year.Goals as goal

pub returns-in-Julian : goal.returns-in-Julian
unfolding arithmetic_limit
returns-in-Julian c =
    rw (← one_limit c.args.calendar c.args.year, c.julian_limit-julian.ensures, c.golden_number-golden_number.ensures, c.in-Julian.is)

pub returns-in-Gregorian : goal.returns-in-Gregorian
unfolding arithmetic_limit
returns-in-Gregorian c =
    rw (← one_limit c.args.calendar c.args.year, c.gregorian_limit-gregorian.ensures, c.golden_number-golden_number.ensures, c.in-Gregorian.is)
