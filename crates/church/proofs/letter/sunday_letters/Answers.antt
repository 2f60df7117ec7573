use Rattle.church.proofs.letter.Laws.{sundays}
use Rattle.church.specs.Letter.{first, second}
use Rattle.church.proofs.letter.sunday_letters.Goals as goal

pub returns-clause-first : goal.returns-clause-first
returns-clause-first c = rw (c.letter_after.ensures, c.from-ahead.ensures, c.is_leap.ensures, c.requires) (sundays c.args.calendar c.args.year first)

pub returns-clause-second : goal.returns-clause-second
returns-clause-second c = rw (c.letter_after-2.ensures, c.requires) (sundays c.args.calendar c.args.year second)
