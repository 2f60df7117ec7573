use lib.ListN.{length}
use Rattle.dating.proofs.phrase.+phrase_in_year.Given as goal

-- the remaining length falls
abbrev pub decreases-phrase_in_year : goal.decreases-phrase_in_year
decreases-phrase_in_year l = length l.phrase.now
