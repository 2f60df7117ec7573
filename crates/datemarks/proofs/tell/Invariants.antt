use Rattle.std.proofs.Common.{◌-◌}
use Rattle.datemarks.proofs.tell.Given as goal

-- no more marks are told than a transcript has
abbrev pub decreases-loop-skip : goal.decreases-loop-skip
decreases-loop-skip g l = 16384 - l.skip
