use Rattle.std.proofs.Common.{◌≤◌}
use Rattle.datelines.proofs.run.Given as goal

-- of an open line no more is kept than tells that it is too long
abbrev pub invariant-loop : goal.invariant-loop
invariant-loop l = l.kept ≤ 121
