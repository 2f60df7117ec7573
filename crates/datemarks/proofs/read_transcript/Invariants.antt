use Rattle.std.proofs.Common.{◌≤◌, length}
use Rattle.datemarks.proofs.read_transcript.Given as goal

abbrev pub invariant-loop : goal.invariant-loop
invariant-loop l = l.filled ≤ length l.input
