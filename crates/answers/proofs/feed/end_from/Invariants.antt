use Prim.Native.Nat.{◌-◌}
use lib.ListN.{length}
use Rattle.answers.specs.Steps.{Quiet}
use Rattle.answers.proofs.feed.end_from.Given as goal

abbrev pub invariant-loop-part : goal.invariant-loop-part
invariant-loop-part l = Quiet l.bytes l.start l.i

abbrev pub decreases-loop-part : goal.decreases-loop-part
decreases-loop-part l = length l.bytes - l.i
