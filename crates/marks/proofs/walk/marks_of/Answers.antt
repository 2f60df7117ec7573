use mathlib.Core.Path.{refl}
use Rattle.marks.proofs.mark.Marks.{at_first}
use Rattle.marks.specs.Utf8.{starts}
use Rattle.marks.proofs.walk.marks_of.Goals as goal

pub invariant_of-result : goal.invariant_of-result
unfolding starts
invariant_of-result c = (at_first _, refl)
