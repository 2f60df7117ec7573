use Prim.Native.Nat.{◌-◌}
use lib.ListN.{length}
use Rattle.answers.proofs.page.Laws.{Filling}
use Rattle.answers.proofs.page.fill_places.Given as goal

abbrev pub invariant-loop-start : goal.invariant-loop-start
invariant-loop-start l = Filling l.page l.initial.places l.place l.start l.places

abbrev pub decreases-loop-start : goal.decreases-loop-start
decreases-loop-start l = length l.page - l.start
