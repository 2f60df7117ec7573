use mathlib.Core.Path.{sym}
use Rattle.dating.proofs.part.Laws.{phrase_fits, accepted_place, refused_place}
use Rattle.dating.proofs.part.place_of_part.Goals as goal

pub slice_bounds-behind_last-end : goal.slice_bounds-behind_last-end
slice_bounds-behind_last-end c = sym (phrase_fits _ _ _ _ c.in-Ok.ensures)

pub returns-in-Ok : goal.returns-in-Ok
returns-in-Ok c = accepted_place _ _ _ _ c.in-Ok.ensures _ c.behind_last.ensures

pub returns-in-Err : goal.returns-in-Err
returns-in-Err c = refused_place _ _ c.in-Err.ensures
