use mathlib.Core.Path.{refl}
use Rattle.dating.proofs.part.Laws.{inside, lies_there}
use Rattle.dating.proofs.part.part_of_line.Goals as goal

pub slice_bounds-result-end : goal.slice_bounds-result-end
slice_bounds-result-end c = inside _ _ c.place_of_part-place.ensures

pub returns : goal.returns
returns c = lies_there _ _ _ c.place_of_part-place.ensures refl refl refl
