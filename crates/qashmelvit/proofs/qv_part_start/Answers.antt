use Rattle.dating.proofs.line.Laws.{line_map}
use Rattle.dating.specs.declared.part.Place.{Place}
use Rattle.qashmelvit.proofs.qv_part_start.Goals as goal

pub returns : goal.returns
returns c = line_map (λ (p : Place). p.start) _ c.place_of_part.ensures
