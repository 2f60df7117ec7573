use lib.ListN.{length}
use Rattle.dating.proofs.line.Laws.{line_map}
use Rattle.dating.specs.Part.{Part}
use Rattle.qashmelvit.proofs.qv_part_length.Goals as goal

pub returns : goal.returns
returns c =
    let part = c.part_of_line.ensures in
    rw part.contents (line_map (λ (p : Part). length p.text) _ part.is_part)
