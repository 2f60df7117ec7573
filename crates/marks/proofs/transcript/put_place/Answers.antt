use Rattle.marks.proofs.transcript.Laws.{place_put}
use Rattle.marks.proofs.transcript.put_place.Goals as goal

pub returns : goal.returns
returns c =
    rw (c.put_number-5.ensures, c.put_number-4.ensures, c.put_number-3.ensures, c.put_number-2.ensures, c.put_number.ensures)
    (place_put _ _ _ _ _ _ _ c.requires.0)
