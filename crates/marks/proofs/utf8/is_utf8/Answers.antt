use Rattle.marks.proofs.utf8.Library.{told}
use Rattle.marks.proofs.utf8.is_utf8.Goals as goal

pub returns : goal.returns
returns c = told _ _ _ _ _ c.is_ok.ensures.value c.from_utf8.ensures.cases
