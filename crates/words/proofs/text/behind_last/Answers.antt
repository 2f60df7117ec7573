use Rattle.std.proofs.Common.{rules}
use Rattle.words.proofs.text.Laws.{found_last}
use Rattle.words.proofs.text.behind_last.Goals as goal

pub returns : goal.returns
returns c = found_last c.args.byte c.args.text.now c.rposition.result (search rules) (search rules)
