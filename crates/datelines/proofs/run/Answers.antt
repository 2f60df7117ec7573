use Rattle.std.proofs.Common.{List, [], ℕ, ◌≤◌, length-take, arith}
use Rattle.answers.specs.Block.{AnswersBlock}
use Rattle.answers.specs.Lines.{open_line}
use Rattle.answers.specs.declared.block.Progress.{Progress}
use Rattle.datelines.proofs.run.Goals as goal

few_kept : {s b m o p : List ℕ} {r : Progress} → AnswersBlock s b m o p r → r.kept ≤ 121
few_kept {s} h = let l = length-take 121 (open_line [] s) in omega (arith, h.keeps)

pub loop-preserved : goal.loop-preserved
loop-preserved c = few_kept c.answer_block-progress.ensures
