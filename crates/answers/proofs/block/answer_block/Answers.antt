use Rattle.answers.proofs.block.Laws.{block_answered}
use Rattle.answers.proofs.block.answer_block.Goals as goal

pub returns : goal.returns
returns c =
    block_answered _ _ c.told-buffer c.min-end.ensures c.answer_ended-written.ensures c.min-kept.ensures c.copy_within.ensures.after
