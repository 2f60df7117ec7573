use Rattle.words.proofs.text.Laws.{rest}
use Rattle.dating.proofs.phrase.Laws.{leads, plain_told, wrapped_told, told_in_span}
use Rattle.dating.proofs.phrase.+phrase_in_year.Goals as goal

pub returns-in_default-answer : goal.returns-in_default-answer
returns-in_default-answer t c = plain_told _ _ c.in_default.ensures _ c.anchor_in_year-answer.ensures

pub returns-in_default : goal.returns-in_default
returns-in_default t c = plain_told _ _ c.in_default.ensures _ c.in-Ok.ensures

pub returns-in_default-inner : goal.returns-in_default-inner
returns-in_default-inner t c =
    rw c.in_default-inner.is (wrapped_told _ _ c.in-Some.ensures _ _ (rw (rest _ _) at c.in_default-inner.ensures))

pub act-requires : goal.act-requires
act-requires t c =
    ((leads _ _ c.in-Some.ensures).1, rw c.dates_by.ensures (told_in_span _ _ _ (rw (rest _ _) at c.in-Ok-inner.ensures)))

pub returns : goal.returns
returns t c = rw (c.act.ensures, c.dates_by.ensures) (wrapped_told _ _ c.in-Some.ensures _ _ (rw (rest _ _) at c.in-Ok-inner.ensures))
