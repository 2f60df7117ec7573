use mathlib.Core.Path.{refl}
use native.Mathlib.Omega.{arith}
use Rattle.dating.proofs.answer.Laws.{answered, dated_answer}
use Rattle.dating.specs.Answer.{refused}
use Rattle.dating.proofs.answer.put_answer.Goals as goal

pub returns-in-Ok : goal.returns-in-Ok
returns-in-Ok c =
    let a = c.args in
    let p = c.put_dated.ensures in
    answered a.line.now a.at a.buffer.now p.0 (omega (arith, c.if-buffer-lt25.false, c.if-at-buffer.false))
    (dated_answer a.line.now p.0 _ _ _ c.in-Ok.ensures p.1.0) p.1.1

pub returns-in-Err : goal.returns-in-Err
returns-in-Err c =
    let a = c.args in
    answered a.line.now a.at a.buffer.now _ (omega (arith, c.if-buffer-lt25.false, c.if-at-buffer.false))
    (refused _ c.in-Err.ensures refl) c.put_refused.ensures
