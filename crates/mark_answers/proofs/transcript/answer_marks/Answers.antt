use mathlib.Core.Logic.{inl, inr}
use native.Mathlib.Omega.{arith}
use Rattle.mark_answers.proofs.transcript.answer_marks.Goals as goal

pub tell_refusal-requires : goal.tell_refusal-requires
tell_refusal-requires c = omega (arith, c.told-output)

pub tell_refusal-requires-then-not-is_utf8 : goal.tell_refusal-requires-then-not-is_utf8
tell_refusal-requires-then-not-is_utf8 c = omega (arith, c.told-output)

pub returns-then-text-gt65536 : goal.returns-then-text-gt65536
returns-then-text-gt65536 c = inl (λ k. omega (arith, c.if-text-gt65536.true), c.tell_refusal.ensures)

pub returns-then-not-is_utf8 : goal.returns-then-not-is_utf8
returns-then-not-is_utf8 c = inr (omega (arith, c.if-text-gt65536.false), inl (c.if-not-is_utf8.ensures, c.tell_refusal-then-not-is_utf8.ensures))
