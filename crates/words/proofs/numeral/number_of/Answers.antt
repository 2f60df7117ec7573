use Prim.Native.Nat.{◌+◌}
use native.Mathlib.Omega.{arith}
use Rattle.words.proofs.numeral.Laws.{no_numeral, first_digit, begun, longer, up_to, after_first}
use Rattle.words.proofs.numeral.number_of.Goals as goal

pub returns-in_default : goal.returns-in_default
returns-in_default c = no_numeral _ _ (λ l. omega (arith, l.some))

pub returns-then-rest-gt3 : goal.returns-then-rest-gt3
returns-then-rest-gt3 c = no_numeral _ _ (λ l. omega (arith, l.few, c.if-rest-gt3.true))

pub returns-in_err-first_digit : goal.returns-in_err-first_digit
returns-in_err-first_digit c = rw c.from_residual.ensures (no_numeral _ _ (λ l. c.in_err-first_digit.ensures (first_digit l)))

pub loop-byte-init : goal.loop-byte-init
loop-byte-init c = rw c.from-n.ensures (begun _ c.in-len1-up.len_at_least (omega arith) c.in_ok-first_digit.ensures)

pub returns-in_err-digit_value : goal.returns-in_err-digit_value
returns-in_err-digit_value c =
    rw c.from_residual-in_err-digit_value.ensures
    (no_numeral _ _ (λ l. (rw after_first at c.in_err-digit_value.ensures) (l.digits (c.loop-byte.byte-index + 1) (omega arith))))

pub loop-byte-preserved : goal.loop-byte-preserved
loop-byte-preserved c = rw c.from.ensures (longer c.loop-byte.invariant (omega arith) (rw after_first at c.in_ok-digit_value.ensures))

pub returns : goal.returns
returns c = rw c.then_some.ensures (up_to c.loop-byte.invariant (omega arith) _ _ (omega arith) (λ h. h))
