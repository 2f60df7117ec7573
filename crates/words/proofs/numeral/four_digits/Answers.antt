use Rattle.words.proofs.numeral.Laws.{no_four, four_read}
use Rattle.words.proofs.numeral.four_digits.Goals as goal

pub returns-in_err-first_digit : goal.returns-in_err-first_digit
returns-in_err-first_digit c = rw c.from_residual.ensures (no_four _ _ _ _ (λ d. c.in_err-first_digit.ensures d.0))

pub returns-in_err-digit_value : goal.returns-in_err-digit_value
returns-in_err-digit_value c = rw c.from_residual-in_err-digit_value.ensures (no_four _ _ _ _ (λ d. c.in_err-digit_value.ensures d.1))

pub returns-in_err-digit_value-2 : goal.returns-in_err-digit_value-2
returns-in_err-digit_value-2 c = rw c.from_residual-in_err-digit_value-2.ensures (no_four _ _ _ _ (λ d. c.in_err-digit_value-2.ensures d.2))

pub returns-in_err-digit_value-3 : goal.returns-in_err-digit_value-3
returns-in_err-digit_value-3 c = rw c.from_residual-in_err-digit_value-3.ensures (no_four _ _ _ _ (λ d. c.in_err-digit_value-3.ensures d.3))

pub returns : goal.returns
returns c =
    four_read _ _ _ _ c.in_ok-first_digit.ensures c.in_ok-digit_value.ensures c.in_ok-digit_value-2.ensures c.in_ok-digit_value-3.ensures
