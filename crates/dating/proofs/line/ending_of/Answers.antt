use mathlib.Core.Path.{sym, ◌∙◌}
use native.Mathlib.Omega.{arith}
use Rattle.words.proofs.text.Laws.{rest}
use Rattle.dating.proofs.line.Laws.{no_year_space, no_year, ending_told, four_told}
use Rattle.dating.proofs.line.ending_of.Goals as goal

pub returns-in-Some : goal.returns-in-Some
returns-in-Some c =
    rw c.from.ensures
    (four_told _ _ _ c.in-Some.ensures (omega arith) c.if-line-length-eq32.true c.if-line-length-ne32.false
    (sym c.style_of_letter.ensures ∙ c.in_ok-style.was))

pub returns-then-start-eq0 : goal.returns-then-start-eq0
returns-then-start-eq0 c = no_year_space _ _ c.behind_last-start.ensures c.if-start-eq0.true

pub returns-in_err-year : goal.returns-in_err-year
returns-in_err-year c =
    rw c.from_residual-in_err-year.ensures (no_year _ _ c.behind_last-start.ensures (rw (rest _ _) at c.in_err-year.ensures))

pub returns : goal.returns
returns c =
    ending_told _ _ c.behind_last-start.ensures _ _ (rw (rest _ _) at c.in_ok-year.ensures) (omega arith) c.if-line-length-ne32.false
    (sym c.style_of_letter.ensures ∙ c.in_ok-style.was) (omega arith)
