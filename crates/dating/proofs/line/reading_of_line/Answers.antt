use mathlib.Core.Bool.{true}
use mathlib.Core.Path.{◌≡◌, refl}
use native.Mathlib.Omega.{arith}
use Rattle.std.proofs.lemmas.Result.{err_from_is_err_and}
use Rattle.calendar.proofs.range.Laws.{range}
use Rattle.calendar.proofs.Tested.{failed, held}
use Rattle.dating.proofs.line.Laws.{no_ending, ending_of, line_told, reading, size}
use Rattle.dating.proofs.phrase.Laws.{told_in_span}
use Rattle.dating.specs.Line.{unfit, length_fits}
use Rattle.dating.proofs.line.reading_of_line.Goals as goal
use Rattle.dating.proofs.line.reading_of_line.Goals.{Else-not-is_between}

fits : (c : Else-not-is_between) → length_fits c.args.line.now ≡ true
fits c = held c.is_between.ensures c.if-not-is_between.false

pub returns-then-not-is_between : goal.returns-then-not-is_between
returns-then-not-is_between c = unfit (failed c.is_between.ensures c.if-not-is_between.true) refl

pub returns-in_default : goal.returns-in_default
returns-in_default c = no_ending _ (fits (goal.at.returns-in_default c).Else-not-is_between) c.in_default.ensures

pub phrase_in_year-requires : goal.phrase_in_year-requires
phrase_in_year-requires c =
    let few = range _ _ _ (fits (goal.at.phrase_in_year-requires c).Else-not-is_between) in
    rw (size _ _ c.in-Some.ensures) (omega (arith, few, ending_of _ _ c.in-Some.ensures))

pub returns-in_err-number : goal.returns-in_err-number
returns-in_err-number c =
    let fit = fits (goal.at.returns-in_err-number c).Else-not-is_between in
    let p = err_from_is_err_and c.from_residual.result c.from_residual.ensures.1 in
    rw (p.1, p.2) (line_told _ _ c.in-Some.ensures fit _ c.in_err-number.ensures)

pub invariant_of-result : goal.invariant_of-result
invariant_of-result c = record { in_span = told_in_span _ _ _ c.in_ok-number.ensures }

pub returns : goal.returns
returns c = reading _ _ c.in-Some.ensures (fits (goal.at.returns c).Else-not-is_between) _ c.in_ok-number.ensures
