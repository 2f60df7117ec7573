use mathlib.Core.Logic.{inl, inr}
use native.Mathlib.Omega.{arith}
use Rattle.words.proofs.text.Laws.{rest}
use Rattle.dating.proofs.anchor.Laws.{MayDate, too_short, no_feast, feast_told, no_point, no_day, no_month, date_told}
use Rattle.dating.proofs.anchor.anchor_in_year.Goals as goal
use Rattle.dating.proofs.anchor.anchor_in_year.Goals.{Joined-anchor-eq46, else-anchor-eq46, then-anchor-eq46}

may : (c : Joined-anchor-eq46) → MayDate c.args.anchor.now c.if-anchor-eq46.end
may c = record {
  long = c.if-anchor-lt3.false;
  low = c.if-anchor-gt57.false;
  early = elim c.if-anchor-eq46.branch [ then-anchor-eq46 w ↦ omega arith | else-anchor-eq46 w ↦ omega arith ];
  place = elim c.if-anchor-eq46.branch [
    | then-anchor-eq46 w ↦ inl (w.if-anchor-eq46.true, w.end-is)
    | else-anchor-eq46 w ↦ inr (w.if-anchor-eq46.false, w.end-is)
  ];
}

pub returns-then-anchor-lt3 : goal.returns-then-anchor-lt3
returns-then-anchor-lt3 c = too_short _ _ c.if-anchor-lt3.true

pub returns-in_default : goal.returns-in_default
returns-in_default c = no_feast _ _ c.in_default.ensures c.if-anchor-gt57.true

pub returns-then-anchor-gt57 : goal.returns-then-anchor-gt57
returns-then-anchor-gt57 c = rw c.feast_in_year.ensures (feast_told _ _ _ c.in-Some.ensures)

pub returns-then-anchor-end-ne46 : goal.returns-then-anchor-end-ne46
returns-then-anchor-end-ne46 c = no_point _ _ _ (may (goal.at.returns-then-anchor-end-ne46 c).Joined-anchor-eq46) c.if-anchor-end-ne46.true

pub returns-in_default-short_number_of : goal.returns-in_default-short_number_of
returns-in_default-short_number_of c =
    no_day _ _ _ (may (goal.at.returns-in_default-short_number_of c).Joined-anchor-eq46) c.in_default-short_number_of.ensures

pub returns-in_default-short_number_of-2 : goal.returns-in_default-short_number_of-2
returns-in_default-short_number_of-2 c =
    no_month _ _ _ (may (goal.at.returns-in_default-short_number_of-2 c).Joined-anchor-eq46) (rw (rest _ _) at c.in_default-short_number_of-2.ensures)

pub returns : goal.returns
returns c =
    rw c.day_in_year.ensures
    (date_told _ _ _ (may (goal.at.returns c).Joined-anchor-eq46) _ _ c.if-anchor-end-ne46.false c.in-Some-short_number_of.ensures
    (rw (rest _ _) at c.in-Some-short_number_of-2.ensures))
