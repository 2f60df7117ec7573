-- The month column of the calendar that Easter goes by. "March days run on past 31, so 36 is 5 April."
use Rattle.std.specs.Prelude.{Bool, ◌&&◌, ◌||◌, not, ℕ, suc, ◌-◌, eqb}
use Rattle.calendar.specs.Range.{between}
use Rattle.calendar.specs.Search.{first_of}
use Rattle.church.specs.Epact.{epact, arabic}
use Rattle.calendar.specs.declared.style.Calendar.TheVariants.{Julian, Gregorian}
use Rattle.calendar.specs.declared.style.Calendar.{Calendar}

-- whether the epact e stands at the day d; a is whether it is the Arabic 25
-- "J: epacts 1 to 26 stand at 34 less the epact, 28 and 29 at 64 less it. Others don't occur."
-- "G: epacts 0 to 23 stand at 31 less the epact; 26 to 29 at 61 less it; XXV and XXIV both at 36; Arabic 25 at 35, beside XXVI."
unfoldable pub stands : Calendar → ℕ → Bool → ℕ → Bool
stands Julian e a d =
    between 1 e 26 && eqb d (34 - e)
    || between 28 e 29 && eqb d (64 - e)
stands Gregorian e a d =
    between 0 e 23 && eqb d (31 - e)
    || between 26 e 29 && eqb d (61 - e)
    || eqb e 25 && not a && eqb d 36
    || eqb e 24 && eqb d 36
    || eqb e 25 && a && eqb d 35

-- "one walks from 8 March to 5 April until the day's epact agrees"
abbrev pub walk : Calendar → ℕ → Bool → ℕ
walk c e a = first_of suc (stands c e a) 29 8

-- "Luna I is found" at the year's epact
unfoldable pub luna : Calendar → ℕ → ℕ
luna c y = walk c (epact c y) (arabic c y)
