-- Golden numbers, and epacts by the calendar that Easter goes by, for all years from 1 on.
use Rattle.std.specs.Prelude.{Bool, false, ◌&&◌, ℕ, ◌+◌, ◌-◌, ◌*◌, ◌/◌, ◌%◌, eqb, ltb, ℤ, pos, negsuc, ◌+ℤ◌, ◌-ℤ◌}
use Rattle.calendar.specs.declared.style.Calendar.TheVariants.{Julian, Gregorian}
use Rattle.calendar.specs.declared.style.Calendar.{Calendar}

-- "the year's remainder by 19, plus 1"
unfoldable pub golden : ℕ → ℕ
golden y = y % 19 + 1

-- "with C the year's whole hundreds"
abbrev pub hundreds : ℕ → ℕ
hundreds y = y / 100

-- "the remainder by 30, from 0 to 29", of a negative sum too; "Zero is the star, a value like any other"
abbrev pub by30 : ℤ → ℕ
by30 (pos n) = n % 30
by30 (negsuc n) = 29 - n % 30

-- "11 times (golden number less 1), plus 8, plus the whole part of C/4, less C, plus the whole part of (8C+13)/25"
abbrev pub gregorian_sum : ℕ → ℕ → ℤ
gregorian_sum g c = pos (11 * (g - 1) + 8 + c / 4) -ℤ pos c +ℤ pos ((8 * c + 13) / 25)

-- "Julian epact: 11 times the golden number, remainder by 30"
unfoldable pub epact : Calendar → ℕ → ℕ
epact Julian y = 11 * golden y % 30
epact Gregorian y = by30 (gregorian_sum (golden y) (hundreds y))

-- "25 is Arabic when the golden number is above 11, otherwise Roman XXV"; "no in J and for every other epact"
unfoldable pub arabic : Calendar → ℕ → Bool
arabic Julian y = false
arabic Gregorian y = eqb (epact Gregorian y) 25 && ltb 11 (golden y)
