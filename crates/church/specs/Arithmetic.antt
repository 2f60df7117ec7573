-- The limit by arithmetic, after source document 001, for all years from 1 on; it stands beside the month column.
use Rattle.std.specs.Prelude.{◌&&◌, cond, ℕ, ◌+◌, ◌-◌, ◌*◌, ◌/◌, ◌%◌, eqb, ltb, ℤ, pos, ◌+ℤ◌, ◌-ℤ◌}
use Rattle.church.specs.Epact.{golden, hundreds, by30}
use Rattle.calendar.specs.declared.style.Calendar.TheVariants.{Julian, Gregorian}
use Rattle.calendar.specs.declared.style.Calendar.{Calendar}

-- "b is 11 times the golden number by 30"
abbrev pub b_of : ℕ → ℕ
b_of g = 11 * g % 30

-- "Z is 3 plus C, less the whole part of C/4, less the whole part of (8C+13)/25"
abbrev pub z_of : ℕ → ℤ
z_of c = pos (3 + c) -ℤ pos (c / 4) -ℤ pos ((8 * c + 13) / 25)

-- "brought into 21 to 50 by thirties"
abbrev pub brought : ℤ → ℕ
brought n = by30 (n -ℤ pos 21) + 21

-- "then 50 becomes 49, and 49 becomes 48 when it came directly and the golden number is above 11": 49 that was 50 did not come directly
abbrev pub settled : ℕ → ℕ → ℕ
settled g n = cond (eqb n 49 && ltb 11 g) 48 (cond (eqb n 50) 49 n)

-- "the Gregorian limit is 44+Z-b", then brought and settled
abbrev pub gregorian_limit : ℕ → ℤ → ℕ → ℕ
gregorian_limit g z b = settled g (brought (pos 44 +ℤ z -ℤ pos b))

-- "The Julian limit is 47-b, or 77-b for b above 26."
abbrev pub julian_limit : ℕ → ℕ
julian_limit b = cond (ltb 26 b) (77 - b) (47 - b)

-- the limit by arithmetic, a day of March run on past 31
unfoldable pub arithmetic_limit : Calendar → ℕ → ℕ
arithmetic_limit Julian y = julian_limit (b_of (golden y))
arithmetic_limit Gregorian y = gregorian_limit (golden y) (z_of (hundreds y)) (b_of (golden y))
