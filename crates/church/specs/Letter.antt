-- Sunday letters, by the calendar that dates go by.
use Rattle.std.specs.Prelude.{Bool, true, false, ◌&&◌, ◌||◌, ◌≡◌, ℕ, pred, ◌+◌, ◌%◌, eqb, leb}
use Prim.Native.Char.{code}
use Rattle.calendar.specs.Date.{days_of_months, is_date, day_number}
use Rattle.calendar.specs.Weekday.{weekday, sunday}
use Rattle.calendar.specs.declared.style.Calendar.{Calendar}

-- "1 January is A, then B to G over and over": the byte of the letter that comes n days after A
abbrev pub letter_after : ℕ → ℕ
letter_after n = code "A" + n % 7

-- the letter of a date other than 29 February, which takes "no letter of its own": days are counted as in a common year
abbrev pub letter_of : ℕ → ℕ → ℕ
letter_of m d = letter_after (days_of_months false (pred m) + pred d)

-- "the first up to 28 February, the second from 1 March"
pub data Part : Type 0 where
  first : Part
  second : Part

abbrev pub in_part : Part → ℕ → ℕ → Bool
in_part first m d = eqb m 1 || eqb m 2 && leb d 28
in_part second m d = leb 3 m

-- "The letter is the one on which Sundays fall.": l is the letter of every Sunday in that part of the year
abbrev pub SundayLetter : Calendar → ℕ → Part → ℕ → Type 0
SundayLetter c y p l =
    (m d : ℕ) → is_date c y m d ≡ true → in_part p m d ≡ true → weekday (day_number c y m d) ≡ sunday → letter_of m d ≡ l
