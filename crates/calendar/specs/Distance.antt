-- Signed distances.
use Rattle.std.specs.Prelude.{ℕ, ℤ, pos, ◌-ℤ◌}
use Rattle.std.specs.Prelude.{Result, Ok, Err}
use Rattle.calendar.specs.declared.refusal.Refusal.{Refusal}

-- "The signed distance is the second day number less the first"
abbrev pub distance : ℕ → ℕ → ℤ
distance a b = pos b -ℤ pos a

-- "If both dates of a distance are bad, the first date's refusal is given"
abbrev pub distance_of_days : Result ℕ Refusal → Result ℕ Refusal → Result ℤ Refusal
distance_of_days (Ok a) (Ok b) = Ok (distance a b)
distance_of_days (Ok a) (Err x) = Err x
distance_of_days (Err x) q = Err x
