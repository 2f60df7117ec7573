-- What a private function of the calendar answers. No public promise is stated by this.
use Rattle.std.specs.Prelude.{ℕ, ◌+◌}
use Rattle.calendar.specs.declared.weekday.Side.TheVariants.{After, Before}
use Rattle.calendar.specs.declared.weekday.Side.{Side}
use Rattle.calendar.specs.declared.weekday.Start.TheVariants.{Counted, Uncounted}
use Rattle.calendar.specs.declared.weekday.Start.{Start}

-- the latest of the seven days on a side of n that are looked at, with 7 added, so that none lies before 0
abbrev pub latest_of_seven : Start → Side → ℕ → ℕ
latest_of_seven Counted After n = n + 13
latest_of_seven Uncounted After n = n + 14
latest_of_seven Counted Before n = n + 7
latest_of_seven Uncounted Before n = n + 6
