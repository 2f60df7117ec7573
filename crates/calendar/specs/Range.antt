-- Ranges of numbers.
use Rattle.std.specs.Prelude.{Bool, ◌&&◌, ℕ, leb}

-- n lies from low to high, both ends counted in
unfoldable pub between : ℕ → ℕ → ℕ → Bool
between low n high = leb low n && leb n high
