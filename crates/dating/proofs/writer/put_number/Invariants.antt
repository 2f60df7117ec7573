use mathlib.Core.Path.{◌≡◌}
use Prim.Native.Nat.{◌+◌, ◌<◌, ◌≤◌}
use lib.ListN.{length}
use lib.Seq.{sets}
use Rattle.words.specs.Numeral.{numeral}
use Rattle.dating.proofs.writer.put_number.Given as goal

abbrev pub invariant-loop-place : goal.invariant-loop-place
invariant-loop-place l =
    (l.rest ≤ l.number) × (l.place ≡ l.at + length (numeral l.rest)) × (l.place < length l.buffer)
    × (length l.buffer ≡ length l.initial.buffer) × (sets l.buffer l.at (numeral l.rest) ≡ sets l.initial.buffer l.at (numeral l.number))
