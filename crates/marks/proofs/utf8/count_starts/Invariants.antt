use mathlib.Core.Path.{◌≡◌}
use Prim.Native.Nat.{◌+◌, ◌≤◌}
use lib.ListN.{drop}
use Rattle.marks.specs.Utf8.{starts}
use Rattle.marks.proofs.utf8.count_starts.Given as goal

abbrev pub invariant-loop-byte : goal.invariant-loop-byte
invariant-loop-byte l = (l.count ≤ l.byte-index) × (l.count + starts (drop l.byte-index l.text) ≡ starts l.text)
