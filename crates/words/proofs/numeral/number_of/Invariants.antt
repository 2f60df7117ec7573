use Prim.Native.Nat.{◌+◌}
use Rattle.words.proofs.numeral.Laws.{Sofar}
use Rattle.words.proofs.numeral.number_of.Given as goal

abbrev pub invariant-loop-byte : goal.invariant-loop-byte
invariant-loop-byte l = Sofar l.text l.n (l.byte-index + 1)
