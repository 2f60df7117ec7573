use Rattle.std.proofs.Common.{rules}
use Prim.Native.Nat.{◌+◌, ◌/◌, ◌%◌, ◌<◌}
use native.Mathlib.Omega.{arith}
use lib.ListN.{length, set, length-set}
use Rattle.dating.proofs.writer.Laws.{one_digit_put, two_digits_put}
use Rattle.words.specs.Numeral.{digit, field}
use Rattle.dating.specs.Steps.{Put}
use Rattle.dating.proofs.writer.put_short.Goals as goal
use Rattle.dating.proofs.writer.put_short.Goals.{Joined-number-lt10, else-number-lt10, then-number-lt10}

-- the digits and the byte behind them are put
put : (c : Joined-number-lt10)
    → let a = c.args in
    let b = set (set a.buffer.now a.at (digit (a.number / 10))) c.if-number-lt10.last (digit (a.number % 10)) in
    Put a.buffer.now a.at (field a.number a.behind) (set b (c.if-number-lt10.last + 1) a.behind) (c.if-number-lt10.last + 2)
put c =
    elim c.if-number-lt10.branch [
      | then-number-lt10 w ↦ rw w.last-is (one_digit_put _ _ _ _ w.if-number-lt10.true)
      | else-number-lt10 w ↦ rw w.last-is (two_digits_put _ _ _ _ w.if-number-lt10.false c.requires.0)
    ]

-- they fit
fits : (c : Joined-number-lt10) → c.if-number-lt10.last + 1 < length c.args.buffer.now
fits c = omega (arith, (put c).behind, c.requires.1)

pub bounds-buffer-last : goal.bounds-buffer-last
bounds-buffer-last c =
    let a = c.args in
    omega (arith, fits (goal.at.bounds-buffer-last c).Joined-number-lt10, length-set a.buffer.now a.at (digit (a.number / 10)))

pub bounds-buffer-last-2 : goal.bounds-buffer-last-2
bounds-buffer-last-2 c = search (rules, fits (goal.at.bounds-buffer-last-2 c).Joined-number-lt10)

pub returns : goal.returns
returns c = put (goal.at.returns c).Joined-number-lt10
