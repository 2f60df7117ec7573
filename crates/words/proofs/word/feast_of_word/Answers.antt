use native.Mathlib.Omega.{arith}
use Rattle.words.proofs.word.Laws.{no_length, told_word}
use Rattle.words.proofs.word.feast_of_word.Goals as goal

pub returns-in_default : goal.returns-in_default
returns-in_default c = no_length _ (λ l. omega arith)

pub returns-then-length-gt12 : goal.returns-then-length-gt12
returns-then-length-gt12 c = no_length _ (λ l. omega arith)

pub returns : goal.returns
returns c =
    let slot = c.slot-slot.ensures in
    let o = rw slot at c.outer_in.ensures in
    let i = rw slot at c.inner_in-inner.ensures in
    rw c.then_some.ensures (told_word c.args.word.now (λ i. omega (arith, c.type_inv.word i)) (omega arith) o i c.is_word.ensures)
