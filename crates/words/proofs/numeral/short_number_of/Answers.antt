use native.Mathlib.Omega.{arith}
use Rattle.words.proofs.numeral.Laws.{no_numeral, too_many, first_digit, begun, longer, short}
use Rattle.words.proofs.numeral.short_number_of.Goals as goal
use Rattle.words.proofs.numeral.short_number_of.Goals.{in-len1+in_ok-n-in-len1, in-len2+in_ok-first_digit-in-len2+in_ok-n-in-len2}

pub returns-in_err-n-in-len1 : goal.returns-in_err-n-in-len1
returns-in_err-n-in-len1 c = rw c.from_residual.ensures (no_numeral _ _ (λ l. c.in_err-n-in-len1.ensures (first_digit l)))

pub returns-in_err-first_digit-in-len2 : goal.returns-in_err-first_digit-in-len2
returns-in_err-first_digit-in-len2 c =
    rw c.from_residual-in_err-first_digit-in-len2.ensures (no_numeral _ _ (λ l. c.in_err-first_digit-in-len2.ensures (first_digit l)))

pub returns-in_err-n-in-len2 : goal.returns-in_err-n-in-len2
returns-in_err-n-in-len2 c =
    rw c.from_residual-in_err-n-in-len2.ensures
    (no_numeral _ _ (λ l. c.in_err-n-in-len2.ensures (l.digits 1 (omega (arith, c.in-len2.len_at_least)))))

pub returns-in_default : goal.returns-in_default
returns-in_default c = no_numeral _ _ (λ l. omega (arith, l.some))

pub returns-in_default-2 : goal.returns-in_default-2
returns-in_default-2 c = too_many _ _ (omega arith)

pub returns : goal.returns
returns c =
    rw c.then_some.ensures
    (elim c.if-text-lt2.branch [
      | in-len1+in_ok-n-in-len1 w ↦
          let some = w.in-len1.len_at_least in
          let few = w.in-len1.len_below in
          let one = begun c.args.text.now some (omega arith) w.in_ok-n-in-len1.ensures in
          short one (omega arith) (omega (arith, c.from-n.ensures, w.n-is)) (omega (arith, w.in_ok-n-in-len1.ensures)) _
      | in-len2+in_ok-first_digit-in-len2+in_ok-n-in-len2 w ↦
          let some = w.in-len2.len_at_least in
          let few = w.in-len2.len_below in
          let one = begun c.args.text.now (omega arith) (omega arith) w.in_ok-first_digit-in-len2.ensures in
          let two = longer one (omega arith) w.in_ok-n-in-len2.ensures in
          short two (omega arith) (omega (arith, c.from-n.ensures, w.n-is)) (omega (arith, w.in_ok-first_digit-in-len2.ensures, w.in_ok-n-in-len2.ensures)) _
    ])
