use mathlib.Core.Path.{◌≡◌, refl, sym, ◌∙◌}
use Prim.Native.Nat.{ℕ, ◌+◌, ◌-◌, ◌*◌, ◌%◌}
use native.Mathlib.Omega.{arith}
use Rattle.words.proofs.wrapper.Laws.{Leads, not_these, these_words}
use Rattle.std.specs.Prelude.{None}
use Rattle.words.specs.Steps.{four, wrapper_middle}
use Rattle.words.proofs.wrapper.lead_by.Goals as goal
use Rattle.words.proofs.wrapper.lead_by.Goals.{After-outer_in}

-- the first and the last four bytes as one number
ends : (c : After-outer_in)
    → let a = c.args in
    c.joined.result ≡ four a.phrase.now 0 + 4294967296 * four a.phrase.now (a.count - 4)
ends c = c.joined.ensures ∙ rw (c.four_at.ensures, c.four_at-2.ensures)

-- where one of the two comparisons fails
fails : (c : After-outer_in) {m : ℕ}
    → let s = c.args.phrase.now in
    m ≡ wrapper_middle c.slot-slot.result
    → (c.joined.result ≡ c.outer_in.result → m % 4294967296 ≡ four s (3 + c.if_counted-skip.result) → ⊥)
    → Leads s None
fails c hm no_match =
    not_these c.args.phrase.now c.requires.0 c.if_counted-skip.ensures c.slot-slot.ensures c.outer_in.ensures hm
    (λ eo em. no_match (ends c ∙ eo) em)

pub returns-then-joined-outer_in : goal.returns-then-joined-outer_in
returns-then-joined-outer_in c = fails (goal.at.returns-then-joined-outer_in c).After-outer_in refl (λ eo em. c.if-joined-outer_in.true eo)

pub returns-then-told-from : goal.returns-then-told-from
returns-then-told-from c =
    fails (goal.at.returns-then-told-from c).After-outer_in c.middle_in-told.ensures
    (λ eo em. c.if-told-from.true (em ∙ sym (c.from.ensures ∙ c.four_at-3.ensures)))

pub returns : goal.returns
returns c =
    rw c.numbered_wrapper.ensures
    (these_words c.args.phrase.now c.requires.0 c.if_counted-skip.ensures c.slot-slot.ensures c.outer_in.ensures c.middle_in-told.ensures
    (λ i. omega (arith, c.type_inv.phrase i)) c.requires.1 (sym (ends (goal.at.returns c).After-outer_in) ∙ c.if-joined-outer_in.false)
    (c.if-told-from.false ∙ c.from.ensures ∙ c.four_at-3.ensures) c.if_counted.ensures)
