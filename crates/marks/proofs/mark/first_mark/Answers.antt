use Prim.Native.Char.{code}
use native.Mathlib.Omega.{arith}
use Rattle.marks.proofs.mark.Laws.{sees_two, sees_other, scan_first, at_opening, at_closing, at_other, found, not_found}
use Rattle.marks.proofs.mark.first_mark.Goals as goal

pub loop-i-init : goal.loop-i-init
loop-i-init c = scan_first _

pub loop-i-preserved-in-91-first_chunk-offset1 : goal.loop-i-preserved-in-91-first_chunk-offset1
loop-i-preserved-in-91-first_chunk-offset1 c =
    at_opening c.loop-i.invariant (sees_two (code "[") c.args.text.now c.loop-i.i c.in-Some-eq91.ensures.cases (omega arith) (omega arith))

pub returns-in-Some : goal.returns-in-Some
returns-in-Some c =
    found c.loop-i.invariant _ c.in-Some.is (sees_two (code "]") c.args.text.now c.loop-i.i c.in-Some-eq93.ensures.cases (omega arith) (omega arith))

pub loop-i-preserved-in-93-first_chunk-offset1-2 : goal.loop-i-preserved-in-93-first_chunk-offset1-2
loop-i-preserved-in-93-first_chunk-offset1-2 c =
    at_closing c.loop-i.invariant c.in_default-start.is
    (sees_two (code "]") c.args.text.now c.loop-i.i c.in-Some-eq93.ensures.cases (omega arith) (omega arith))

pub loop-i-preserved : goal.loop-i-preserved
loop-i-preserved c =
    let s = c.args.text.now in
    let i = c.loop-i.i in
    at_other c.loop-i.invariant
    (sees_other (code "[") s i _ c.first_chunk.ensures.cases (omega arith) (λ y e h k. grind arith))
    (sees_other (code "]") s i _ c.first_chunk.ensures.cases (omega arith) (λ y e h k. grind arith))

pub returns : goal.returns
returns c = not_found c.loop-i.invariant c.loop-i-test.false
