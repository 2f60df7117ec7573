use Prim.Native.Nat.{◌+◌}
use native.Mathlib.Omega.{arith}
use Rattle.mark_answers.proofs.transcript.Laws.{Fields, no_field, next_field, answer_put}
use Rattle.mark_answers.specs.Transcript.{mark_fields}
use Rattle.mark_answers.proofs.transcript.put_mark.Goals as goal
use Rattle.mark_answers.proofs.transcript.put_mark.Goals.{After-put_field-4}

-- the four fields
fields : (c : After-put_field-4)
    → let a = c.args in
    Fields a.output.now a.at 4 (mark_fields a.mark.start a.mark.end a.mark.start_character a.mark.end_character) c.put_field-4.new.buffer
    (a.at + c.put_field.result + c.put_field-2.result + c.put_field-3.result + c.put_field-4.result)
fields c =
    let few = c.requires.0 in
    let room = c.requires.1 in
    let one = next_field (no_field c.args.output.now c.args.at) room _ _ _ (omega arith) few.start_few c.put_field.ensures in
    let two = next_field one room _ _ _ (omega arith) few.end_few c.put_field-2.ensures in
    let three = next_field two room _ _ _ (omega arith) few.start_character_few c.put_field-3.ensures in
    next_field three room _ _ _ (omega arith) few.end_character_few c.put_field-4.ensures

pub overflow_add-at : goal.overflow_add-at
overflow_add-at c =
    let few = c.requires.0 in
    let room = c.requires.1 in
    let one = next_field (no_field c.args.output.now c.args.at) room _ _ _ (omega arith) few.start_few c.put_field.ensures in
    omega (arith, one, room)

pub overflow_add-at-2 : goal.overflow_add-at-2
overflow_add-at-2 c =
    let few = c.requires.0 in
    let room = c.requires.1 in
    let one = next_field (no_field c.args.output.now c.args.at) room _ _ _ (omega arith) few.start_few c.put_field.ensures in
    let two = next_field one room _ _ _ (omega arith) few.end_few c.put_field-2.ensures in
    omega (arith, two, room)

pub overflow_add-at-3 : goal.overflow_add-at-3
overflow_add-at-3 c =
    let few = c.requires.0 in
    let room = c.requires.1 in
    let one = next_field (no_field c.args.output.now c.args.at) room _ _ _ (omega arith) few.start_few c.put_field.ensures in
    let two = next_field one room _ _ _ (omega arith) few.end_few c.put_field-2.ensures in
    let three = next_field two room _ _ _ (omega arith) few.start_character_few c.put_field-3.ensures in
    omega (arith, three, room)

pub overflow_add-at-4 : goal.overflow_add-at-4
overflow_add-at-4 c = omega (arith, fields (goal.at.overflow_add-at-4 c).After-put_field-4, c.requires.1)

pub overflow_add-result : goal.overflow_add-result
overflow_add-result c =
    let put = answer_put _ _ _ _ (fields (goal.at.overflow_add-result c).After-put_field-4) c.requires.1 c.put_answer.ensures in
    omega (arith, put.short, c.requires.1)

pub returns : goal.returns
returns c = answer_put _ _ _ _ (fields (goal.at.returns c).After-put_field-4) c.requires.1 c.put_answer.ensures
