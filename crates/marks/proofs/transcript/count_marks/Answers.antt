use mathlib.Core.List.{map, append-nil}
use mathlib.Core.Path.{sym, ◌∙◌, ap}
use lib.ListN.{length, length-map}
use Rattle.marks.proofs.mark.Marks.{has_marks}
use Rattle.marks.proofs.walk.Laws.{ahead_first, walk_on, walk_last}
use Rattle.marks.specs.Transcript.{mark_of}
use Rattle.marks.proofs.transcript.count_marks.Goals as goal

pub returns : goal.returns
returns c =
    let all = has_marks c.args.text.now in
    let (steps, (u, (t, led, none)), count) = c.count.ensures.ran in
    let past = walk_on steps (ahead_first all.1.0) (rw c.marks_of.ensures at led) in
    let whole = past.whole ∙ rw (walk_last past.ahead none, append-nil (map mark_of steps)) in
    (all.0, (all.1.0, count ∙ sym (ap length whole ∙ length-map steps mark_of)))
