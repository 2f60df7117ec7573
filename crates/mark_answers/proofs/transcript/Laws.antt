-- What is told of marks, put one behind the other.
use mathlib.Core.List.{List, [], ◌∷◌, ◌++◌, map, append-nil, append_assoc}
use mathlib.Core.Path.{◌≡◌, refl, sym, ◌∙◌, ap}
use Prim.Native.Nat.{ℕ, suc, ◌+◌, ◌-◌, ◌*◌, ◌<◌, ◌≤◌}
use native.Mathlib.Omega.{arith}
use lib.ListN.{length, take, drop, length-append, length-drop, length-map, drop_of_length-le}
use lib.Seq.{append_snoc, drop_at, sets, length-sets}
use borrow.Author.Tests.{le-leb}
use Rattle.std.proofs.Common.{Some, None}
use Rattle.std.specs.Iterator.{SkipsThenYields}
use Rattle.places.proofs.Bytes.{sets_both, sets_start}
use Rattle.words.proofs.numeral.Laws.{five_digits}
use Rattle.dating.proofs.answer.Laws.{answer_length, refused_length}
use Rattle.dating.proofs.writer.Laws.{field_length}
use Rattle.marks.proofs.mark.Marks.{has_marks}
use Rattle.marks.proofs.walk.Laws.{Found, found_characters, Ahead, ahead_first, walk_mark, walk_next, walk_last, walk_on}
use Rattle.marks.proofs.transcript.Laws.{part}
use Rattle.calendar.specs.Refusal.{refusal_number}
use Rattle.words.specs.Numeral.{field}
use Rattle.words.specs.Text.{space}
use Rattle.dating.specs.Answer.{line_feed, refused_text, IsAnswer, PutsText, PutsField, PutsAnswer}
use Rattle.marks.specs.Mark.{AreMarks}
use Rattle.marks.specs.Transcript.{mark_of}
use Rattle.marks.specs.Utf8.{Spells, IsUtf8}
use Rattle.marks.specs.Walk.{Walks}
use Rattle.mark_answers.specs.Steps.{PutsMark}
use Rattle.mark_answers.specs.Transcript.{mark_fields, TellsFitting, all_told, full, next, TellsFrom, TellsNone}
use Rattle.calendar.specs.declared.refusal.Refusal.{Refusal}
use Rattle.marks.specs.declared.mark.Mark.{Mark}
use Rattle.marks.specs.declared.transcript.NextMark.{NextMark}
use Rattle.mark_answers.specs.declared.transcript.Told.{Told}

-- ---- a mark
-- so many fields, the bytes w, are put at the place i, and the place behind them is reached
pub record Fields (before : List ℕ) (i k : ℕ) (w after : List ℕ) (place : ℕ) : Type 0 where
  pub bytes : after ≡ sets before i w
  pub behind : place ≡ i + length w
  pub few : length w ≤ k * 6

pub no_field : (before : List ℕ) (i : ℕ) → Fields before i 0 [] before i
no_field before i = record { bytes = refl; behind = omega arith; few = omega arith }

module _ {before : List ℕ} {i k : ℕ} {w mid : List ℕ} {place : ℕ} (p : Fields before i k w mid place) (room : i + 49 ≤ length before) where
  pub same_room : length mid ≡ length before
  same_room = ap length p.bytes ∙ length-sets before i w

  pub next_field : (after : List ℕ) (r n : ℕ) → k ≤ 3 → n ≤ 65536 → PutsField n space place mid after r
      → Fields before i (k + 1) (w ++ field n space) after (place + r)
  next_field after r n few small h = go (rw (le-leb (place + 21) (length mid) (omega (arith, same_room, p.behind, p.few))) at h)
    where
      go : PutsText place mid after r (field n space) → Fields before i (k + 1) (w ++ field n space) after (place + r)
      go (count, bytes) =
          let all = length-append w (field n space) in
          let digits = five_digits n (omega arith) in
          let long = field_length n space in
          record {
            bytes = bytes ∙ rw (p.bytes, p.behind) (sets_both w (field n space) before i);
            behind = omega (arith, p.behind);
            few = omega (arith, p.few);
          }

-- the answer is put behind the four fields
pub answer_put : {before : List ℕ} {i : ℕ} {mid : List ℕ} {place : ℕ} (s : List ℕ) (m : NextMark) (after : List ℕ) (r : ℕ)
    → Fields before i 4 (mark_fields m.start m.end m.start_character m.end_character) mid place → i + 49 ≤ length before
    → PutsAnswer s place mid after r → PutsMark s m i before after (place + r)
answer_put {before} {i} {mid} {place} s m after r p room h =
    go (rw (le-leb (place + 25) (length mid) (omega (arith, same_room p room, p.behind, p.few))) at h)
  where
    go : (a : List ℕ) × (IsAnswer s a × PutsText place mid after r a) → PutsMark s m i before after (place + r)
    go (a, (is_answer, (count, bytes))) =
        let w = mark_fields m.start m.end m.start_character m.end_character in
        let all = length-append w a in
        let few = (answer_length s a is_answer).0 in
        record {
          answer = a;
          is_answer = is_answer;
          behind = omega (arith, p.behind);
          bytes = bytes ∙ rw (p.bytes, p.behind) (sets_both w a before i);
          short = omega (arith, p.behind, p.few);
        }

-- ---- the marks that are passed over
-- after n marks of those ahead comes the mark m, and then the others
record Passed (s : List ℕ) (n : ℕ) (ms : List Mark) (m : NextMark) (q : List ℕ × ℕ) : Type 0 where
  found : Found s m
  rest : List Mark
  whole : drop n ms ≡ mark_of m ∷ rest
  ahead : Ahead s q rest

module _ {s : List ℕ} {p q : List ℕ × ℕ} {n : ℕ} {ms : List Mark} (w : Ahead s p ms) where
  pass_next : {m : NextMark} → SkipsThenYields Walks p n (Some m) q → Passed s n ms m q
  pass_next (steps, (t, led, step), count) =
      let past = walk_on steps w led in
      let one = walk_next past.ahead step in
      record {
        found = walk_mark past.ahead step;
        rest = one.rest;
        whole = ap (drop n) past.whole ∙ drop_at (map mark_of steps) past.rest n (length-map steps mark_of ∙ count) ∙ one.whole;
        ahead = one.ahead;
      }

  pass_last : SkipsThenYields Walks p n None q → drop n ms ≡ []
  pass_last (steps, (t, led, none), few) =
      let past = walk_on steps w led in
      let whole : ms ≡ map mark_of steps = past.whole ∙ rw (walk_last past.ahead none, append-nil (map mark_of steps)) in
      drop_of_length-le ms (omega (arith, ap length whole ∙ length-map steps mark_of))

-- ---- the marks that are told
-- what has no room is not told
nothing_fits : (s cs : List ℕ) (room : ℕ) (ms : List Mark) → room < 49 → TellsFitting s cs room ms [] 0
nothing_fits s cs room [] h = all_told
nothing_fits s cs room (m ∷ ms) h = full h

-- the marks after the first so many and before the place p are told, where n are still to be passed over
pub record Telling (s : List ℕ) (skip : ℕ) (before : List ℕ) (written told : ℕ) (p : List ℕ × ℕ) (n : ℕ) (after : List ℕ) : Type 0 where
  pub points : List ℕ
  pub spells : Spells points s
  pub marks : List Mark
  pub are_marks : AreMarks s marks
  pub few : length marks * 4 ≤ length s
  pub done : List Mark
  pub left : List Mark
  pub ahead : Ahead s p left
  pub all : drop skip marks ≡ done ++ drop n left
  pub text : List ℕ
  -- what fits after them is told with them
  pub fits : (more : List Mark) (u : List ℕ) (k : ℕ) → TellsFitting s points (length before - written) more u k
      → TellsFitting s points (length before) (done ++ more) (text ++ u) (told + k)
  pub count : told ≡ length done
  pub size : written ≡ length text
  pub inside : written ≤ length before
  pub bytes : after ≡ sets before 0 text

pub tell_first : {s : List ℕ} (skip : ℕ) (before : List ℕ) → IsUtf8 s → Telling s skip before 0 0 (s, 0) skip before
tell_first {s} skip before u =
    let all = has_marks s in
    record {
      points = u.0;
      spells = u.1;
      marks = all.0;
      are_marks = all.1.0;
      few = all.1.1;
      done = [];
      left = all.0;
      ahead = ahead_first all.1.0;
      all = refl;
      text = [];
      fits = λ more v k h.
          let e : length before - 0 ≡ length before = omega arith in
          let f : 0 + k ≡ k = omega arith in
          rw f (rw e at h);
      count = refl;
      size = refl;
      inside = omega arith;
      bytes = refl;
    }

module _ {s : List ℕ} {skip : ℕ} {before : List ℕ} {written told : ℕ} {p : List ℕ × ℕ} {n : ℕ} {after : List ℕ}
    (t : Telling s skip before written told p n after) where
  pub tell_length : length after ≡ length before
  tell_length = ap length t.bytes ∙ length-sets before 0 t.text

  pub tell_few : told * 4 ≤ length s
  tell_few =
      let all = ap length t.all ∙ length-append t.done (drop n t.left) in
      omega (arith, t.count, t.few, length-drop skip t.marks)

  abbrev result : Told
  result = record { written = written; marks = told }

  -- no more is told of the marks ahead
  tell_stop : (more : List Mark) → drop skip t.marks ≡ t.done ++ more → TellsFitting s t.points (length before - written) more [] 0
      → TellsFrom s skip before after result
  tell_stop more whole stop =
      let e : told + 0 ≡ told = omega arith in
      let room : length t.text ≤ length before = omega (arith, t.size, t.inside) in
      record {
        characters = t.points;
        spells = t.spells;
        marks = t.marks;
        are_marks = t.are_marks;
        text = t.text;
        fits = rw whole (rw (append-nil t.text, e) at (t.fits more [] 0 stop));
        room = room;
        count = t.size;
        bytes = t.bytes ∙ sets_start t.text before room;
      }

  pub tell_full : length before - written < 49 → TellsFrom s skip before after result
  tell_full room = tell_stop (drop n t.left) t.all (nothing_fits s t.points (length before - written) (drop n t.left) room)

  module _ {q : List ℕ × ℕ} where
    pub tell_last : SkipsThenYields Walks p n None q → TellsFrom s skip before after result
    tell_last h = tell_stop [] (t.all ∙ ap (λ (ms : List Mark). t.done ++ ms) (pass_last t.ahead h)) all_told

    module _ {m : NextMark} (h : SkipsThenYields Walks p n (Some m) q) where
      passed : Passed s n t.left m q
      passed = pass_next t.ahead h

      pub tell_mark : Found s m
      tell_mark = passed.found

      pub tell_next : (k : ℕ) (now : List ℕ) (r : ℕ) → k ≡ 0 → 49 ≤ length before - written
          → PutsMark (take (m.end - m.start) (drop m.start s)) m written after now r → Telling s skip before r (told + 1) q k now
      tell_next k now r none room put =
          let text = mark_fields m.start m.end m.start_character m.end_character ++ put.answer in
          let line = rw (part m.start m.end s tell_mark.forward) at put.is_answer in
          let characters = found_characters t.spells tell_mark in
          let total = length-append t.text text in
          let count = length-append t.done (mark_of m ∷ []) in
          let first : written ≡ 0 + length t.text = omega (arith, t.size) in
          record {
            points = t.points;
            spells = t.spells;
            marks = t.marks;
            are_marks = t.are_marks;
            few = t.few;
            done = t.done ++ mark_of m ∷ [];
            left = passed.rest;
            ahead = passed.ahead;
            all = t.all ∙ ap (λ (ms : List Mark). t.done ++ ms) passed.whole ∙ rw none (sym (append_snoc t.done (mark_of m) passed.rest));
            text = t.text ++ text;
            fits = λ more u j fit.
                let left : length before - r ≡ length before - written - length text = omega (arith, put.behind) in
                let one_more : told + 1 + j ≡ told + suc j = omega arith in
                rw (append_snoc t.done (mark_of m) more, append_assoc t.text text u, one_more)
                (t.fits (mark_of m ∷ more) (text ++ u) (suc j) (next {a = text} room (put.answer, (line, rw (characters.0, characters.1))) (rw left at fit)));
            count = omega (arith, t.count);
            size = omega (arith, t.size, put.behind);
            inside = omega (arith, put.short);
            bytes = put.bytes ∙ rw (t.bytes, first) (sets_both t.text text before 0);
          }

-- ---- a transcript that is refused
pub refused_put : (x : Refusal) (before after : List ℕ) (r : ℕ) → 21 ≤ length before → PutsField (refusal_number x) line_feed 0 before after r
    → TellsNone x before after (record { written = r; marks = 0 })
refused_put x before after r room h = go (rw (le-leb (0 + 21) (length before) (omega arith)) at h)
  where
    go : PutsText 0 before after r (refused_text x) → TellsNone x before after (record { written = r; marks = 0 })
    go (count, bytes) =
        let two = refused_length x in
        let fits : length (refused_text x) ≤ length before = omega arith in
        record { none = refl; room = fits; count = count; bytes = bytes ∙ sets_start (refused_text x) before fits }
