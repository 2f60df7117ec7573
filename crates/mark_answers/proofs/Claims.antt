-- What holds of the calls for a transcript beyond their contract.
use mathlib.Core.List.{List, ◌++◌, append_assoc}
use mathlib.Core.Logic.{inl, inr, ⊎_elim}
use mathlib.Core.Path.{◌≡◌, refl, sym, ◌∙◌, ap, ap₂}
use Prim.Native.Nat.{ℕ, suc, ◌+◌, ◌<◌, ◌≤◌}
use native.Mathlib.Omega.{arith}
use lib.ListN.{length, take, drop, length-append, length-drop}
use lib.Seq.{take_at, drop-drop}
use Rattle.dating.proofs.Claims.{one_text}
use Rattle.marks.proofs.Claims.{one_list, both_checked}
use Rattle.marks.proofs.mark.Marks.{has_marks, one_marks}
use Rattle.marks.proofs.transcript.Laws.{checked_on}
use Rattle.places.proofs.Turn.{one_turn}
use Rattle.words.specs.Text.{over}
use Rattle.dating.specs.Answer.{refused_text}
use Rattle.marks.specs.Mark.{AreMarks}
use Rattle.marks.specs.Transcript.{Checked, readable}
use Rattle.marks.specs.Utf8.{Spells}
use Rattle.mark_answers.specs.Transcript.{TellsMark, TellsMarks, TellsFitting, all_told, full, next, TellsFrom, TellsNone}
use Rattle.mark_answers.specs.Transcript.{AnswersMarks, Tells, IsTranscriptOutput, Run, ends, goes_on}
use Rattle.calendar.specs.declared.refusal.Refusal.{Refusal}
use Rattle.marks.specs.declared.mark.Mark.{Mark}
use Rattle.mark_answers.specs.declared.transcript.Told.{Told}

-- ---- one result
-- a mark is told by one text
one_telling : (s cs : List ℕ) (m : Mark) (t u : List ℕ) → TellsMark s cs m t → TellsMark s cs m u → t ≡ u
one_telling s cs m t u (a, (h, e)) (b, (k, f)) = e ∙ rw (one_text _ a b h k) (sym f)

one_fitting : {s cs : List ℕ} {room : ℕ} {ms : List Mark} {t u : List ℕ} {k n : ℕ} → TellsFitting s cs room ms t k → TellsFitting s cs room ms u n
    → (t ≡ u) × (k ≡ n)
one_fitting all_told all_told = (refl, refl)
one_fitting (full x) (full y) = (refl, refl)
one_fitting (full x) (next y told rest) = absurd (omega arith)
one_fitting (next x told rest) (full y) = absurd (omega arith)
one_fitting {s} {cs} (next {m = m} {a = a} x told rest) (next {a = b} y also more) =
    let same = one_telling s cs m a b told also in
    let others = one_fitting (rw same at rest) more in
    (ap₂ (λ (v w : List ℕ). v ++ w) same others.0, ap suc others.1)

one_from : {s : List ℕ} {skip : ℕ} {before after other : List ℕ} {r q : Told} → TellsFrom s skip before after r → TellsFrom s skip before other q
    → (r ≡ q) × (after ≡ other)
one_from {before = before} h k =
    let same = one_fitting (rw (one_list h.spells k.spells, one_marks h.are_marks k.are_marks) at h.fits) k.fits in
    let count = h.count ∙ ap length same.0 ∙ sym k.count in
    (λ i. record { written = count i; marks = same.1 i }, h.bytes ∙ ap (λ (t : List ℕ). over t before) same.0 ∙ sym k.bytes)

-- Any two results of the call are one: the same numbers, and the same bytes in the buffer.
pub one_result : (s : List ℕ) (skip : ℕ) (before after other : List ℕ) (r q : Told) → AnswersMarks s skip before after r
    → AnswersMarks s skip before other q → (r ≡ q) × (after ≡ other)
one_result s skip before after other r q h k =
    ⊎_elim (λ x. refused x.1.0 x.1.1) (λ both. one_from both.0 both.1)
    (both_checked (λ x. TellsNone x before after r) (λ x. TellsNone x before other q) (readable s) h k)
  where
    refused : {x : Refusal} → TellsNone x before after r → TellsNone x before other q → (r ≡ q) × (after ≡ other)
    refused f g =
        let count = f.count ∙ sym g.count in
        let none = f.none ∙ sym g.none in
        (λ i. record { written = count i; marks = none i }, f.bytes ∙ sym g.bytes)

-- ---- what is written
-- the bytes that are written are the text
text_written : {after : List ℕ} {n : ℕ} (t before : List ℕ) → n ≡ length t → after ≡ over t before → take n after ≡ t
text_written {n = n} t before count bytes = rw bytes (take_at t (drop (length t) before) n (sym count))

-- The buffer stays as long as it was, and no more is written than it has.
pub written_inside : (s : List ℕ) (skip : ℕ) (before after : List ℕ) (r : Told) → AnswersMarks s skip before after r
    → (length after ≡ length before) × (r.written ≤ length before)
written_inside s skip before after r h =
    ⊎_elim (λ x. let k = x.1.0 in inside (refused_text x.0) k.room k.count k.bytes)
    (λ both. let k = both.0 in inside k.text k.room k.count k.bytes)
    (both_checked (λ x. TellsNone x before after r) (λ x. TellsNone x before after r) (readable s) h h)
  where
    inside : (t : List ℕ) → length t ≤ length before → r.written ≡ length t → after ≡ over t before
        → (length after ≡ length before) × (r.written ≤ length before)
    inside t room count bytes =
        let all = ap length bytes ∙ length-append t (drop (length t) before) in
        let rest = length-drop (length t) before in
        (omega arith, omega arith)

fitting_few : {s cs : List ℕ} {room : ℕ} {ms : List Mark} {t : List ℕ} {k : ℕ} → TellsFitting s cs room ms t k → k ≤ length ms
fitting_few all_told = omega arith
fitting_few (full x) = omega arith
fitting_few (next x told rest) = let few = fitting_few rest in omega arith

-- Where a call tells marks, no more are told with those before than a transcript has, which are 16384 at most.
pub marks_few : (s : List ℕ) (skip : ℕ) (before after : List ℕ) (r : Told) → AnswersMarks s skip before after r → 0 < r.marks
    → skip + r.marks ≤ 16384
marks_few s skip before after r (inl h) some = absurd (omega (arith, h.1.none))
marks_few s skip before after r (inr (short, inl h)) some = absurd (omega (arith, h.1.none))
marks_few s skip before after r (inr (short, inr (u, h))) some =
    let all = has_marks s in
    let same = ap length (one_marks h.are_marks all.1.0) in
    let rest = length-drop skip h.marks in
    let few = fitting_few h.fits in
    omega (arith, all.1.1)

-- ---- all calls
-- what is told of the first marks and what is told of those behind them tells all
fitting_on : {s cs : List ℕ} {room : ℕ} {ms : List Mark} {t : List ℕ} {k : ℕ} (u : List ℕ) → TellsFitting s cs room ms t k
    → TellsMarks s cs (drop k ms) u → TellsMarks s cs ms (t ++ u)
fitting_on u all_told h = h
fitting_on u (full x) h = h
fitting_on u (next {a = a} {u = v} x told rest) h = (a, (v ++ u, (told, (fitting_on u rest h, append_assoc a v u))))

-- where 49 bytes are free and no mark is told, there is none
none_left : {s cs : List ℕ} {room : ℕ} {ms : List Mark} {t : List ℕ} {k : ℕ} → 49 ≤ room → k ≡ 0
    → TellsFitting s cs room ms t k → TellsMarks s cs ms t
none_left room e all_told = refl
none_left room e (full x) = absurd (omega arith)
none_left room e (next x told rest) = absurd (omega arith)

-- t tells the marks of the transcript s behind the first so many
record TellsRest (s : List ℕ) (skip : ℕ) (t : List ℕ) : Type 0 where
  characters : List ℕ
  spells : Spells characters s
  marks : List Mark
  are_marks : AreMarks s marks
  texts : TellsMarks s characters (drop skip marks) t

abbrev RestOutput : List ℕ → ℕ → List ℕ → Type 0
RestOutput s skip t = Checked (λ x. t ≡ refused_text x) (TellsRest s skip t) (readable s)

-- a call that tells no mark is the last
last_call : {s : List ℕ} {skip : ℕ} {before after : List ℕ} {r : Told} → 49 ≤ length before → r.marks ≡ 0 → AnswersMarks s skip before after r
    → RestOutput s skip (take r.written after)
last_call {s} {skip} {before} {after} {r} room none h =
    checked_on (λ x. TellsNone x before after r) (λ x. take r.written after ≡ refused_text x) (readable s)
    (λ x k. text_written (refused_text x) before k.count k.bytes)
    (λ k. record {
      characters = k.characters;
      spells = k.spells;
      marks = k.marks;
      are_marks = k.are_marks;
      texts = rw (text_written k.text before k.count k.bytes) (none_left room none k.fits);
    })
    h

-- a call that tells marks, and what the calls behind it write
joined : {s : List ℕ} {skip : ℕ} {before after : List ℕ} {r : Told} (u : List ℕ) → (r.marks ≡ 0 → ⊥) → AnswersMarks s skip before after r
    → RestOutput s (skip + r.marks) u → RestOutput s skip (take r.written after ++ u)
joined u some (inl h) k = absurd (some h.1.none)
joined u some (inr (short, inl h)) k = absurd (some h.1.none)
joined u some (inr (short, inr (utf8, h))) (inl k) = absurd (k.0 short)
joined u some (inr (short, inr (utf8, h))) (inr (x, inl k)) = absurd (k.0 utf8)
joined {skip = skip} {before} {r = r} u some (inr (short, inr (utf8, h))) (inr (x, inr (y, k))) =
    let behind = sym (drop-drop r.marks skip h.marks) in
    let rest = rw (one_list k.spells h.spells, one_marks k.are_marks h.are_marks, behind) at k.texts in
    inr (
      short,
      inr (
        utf8,
        record {
          characters = h.characters;
          spells = h.spells;
          marks = h.marks;
          are_marks = h.are_marks;
          texts = rw (text_written h.text before h.count h.bytes) (fitting_on u h.fits rest);
        },
      ),
    )

run_rest : {s : List ℕ} {size skip : ℕ} {t : List ℕ} → 49 ≤ size → Run s size skip t → RestOutput s skip t
run_rest room (ends long h none) = last_call (omega arith) none h
run_rest room (goes_on {u = u} long h some more) = joined u some h (run_rest room more)

-- What the calls write for a transcript, from its first mark on up to a call that tells none, is its output: all its marks, in order and once each,
-- or the refusal.
pub whole_run : (s : List ℕ) (size : ℕ) (t : List ℕ) → 49 ≤ size → Run s size 0 t → IsTranscriptOutput s t
whole_run s size t room run =
    checked_on (λ x. t ≡ refused_text x) (λ x. t ≡ refused_text x) (readable s) (λ x e. e)
    (λ k. record { characters = k.characters; spells = k.spells; marks = k.marks; are_marks = k.are_marks; texts = k.texts })
    (run_rest room run)

-- A transcript has no two outputs.
pub one_output : (s t u : List ℕ) → IsTranscriptOutput s t → IsTranscriptOutput s u → t ≡ u
one_output s t u h k =
    ⊎_elim (λ x. x.1.0 ∙ sym x.1.1) (λ both. all both.0 both.1)
    (both_checked (λ x. t ≡ refused_text x) (λ x. u ≡ refused_text x) (readable s) h k)
  where
    all : Tells s t → Tells s u → t ≡ u
    all f g =
        let texts = rw (one_list f.spells g.spells, one_marks f.are_marks g.are_marks) at f.texts in
        let cs = g.characters in
        one_turn (TellsMark s cs) (one_telling s cs) g.marks t u texts g.texts
