-- What holds of a run and of a page beyond the contracts of their calls.
use mathlib.Core.List.{List, [], ◌∷◌, ◌++◌, append-nil}
use mathlib.Core.Logic.{◌↔◌, ◌⊎◌, inl, inr, ⊎_elim}
use mathlib.Core.Path.{◌≡◌, refl, sym, ◌∙◌, ap}
use Prim.Native.Nat.{ℕ, ◌*◌, ◌/◌, ◌<◌, ◌≤◌}
use native.Mathlib.Decide.{dec_lt}
use native.Mathlib.Omega.{arith}
use lib.ListN.{length, take, drop, get_or}
use lib.Seq.{take-append_seam, drop-append_seam}
use borrow.Author.Tests.{le-leb, lt-leb}
use Rattle.calendar.proofs.refusal.Laws.{both_checked}
use Rattle.dating.proofs.Claims.{one_answer, one_text, line_numbers}
use Rattle.places.proofs.Claims.{reads_back}
use Rattle.places.proofs.Turn.{one_turn, turn_length, turn_at}
use Rattle.answers.proofs.Lines.{lines_have, lines_known, parted}
pub use Rattle.answers.proofs.Lines.{lines_few}
use Rattle.answers.proofs.Walk.{line_feed_lem}
use Rattle.answers.proofs.block.Laws.{one_written, written_text}
use Rattle.answers.proofs.block.Laws as laws
use Rattle.answers.proofs.page.Laws.{place_length, too_long, too_few, all_fit}
use Rattle.words.specs.Text.{has, over}
use Rattle.dating.specs.Answer.{line_feed, IsAnswer}
use Rattle.dating.specs.Line.{IsNumberOfLine}
use Rattle.places.specs.Number.{number_bytes, number_of}
use Rattle.answers.specs.Block.{kept, AnswersBlock, AnswersLast, joined, Run}
use Rattle.answers.specs.Lines.{ended_lines, open_line, last_line, lines_of, AllEnded, each_ended, AllLack, HasLines, none, ended, Answers, IsOutput}
use Rattle.answers.specs.Page.{page_tests, page_answer, IsPlace, Filled, FillsPage, number_at}
use Rattle.calendar.specs.declared.refusal.Refusal.TheVariants.{Length}
use Rattle.calendar.specs.declared.refusal.Refusal.{Refusal}
use Rattle.answers.specs.declared.block.Progress.{Progress}
use Rattle.std.specs.Prelude.{Ok, Err}
use Rattle.calendar.specs.Refusal.{refusal_or_zero}

-- What has the shape of an input's lines is its lines, and nothing else is.
pub has_lines : (s : List ℕ) (ls : List (List ℕ)) → HasLines s ls ↔ (ls ≡ lines_of s)
unfolding has
has_lines s ls = (lines_known, λ e. rw e (lines_have [] s refl))

-- However an input is cut into blocks, what is written for them is the output for the whole, and no other is.
pub whole_run : (blocks : List (List ℕ)) (t : List ℕ) → Run [] blocks t ↔ IsOutput (joined blocks) t
unfolding has
whole_run blocks t = (laws.run_on [] blocks t refl, laws.run_back [] blocks t refl)

-- A block's call is a step of the run: where the buffer holds what is kept, k, and the block b behind it, the bytes written
-- answer the lines that end there, and what is kept next stands at the buffer's start.
pub block_step : (k b m n o p : List ℕ) (r : Progress) → AnswersBlock (k ++ b) m n o p r
    → Answers (ended_lines [] (k ++ b)) (take r.written p) × (take r.kept n ≡ kept (open_line [] (k ++ b)))
block_step k b m n o p r h =
    let w = kept (open_line [] (k ++ b)) in
    (written_text h.output, rw (h.keeps, h.buffer) (take-append_seam w (drop (length w) m)))

-- And the call at the end of the input is the last.
pub last_step : (k o p : List ℕ) (n : ℕ) → AnswersLast k o p n → Answers (last_line k) (take n p)
last_step k o p n h = written_text h

-- An input has no two outputs.
pub one_output : (s t u : List ℕ) → IsOutput s t → IsOutput s u → t ≡ u
one_output s t u h k = one_turn IsAnswer one_text (lines_of s) t u h k

-- Any two results of a block are one: the same numbers, and the same bytes in both buffers.
pub one_block : (s b m n o p q : List ℕ) (r u : Progress) → AnswersBlock s b m o p r → AnswersBlock s b n o q u → (r ≡ u) × ((m ≡ n) × (p ≡ q))
one_block s b m n o p q r u h k =
    let ls = ended_lines [] s in
    let output = one_written (Answers ls) (one_turn IsAnswer one_text ls) o p q r.written u.written h.output k.output in
    let keeps = h.keeps ∙ sym k.keeps in
    (λ i. record { written = output.0 i; kept = keeps i }, (h.buffer ∙ sym k.buffer, output.1))

-- Any two results of the last line are one: the same number, and the same bytes in the buffer.
pub one_last : (s o p q : List ℕ) (r u : ℕ) → AnswersLast s o p r → AnswersLast s o q u → (r ≡ u) × (p ≡ q)
one_last s o p q r u h k = one_written (Answers (last_line s)) (one_turn IsAnswer one_text (last_line s)) o p q r u h k

-- ---- a page
one_place : (l t u : List ℕ) → IsPlace l t → IsPlace l u → t ≡ u
one_place l t u (n, (h, e)) (m, (k, f)) = e ∙ ap number_bytes (one_answer n m h k) ∙ sym f

number_small : (l : List ℕ) (n : ℕ) → IsNumberOfLine l n → n < 4294967296
number_small l n h = ⊎_elim (λ k. omega arith) (λ k. omega arith) (line_numbers l n h)

-- Any two results of a page are one: what is answered is an equation, and the bytes in the places are the same.
pub one_page : (s before after then : List ℕ) → FillsPage s before after → FillsPage s before then → after ≡ then
one_page s before after then h k = both_checked (page_tests s (length before)) stayed same h k
  where
    stayed : Refusal → after ≡ before → then ≡ before → after ≡ then
    stayed x e f = e ∙ sym f

    same : Filled s before after → Filled s before then → after ≡ then
    same (t, (h, e)) (u, (k, f)) = e ∙ ap (λ (v : List ℕ). over v before) (one_turn IsPlace one_place (lines_of s) t u h k) ∙ sym f

-- A page's places are filled and the number of its lines is answered, or it is refused by 2 and they are as they were.
pub filled_or_refused : (s before after : List ℕ) → FillsPage s before after
    → ((page_answer s (length before) ≡ Ok (length (lines_of s))) × Filled s before after)
    ⊎ ((page_answer s (length before) ≡ Err Length) × (after ≡ before))
filled_or_refused s before after h =
    let size = length before in
    elim (dec_lt 65536 (length s)) [
      | yes long ↦ inr (sym (too_long s size long), rw (lt-leb (length s) 65536 long) at h)
      | no short ↦
          let fits : length s ≤ 65536 = omega arith in
          elim (dec_lt (size / 4) (length (lines_of s))) [
            | yes many ↦
                inr (sym (too_few s size fits many), rw (le-leb (length s) 65536 fits, lt-leb (length (lines_of s)) (size / 4) many) at h)
            | no few ↦
                let enough : length (lines_of s) ≤ size / 4 = omega arith in
                inl (sym (all_fit s size fits enough), rw (le-leb (length s) 65536 fits, le-leb (length (lines_of s)) (size / 4) enough) at h)
          ]
    ]

-- A page equals its lines read singly, in order: a number stands in a line's place exactly when the line's own call answers it.
pub read_singly : (s before after : List ℕ) → Filled s before after → (i : ℕ) → i < length (lines_of s) → (n : ℕ)
    → IsNumberOfLine (get_or (lines_of s) i []) n ↔ (number_at i after ≡ n)
read_singly s before after (t, (h, e)) i inside n =
    let (m, (told, f)) = rw (← e) at (turn_at IsPlace 4 place_length [] (lines_of s) t (drop (length t) before) h i inside) in
    let read = ap number_of f ∙ reads_back m (number_small _ m told) in
    (λ k. read ∙ one_answer m n told k, λ k. rw (sym read ∙ k) at told)

-- Numbers past the last line keep their values, and so do bytes left over.
pub later_stay : (s before after : List ℕ) → Filled s before after → drop (4 * length (lines_of s)) after ≡ drop (4 * length (lines_of s)) before
later_stay s before after (t, (h, e)) =
    rw (← turn_length IsPlace 4 place_length (lines_of s) t h, e) (drop-append_seam t (drop (length t) before))

-- A page is refused by 2 exactly when it has more than 65,536 bytes or more lines than places, and else by no number.
pub page_refused : (s : List ℕ) (size : ℕ)
    → ((refusal_or_zero (page_answer s size) ≡ 2) × ((65536 < length s) ⊎ (size / 4 < length (lines_of s))))
    ⊎ ((refusal_or_zero (page_answer s size) ≡ 0) × ((length s ≤ 65536) × (length (lines_of s) ≤ size / 4)))
page_refused s size =
    elim (dec_lt 65536 (length s)) [
      | yes long ↦ inl (sym (ap refusal_or_zero (too_long s size long)), inl long)
      | no short ↦
          elim (dec_lt (size / 4) (length (lines_of s))) [
            | yes many ↦ inl (sym (ap refusal_or_zero (too_few s size (omega arith) many)), inr many)
            | no few ↦ inr (sym (ap refusal_or_zero (all_fit s size (omega arith) (omega arith))), (omega arith, omega arith))
          ]
    ]

-- A page has at most a line for each byte (lines-few), so that 262,144 bytes of places are enough for every page of at most 65,536 bytes.
pub always_enough : (s : List ℕ) (size : ℕ) → length s ≤ 65536 → 262144 ≤ size → refusal_or_zero (page_answer s size) ≡ 0
always_enough s size short room = sym (ap refusal_or_zero (all_fit s size short (omega (arith, lines_few s))))

-- A page of no bytes has no lines, and a line feed at the start ends a line of no bytes.
pub no_bytes : lines_of [] ≡ []
unfolding ended_lines open_line
no_bytes = refl

pub blank_line : (s : List ℕ) → lines_of (line_feed ∷ s) ≡ [] ∷ lines_of s
unfolding ended_lines open_line
blank_line s = refl

-- Lines without a line feed in them, each ended by one, are the lines of the page that they make, blank ones too.
pub each_ended_lem : (ls : List (List ℕ)) → AllLack ls → lines_of (each_ended ls) ≡ ls
each_ended_lem ls h = sym (lines_known (go ls h))
  where
    go : (ls : List (List ℕ)) → AllLack ls → HasLines (each_ended ls) ls
    go [] h = none
    go (l ∷ ls) h = ended h.0 (go ls h.1)

-- A page that has no bytes or ends in a line feed, with another behind it, has the lines of the first and then those of the second.
pub pages_joined : (s t : List ℕ) → AllEnded s → lines_of (s ++ t) ≡ lines_of s ++ lines_of t
unfolding ended_lines open_line
pages_joined s t (inl e) = rw e
pages_joined s t (inr (u, e)) =
    let none = ap (open_line []) e ∙ (line_feed_lem u line_feed refl).1 in
    parted [] s t ∙ rw (none, append-nil (ended_lines [] s))
