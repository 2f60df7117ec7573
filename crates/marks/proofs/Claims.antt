-- What holds of UTF-8, marks and their places beyond the contracts of the calls.
use mathlib.Core.Bool.{Bool, true, false}
use mathlib.Core.List.{List, [], ◌∷◌, ◌++◌}
use mathlib.Core.Logic.{◌⊎◌, inl, inr, ⊎_elim}
use mathlib.Core.Path.{◌≡◌, refl, sym, ◌∙◌, ap}
use Prim.Native.Char.{code}
use Prim.Native.Nat.{ℕ, suc, ◌+◌, ◌-◌, ◌*◌, ◌<◌, ◌≤◌}
use native.Mathlib.Decide.{dec_lt}
use native.Mathlib.Omega.{arith}
use lib.ListN.{length, take, drop, get_or}
use lib.Seq.{slice, take-append_seam, drop-append_seam}
use Rattle.std.proofs.Common.{Option, Some, None}
use Rattle.dating.proofs.Claims.{one_answer}
use Rattle.places.proofs.Turn.{one_turn, turn_length}
use Rattle.marks.proofs.mark.Laws.{two_bytes, pair_two}
use Rattle.marks.proofs.mark.Marks.{has_marks, ends_in, end_inside, behind_other, one_end}
use Rattle.marks.proofs.mark.Marks as mark_laws
use Rattle.marks.proofs.walk.Laws.{start_splits, end_splits}
use Rattle.marks.proofs.transcript.Laws.{place_length}
use Rattle.marks.proofs.utf8.Laws.{Split, characters_at, between_splits}
pub use Rattle.marks.proofs.utf8.Laws.{one_list, Ascii, ascii_counts, longer_differs}
use Rattle.calendar.specs.Refusal.{refusal_number, refusal_or_zero}
use Rattle.marks.specs.Mark.{opening, closing, IsMark, AreMarks, IsFirstMark}
use Rattle.marks.specs.Transcript.{mark_of, Counted, IsNextMark, IsPlace, Found, Condition, ◌unless◌, Checked, conditions}
use Rattle.marks.specs.Transcript.{FindsMarks, TellsRefusal}
use Rattle.marks.specs.Utf8.{Spells, TellsUtf8, characters_before, starts}
use Rattle.marks.specs.Walk.{Walks}
use Rattle.calendar.specs.declared.refusal.Refusal.{Refusal}
use Rattle.marks.specs.declared.mark.Mark.{Mark}
use Rattle.marks.specs.declared.transcript.NextMark.{NextMark}
use Rattle.std.specs.Prelude.{Result, Ok, Err}

-- Bytes are told to be UTF-8, or not, and not both.
pub one_telling : (s : List ℕ) (r q : Bool) → TellsUtf8 s r → TellsUtf8 s q → r ≡ q
one_telling s true true h k = refl
one_telling s true false h k = absurd (k h)
one_telling s false true h k = absurd (h k)
one_telling s false false h k = refl

-- Every text has its marks, in one list alone, and no more than a mark for each four bytes.
pub one_marks : (s : List ℕ) → (ms : List Mark) × (AreMarks s ms × ((length ms * 4 ≤ length s) × ((ns : List Mark) → AreMarks s ns → ns ≡ ms)))
one_marks s = let all = has_marks s in (all.0, (all.1.0, (all.1.1, λ ns are. mark_laws.one_marks are all.1.0)))

-- No two marks overlap, nor do their brackets: of two that end at different places the later begins behind the ]] of the other and a [[.
pub apart : (s : List ℕ) (m o : Mark) → IsMark s m → IsMark s o → m.end < o.end → m.end + 4 ≤ o.start
apart s m o h k later = behind_other h k later

-- Marks that end at one place are one.
pub one_mark : (s : List ℕ) (m o : Mark) → IsMark s m → IsMark s o → m.end ≡ o.end → m ≡ o
one_mark s m o h k e = one_end h k e

-- A mark begins and ends between characters, and the characters between its ends are those of its text.
pub mark_characters : (cs s : List ℕ) (m : Mark) → Spells cs s → IsMark s m
    → Split cs s m.start × (Split cs s m.end × ((ts : List ℕ) × (
    Spells ts (slice m.start m.end s) × (characters_before m.end cs ≡ characters_before m.start cs + length ts))))
mark_characters cs s m spells h =
    let first = start_splits spells h in
    let last = end_splits spells h in
    let between = between_splits spells first last h.forward in
    (first, (last, (between.0, (between.1, between.2))))

-- [[ stands just before a mark and ]] just after it, and no pair between.
pub between_brackets : (s : List ℕ) (m : Mark) → IsMark s m
    → ((get_or s (m.start - 2) 0 ≡ code "[") × (get_or s (m.start - 1) 0 ≡ code "["))
    × (((get_or s m.end 0 ≡ code "]") × (get_or s (m.end + 1) 0 ≡ code "]"))
    × ((i : ℕ) → m.start ≤ i → i + 2 ≤ m.end → (opening s i ≡ false) × (closing s i ≡ false)))
between_brackets s m h =
    let low = h.behind in
    let before = two_bytes (code "[") s (m.start - 2) (pair_two (code "[") s (m.start - 2) h.opened) in
    let e : suc (m.start - 2) ≡ m.start - 1 = omega arith in
    let f : suc m.end ≡ m.end + 1 = omega arith in
    ((before.0, rw e at before.1), (((ends_in h).0, rw f at (ends_in h).1), h.between))

-- A text has one first mark, or none.
one_start : {s : List ℕ} {m o : Mark} → IsMark s m → IsMark s o → m.start ≡ o.start → m ≡ o
one_start {s} {m} {o} h k e =
    elim (dec_lt m.end o.end) [
      | yes less ↦ absurd (omega (arith, behind_other h k less, h.forward))
      | no not_less ↦
          elim (dec_lt o.end m.end) [
            | yes more ↦ absurd (omega (arith, behind_other k h more, k.forward))
            | no not_more ↦ one_end h k (omega arith)
          ]
    ]

pub one_first : (s : List ℕ) (r q : Option Mark) → IsFirstMark s r → IsFirstMark s q → r ≡ q
one_first s (Some m) (Some o) h k = ap Some (one_start h.0 k.0 (omega (arith, h.1 o k.0, k.1 m h.0)))
one_first s (Some m) None h k = absurd (k m h.0)
one_first s None (Some o) h k = absurd (h o k.0)
one_first s None None h k = refl

-- And so in bytes and in characters.
same_counted : (s : List ℕ) {m o : NextMark} → mark_of m ≡ mark_of o → Counted s m → Counted s o → m ≡ o
same_counted s e h k =
    let first = ap (λ (m : Mark). m.start) e in
    let last = ap (λ (m : Mark). m.end) e in
    let before_start = h.0 ∙ ap (λ (n : ℕ). starts (take n s)) first ∙ sym k.0 in
    let before_end = h.1 ∙ ap (λ (n : ℕ). starts (take n s)) last ∙ sym k.1 in
    λ j. record { start = first j; end = last j; start_character = before_start j; end_character = before_end j }

pub one_next : (s : List ℕ) (r q : Option NextMark) → IsNextMark s r → IsNextMark s q → r ≡ q
one_next s (Some m) (Some o) h k =
    let same = one_start h.0.0 k.0.0 (omega (arith, h.0.1 (mark_of o) k.0.0, k.0.1 (mark_of m) h.0.0)) in
    ap Some (same_counted s same h.1 k.1)
one_next s (Some m) None h k = absurd (k (mark_of m) h.0.0)
one_next s None (Some o) h k = absurd (h (mark_of o) k.0.0)
one_next s None None h k = refl

-- A step from mark to mark has one result, and leads to one place.
pub one_step : (p : List ℕ × ℕ) (r q : Option NextMark) (after other : List ℕ × ℕ) → Walks p r after → Walks p q other → (r ≡ q) × (after ≡ other)
one_step p (Some m) (Some o) after other h k =
    let low = h.0.first (mark_of o) k.0.is_mark k.0.from in
    let high = k.0.first (mark_of m) h.0.is_mark h.0.from in
    let same = same_counted p.0 (one_start h.0.is_mark k.0.is_mark (omega arith)) h.1 k.1 in
    (ap Some same, h.2 ∙ ap (λ (n : NextMark). (p.0, n.end + 2)) same ∙ sym k.2)
one_step p (Some m) None after other h k = absurd (k.0 (mark_of m) h.0.is_mark h.0.from)
one_step p None (Some o) after other h k = absurd (h.0 (mark_of o) k.0.is_mark k.0.from)
one_step p None None after other h k = (refl, h.1 ∙ sym k.1)

-- The bytes of the places are one.
one_place : (s cs : List ℕ) (m : Mark) (t u : List ℕ) → IsPlace s cs m t → IsPlace s cs m u → t ≡ u
one_place s cs m t u (n, (h, e)) (k, (l, f)) =
    let same = one_answer n k h l in
    e ∙ rw same (sym f)

-- What is found in a transcript is the same, whatever the places held before: the marks' number, and the bytes that are put.
same_found : {s b a c d : List ℕ} {n k : ℕ} (h : Found s b a n) (l : Found s c d k) → (n ≡ k) × (h.text ≡ l.text)
same_found {s} h l =
    let marks = mark_laws.one_marks h.are_marks l.are_marks in
    let points = one_list h.spells l.spells in
    let told = rw (points, marks) at h.places in
    let cs = l.characters in
    (h.count ∙ ap length marks ∙ sym l.count, one_turn (IsPlace s cs) (one_place s cs) l.marks h.text l.text told l.places)

-- the bytes that are put are 20 for each mark
twenty : (s cs : List ℕ) (m : Mark) (t : List ℕ) → IsPlace s cs m t → length t ≡ 20
twenty s cs m t (n, (h, e)) =
    ap length e ∙ place_length m.start m.end (characters_before m.start cs) (characters_before m.end cs) n

text_length : {s b a : List ℕ} {n : ℕ} (h : Found s b a n) → n * 20 ≡ length h.text
text_length {s} h =
    let cs = h.characters in
    let all = turn_length (IsPlace s cs) 20 (twenty s cs) h.marks h.text h.places in
    omega (arith, h.count)

pub whatever_before : (s b a c d : List ℕ) (n k : ℕ) → Found s b a n → Found s c d k → (n ≡ k) × (take (n * 20) a ≡ take (n * 20) d)
whatever_before s b a c d n k h l =
    let same = same_found h l in
    let put : take (n * 20) a ≡ h.text = rw (text_length h, h.bytes) (take-append_seam h.text (drop (length h.text) b)) in
    let e : n * 20 ≡ length l.text = text_length h ∙ ap length same.1 in
    let other : take (n * 20) d ≡ l.text = rw (e, l.bytes) (take-append_seam l.text (drop (length l.text) c)) in
    (same.0, put ∙ same.1 ∙ sym other)

-- Later places and left-over bytes stay.
pub later_stay : (s b a : List ℕ) (n : ℕ) → Found s b a n → drop (n * 20) a ≡ drop (n * 20) b
later_stay s b a n h = rw (text_length h, h.bytes) (drop-append_seam h.text (drop (length h.text) b))

-- ---- what is refused
-- two results behind the same conditions are both refused by one refusal, or both answered
pub both_checked : (R S : Refusal → Type 0) {A B : Type 0} (cs : List Condition) → Checked R A cs → Checked S B cs
    → ((x : Refusal) × (R x × S x)) ⊎ (A × B)
both_checked R S [] h k = inr (h, k)
both_checked R S (x unless holds ∷ cs) (inl h) (inl k) = inl (x, (h.1, k.1))
both_checked R S (x unless holds ∷ cs) (inl h) (inr k) = absurd (h.0 k.0)
both_checked R S (x unless holds ∷ cs) (inr h) (inl k) = absurd (k.0 h.0)
both_checked R S (x unless holds ∷ cs) (inr h) (inr k) = both_checked R S cs h.1 k.1

-- Any two results of the call are one: the same answer, and the same bytes in the places.
pub one_result : {R : Type 0} (told : ℕ → R) (refused : Refusal → R) (s b a d : List ℕ) (r q : R)
    → FindsMarks told refused s b a r → FindsMarks told refused s b d q → (r ≡ q) × (a ≡ d)
one_result told refused s b a d r q h k =
    ⊎_elim
    (λ x. (x.1.0.0 ∙ sym x.1.1.0, x.1.0.1 ∙ sym x.1.1.1))
    (λ both. answered both.0.1.0 both.1.1.0 both.0.1.1 both.1.1.1)
    (both_checked (λ x. (r ≡ refused x) × (a ≡ b)) (λ x. (q ≡ refused x) × (d ≡ b)) (conditions s (length b)) h k)
  where
    answered : {n k : ℕ} (f : Found s b a n) (g : Found s b d k) → r ≡ told n → q ≡ told k → (r ≡ q) × (a ≡ d)
    answered f g e l =
        let same = same_found f g in
        (e ∙ ap told same.0 ∙ sym l, f.bytes ∙ ap (λ (t : List ℕ). t ++ drop (length t) b) same.1 ∙ sym g.bytes)

-- Any two answers why marks are refused are one.
pub one_refusal : (s : List ℕ) (size r q : ℕ) → TellsRefusal s size r → TellsRefusal s size q → r ≡ q
one_refusal s size r q h k =
    ⊎_elim (λ x. x.1.0 ∙ sym x.1.1) (λ both. both.0 ∙ sym both.1)
    (both_checked (λ x. r ≡ refusal_number x) (λ x. q ≡ refusal_number x) (conditions s size) h k)

-- The refusal that is told is the call's own, and 0 where it answers.
pub refusal_told : (s b a : List ℕ) (r : Result ℕ Refusal) (q : ℕ) → FindsMarks Ok Err s b a r → TellsRefusal s (length b) q → q ≡ refusal_or_zero r
refusal_told s b a r q h k =
    ⊎_elim (λ x. x.1.1 ∙ sym (ap refusal_or_zero x.1.0.0)) (λ both. both.1 ∙ sym (ap refusal_or_zero both.0.1.1))
    (both_checked (λ x. (r ≡ Err x) × (a ≡ b)) (λ x. q ≡ refusal_number x) (conditions s (length b)) h k)

-- A transcript of no bytes has no marks.
pub no_bytes : (ms : List Mark) → AreMarks [] ms → ms ≡ []
no_bytes [] are = refl
no_bytes (m ∷ ms) are = absurd (omega (arith, end_inside ((are.each m).0 (inl refl))))

-- In UTF-8 the characters that the first mark is told with are those before its start and before its end.
pub next_characters : (cs s : List ℕ) (m : NextMark) → Spells cs s → IsNextMark s (Some m)
    → (m.start_character ≡ characters_before m.start cs) × (m.end_character ≡ characters_before m.end cs)
next_characters cs s m spells h =
    (h.1.0 ∙ sym (characters_at spells (start_splits spells h.0.0)), h.1.1 ∙ sym (characters_at spells (end_splits spells h.0.0)))
