-- Places, filled one behind the other.
use mathlib.Core.List.{List, [], ◌∷◌, ◌++◌, append-nil}
use mathlib.Core.Logic.{inl, inr}
use mathlib.Core.Path.{◌≡◌, refl, sym, ◌∙◌, ap}
use Prim.Native.Nat.{ℕ, zero, suc, ◌+◌, ◌-◌, ◌*◌, ◌/◌, ◌<◌, ◌≤◌}
use native.Mathlib.Omega.{arith}
use lib.ListN.{length, take, drop, length-append}
use lib.Seq.{append_snoc, sets, length-sets, take-nil, slice}
use Rattle.std.proofs.Common.{Some, None}
use Rattle.marks.proofs.mark.Marks.{one_marks}
use Rattle.marks.proofs.walk.Laws.{found_characters, Ahead, ahead_first, Past, walk_mark, walk_next, walk_last}
use Rattle.places.proofs.Bytes.{sets_both, sets_start}
use Rattle.places.proofs.Turn.{turn_append, turn_one}
use Rattle.places.proofs.number.Laws.{number_length, number_first, number_behind}
use Rattle.dating.specs.Line.{IsNumberOfLine}
use Rattle.places.specs.Number.{number_bytes, with_number}
use Rattle.marks.specs.Mark.{AreMarks}
use Rattle.marks.specs.Steps.{CountsMarks, with_place, Fillable, FillsPlaces, CountsInSize}
use Rattle.marks.specs.Transcript.{mark_of, place_bytes, IsPlace, Places, Condition, ◌unless◌, Checked, conditions}
use Rattle.marks.specs.Transcript.{FindsMarks}
use Rattle.marks.specs.Utf8.{Spells, IsUtf8}
use Rattle.calendar.specs.declared.refusal.Refusal.TheVariants.{Length, Encoding}
use Rattle.calendar.specs.declared.refusal.Refusal.{Refusal}
use Rattle.marks.specs.Walk.{Walks}
use Rattle.marks.specs.declared.mark.Mark.{Mark}
use Rattle.marks.specs.declared.transcript.NextMark.{NextMark}
use Rattle.std.specs.Prelude.{Result, Ok, Err}
use Rattle.std.specs.Result.{result_unwrap_or}

-- ---- a place
-- a number behind bytes makes them four longer
four_more : (w : List ℕ) (n : ℕ) → length (w ++ number_bytes n) ≡ length w + 4
four_more w n = length-append w (number_bytes n) ∙ ap (λ (k : ℕ). length w + k) (number_length n)

-- the numbers of a place are put one behind the other
module _ (a e f p n : ℕ) where
  abbrev first_two : List ℕ
  first_two = number_bytes a ++ number_bytes e

  abbrev first_three : List ℕ
  first_three = first_two ++ number_bytes f

  abbrev first_four : List ℕ
  first_four = first_three ++ number_bytes p

  two_length : length first_two ≡ 8
  two_length = four_more (number_bytes a) e ∙ ap (λ (k : ℕ). k + 4) (number_length a)

  three_length : length first_three ≡ 12
  three_length = four_more first_two f ∙ ap (λ (k : ℕ). k + 4) two_length

  four_length : length first_four ≡ 16
  four_length = four_more first_three p ∙ ap (λ (k : ℕ). k + 4) three_length

  pub place_length : length (place_bytes a e f p n) ≡ 20
  place_length = four_more first_four n ∙ ap (λ (k : ℕ). k + 4) four_length

  pub place_put : (s : List ℕ) (i : ℕ) → i + 20 ≤ length s
      → with_number (with_number (with_number (with_number (with_number s i a) (i + 4) e) (i + 8) f) (i + 12) p) (i + 16) n ≡ with_place s i a e f p n
  place_put s i room =
      let one_long = number_length a in
      let two_long = two_length in
      let three_long = three_length in
      let four_long = four_length in
      rw (
        number_first s i a (omega arith),
        number_behind (number_bytes a) s i (i + 4) e (omega arith) (omega arith),
        number_behind first_two s i (i + 8) f (omega arith) (omega arith),
        number_behind first_three s i (i + 12) p (omega arith) (omega arith),
        number_behind first_four s i (i + 16) n (omega arith) (omega arith),
      )

-- what a slice from i to j holds
pub part : (i j : ℕ) (s : List ℕ) → i ≤ j → take (j - i) (drop i s) ≡ slice i j s
part zero j s h = let e : j - 0 ≡ j = omega arith in rw e
part (suc i) j [] h = rw (take-nil {A = ℕ} j, take-nil {A = ℕ} (j - suc i))
part (suc i) zero (x ∷ s) h = absurd (omega arith)
part (suc i) (suc j) (x ∷ s) h = let e : suc j - suc i ≡ j - i = omega arith in rw e (part i j s (omega arith))

-- ---- places filled mark by mark
-- the marks before the place p of s have their places, which take so many bytes
pub record Filling (s before : List ℕ) (place : ℕ) (p : List ℕ × ℕ) (after : List ℕ) : Type 0 where
  pub points : List ℕ
  pub spells : Spells points s
  pub marks : List Mark
  pub are_marks : AreMarks s marks
  pub room : length marks * 20 ≤ length before
  pub filled : List Mark
  pub left : List Mark
  pub all : marks ≡ filled ++ left
  pub ahead : Ahead s p left
  pub text : List ℕ
  pub places : Places s points filled text
  pub size : place ≡ length text
  pub whole : place ≡ length filled * 20
  pub bytes : after ≡ sets before 0 text

pub fill_first : {s before : List ℕ} → Fillable s (length before) → Filling s before 0 (s, 0) before
fill_first f = record {
  points = f.utf8.0;
  spells = f.utf8.1;
  marks = f.marks;
  are_marks = f.are_marks;
  room = f.room;
  filled = [];
  left = f.marks;
  all = refl;
  ahead = ahead_first f.are_marks;
  text = [];
  places = refl;
  size = refl;
  whole = refl;
  bytes = refl;
}

module _ {s before : List ℕ} {place : ℕ} {p q : List ℕ × ℕ} {after : List ℕ} (f : Filling s before place p after) where
  pub fill_last : Walks p None q → FillsPlaces s before after
  fill_last none =
      let all : f.marks ≡ f.filled = f.all ∙ rw (walk_last f.ahead none, append-nil f.filled) in (
        length f.filled,
        record {
          characters = f.points;
          spells = f.spells;
          marks = f.filled;
          are_marks = rw all at f.are_marks;
          count = refl;
          text = f.text;
          places = f.places;
          bytes = f.bytes ∙ sets_start f.text before (omega (arith, f.size, f.whole, f.room, ap length all));
        },
      )

  module _ {m : NextMark} (h : Walks p (Some m) q) where
    next : Past s f.left (m ∷ []) q
    next = walk_next f.ahead h

    more : f.marks ≡ (f.filled ++ mark_of m ∷ []) ++ next.rest
    more = f.all ∙ ap (λ (ms : List Mark). f.filled ++ ms) next.whole ∙ sym (append_snoc f.filled (mark_of m) next.rest)

    pub fill_room : place + 20 ≤ length after
    fill_room =
        let all = ap length more ∙ length-append (f.filled ++ mark_of m ∷ []) next.rest in
        let count = length-append f.filled (mark_of m ∷ []) in
        omega (arith, f.whole, f.room, ap length f.bytes ∙ length-sets before 0 f.text)

    pub fill_next : (n : ℕ) (now : List ℕ) → IsNumberOfLine (take (m.end - m.start) (drop m.start s)) n
        → now ≡ with_place after place m.start m.end m.start_character m.end_character n → Filling s before (place + 20) q now
    fill_next n now number bytes =
        let mark = walk_mark f.ahead h in
        let t = place_bytes m.start m.end m.start_character m.end_character n in
        let long = place_length m.start m.end m.start_character m.end_character n in
        let count = length-append f.filled (mark_of m ∷ []) in
        let total = length-append f.text t in
        let line = rw (part m.start m.end s mark.forward) at number in
        let characters = found_characters f.spells mark in
        let k : place ≡ 0 + length f.text = omega (arith, f.size) in
        let tells = IsPlace s f.points in
        let one = turn_one tells (mark_of m) t (n, (line, rw (characters.0, characters.1))) in
        record {
          points = f.points;
          spells = f.spells;
          marks = f.marks;
          are_marks = f.are_marks;
          room = f.room;
          filled = f.filled ++ mark_of m ∷ [];
          left = next.rest;
          all = more;
          ahead = next.ahead;
          text = f.text ++ t;
          places = turn_append tells f.filled (mark_of m ∷ []) f.text t f.places one;
          size = omega (arith, f.size);
          whole = omega (arith, f.whole);
          bytes = bytes ∙ rw (f.bytes, k) (sets_both f.text t before 0);
        }

-- ---- what the calls answer
pub too_few : (s : List ℕ) (size : ℕ) → length s ≤ 65536 → IsUtf8 s → (n : ℕ) → CountsMarks s n → size / 20 < n → CountsInSize s size (Err Length)
too_few s size short u n k many =
    inr (short, inr (u, inl (λ h. omega (arith, k.1.1, h.1.1, ap length (one_marks h.1.0 k.1.0)), refl)))

-- what follows from a refusal and from an answer follows behind the same conditions
pub checked_on : (R S : Refusal → Type 0) {A B : Type 0} (cs : List Condition) → ((x : Refusal) → R x → S x) → (A → B)
    → Checked R A cs → Checked S B cs
checked_on R S [] f g h = g h
checked_on R S (x unless holds ∷ cs) f g (inl h) = inl (h.0, f x h.1)
checked_on R S (x unless holds ∷ cs) f g (inr h) = inr (h.0, checked_on R S cs f g h.1)

not_refused : {A : Type 0} (n : ℕ) (x : Refusal) → Ok n ≡ Err x → A
not_refused n x e = let z : ◌≡◌ {A = ℕ} 0 1 = cc in absurd (omega arith)

to_fill : (s : List ℕ) (size n : ℕ) → CountsInSize s size (Ok n) → Fillable s size × CountsMarks s n
to_fill s size n (inl h) = not_refused n Length h.1
to_fill s size n (inr (short, inl h)) = not_refused n Encoding h.1
to_fill s size n (inr (short, inr (u, inl h))) = not_refused n Length h.1
to_fill s size n (inr (short, inr (u, inr ((ms, (are, room)), (k, (counts, e)))))) =
    let same = ap (λ (r : Result ℕ Refusal). result_unwrap_or r 0) e in (
      record { short = short; utf8 = u; marks = ms; are_marks = are; room = omega arith },
      (counts.0, (counts.1.0, same ∙ counts.1.1)),
    )

pub filled : (s before : List ℕ) (n : ℕ) (after : List ℕ) → CountsInSize s (length before) (Ok n) → FillsPlaces s before after
    → FindsMarks Ok Err s before after (Ok n)
filled s before n after h (k, found) =
    let counts = (to_fill s (length before) n h).1 in
    let same : n ≡ k = counts.1.1 ∙ ap length (one_marks counts.1.0 found.are_marks) ∙ sym found.count in
    checked_on (λ x. Ok n ≡ Err x) (λ x. (Ok n ≡ Err x) × (after ≡ before)) (conditions s (length before))
    (λ x e. not_refused n x e) (λ l. (k, (found, ap Ok same))) h
