-- A step from mark to mark, and all steps.
use mathlib.Core.List.{List, [], ◌∷◌, ◌++◌, map}
use mathlib.Core.Logic.{inl, inr}
use mathlib.Core.Path.{◌≡◌, refl, sym, ◌∙◌, ap}
use Prim.Native.Char.{code}
use Prim.Native.Nat.{ℕ, suc, ◌+◌, ◌-◌, ◌/◌, ◌≤◌}
use native.Mathlib.Omega.{arith}
use lib.Dec.{eqb}
use lib.ListN.{length, take, drop, get_or, length-take}
use lib.Seq.{take-suc, take-add}
use Rattle.std.proofs.Common.{Some, None}
use Rattle.std.specs.Iterator.{Yields}
use Rattle.marks.proofs.mark.Marks.{ends_in, end_inside, first_on, MarksFrom, head_from, tail_from, all_from}
use Rattle.marks.proofs.mark.Laws.{either, two_bytes, pair_two}
use Rattle.marks.proofs.utf8.Laws.{starts_append, Split, ascii_splits, characters_at}
use Rattle.marks.specs.Mark.{IsMark, AreMarks}
use Rattle.marks.specs.Steps.{Between}
use Rattle.marks.specs.Transcript.{mark_of, Counted, IsNextMark}
use Rattle.marks.specs.Utf8.{Spells, characters_before, starts}
use Rattle.marks.specs.Walk.{IsFirstFrom, Walks}
use Rattle.marks.specs.declared.mark.Mark.{Mark}
use Rattle.marks.specs.declared.transcript.NextMark.{NextMark}

-- ---- characters up to a place
-- the characters up to a later place
counted_on : (s : List ℕ) (i j k : ℕ) → k ≡ starts (take i s) → k + starts (take j (drop i s)) ≡ starts (take (i + j) s)
counted_on s i j k e = rw e (sym (starts_append (take i s) (take j (drop i s))) ∙ ap starts (sym (take-add i j s)))

pub counted_to : (s : List ℕ) (i j k n : ℕ) → i ≤ j → k ≡ starts (take i s) → n ≡ starts (take (j - i) (drop i s))
    → k + n ≡ starts (take j s)
counted_to s i j k n h e f = let to : i + (j - i) ≡ j = omega arith in rw f (counted_on s i (j - i) k e ∙ ap (λ (l : ℕ). starts (take l s)) to)

-- no more characters begin than there are bytes
pub starts_few : (s : List ℕ) → starts s ≤ length s
unfolding starts
starts_few [] = omega arith
starts_few (b ∷ s) =
    elim (either (eqb (b / 64) 2)) [
      | inl e ↦ rw e (omega (arith, starts_few s))
      | inr e ↦ rw e (omega (arith, starts_few s))
    ]

-- a mark begins and ends between characters
module _ {s cs : List ℕ} {m : Mark} (spells : Spells cs s) (h : IsMark s m) where
  pub start_splits : Split cs s m.start
  start_splits =
      let low = h.behind in
      let forward = h.forward in
      let inside = end_inside h in
      let bytes = two_bytes (code "[") s (m.start - 2) (pair_two (code "[") s (m.start - 2) h.opened) in
      let e : suc (m.start - 2) ≡ m.start - 1 = omega arith in
      let k : m.start - 1 + 1 ≡ m.start = omega arith in
      rw k at (ascii_splits {i = m.start - 1} spells (omega arith) (omega (arith, rw e at bytes.1))).1

  pub end_splits : Split cs s m.end
  end_splits = let inside = end_inside h in (ascii_splits {i = m.end} spells (omega arith) (omega (arith, (ends_in h).0))).0

-- the two bytes of the ]] behind a mark are two characters
ending_counts : {s : List ℕ} {m : Mark} → IsMark s m → starts (take (m.end + 2) s) ≡ starts (take m.end s) + 2
unfolding starts
ending_counts {s} {m} h =
    let inside = end_inside h in
    let e : m.end + 2 ≡ suc (suc m.end) = omega arith in
    let bytes = ends_in h in
    let one_more = take-suc s m.end 0 (omega arith) in
    let two_more = take-suc s (suc m.end) 0 (omega arith) ∙ ap (λ (t : List ℕ). t ++ get_or s (suc m.end) 0 ∷ []) one_more in
    let first = starts_append (take m.end s) (get_or s m.end 0 ∷ []) in
    let second = starts_append (take m.end s ++ get_or s m.end 0 ∷ []) (get_or s (suc m.end) 0 ∷ []) in
    rw (e, two_more, second, first, bytes.0, bytes.1) (omega arith)

-- ---- a mark that is found
-- it lies inside, and no number of it is above the length
pub record Found (s : List ℕ) (m : NextMark) : Type 0 where
  pub is_mark : IsMark s (mark_of m)
  pub counted : Counted s m
  pub after : m.end_character + 2 ≡ starts (take (m.end + 2) s)
  pub forward : m.start ≤ m.end
  pub inside : m.end + 2 ≤ length s
  pub start_few : m.start_character ≤ length s
  pub end_few : m.end_character + 2 ≤ length s

found : {s : List ℕ} {m : NextMark} → IsMark s (mark_of m) → Counted s m → Found s m
found {s} {m} h c =
    let after : m.end_character + 2 ≡ starts (take (m.end + 2) s) = rw c.1 (sym (ending_counts h)) in
    record {
      is_mark = h;
      counted = c;
      after = after;
      forward = h.forward;
      inside = end_inside h;
      start_few = omega (arith, c.0, starts_few (take m.start s), length-take m.start s);
      end_few = omega (arith, after, starts_few (take (m.end + 2) s), length-take (m.end + 2) s);
    }

-- its characters are those before its start and before its end
pub found_characters : {s cs : List ℕ} {m : NextMark} → Spells cs s → Found s m
    → (m.start_character ≡ characters_before m.start cs) × (m.end_character ≡ characters_before m.end cs)
found_characters spells f = (
  f.counted.0 ∙ sym (characters_at spells (start_splits spells f.is_mark)),
  f.counted.1 ∙ sym (characters_at spells (end_splits spells f.is_mark)),
)

-- the first mark of the rest from the place i on, before which so many characters begin, as a mark of the whole
abbrev pub moved : (i k : ℕ) → NextMark → NextMark
moved i k m = record { start = i + m.start; end = i + m.end; start_character = k + m.start_character; end_character = k + m.end_character }

pub step : (s : List ℕ) (i k : ℕ) (m : NextMark) → Between s i → k ≡ starts (take i s) → IsNextMark (drop i s) (Some m)
    → IsFirstFrom s i (mark_of (moved i k m)) × Found s (moved i k m)
step s i k m p e h =
    let first = first_on p (mark_of m) h.0 in
    let start_counts : k + m.start_character ≡ starts (take (i + m.start) s) = rw h.1.0 (counted_on s i m.start k e) in
    let end_counts : k + m.end_character ≡ starts (take (i + m.end) s) = rw h.1.1 (counted_on s i m.end k e) in
    (first, found first.is_mark (start_counts, end_counts))

-- ---- steps one after the other
-- those marks of s begin at the place p or later
pub record Ahead (s : List ℕ) (p : List ℕ × ℕ) (ms : List Mark) : Type 0 where
  pub text : p.0 ≡ s
  pub from : MarksFrom s p.1 ms

pub ahead_first : {s : List ℕ} {ms : List Mark} → AreMarks s ms → Ahead s (s, 0) ms
ahead_first are = record { text = refl; from = all_from are }

-- those steps lead past the first of the marks ms to the place q
pub record Past (s : List ℕ) (ms : List Mark) (steps : List NextMark) (q : List ℕ × ℕ) : Type 0 where
  pub rest : List Mark
  pub whole : ms ≡ map mark_of steps ++ rest
  pub ahead : Ahead s q rest

module _ {s : List ℕ} {p q : List ℕ × ℕ} {ms : List Mark} (w : Ahead s p ms) where
  pub walk_mark : {m : NextMark} → Walks p (Some m) q → Found s m
  walk_mark h = found (rw w.text at h.0.is_mark) (rw w.text at h.1)

  pub walk_next : {m : NextMark} → Walks p (Some m) q → Past s ms (m ∷ []) q
  walk_next {m} h = go ms w.from
    where
      first : IsFirstFrom s p.1 (mark_of m)
      first = rw w.text at h.0

      go : (ms : List Mark) → MarksFrom s p.1 ms → Past s ms (m ∷ []) q
      go [] from = absurd ((from.each (mark_of m)).1 (first.is_mark, first.from))
      go (x ∷ ms) from = record {
        rest = ms;
        whole = rw (head_from first from);
        ahead = record { text = rw h.2 w.text; from = rw h.2 (tail_from first from) };
      }

  pub walk_last : Walks p None q → ms ≡ []
  walk_last h = go ms w.from
    where
      go : (ms : List Mark) → MarksFrom s p.1 ms → ms ≡ []
      go [] from = refl
      go (x ∷ ms) from = let k = (from.each x).0 (inl refl) in absurd ((rw w.text at h.0) x k.0 k.1)

pub walk_on : {s : List ℕ} {p q : List ℕ × ℕ} {ms : List Mark} (steps : List NextMark) → Ahead s p ms → Yields Walks p steps q → Past s ms steps q
walk_on {s} {p} {q} {ms} [] w e = record { rest = ms; whole = refl; ahead = rw (← e) w }
walk_on {s} {p} {q} {ms} (m ∷ steps) w (r, h, more) =
    let one = walk_next w h in
    let others = walk_on {p = r} steps one.ahead more in
    record { rest = others.rest; whole = one.whole ∙ ap (λ (ns : List Mark). mark_of m ∷ ns) others.whole; ahead = others.ahead }
