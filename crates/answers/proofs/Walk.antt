-- A walk over bytes, in which what is told of a line is put when the line ends.
use mathlib.Core.List.{List, [], ◌∷◌, ◌++◌, append-nil}
use mathlib.Core.Path.{◌≡◌, refl, sym, ◌∙◌, ap}
use Prim.Native.Nat.{ℕ, ◌+◌, ◌-◌, ◌<◌, ◌≤◌}
use native.Mathlib.Numerals.{add-one}
use native.Mathlib.Omega.{arith}
use lib.ListN.{length, take, drop, get_or, length-append}
use lib.Seq.{take_all, take-add, take-suc, drop-drop, sets, length-sets}
use borrow.Author.Tests.{eq-eqb, ne_eqb}
use Rattle.words.proofs.text.Laws.{rest}
use Rattle.places.proofs.Bytes.{sets_both}
use Rattle.places.proofs.Turn.{turn_append, turn_one}
use Rattle.answers.proofs.Lines.{ended_append, open_append, open_whole}
use Rattle.dating.specs.Answer.{line_feed}
use Rattle.places.specs.Turn.{InTurn}
use Rattle.answers.specs.Lines.{ended_lines, open_line}
use Rattle.answers.specs.Steps.{between, Quiet}

-- ---- one more byte
pub line_feed_lem : (s : List ℕ) (c : ℕ) → c ≡ line_feed
    → (ended_lines [] (s ++ c ∷ []) ≡ ended_lines [] s ++ open_line [] s ∷ []) × (open_line [] (s ++ c ∷ []) ≡ [])
unfolding ended_lines open_line
line_feed_lem s c e = rw (ended_append [] s (c ∷ []), open_append [] s (c ∷ []), eq-eqb c line_feed e) (refl, refl)

pub no_line_feed : (s : List ℕ) (c : ℕ) → (c ≡ line_feed → ⊥)
    → (ended_lines [] (s ++ c ∷ []) ≡ ended_lines [] s) × (open_line [] (s ++ c ∷ []) ≡ open_line [] s ++ c ∷ [])
unfolding ended_lines open_line
no_line_feed s c n = rw (ended_append [] s (c ∷ []), open_append [] s (c ∷ []), ne_eqb c line_feed n) (append-nil (ended_lines [] s), refl)

pub one_more : (s : List ℕ) (i : ℕ) → i < length s → take (i + 1) s ≡ take i s ++ get_or s i 0 ∷ []
one_more s i more = rw add-one (take-suc s i 0 more)

-- ---- the lines up to a place
-- what is told of the lines that end in the first i bytes of s is put, in so many bytes, and the open line begins at start
pub record Sofar (tells : List ℕ → List ℕ → Type 0) (s before : List ℕ) (put start i : ℕ) (after : List ℕ) : Type 0 where
  pub text : List ℕ
  pub told : InTurn tells (ended_lines [] (take i s)) text
  pub count : put ≡ length text
  pub output : after ≡ sets before 0 text
  pub begun : start ≤ i
  pub inside : i ≤ length s
  pub left : take (i - start) (drop start s) ≡ open_line [] (take i s)

pub at_first : (tells : List ℕ → List ℕ → Type 0) (s before : List ℕ) → Sofar tells s before 0 0 0 before
unfolding ended_lines open_line
at_first tells s before =
    record { text = []; told = refl; count = refl; output = refl; begun = omega arith; inside = omega arith; left = refl }

module _ {tells : List ℕ → List ℕ → Type 0} {s before : List ℕ} {put start i : ℕ} {after : List ℕ}
    (p : Sofar tells s before put start i after) where
  pub sofar_length : length after ≡ length before
  sofar_length = ap length p.output ∙ length-sets before 0 p.text

  -- bytes without a line feed are passed over
  pub passed : (j : ℕ) → Quiet s i j → Sofar tells s before put start j after
  passed j q =
      let from = q.from in
      let begun = p.begun in
      let first = take i s in
      let more = between s i j in
      let at : i + (j - i) ≡ j = omega arith in
      let size : j - start ≡ i - start + (j - i) = omega arith in
      let place : start + (i - start) ≡ i = omega arith in
      let both : take j s ≡ first ++ more = rw at at (take-add i (j - i) s) in
      let whole = open_whole (open_line [] first) more q.lacks in
      record {
        text = p.text;
        told = rw (both, ended_append [] first more, whole.0, append-nil (ended_lines [] first)) p.told;
        count = p.count;
        output = p.output;
        begun = omega arith;
        inside = q.inside;
        left = rw (size, take-add (i - start) (j - i) (drop start s), drop-drop (i - start) start s, place, p.left, both, open_append [] first more, whole.1);
      }

  module _ (more : i < length s) where
    abbrev byte : ℕ
    byte = get_or s i 0

    pub line_end : (t now : List ℕ) → byte ≡ line_feed → tells (take (i - start) (drop start s)) t → now ≡ sets after put t
        → Sofar tells s before (put + length t) (i + 1) (i + 1) now
    line_end t now ends told bytes =
        let next = line_feed_lem (take i s) byte ends in
        let total = length-append p.text t in
        let k : i + 1 - (i + 1) ≡ 0 = omega arith in
        let first : 0 + length p.text ≡ put = omega (arith, p.count) in
        let line = open_line [] (take i s) in
        let one = turn_one tells line t (rw p.left at told) in
        record {
          text = p.text ++ t;
          told = rw (one_more s i more, next.0) (turn_append tells (ended_lines [] (take i s)) (line ∷ []) p.text t p.told one);
          count = omega (arith, p.count);
          output = bytes ∙ rw (p.output, ← first) (sets_both p.text t before 0);
          begun = omega arith;
          inside = omega arith;
          left = rw (k, one_more s i more, next.1);
        }

  -- at the end, what is told of all ended lines is put, and the rest is the open line
  module _ (end : length s ≤ i) where
    pub all_told : InTurn tells (ended_lines [] s) p.text
    all_told = rw (take_all i s end) at p.told

    pub all_left : drop start s ≡ open_line [] s
    all_left =
        let begun = p.begun in
        let inside = p.inside in
        let k : i - start ≡ length s - start = omega arith in
        sym (rest start s) ∙ rw (k, take_all i s end) at p.left
