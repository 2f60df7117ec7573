-- Lines byte by byte, and by their shape.
use mathlib.Core.Bool.{false}
use mathlib.Core.List.{List, [], ◌∷◌, ◌++◌, append-nil, append_assoc}
use mathlib.Core.Logic.{inl, inr}
use mathlib.Core.Path.{◌≡◌, refl, sym, ◌∙◌, ap}
use Prim.Native.Nat.{ℕ, ◌+◌, ◌≤◌}
use native.Mathlib.Omega.{arith}
use lib.Dec.{eqb}
use lib.ListN.{length, length-append}
use borrow.Author.Tests.{eqb-true}
use Rattle.words.proofs.text.Laws.{either, neither, has_append}
use Rattle.words.specs.Text.{has}
use Rattle.dating.specs.Answer.{line_feed}
use Rattle.answers.specs.Lines.{ended_lines, open_line, last_line, lines_of, HasLines, none, ended, unended}

-- ---- lines of bytes one behind the other
-- bytes and one more that is no line feed
lacks_on : (p : List ℕ) (c : ℕ) → has line_feed p ≡ false → eqb c line_feed ≡ false → has line_feed (p ++ c ∷ []) ≡ false
unfolding has
lacks_on p c h e = has_append line_feed p (c ∷ []) h (rw e)

-- the lines of p and s, where p has no line feed
abbrev pub lines_from : List ℕ → List ℕ → List (List ℕ)
lines_from p s = ended_lines p s ++ last_line (open_line p s)

pub ended_append : (p s t : List ℕ) → ended_lines p (s ++ t) ≡ ended_lines p s ++ ended_lines (open_line p s) t
unfolding ended_lines open_line
ended_append p [] t = refl
ended_append p (c ∷ s) t =
    elim (either (eqb c line_feed)) [
      | inl e ↦ rw e (ap (λ (ls : List (List ℕ)). p ∷ ls) (ended_append [] s t))
      | inr e ↦ rw e (ended_append (p ++ c ∷ []) s t)
    ]

pub open_append : (p s t : List ℕ) → open_line p (s ++ t) ≡ open_line (open_line p s) t
unfolding open_line
open_append p [] t = refl
open_append p (c ∷ s) t =
    elim (either (eqb c line_feed)) [
      | inl e ↦ rw e (open_append [] s t)
      | inr e ↦ rw e (open_append (p ++ c ∷ []) s t)
    ]

-- the lines of some bytes and of those behind them
pub parted : (p s t : List ℕ) → lines_from p (s ++ t) ≡ ended_lines p s ++ lines_from (open_line p s) t
parted p s t =
    rw (ended_append p s t, open_append p s t)
    (append_assoc (ended_lines p s) (ended_lines (open_line p s) t) (last_line (open_line (open_line p s) t)))

-- bytes without a line feed are the open line
pub open_whole : (p s : List ℕ) → has line_feed s ≡ false → (ended_lines p s ≡ []) × (open_line p s ≡ p ++ s)
unfolding ended_lines open_line has
open_whole p [] h = (refl, sym (append-nil p))
open_whole p (c ∷ s) h =
    let no = neither (eqb c line_feed) h in
    let rest = open_whole (p ++ c ∷ []) s no.1 in
    rw no.0 (rest.0, rest.1 ∙ append_assoc p (c ∷ []) s)

pub open_lacks : (p s : List ℕ) → has line_feed p ≡ false → has line_feed (open_line p s) ≡ false
unfolding open_line has
open_lacks p [] h = h
open_lacks p (c ∷ s) h =
    elim (either (eqb c line_feed)) [
      | inl e ↦ rw e (open_lacks [] s refl)
      | inr e ↦ rw e (open_lacks (p ++ c ∷ []) s (lacks_on p c h e))
    ]

-- bytes that no line feed ends are a line
pub last_some : (s : List ℕ) → 1 ≤ length s → last_line s ≡ s ∷ []
last_some [] h = absurd (omega arith)
last_some (c ∷ s) h = refl

-- a line takes a byte or more: its line feed, or where that lacks its own
bytes_enough : (p s : List ℕ) → length (ended_lines p s) + length (open_line p s) ≤ length p + length s
unfolding ended_lines open_line
bytes_enough p [] = omega arith
bytes_enough p (c ∷ s) =
    elim (either (eqb c line_feed)) [
      | inl e ↦ rw e (omega (arith, bytes_enough [] s))
      | inr e ↦ rw e (omega (arith, bytes_enough (p ++ c ∷ []) s, length-append p (c ∷ [])))
    ]

last_few : (s : List ℕ) → length (last_line s) ≤ length s
last_few [] = omega arith
last_few (c ∷ s) = omega arith

pub lines_few : (s : List ℕ) → length (lines_of s) ≤ length s
lines_few s = omega (arith, length-append (ended_lines [] s) (last_line (open_line [] s)), bytes_enough [] s, last_few (open_line [] s))

-- ---- lines by their shape
last_has : (p : List ℕ) → has line_feed p ≡ false → HasLines p (last_line p)
last_has [] h = none
last_has (c ∷ s) h = unended h

pub lines_have : (p s : List ℕ) → has line_feed p ≡ false → HasLines (p ++ s) (lines_from p s)
unfolding ended_lines open_line has
lines_have p [] h = rw (append-nil p) (last_has p h)
lines_have p (c ∷ s) h =
    elim (either (eqb c line_feed)) [
      | inl e ↦ rw (e, eqb-true c line_feed e) (ended h (lines_have [] s refl))
      | inr e ↦ rw (e, ← append_assoc p (c ∷ []) s) (lines_have (p ++ c ∷ []) s (lacks_on p c h e))
    ]

pub lines_known : {s : List ℕ} {ls : List (List ℕ)} → HasLines s ls → ls ≡ lines_of s
unfolding ended_lines open_line
lines_known none = refl
lines_known (ended {l} {s} h r) =
    let whole = open_whole [] l h in
    rw (ended_append [] l (line_feed ∷ s), open_append [] l (line_feed ∷ s), whole.0, whole.1) (ap (λ (ls : List (List ℕ)). l ∷ ls) (lines_known r))
lines_known (unended {c} {l} h) = let whole = open_whole [] (c ∷ l) h in rw (whole.0, whole.1)
