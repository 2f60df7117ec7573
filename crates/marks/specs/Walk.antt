-- From mark to mark.
use Rattle.std.specs.Prelude.{List, ◌≡◌, ℕ, ◌+◌, ◌≤◌, Option, MatchOption}
use Rattle.marks.specs.Mark.{IsMark}
use Rattle.marks.specs.Transcript.{mark_of, Counted}
use Rattle.marks.specs.declared.mark.Mark.{Mark}
use Rattle.marks.specs.declared.transcript.NextMark.{NextMark}

-- m is the first mark of s that begins at the place i or later
pub record IsFirstFrom (s : List ℕ) (i : ℕ) (m : Mark) : Type 0 where
  pub is_mark : IsMark s m
  pub from : i ≤ m.start
  pub first : (o : Mark) → IsMark s o → i ≤ o.start → m.start ≤ o.start

-- s has no mark that begins at the place i or later
abbrev pub NoneFrom : List ℕ → ℕ → Type 0
NoneFrom s i = (o : Mark) → IsMark s o → i ≤ o.start → ⊥

-- a step from a place of a text gives the first mark from there on, and leads to the place after its ]]; or there is none
abbrev pub Walks : List ℕ × ℕ → Option NextMark → List ℕ × ℕ → Type 0
Walks p r q =
    MatchOption r (NoneFrom p.0 p.1 × (q ≡ p)) (λ m. IsFirstFrom p.0 p.1 (mark_of m) × Counted p.0 m × (q ≡ (p.0, m.end + 2)))
