-- Lines counted by their line feeds and the last byte, and their places filled one after the other.
use mathlib.Core.Bool.{Bool, false, not}
use mathlib.Core.List.{List, [], ◌∷◌, ◌++◌, append-nil}
use mathlib.Core.Logic.{◌⊎◌, inl, inr}
use mathlib.Core.Path.{◌≡◌, refl, sym, ◌∙◌, ap}
use Prim.Native.Nat.{ℕ, ◌+◌, ◌-◌, ◌*◌, ◌/◌, ◌<◌, ◌≤◌}
use native.Mathlib.Decide.{dec_lt}
use native.Mathlib.Omega.{arith}
use lib.Dec.{eqb}
use mir.Val.{bool_byte}
use lib.ListN.{length, take, drop, get_or, length-append, length-drop, take-append-drop, drop_of_length-le}
use lib.Seq.{take_all, sets}
use borrow.Author.Tests.{eqb-true, eqb-false, le-leb, lt-leb}
use Rattle.std.proofs.lemmas.Option.{slice_get-get_or}
use Rattle.std.specs.List.{slice_get}
use Rattle.std.specs.Option.{MatchOption}
use Rattle.words.proofs.text.Laws.{either, rest}
use Rattle.places.proofs.Bytes.{sets_both, sets_start}
use Rattle.places.proofs.Turn.{turn_append, turn_one, turn_length}
use Rattle.places.proofs.number.Laws.{number_length, number_first}
use Rattle.answers.proofs.Lines.{ended_append, last_some}
use Rattle.answers.proofs.feed.Laws.{ended_feeds}
use Rattle.answers.proofs.Walk.{line_feed_lem, no_line_feed, one_more, Sofar, sofar_length, passed, line_end, all_told, all_left}
use Rattle.dating.specs.Answer.{line_feed}
use Rattle.dating.specs.Line.{IsNumberOfLine}
use Rattle.places.specs.Number.{number_bytes, with_number}
use Rattle.answers.specs.Lines.{ended_lines, open_line, last_line, lines_of}
use Rattle.answers.specs.Steps.{feeds, between, EndsAt}
use Rattle.answers.specs.Page.{page_answer, IsPlace, Filled}
use Rattle.calendar.specs.declared.refusal.Refusal.TheVariants.{Length}
use Rattle.std.specs.Prelude.{Ok, Err}

-- ---- how many lines there are
-- a line that lacks its line feed is one more
line_count : (s : List ℕ) → length (lines_of s) ≡ length (ended_lines [] s) + length (last_line (open_line [] s))
line_count s = length-append (ended_lines [] s) (last_line (open_line [] s))

-- the last byte decides whether a line lacks its line feed
module _ (s : List ℕ) where
  abbrev last_byte : ℕ
  last_byte = get_or s (length s - 1) 0

  module _ (some : 0 < length s) where
    whole : s ≡ take (length s - 1) s ++ last_byte ∷ []
    whole =
        let k : length s - 1 + 1 ≡ length s = omega arith in
        sym (take_all (length s - 1 + 1) s (omega arith)) ∙ one_more s (length s - 1) (omega arith)

    ended_count : last_byte ≡ line_feed → length (lines_of s) ≡ feeds s
    ended_count ends =
        let line = ap (open_line []) whole ∙ (line_feed_lem (take (length s - 1) s) last_byte ends).1 in
        omega (arith, line_count s, ended_feeds [] s, ap length (ap last_line line))

    open_count : (last_byte ≡ line_feed → ⊥) → length (lines_of s) ≡ feeds s + 1
    open_count other =
        let front = open_line [] (take (length s - 1) s) in
        let line = ap (open_line []) whole ∙ (no_line_feed (take (length s - 1) s) last_byte other).1 in
        let one = last_some (front ++ last_byte ∷ []) (omega (arith, length-append front (last_byte ∷ []))) in
        omega (arith, line_count s, ended_feeds [] s, ap length (ap last_line line ∙ one))

pub lines_told : (s : List ℕ) (unended : Bool) → MatchOption (slice_get s (length s - 1)) (unended ≡ false) (λ c. unended ≡ not (eqb c line_feed))
    → feeds s + bool_byte unended ≡ length (lines_of s)
unfolding ended_lines open_line feeds
lines_told [] unended none = rw none
lines_told (c ∷ t) unended last =
    let s = c ∷ t in
    let some : 0 < length s = omega arith in
    let is = rw (slice_get-get_or s (length s - 1) 0 (omega arith)) at last in
    elim (either (eqb (last_byte s) line_feed)) [
      | inl e ↦ let ends = ended_count s some (eqb-true (last_byte s) line_feed e) in rw (is, e) (omega (arith, ends))
      | inr e ↦ rw (is, e) (sym (open_count s some (eqb-false (last_byte s) line_feed e)))
    ]

-- ---- places filled line by line
pub place_length : (l t : List ℕ) → IsPlace l t → length t ≡ 4
place_length l t (n, (told, e)) = ap length e ∙ number_length n

-- no more lines end in the first bytes than in all
ended_few : (s : List ℕ) (i : ℕ) → length (ended_lines [] (take i s)) ≤ length (ended_lines [] s)
ended_few s i =
    let first = ended_lines [] (take i s) in
    let others = ended_lines (open_line [] (take i s)) (drop i s) in
    let all = ap length (ap (ended_lines []) (sym (take-append-drop i s)) ∙ ended_append [] (take i s) (drop i s)) in
    omega (arith, length-append first others)

module _ {s before : List ℕ} {place start i : ℕ} {after : List ℕ} (p : Sofar IsPlace s before place start i after) where
  place_count : place ≡ 4 * length (ended_lines [] (take i s))
  place_count = p.count ∙ turn_length IsPlace 4 place_length (ended_lines [] (take i s)) p.text p.told

  module _ (room : length (lines_of s) ≤ length before / 4) where
    -- a line that ends has its place
    module _ (more : i < length s) (ends : get_or s i 0 ≡ line_feed) where
      pub end_room : place + 4 ≤ length after
      end_room =
          let next = line_feed_lem (take i s) (get_or s i 0) ends in
          let one = ap length (ap (ended_lines []) (one_more s i more) ∙ next.0) in
          let count = length-append (ended_lines [] (take i s)) (open_line [] (take i s) ∷ []) in
          omega (arith, ended_few s (i + 1), line_count s, place_count, sofar_length p)

      pub fill_next : (n : ℕ) (now : List ℕ) → IsNumberOfLine (take (i - start) (drop start s)) n → now ≡ with_number after place n
          → Sofar IsPlace s before (place + 4) (i + 1) (i + 1) now
      fill_next n now told bytes =
          let put = bytes ∙ number_first after place n end_room in
          rw (number_length n) at (line_end p more (number_bytes n) now ends (n, (told, refl)) put)

    module _ (end : length s ≤ i) where
      -- the lines that are told have room
      told_room : length p.text ≤ length before
      told_room = omega (arith, ended_few s i, line_count s, place_count, p.count)

      pub filled : length s ≤ start → Filled s before after
      filled none =
          let left = sym (all_left p end) ∙ drop_of_length-le s none in
          let lines : lines_of s ≡ ended_lines [] s = ap (λ (t : List ℕ). ended_lines [] s ++ last_line t) left ∙ append-nil (ended_lines [] s) in
          (p.text, (rw lines (all_told p end), p.output ∙ sets_start p.text before told_room))

      -- the line that no line feed ended has the last place
      module _ (some : start < length s) where
        last_line_lem : last_line (open_line [] s) ≡ drop start s ∷ []
        last_line_lem = let size = length-drop start s in ap last_line (sym (all_left p end)) ∙ last_some (drop start s) (omega arith)

        last_room : place + 4 ≤ length before
        last_room = let one = ap length last_line_lem in omega (arith, ended_few s i, line_count s, place_count)

        pub last_filled : (n : ℕ) (now : List ℕ) → IsNumberOfLine (drop start s) n → now ≡ with_number after place n → Filled s before now
        last_filled n now told bytes =
            let t = number_bytes n in
            let same = sofar_length p in
            let first : 0 + length p.text ≡ place = omega (arith, p.count) in
            let total = length-append p.text t in
            let four = number_length n in
            let put : now ≡ sets before 0 (p.text ++ t) =
            bytes ∙ number_first after place n (omega (arith, last_room)) ∙ rw (p.output, ← first) (sets_both p.text t before 0) in
            let one = turn_one IsPlace (drop start s) t (n, (told, refl)) in (
              p.text ++ t,
              (
                rw last_line_lem (turn_append IsPlace (ended_lines [] s) (drop start s ∷ []) p.text t (all_told p end) one),
                put ∙ sets_start (p.text ++ t) before (omega (arith, last_room, p.count)),
              ),
            )

-- the lines before start are told; or all are, and start lies behind the page, since its last line lacks a line feed
abbrev pub Filling : (s before : List ℕ) (place start : ℕ) (after : List ℕ) → Type 0
Filling s before place start after =
    Sofar IsPlace s before place start start after ⊎ ((length s < start) × Filled s before after)

module _ {s before : List ℕ} {place start : ℕ} {after : List ℕ} where
  module _ (room : length (lines_of s) ≤ length before / 4) where
    pub all_filled : Filling s before place start after → length s ≤ start → Filled s before after
    all_filled (inl p) end = filled p room end end
    all_filled (inr (far, done)) end = done

    module _ (f : Filling s before place start after) (some : start < length s) (e : ℕ) (ends : EndsAt s start e) where
      abbrev ToLine : Type 0
      ToLine = Sofar IsPlace s before place start e after

      to_line : ToLine
      to_line = go f
        where
          go : Filling s before place start after → ToLine
          go (inl p) = passed p e ends.quiet
          go (inr (far, done)) = absurd (omega arith)

      inside : e ≤ length s
      inside = ends.quiet.inside

      -- the line has its place, whether a line feed ends it or not
      pub line_room : place + 4 ≤ length before
      line_room =
          elim (dec_lt e (length s)) [
            | yes more ↦ rw (sofar_length to_line) at (end_room to_line room more (ends.feed more))
            | no last ↦ last_room to_line room (omega (arith, inside)) some
          ]

      pub fill_line : (n : ℕ) (now : List ℕ) → IsNumberOfLine (between s start e) n → now ≡ with_number after place n
          → Filling s before (place + 4) (e + 1) now
      fill_line n now told bytes =
          elim (dec_lt e (length s)) [
            | yes more ↦ inl (fill_next to_line room more (ends.feed more) n now told bytes)
            | no last ↦
                let whole : e ≡ length s = omega (arith, inside) in
                let line = rw (whole, rest start s) at told in
                inr (omega arith, last_filled to_line room (omega arith) some n now line bytes)
          ]

-- ---- what the calls answer
module _ (s : List ℕ) (size : ℕ) where
  pub too_long : 65536 < length s → Err Length ≡ page_answer s size
  too_long h = rw (lt-leb (length s) 65536 h)

  module _ (short : length s ≤ 65536) where
    pub too_few : size / 4 < length (lines_of s) → Err Length ≡ page_answer s size
    too_few h = rw (le-leb (length s) 65536 short, lt-leb (length (lines_of s)) (size / 4) h)

    pub all_fit : length (lines_of s) ≤ size / 4 → Ok (length (lines_of s)) ≡ page_answer s size
    all_fit h = rw (le-leb (length s) 65536 short, le-leb (length (lines_of s)) (size / 4) h)
