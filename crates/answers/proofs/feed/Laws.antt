-- Line feeds counted, and bytes without one.
use mathlib.Core.Bool.{false, not, cond}
use mathlib.Core.List.{List, [], ◌∷◌, ◌++◌}
use mathlib.Core.Logic.{inl, inr}
use mathlib.Core.Path.{◌≡◌, refl, sym, ◌∙◌, ap}
use Prim.Native.Nat.{ℕ, zero, suc, ◌+◌, ◌-◌, ◌*◌, ◌/◌, ◌<◌, ◌≤◌}
use native.Mathlib.Decide.{dec_lt}
use native.Mathlib.Omega.{arith}
use lib.Dec.{eqb, ltb}
use lib.ListN.{length, take, drop, get_or, length-drop, take-append-drop}
use lib.Seq.{length-take-le, take-add, take-take, drop-drop, get_or-drop}
use borrow.Author.Tests.{eqb-true, eq-eqb, ne_eqb, lt-ltb, le-ltb}
use Rattle.std.proofs.lemmas.List.Sums.{sum_by-cons, prefix_len-le-length, passes_at_first}
use Rattle.std.proofs.lemmas.List.Folds.{prefix_len-append}
use Rattle.words.proofs.text.Laws.{either, has_append, rest}
use Rattle.std.specs.Array.{IsFirstChunk}
use Rattle.std.specs.List.{sum_by, count_by, position_or_len}
use Rattle.std.specs.Prelude.{Option, Some, None, MatchOption}
use Rattle.std.specs.Simd.{first_chunks}
use Rattle.words.specs.Text.{has}
use Rattle.dating.specs.Answer.{line_feed}
use Rattle.answers.specs.Lines.{ended_lines}
use Rattle.answers.specs.Steps.{feeds, first_feed, between, Quiet, EndsAt}

-- ---- line feeds
feeds_append : (a b : List ℕ) → feeds (a ++ b) ≡ feeds a + feeds b
unfolding feeds
feeds_append [] b = omega arith
feeds_append (c ∷ a) b = rw (feeds_append a b) (omega arith)

pub feeds_few : (s : List ℕ) → feeds s ≤ length s
unfolding feeds
feeds_few [] = omega arith
feeds_few (c ∷ s) =
    elim (either (eqb c line_feed)) [
      | inl e ↦ rw e (omega (arith, feeds_few s))
      | inr e ↦ rw e (omega (arith, feeds_few s))
    ]

-- as the library counts them
feeds_counted : (s : List ℕ) → count_by (λ c. eqb c line_feed) s ≡ feeds s
unfolding feeds
feeds_counted [] = refl
feeds_counted (c ∷ s) = sum_by-cons (λ c. cond (eqb c line_feed) 1 0) c s ∙ ap (λ (n : ℕ). cond (eqb c line_feed) 1 0 + n) (feeds_counted s)

-- and in eights
feeds_eights : (k : ℕ) (s : List ℕ) → sum_by feeds (first_chunks 8 k s) + feeds (drop (k * 8) s) ≡ feeds s
feeds_eights zero s = omega arith
feeds_eights (suc k) s =
    let first = take 8 s in
    let others = drop 8 s in
    let place : 8 + k * 8 ≡ suc k * 8 = omega arith in
    let rest = ap feeds (rw place at (drop-drop (k * 8) 8 s)) in
    let whole = ap feeds (take-append-drop 8 s) in
    omega (arith, sum_by-cons feeds first (first_chunks 8 k others), feeds_eights k others, rest, feeds_append first others, whole)

pub feeds_parted : (s : List ℕ)
    → let n = length s / 8 in
    sum_by feeds (first_chunks 8 n s) + count_by (λ c. eqb c line_feed) (drop (n * 8) s) ≡ feeds s
feeds_parted s = rw (feeds_counted (drop (length s / 8 * 8) s)) (feeds_eights (length s / 8) s)

-- lines end by line feeds alone
pub ended_feeds : (p s : List ℕ) → length (ended_lines p s) ≡ feeds s
unfolding ended_lines feeds
ended_feeds p [] = refl
ended_feeds p (c ∷ s) =
    elim (either (eqb c line_feed)) [
      | inl e ↦ rw e (omega (arith, ended_feeds [] s))
      | inr e ↦ rw e (omega (arith, ended_feeds (p ++ c ∷ []) s))
    ]

-- ---- bytes without a line feed
pub quiet_first : (s : List ℕ) (i : ℕ) → i ≤ length s → Quiet s i i
unfolding has
quiet_first s i inside = let none : i - i ≡ 0 = omega arith in record { from = omega arith; inside = inside; lacks = rw none }

module _ {s : List ℕ} {i j : ℕ} (q : Quiet s i j) where
  longer : (n : ℕ) → between s i (j + n) ≡ between s i j ++ take n (drop j s)
  longer n =
      let from = q.from in
      let size : j + n - i ≡ j - i + n = omega arith in
      let at : i + (j - i) ≡ j = omega arith in
      rw (size, take-add (j - i) n (drop i s), drop-drop (j - i) i s, at)

  quiet_on : (n : ℕ) → j + n ≤ length s → has line_feed (take n (drop j s)) ≡ false → Quiet s i (j + n)
  quiet_on n fits none = record {
    from = omega (arith, q.from);
    inside = fits;
    lacks = rw (longer n) (has_append line_feed (between s i j) (take n (drop j s)) q.lacks none);
  }

  -- where a line that begins at j ends, one that begins at i does too
  ends_on : {k : ℕ} → EndsAt s j k → EndsAt s i k
  ends_on {k} e =
      let to = e.quiet.from in
      let whole : j + (k - j) ≡ k = omega arith in
      let lacks : has line_feed (take (k - j) (drop j s)) ≡ false = e.quiet.lacks in
      record { quiet = rw whole at (quiet_on (k - j) (omega (arith, e.quiet.inside)) lacks); feed = e.feed }

-- ---- bytes before a line feed
-- how many there are, all where there is no line feed
abbrev pub before_feed : List ℕ → ℕ
before_feed s = position_or_len (λ c. eqb c line_feed) s

pub before_few : (s : List ℕ) → before_feed s ≤ length s
before_few s = prefix_len-le-length _ s

pub before_append : (a b : List ℕ) → before_feed (a ++ b) ≡ cond (ltb (before_feed a) (length a)) (before_feed a) (length a + before_feed b)
before_append a b =
    let whole = prefix_len-append (λ c. not (eqb c line_feed)) a b in
    let few = before_few a in
    elim (dec_lt (before_feed a) (length a)) [
      | yes inside ↦ rw (whole, lt-ltb (before_feed a) (length a) inside, ne_eqb (before_feed a) (length a) (λ e. omega arith))
      | no all ↦ rw (whole, le-ltb (before_feed a) (length a) (omega arith), eq-eqb (before_feed a) (length a) (omega arith))
    ]

-- all stand before it together where all of each do
pub before_both : (a b : List ℕ) → before_feed (a ++ b) ≡ length a + length b → (before_feed a ≡ length a) × (before_feed b ≡ length b)
before_both a b h =
    let whole = before_append a b in
    let first = before_few a in
    let second = before_few b in
    elim (dec_lt (before_feed a) (length a)) [
      | yes inside ↦ let one = rw (lt-ltb (before_feed a) (length a) inside) at whole in absurd (omega arith)
      | no all ↦ let both = rw (le-ltb (before_feed a) (length a) (omega arith)) at whole in (omega arith, omega arith)
    ]

front_lacks : (s : List ℕ) → has line_feed (take (before_feed s) s) ≡ false
unfolding has
front_lacks [] = refl
front_lacks (c ∷ s) =
    elim (either (eqb c line_feed)) [
      | inl e ↦ rw e
      | inr e ↦ let more : 1 + before_feed s ≡ suc (before_feed s) = omega arith in rw (e, more, e) (front_lacks s)
    ]

feed_there : (s : List ℕ) → before_feed s < length s → get_or s (before_feed s) 0 ≡ line_feed
feed_there s h = eqb-true (get_or s (before_feed s) 0) line_feed (passes_at_first (λ c. eqb c line_feed) s 0 h)

-- the line that begins at a place ends after the bytes before a line feed
ends_first : (s : List ℕ) (i : ℕ) → i ≤ length s → EndsAt s i (i + before_feed (drop i s))
ends_first s i inside =
    let t = drop i s in
    let n = before_feed t in
    let few = before_few t in
    let size = length-drop i s in
    let count : i + n - i ≡ n = omega arith in
    record {
      quiet = record { from = omega arith; inside = omega arith; lacks = rw count (front_lacks t) };
      feed = λ more. rw (get_or-drop i s n 0) at (feed_there t (omega arith));
    }

-- what the first line feed's place tells of them, or that there is none
first_told : (s : List ℕ) (o : Option ℕ) → o ≡ first_feed s → MatchOption o (before_feed s ≡ length s) (λ k. (k ≡ before_feed s) × (k < length s))
first_told s o e =
    elim (dec_lt (before_feed s) (length s)) [
      | yes inside ↦ let some = lt-ltb (before_feed s) (length s) inside in rw (e, some) (refl, inside)
      | no all ↦ let none = le-ltb (before_feed s) (length s) (omega arith) in rw (e, none) (omega (arith, before_few s))
    ]

-- ---- part by part
-- the n bytes from j on
module _ {s : List ℕ} {i j : ℕ} (q : Quiet s i j) (n : ℕ) (fits : j + n ≤ length s) where
  abbrev part : List ℕ
  part = take n (drop j s)

  part_size : length part ≡ n
  part_size = length-take-le n (drop j s) (omega (arith, length-drop j s))

  part_none : None ≡ first_feed part → Quiet s i (j + n)
  part_none e =
      let all = first_told part None e ∙ part_size in
      let lacks = rw (all, take-take n n (drop j s) (omega arith)) at (front_lacks part) in
      quiet_on q n fits lacks

  part_some : {k : ℕ} → Some k ≡ first_feed part → EndsAt s i (j + k) × (j + k < length s)
  part_some {k} e =
      let here = first_told part (Some k) e in
      let inside = lt-ltb (before_feed part) (length part) (omega (arith, here)) in
      let whole = ap before_feed (sym (take-append-drop n (drop j s))) ∙ rw inside at (before_append part (drop n (drop j s))) in
      (ends_on q (rw (whole, ← here.0) at (ends_first s j q.inside)), omega (arith, here, part_size))

module _ {s : List ℕ} {i j : ℕ} (q : Quiet s i j) where
  -- a first chunk of the bytes from j on
  module _ {n : ℕ} {chunk : List ℕ} (first : IsFirstChunk (take (length s - j) (drop j s)) chunk n) where
    chunk_fits : j + n ≤ length s
    chunk_fits = omega (arith, rw (rest j s) at first.enough, length-drop j s, q.inside)

    chunk_is : chunk ≡ take n (drop j s)
    chunk_is = rw (rest j s) at first.same

    pub chunk_none : None ≡ first_feed chunk → Quiet s i (j + n)
    chunk_none e = part_none q n chunk_fits (rw chunk_is at e)

    pub chunk_some : {k : ℕ} → Some k ≡ first_feed chunk → EndsAt s i (j + k) × (j + k < length s)
    chunk_some e = part_some q n chunk_fits (rw chunk_is at e)

  -- and all of them
  whole_fits : j + (length s - j) ≤ length s
  whole_fits = omega (arith, q.inside)

  pub rest_none : None ≡ first_feed (take (length s - j) (drop j s)) → EndsAt s i (length s)
  rest_none e =
      let whole : j + (length s - j) ≡ length s = omega (arith, q.inside) in
      record { quiet = rw whole at (part_none q (length s - j) whole_fits e); feed = λ more. absurd (omega arith) }

  pub rest_some : {k : ℕ} → Some k ≡ first_feed (take (length s - j) (drop j s)) → EndsAt s i (j + k) × (j + k < length s)
  rest_some e = part_some q (length s - j) whole_fits e
