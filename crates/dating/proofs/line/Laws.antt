-- Endings and lines: each has one reading, and a line tells what its phrase tells in the year that its ending names.
use mathlib.Core.Bool.{true, false}
use mathlib.Core.List.{List, [], ◌∷◌, ◌++◌, append_assoc}
use mathlib.Core.Logic.{inl, inr}
use mathlib.Core.Path.{◌≡◌, refl, sym, ◌∙◌, ap}
use Prim.Native.Nat.{ℕ, zero, suc, ◌+◌, ◌-◌, ◌<◌, ◌≤◌}
use native.Mathlib.Omega.{arith}
use lib.Dec.{eqb}
use lib.ListN.{length, take, drop, get_or, length-append, take-append-drop}
use lib.Seq.{drop-cons, drop-length, length-take-le, take-append_seam, get_or-append_seam, get_or-append-add}
use borrow.Author.Tests.{eqb-true, le-leb, lt-leb}
use Rattle.calendar.proofs.refusal.Laws.{no_day}
use Rattle.words.proofs.Told.{one_told, told_map, number_told, number_untold}
use Rattle.words.proofs.numeral.Laws.{one_number, numeral_lacks, numeral_length}
use Rattle.words.proofs.text.Laws.{no_false, either, one_cut, cut, known_cut}
use Rattle.dating.proofs.anchor.Laws.{three_bytes}
use Rattle.dating.proofs.phrase.Laws.{one_phrase}
use Rattle.calendar.specs.Range.{between}
use Rattle.calendar.specs.Style.{style_letter}
use Rattle.calendar.specs.Year.{named}
use Rattle.words.specs.Numeral.{numeral, numerals}
use Rattle.words.specs.Text.{space, has, BehindLast}
use Rattle.words.specs.Told.{Told, produced, unproduced}
use Rattle.words.specs.Wrapper.{wrapper_words}
use Rattle.dating.specs.Line.{Line, ending, GoodYear, spell_line, GoodLine, line_day, LineTold, unfit, fit, length_fits, IsDayOfLine}
use Rattle.dating.specs.Phrase.{Phrase, plain, wrapped, spell_phrase, GoodPhrase, phrase_day}
use Rattle.dating.specs.Steps.{phrases, style_of_letter, Ended, endings, end_at, ReadFrom}
use Rattle.calendar.specs.declared.refusal.Refusal.TheVariants.{Length, Form}
use Rattle.calendar.specs.declared.refusal.Refusal.{Refusal}
use Rattle.calendar.specs.declared.style.Style.TheVariants.{J, G, O}
use Rattle.calendar.specs.declared.style.Style.{Style}
use Rattle.calendar.specs.declared.year.NamedYear.{NamedYear}
use Rattle.dating.specs.declared.line.Ending.{Ending}
use Rattle.std.specs.Prelude.{Option, Some, None, Result, Ok, Err}

-- ---- style letters
its_letter : (s : Style) → style_of_letter (style_letter s) ≡ Some s
its_letter J = refl
its_letter G = refl
its_letter O = refl

letter_of_lem : (x : ℕ) (s : Style) → style_of_letter x ≡ Some s → style_letter s ≡ x
letter_of_lem x s h =
    elim (either (eqb x (style_letter G))) [
      | inl g ↦ let same : G ≡ s = cc in rw (← same) (sym (eqb-true x (style_letter G) g))
      | inr g ↦ elim (either (eqb x (style_letter J))) [
        | inl j ↦ let same : J ≡ s = cc in rw (← same) (sym (eqb-true x (style_letter J) j))
        | inr j ↦ elim (either (eqb x (style_letter O))) [
          | inl o ↦ let same : O ≡ s = cc in rw (← same) (sym (eqb-true x (style_letter O) o))
          | inr o ↦ let none : None ≡ Some s = rw (g, j, o) at h in no_false cc
        ]
      ]
    ]

no_space : (s : Style) → has space (style_letter s ∷ []) ≡ false
unfolding has
no_space J = refl
no_space G = refl
no_space O = refl

-- ---- endings
-- the last n bytes of s
last_of : ℕ → List ℕ → List ℕ
last_of zero s = []
last_of (suc n) s = get_or s (length s - suc n) 0 ∷ last_of n s

last_bytes : (n : ℕ) (s : List ℕ) → n ≤ length s → take (length s - n) s ++ last_of n s ≡ s
unfolding last_of
last_bytes n s h = rw (← go n h) (take-append-drop (length s - n) s)
  where
    go : (k : ℕ) → k ≤ length s → drop (length s - k) s ≡ last_of k s
    go zero h = let all : length s - 0 ≡ length s = omega arith in rw all (drop-length s)
    go (suc k) h =
        let next : suc (length s - suc k) ≡ length s - k = omega arith in
        drop-cons s (length s - suc k) 0 (omega arith) ∙ rw (next, go k (omega arith))

-- the bytes before the last space and letter
abbrev before : List ℕ → NamedYear → List ℕ
before a t = a ++ space ∷ numeral t.year

split : (a : List ℕ) (t : NamedYear) → before a t ++ space ∷ style_letter t.style ∷ [] ≡ a ++ ending t
split a t = append_assoc a (space ∷ numeral t.year) (space ∷ style_letter t.style ∷ [])

year_lacks_space : (t : NamedYear) → GoodYear t → has space (numeral t.year) ≡ false
year_lacks_space t g = numeral_lacks space t.year (omega arith) g.0 g.1

one_ending : (a b : List ℕ) (t u : NamedYear) → GoodYear t → GoodYear u → a ++ ending t ≡ b ++ ending u → (a ≡ b) × (t ≡ u)
one_ending a b t u g h e =
    let outer =
    one_cut space (before a t) (before b u) (style_letter t.style ∷ []) (style_letter u.style ∷ []) (no_space t.style) (no_space u.style)
    (split a t ∙ e ∙ sym (split b u)) in
    let inner = one_cut space a b (numeral t.year) (numeral u.year) (year_lacks_space t g) (year_lacks_space u h) outer.0 in
    let letters_same = outer.1 in
    let byte : style_letter t.style ≡ style_letter u.style = cc in
    let letters : Some t.style ≡ Some u.style = sym (its_letter t.style) ∙ ap style_of_letter byte ∙ its_letter u.style in
    let style : t.style ≡ u.style = cc in
    let year = one_number t.year u.year g.0 g.1 h.0 h.1 inner.1 in
    (inner.0, λ i. record { style = style i; year = year i })

module _ (s : List ℕ) where
  abbrev pub TellsEnding : Option Ending → Type 0
  TellsEnding r = Told endings (λ x. Some (end_at x)) None s r

  -- the byte that is the k-th from the end
  abbrev from_end : ℕ → ℕ
  from_end k = get_or s (length s - k) 0

  -- the last two bytes of a line, and those before them
  ended : (x : Ended) → x.front ++ ending x.named ≡ s
      → (2 ≤ length s) × ((before x.front x.named ≡ take (length s - 2) s)
      × ((from_end 2 ≡ space) × (from_end 1 ≡ style_letter x.named.style)))
  ended x e =
      let a = before x.front x.named in
      let l = style_letter x.named.style in
      let whole : a ++ space ∷ l ∷ [] ≡ s = split x.front x.named ∙ e in
      let long : length s ≡ length a + 2 = sym (ap length whole) ∙ length-append a (space ∷ l ∷ []) in
      let two : length s - 2 ≡ length a = omega arith in
      let one : length s - 1 ≡ length a + 1 = omega arith in (
        omega arith,
        (
          rw (two, ← whole) (sym (take-append_seam a (space ∷ l ∷ []))),
          (rw (two, ← whole) (get_or-append_seam a space (l ∷ []) 0), rw (one, ← whole) (get_or-append-add a (space ∷ l ∷ []) 1 0)),
        ),
      )

  module _ (i : ℕ) (b : BehindLast space (take (length s - 2) s) i) where
    year_cut : (x : Ended) → GoodYear x.named → x.front ++ ending x.named ≡ s
        → (0 < i) × (x.front ≡ take (i - 1) (take (length s - 2) s)) × (numeral x.named.year ≡ drop i (take (length s - 2) s))
    year_cut x g e =
        known_cut space (take (length s - 2) s) i b x.front (numeral x.named.year) (year_lacks_space x.named g) (ended x e).1.0

    pub no_year_space : i ≡ 0 → TellsEnding None
    no_year_space z = unproduced (λ x g e. let k = year_cut x g e in omega arith) refl

    abbrev TellsYear : Option ℕ → Type 0
    TellsYear = Told (numerals 9999) Some None (drop i (take (length s - 2) s))

    pub no_year : TellsYear None → TellsEnding None
    no_year told = unproduced (λ x g e. number_untold told x.named.year g.0 g.1 (year_cut x g e).2) refl

    pub ending_told : (y : ℕ) (t : Style) → TellsYear (Some y) → 2 ≤ length s → from_end 2 ≡ space → style_of_letter (from_end 1) ≡ Some t → 0 < i
        → TellsEnding (Some (record { phrase = i - 1; named = named t y }))
    unfolding last_of
    ending_told y t told long byte letter low =
        let front = take (length s - 2) s in
        let n = number_told y told in
        let inside = b.inside in
        let size = length-take-le (length s - 2) s (omega arith) in
        let bytes : take (i - 1) front ++ space ∷ numeral y ≡ front = rw n.1 (cut space front i b low) in
        let spelled : take (i - 1) front ++ ending (named t y) ≡ s =
        sym (split (take (i - 1) front) (named t y)) ∙ rw (bytes, letter_of_lem (from_end 1) t letter, ← byte) (last_bytes 2 s long) in
        produced (record { front = take (i - 1) front; named = named t y }) n.0 spelled
        (rw (length-take-le (i - 1) front (omega arith)))

  -- a year of four digits, which stands at a known place
  pub four_told : (y : ℕ) (t : Style) → Told (numerals 9999) Some None (from_end 6 ∷ from_end 5 ∷ from_end 4 ∷ from_end 3 ∷ []) (Some y)
      → 7 ≤ length s → from_end 7 ≡ space → from_end 2 ≡ space → style_of_letter (from_end 1) ≡ Some t
      → TellsEnding (Some (record { phrase = length s - 7; named = named t y }))
  unfolding last_of
  four_told y t told long first last letter =
      let n = number_told y told in
      let spelled : take (length s - 7) s ++ ending (named t y) ≡ s =
      rw (n.1, letter_of_lem (from_end 1) t letter) (rw (first, last) at (last_bytes 7 s long)) in
      produced (record { front = take (length s - 7) s; named = named t y }) n.0 spelled
      (rw (length-take-le (length s - 7) s (omega arith)))

-- ---- lines
-- no line is shorter than `1.1 1 J`
phrase_length : (p : Phrase) → GoodPhrase p → 3 ≤ length (spell_phrase p)
unfolding spell_phrase GoodPhrase
phrase_length (plain a) g = three_bytes a g
phrase_length (wrapped w p) g =
    let all = length-append (wrapper_words w) (spell_phrase p) in
    let rest = phrase_length p g.1 in
    omega arith

pub line_length : (l : Line) → GoodLine l → 7 ≤ length (spell_line l)
unfolding spell_line
line_length l g =
    let t = l.named in
    let all = length-append (spell_phrase l.phrase) (ending t) in
    let front = phrase_length l.phrase g.phrase in
    let back = length-append (numeral t.year) (space ∷ style_letter t.style ∷ []) in
    let year = (numeral_length t.year).0 in
    omega arith

-- No bytes are spelled by two good lines.
pub one_reading : (l m : Line) → GoodLine l → GoodLine m → spell_line l ≡ spell_line m → l ≡ m
unfolding spell_line
one_reading l m g h e =
    let k = one_ending (spell_phrase l.phrase) (spell_phrase m.phrase) l.named m.named g.year h.year e in
    let phrase = one_phrase l.phrase m.phrase g.phrase h.phrase k.0 in
    λ i. record { phrase = phrase i; named = k.1 i }

-- Any two answers that a call of the line may give are equal, whatever it asks of the line.
pub one_answer : {R : Type 0} {meaning : Line → R} {refused : Refusal → R} {s : List ℕ} (r q : R)
    → LineTold meaning refused s r → LineTold meaning refused s q → r ≡ q
one_answer r q (unfit h m) (unfit k n) = m ∙ sym n
one_answer r q (unfit h m) (fit k t) = no_false (sym k ∙ h)
one_answer r q (fit h t) (unfit k n) = no_false (sym h ∙ k)
one_answer r q (fit h t) (fit k u) = one_told one_reading r q t u

-- what is made of the answer is told by the meaning that is made so
pub line_map : {R Q : Type 0} {meaning : Line → R} {refused : Refusal → R} {s : List ℕ} (f : R → Q) (r : R)
    → LineTold meaning refused s r → LineTold (λ l. f (meaning l)) (λ x. f (refused x)) s (f r)
line_map f r (unfit h m) = unfit h (ap f m)
line_map f r (fit h t) = fit h (told_map f r t)

-- ---- what a line tells
pub too_many : (s : List ℕ) → 120 < length s → IsDayOfLine s (Err Length)
unfolding between
too_many s h = unfit (rw (le-leb 1 (length s) (omega arith), lt-leb (length s) 120 h)) refl

module _ (s : List ℕ) (fits : length_fits s ≡ true) where
  pub no_ending : TellsEnding s None → IsDayOfLine s (Err Form)
  unfolding spell_line
  no_ending (produced x g e m) = no_false cc
  no_ending (unproduced none m) =
      fit fits (unproduced (λ l g e. none (record { front = spell_phrase l.phrase; named = l.named }) g.year e) refl)

pub ending_of : (s : List ℕ) (e : Ending) → TellsEnding s (Some e) → (e.phrase ≤ length s) × (GoodYear e.named × (take e.phrase s ++ ending e.named ≡ s))
ending_of s e (unproduced none m) = no_false cc
ending_of s e (produced x g spelled m) =
    let same : e ≡ end_at x = cc in
    let long = sym (ap length spelled) ∙ length-append x.front (ending x.named) in
    let front : take (length x.front) s ≡ x.front = rw (← spelled) (take-append_seam x.front (ending x.named)) in
    rw same (omega arith, (g, rw front spelled))

module _ (s : List ℕ) (e : Ending) (ends : TellsEnding s (Some e)) where
  abbrev its_end : (e.phrase ≤ length s) × (GoodYear e.named × (take e.phrase s ++ ending e.named ≡ s))
  its_end = ending_of s e ends

  pub size : length (take e.phrase s) ≡ e.phrase
  size = length-take-le e.phrase s its_end.0

  module _ (fits : length_fits s ≡ true) where
    pub line_told : (r : Result ℕ Refusal) → Told phrases (phrase_day e.named) (Err Form) (take e.phrase s) r → IsDayOfLine s r
    unfolding spell_line line_day
    line_told r (produced p g spelled m) =
        fit fits (produced (record { phrase = p; named = e.named }) (record { phrase = g; year = its_end.1.0 }) (rw spelled its_end.1.1) m)
    line_told r (unproduced none m) =
        fit fits (unproduced (λ l g spelled.
        let same = one_ending (spell_phrase l.phrase) (take e.phrase s) l.named e.named g.year its_end.1.0 (spelled ∙ sym its_end.1.1) in
        none l.phrase g.phrase same.0) m)

    pub reading : (n : ℕ) → Told phrases (phrase_day e.named) (Err Form) (take e.phrase s) (Ok n) → ReadFrom s e.named.style n e.phrase
    unfolding spell_line line_day
    reading n (unproduced none m) = no_day Form n (sym m)
    reading n (produced p g spelled m) =
        record {
          fits = fits;
          line = record { phrase = p; named = e.named };
          good = record { phrase = g; year = its_end.1.0 };
          spelled = rw spelled its_end.1.1;
          day = sym m;
          style = refl;
          phrase = ap length spelled ∙ size;
        }

-- ---- what a reading says
pub day_read : (s : List ℕ) (y : Style) (n k : ℕ) → ReadFrom s y n k → IsDayOfLine s (Ok n)
day_read s y n k r = fit r.fits (produced r.line r.good r.spelled (sym r.day))
