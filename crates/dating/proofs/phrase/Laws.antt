-- Phrases: each has one reading, and a wrapper acts on what the rest tells.
use mathlib.Core.Bool.{Bool, true, false, ◌&&◌, and-eq-true_iff}
use mathlib.Core.List.{List, [], ◌∷◌, ◌++◌}
use mathlib.Core.Path.{◌≡◌, refl, sym, ◌∙◌, ap, ap₂}
use Prim.Native.Nat.{ℕ}
use lib.ListN.{length, drop}
use lib.Seq.{append_snoc, drop-append_seam}
use Rattle.calendar.proofs.refusal.Laws.{no_day, passed}
use Rattle.words.proofs.Told.{OneReading}
use Rattle.words.proofs.text.Laws.{no_false, has_here}
use Rattle.words.proofs.wrapper.Laws.{spaced, one_wrapper}
use Rattle.dating.proofs.anchor.Laws.{lacks_space, one_anchor}
use Rattle.calendar.specs.Refusal.{◌unless◌, checked}
use Rattle.calendar.specs.Span.{in_span, within}
use Rattle.calendar.specs.Style.{dates_by}
use Rattle.words.specs.Text.{space, has}
use Rattle.words.specs.Told.{Told, produced, unproduced}
use Rattle.words.specs.Wrapper.{wrapper_words, GoodWrapper, leadings, lead}
use Rattle.dating.specs.Act.{moved, acted}
use Rattle.dating.specs.Anchor.{Anchor, spell_anchor, GoodAnchor}
use Rattle.dating.specs.Phrase.{Phrase, plain, wrapped, spell_phrase, GoodPhrase, anchor_of, comes_to, stays_in}
use Rattle.dating.specs.Phrase.{year_served, date_there, start_day, phrase_tests, phrase_day}
use Rattle.dating.specs.Steps.{anchors, anchor_day, phrases}
use Rattle.calendar.specs.declared.refusal.Refusal.TheVariants.{Form, Year, Date, Span}
use Rattle.calendar.specs.declared.style.Calendar.{Calendar}
use Rattle.calendar.specs.declared.year.NamedYear.{NamedYear}
use Rattle.words.specs.declared.wrapper.Lead.{Lead}
use Rattle.words.specs.declared.wrapper.Wrapper.{Wrapper}
use Rattle.std.specs.Prelude.{Some, None, Result, Ok, Err}
use Rattle.calendar.specs.declared.refusal.Refusal.{Refusal}

-- A wrapper acts on the day of the phrase behind it.
pub wrapper_acts : (t : NamedYear) (w : Wrapper) (p : Phrase) → phrase_day t (wrapped w p) ≡ acted (dates_by t.style) w (phrase_day t p)
unfolding phrase_day comes_to stays_in anchor_of within
wrapper_acts t w p = go (year_served t p) (date_there t p) (stays_in (dates_by t.style) p (start_day t p)) (comes_to p (start_day t p))
  where
    go : (year date stays : Bool) (n : ℕ)
        → checked Err (Ok (moved w n)) (Year unless year ∷ Date unless date ∷ Span unless (stays && in_span (dates_by t.style) (moved w n)) ∷ [])
        ≡ acted (dates_by t.style) w (checked Err (Ok n) (Year unless year ∷ Date unless date ∷ Span unless stays ∷ []))
    go false date stays n = refl
    go true false stays n = refl
    go true true false n = refl
    go true true true n = refl

-- ---- no feast word or date begins with a wrapper's words
no_anchor : {A : Type 0} (a : Anchor) (w : Wrapper) (t : List ℕ) → GoodAnchor a → spell_anchor a ≡ wrapper_words w ++ t → A
no_anchor a w t g e =
    let x = spaced w in
    let f : spell_anchor a ≡ x.0 ++ space ∷ t = e ∙ rw x.1 (append_snoc x.0 space t) in
    no_false (sym (ap (has space) f ∙ has_here space x.0 t) ∙ lacks_space a g)

-- ---- one reading
pub one_phrase : OneReading phrases
unfolding spell_phrase GoodPhrase
one_phrase (plain a) (plain b) g h e = ap plain (one_anchor a b g h e)
one_phrase (plain a) (wrapped w q) g h e = no_anchor a w (spell_phrase q) g e
one_phrase (wrapped w p) (plain b) g h e = no_anchor b w (spell_phrase p) h (sym e)
one_phrase (wrapped w p) (wrapped v q) g h e =
    let same = one_wrapper w v (spell_phrase p) (spell_phrase q) g.0 h.0 e in
    ap₂ wrapped same.0 (one_phrase p q g.1 h.1 same.1)

-- ---- every day that a phrase tells lies in the span
pub stays_last : (c : Calendar) (p : Phrase) (n : ℕ) → stays_in c p n ≡ true → in_span c (comes_to p n) ≡ true
unfolding stays_in comes_to
stays_last c (plain a) n h = h
stays_last c (wrapped w p) n h = ((and-eq-true_iff (stays_in c p n) (in_span c (moved w (comes_to p n)))).0 h).1

pub phrase_in_span : (t : NamedYear) (p : Phrase) (n : ℕ) → phrase_day t p ≡ Ok n → in_span (dates_by t.style) n ≡ true
unfolding phrase_day
phrase_in_span t p n e =
    let k = passed (phrase_tests t p) (comes_to p (start_day t p)) n e in
    rw k.1 at (stays_last (dates_by t.style) p (start_day t p) k.0.1.1.0)

pub told_in_span : (t : NamedYear) (s : List ℕ) (n : ℕ) → Told phrases (phrase_day t) (Err Form) s (Ok n) → in_span (dates_by t.style) n ≡ true
told_in_span t s n (produced p g e m) = phrase_in_span t p n (sym m)
told_in_span t s n (unproduced none m) = no_day Form n (sym m)

-- ---- what a phrase tells, by what it begins with
module _ (s : List ℕ) (t : NamedYear) where
  pub plain_told : Told leadings (λ x. Some (lead x)) None s None → (r : Result ℕ Refusal) → Told anchors (anchor_day t) (Err Form) s r
      → Told phrases (phrase_day t) (Err Form) s r
  unfolding spell_phrase GoodPhrase phrase_day comes_to stays_in anchor_of anchor_day
  plain_told (produced x g e m) r told = no_false cc
  plain_told (unproduced none m) r (produced a g e f) = produced (plain a) g e f
  plain_told (unproduced none m) r (unproduced n f) = unproduced (λ p g e. neither p g e) f
    where
      neither : (p : Phrase) → GoodPhrase p → spell_phrase p ≡ s → ⊥
      neither (plain a) g e = n a g e
      neither (wrapped w p) g e = none (record { wrapper = w; rest = spell_phrase p }) g.0 e

pub leads : (s : List ℕ) (l : Lead) → Told leadings (λ x. Some (lead x)) None s (Some l)
    → (l.length ≡ length (wrapper_words l.wrapper)) × GoodWrapper l.wrapper × (wrapper_words l.wrapper ++ drop l.length s ≡ s)
leads s l (unproduced none m) = no_false cc
leads s l (produced x g e m) =
    let same : l ≡ lead x = cc in
    let d : drop (length (wrapper_words x.wrapper)) s ≡ x.rest = rw (← e) (drop-append_seam (wrapper_words x.wrapper) x.rest) in
    rw same (refl, g, rw d e)

module _ (s : List ℕ) (l : Lead) (begins : Told leadings (λ x. Some (lead x)) None s (Some l)) where
  pub wrapped_told : (t : NamedYear) (r : Result ℕ Refusal) → Told phrases (phrase_day t) (Err Form) (drop l.length s) r
      → Told phrases (phrase_day t) (Err Form) s (acted (dates_by t.style) l.wrapper r)
  unfolding spell_phrase GoodPhrase
  wrapped_told t r (produced p g e m) =
      produced (wrapped l.wrapper p) ((leads s l begins).1, g) (rw e (leads s l begins).2) (ap (acted (dates_by t.style) l.wrapper) m ∙ sym (wrapper_acts t l.wrapper p))
  wrapped_told t r (unproduced none m) = unproduced (λ p g e. neither p g e) (rw m)
    where
      neither : (p : Phrase) → GoodPhrase p → spell_phrase p ≡ s → ⊥
      neither (plain a) g e = no_anchor a l.wrapper (drop l.length s) g (e ∙ sym (leads s l begins).2)
      neither (wrapped v p) g e =
          none p g.1 (one_wrapper v l.wrapper (spell_phrase p) (drop l.length s) g.0 (leads s l begins).1 (e ∙ sym (leads s l begins).2)).1
