-- The part: where the last word of the phrase begins, and what stands there.
use mathlib.Core.List.{List, [], ◌∷◌, ◌++◌, append_assoc, append-nil}
use mathlib.Core.Path.{◌≡◌, refl, sym, ◌∙◌, ap, ap₂, subst}
use Prim.Native.Nat.{ℕ, ◌+◌, ◌-◌, ◌≤◌}
use native.Mathlib.Decide.{dec_lt}
use native.Mathlib.Omega.{arith}
use lib.ListN.{length, take, drop, length-append}
use lib.Seq.{append_snoc, drop_at, take-append_seam, length-take-le}
use denote.Ref.{Bor}
use Rattle.words.proofs.text.Laws.{no_false, has_here, cut, known_cut}
use Rattle.words.proofs.wrapper.Laws.{spaced}
use Rattle.dating.proofs.anchor.Laws.{lacks_space}
use Rattle.words.specs.Text.{space, has, BehindLast}
use Rattle.words.specs.Told.{produced, unproduced}
use Rattle.words.specs.Wrapper.{wrapper_words}
use Rattle.dating.specs.Anchor.{spell_anchor, GoodAnchor}
use Rattle.dating.specs.Line.{Line, ending, spell_line, line_day, unfit, fit, IsDayOfLine}
use Rattle.dating.specs.Part.{Part, bytes_before, anchor_part, empty_part, if_accepted, line_part, IsPart, place_of, IsPlace, PartOf}
use Rattle.dating.specs.Phrase.{Phrase, plain, wrapped, spell_phrase, GoodPhrase, anchor_of}
use Rattle.dating.specs.Steps.{ReadFrom}
use Rattle.calendar.specs.declared.refusal.Refusal.{Refusal}
use Rattle.calendar.specs.declared.style.Style.{Style}
use Rattle.words.specs.declared.wrapper.Wrapper.{Wrapper}
use Rattle.dating.specs.declared.part.Place.{Place}
use Rattle.std.specs.Prelude.{Result, Ok, Err}

-- the words of all wrappers of a phrase
leads : Phrase → List ℕ
leads (plain a) = []
leads (wrapped w p) = wrapper_words w ++ leads p

its_leads : (p : Phrase) → leads p ++ spell_anchor (anchor_of p) ≡ spell_phrase p
unfolding leads anchor_of spell_phrase
its_leads (plain a) = refl
its_leads (wrapped w p) = append_assoc (wrapper_words w) (leads p) (spell_anchor (anchor_of p)) ∙ ap (λ (s : List ℕ). wrapper_words w ++ s) (its_leads p)

leads_long : (p : Phrase) → length (leads p) ≡ bytes_before p
unfolding leads bytes_before
leads_long (plain a) = refl
leads_long (wrapped w p) = length-append (wrapper_words w) (leads p) ∙ ap (λ (n : ℕ). length (wrapper_words w) + n) (leads_long p)

pub anchor_good : (p : Phrase) → GoodPhrase p → GoodAnchor (anchor_of p)
unfolding anchor_of GoodPhrase
anchor_good (plain a) g = g
anchor_good (wrapped w p) g = anchor_good p g.1

-- wrappers end in a space
leads_end : (w : Wrapper) (p : Phrase) → (x : List ℕ) × (leads (wrapped w p) ≡ x ++ space ∷ [])
unfolding leads
leads_end w (plain a) = let x = spaced w in (x.0, append-nil (wrapper_words w) ∙ x.1)
leads_end w (wrapped v p) =
    let x = leads_end v p in
    (wrapper_words w ++ x.0, ap (λ (s : List ℕ). wrapper_words w ++ s) x.1 ∙ sym (append_assoc (wrapper_words w) x.0 (space ∷ [])))

-- the feast word or date is the last word of its phrase
last_word : (p : Phrase) (i : ℕ) → GoodPhrase p → BehindLast space (spell_phrase p) i → i ≡ bytes_before p
unfolding spell_phrase anchor_of bytes_before GoodPhrase
last_word (plain a) i g b =
    elim (dec_lt 0 i) [
      | yes low ↦
          let s = spell_anchor a in
          no_false (sym (ap (has space) (sym (cut space s i b low)) ∙ has_here space (take (i - 1) s) (drop i s)) ∙ lacks_space a g)
      | no start ↦ omega arith
    ]
last_word (wrapped w p) i g b =
    let x = leads_end w p in
    let a = spell_anchor (anchor_of p) in
    let whole : x.0 ++ space ∷ a ≡ spell_phrase (wrapped w p) = sym (append_snoc x.0 space a) ∙ rw (← x.1) (its_leads (wrapped w p)) in
    let k = known_cut space (spell_phrase (wrapped w p)) i b x.0 a (lacks_space (anchor_of p) (anchor_good p g.1)) whole in
    let front = ap length k.1 ∙ length-take-le (i - 1) (spell_phrase (wrapped w p)) (omega (arith, b.inside)) in
    let long = sym (leads_long (wrapped w p)) ∙ ap length x.1 ∙ length-append x.0 (space ∷ []) in
    omega (arith, k.0)

phrase_long : (p : Phrase) → length (spell_phrase p) ≡ bytes_before p + length (spell_anchor (anchor_of p))
phrase_long p = sym (ap length (its_leads p)) ∙ length-append (leads p) (spell_anchor (anchor_of p)) ∙ rw (leads_long p)

-- ---- the place of the part
module _ (s : List ℕ) where
  pub refused_place : (x : Refusal) → IsDayOfLine s (Err x) → IsPlace s (place_of empty_part)
  unfolding line_part
  refused_place x (unfit h m) = unfit h refl
  refused_place x (fit h (unproduced none m)) = fit h (unproduced none refl)
  refused_place x (fit h (produced l g e m)) = fit h (produced l g e (rw (← m)))

  module _ (y : Style) (n k : ℕ) (r : ReadFrom s y n k) where
    its_phrase : take k s ≡ spell_phrase r.line.phrase
    unfolding spell_line
    its_phrase =
        let p = spell_phrase r.line.phrase in
        ap₂ take (sym r.phrase) (sym r.spelled) ∙ take-append_seam p (ending r.line.named)

    pub phrase_fits : length (take k s) ≡ k
    phrase_fits = ap length its_phrase ∙ r.phrase

    pub accepted_place : (i : ℕ) → BehindLast space (take k s) i → IsPlace s (record { start = i; end = k })
    unfolding line_part
    accepted_place i b =
        let p = r.line.phrase in
        let start = last_word p i r.good.phrase (rw its_phrase at b) in
        let stop : k ≡ bytes_before p + length (spell_anchor (anchor_of p)) = sym r.phrase ∙ phrase_long p in
        fit r.fits (produced r.line r.good r.spelled (rw r.day (λ j. record { start = start j; end = stop j })))

  -- the part whose place it is
  its_part : (r : Place) → IsPlace s r → (p : Part) × IsPart s p × (r ≡ place_of p)
  its_part r (unfit h m) = (empty_part, unfit h refl, m)
  its_part r (fit h (produced l g e m)) = (line_part l, fit h (produced l g e refl), m)
  its_part r (fit h (unproduced none m)) = (empty_part, fit h (unproduced none refl), m)

  -- the part stands in the line
  abbrev pub Stands : Part → Type 0
  Stands p = (p.start + length p.text ≤ length s) × (take (length p.text) (drop p.start s) ≡ p.text)

  accepted_stands : (a : Result ℕ Refusal) (l : Line) → spell_line l ≡ s → Stands (if_accepted a (anchor_part l.phrase))
  unfolding spell_line
  accepted_stands (Err x) l e = (omega arith, refl)
  accepted_stands (Ok n) l e =
      let p = l.phrase in
      let a = spell_anchor (anchor_of p) in
      let whole : leads p ++ (a ++ ending l.named) ≡ s = sym (append_assoc (leads p) a (ending l.named)) ∙ rw (its_leads p) e in
      let size = sym (ap length whole) ∙ length-append (leads p) (a ++ ending l.named) in
      let rest = length-append a (ending l.named) in
      let long = leads_long p in
      (omega arith, rw (← whole, drop_at (leads p) (a ++ ending l.named) (bytes_before p) long) (take-append_seam a (ending l.named)))

  -- The part stands in the line where it is said to.
  pub part_stands : (p : Part) → IsPart s p → Stands p
  unfolding line_part
  part_stands p (unfit h m) = rw m (omega arith, refl)
  part_stands p (fit h (produced l g e m)) = rw m (accepted_stands (line_day l) l e)
  part_stands p (fit h (unproduced none m)) = rw m (omega arith, refl)

  -- the slice between a part's places is the part
  part_bytes : (p : Part) → IsPart s p → take ((place_of p).end - (place_of p).start) (drop (place_of p).start s) ≡ p.text
  part_bytes p h =
      let count : p.start + length p.text - p.start ≡ length p.text = omega arith in
      rw count (part_stands p h).1

  module _ (r : Place) (h : IsPlace s r) where
    pub inside : r.end ≤ length s
    inside = let p = its_part r h in rw p.2 (part_stands p.0 p.1).0

-- so a slice that lies there is the part
pub lies_there : (x r : Bor (List ℕ)) (q : Place) → IsPlace x.now q → r.now ≡ take (q.end - q.start) (drop q.start x.now)
    → r.ref_ptr.0 ≡ x.ref_ptr.0 → r.ref_ptr.1 ≡ q.start + x.ref_ptr.1 → PartOf x r
lies_there x r q h bytes block offset =
    let p = its_part x.now q h in
    let at_place = subst (λ (o : Place). take (o.end - o.start) (drop o.start x.now) ≡ p.0.text) (sym p.2) (part_bytes x.now p.0 p.1) in
    record {
      part = p.0;
      is_part = p.1;
      contents = bytes ∙ at_place;
      block = block;
      offset = offset ∙ ap (λ (o : Place). o.start + x.ref_ptr.1) p.2;
    }
