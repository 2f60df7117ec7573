-- Wrappers: by their numbers, each without "on or" with its slot alone, and each ends in a space.
use mathlib.Core.Bool.{true, false, cond, not}
use mathlib.Core.List.{List, [], ◌∷◌, ◌++◌, append_assoc}
use mathlib.Core.Logic.{◌⊎◌, inl, inr, ⊎_elim}
use mathlib.Core.Path.{◌≡◌, refl, sym, ◌∙◌, ap, ap₂}
use Prim.Native.Nat.{ℕ, suc, ◌+◌, ◌-◌, ◌*◌, ◌/◌, ◌%◌, ◌<◌, ◌≤◌}
use native.Mathlib.Decide.{dec_lt}
use native.Mathlib.Omega.{arith}
use lib.Dec.{T, eqb, ltb}
use lib.ListN.{length, drop, get_or, length-append, get_or-append}
use lib.Seq.{drop-append_seam}
use borrow.Author.Tests.{eqb-true, eqb-false, lt-ltb, le-ltb}
use Rattle.calendar.proofs.Each.{each}
use Rattle.words.proofs.Slots.{Bytes, within_bytes, small_four, four_append, same_word, both_fours}
use Rattle.words.proofs.Slots.{Others, no_slot, worded, holds, holds_it, its_bytes, one_slot}
use Rattle.words.proofs.Tests.{every, Each, each_at, by_test}
use Rattle.words.proofs.Told.{OneReading}
use Rattle.words.proofs.text.Laws.{within}
use Rattle.std.specs.Prelude.{Option, Some, None}
use Rattle.calendar.specs.Range.{between}
use Rattle.words.specs.Steps.{four, outer_of, held, outer_for, wrapper_slot, bare_number, bare_words, middle_for, wrapper_outer, wrapper_middle}
use Rattle.words.specs.Steps.{numbered_wrapper, Wordless, MayLead, count_by, eight_at, eight_of, more_by, LeadTold}
use Rattle.words.specs.Text.{bytes, space, has}
use Rattle.words.specs.Told.{Told, produced, unproduced}
use Rattle.words.specs.Wrapper.{weekday_word, start_words, wrapper_words, GoodWrapper, leadings, lead}
use Rattle.calendar.specs.declared.weekday.Side.TheVariants.{After, Before}
use Rattle.calendar.specs.declared.weekday.Start.TheVariants.{Counted, Uncounted}
use Rattle.words.specs.declared.wrapper.Lead.{Lead}
use Rattle.words.specs.declared.wrapper.Wrapper.TheVariants.{Eve, Morrow, Octave, First}
use Rattle.words.specs.declared.wrapper.Wrapper.{Wrapper}

-- r is what a phrase is told to begin with
abbrev pub Leads : List ℕ → Option Lead → Type 0
Leads s r = Told leadings (λ x. Some (lead x)) None s r

-- ---- numbers of wrappers
abbrev number_of : Wrapper → ℕ
number_of Eve = 0
number_of Morrow = 8
number_of Octave = 32
number_of (First Uncounted After d) = d
number_of (First Uncounted Before d) = d + 8
number_of (First Counted After d) = d + 16
number_of (First Counted Before d) = d + 24

-- what holds of each good wrapper
by_wrapper : (P : Wrapper → Type 0)
    → P Eve × P Morrow × P Octave × Each (λ d. P (First Uncounted After d)) 7 × Each (λ d. P (First Uncounted Before d)) 7
    × Each (λ d. P (First Counted After d)) 7 × Each (λ d. P (First Counted Before d)) 7
    → (w : Wrapper) → GoodWrapper w → P w
by_wrapper P p Eve g = p.0
by_wrapper P p Morrow g = p.1
by_wrapper P p Octave g = p.2
by_wrapper P p (First Uncounted After d) g = each_at (λ d. P (First Uncounted After d)) 7 p.3 d g
by_wrapper P p (First Uncounted Before d) g = each_at (λ d. P (First Uncounted Before d)) 7 p.4 d g
by_wrapper P p (First Counted After d) g = each_at (λ d. P (First Counted After d)) 7 p.5 d g
by_wrapper P p (First Counted Before d) g = each_at (λ d. P (First Counted Before d)) 7 p.6 d g

numbered : (w : Wrapper) → GoodWrapper w → numbered_wrapper (number_of w) ≡ w
numbered = by_wrapper (λ w. numbered_wrapper (number_of w) ≡ w) (search depth 20)

-- ---- the words without "on or" by their slot
all_worded : T (each (λ k. every (worded wrapper_slot bare_words 17 32 (suc k))) 17)
unfolding worded held within between
all_worded = tt

-- the slots of the words, the last first
abbrev wrapper_keys : List ℕ
wrapper_keys = 31 ∷ 28 ∷ 27 ∷ 24 ∷ 23 ∷ 21 ∷ 20 ∷ 19 ∷ 15 ∷ 12 ∷ 10 ∷ 9 ∷ 6 ∷ 5 ∷ 4 ∷ 3 ∷ 0 ∷ []

pub no_wrapper : (f : ℕ → ℕ) (i : ℕ) → Others wrapper_keys i → 0 ≡ held (λ k. wrapper_slot (bare_words k)) f 17 i
unfolding has
no_wrapper f i o = no_slot (λ k. wrapper_slot (bare_words k)) f 17 wrapper_keys tt i o

-- ---- what antt computes of each wrapper's words
-- how many bytes more than count_by tells they have
abbrev more_of : Wrapper → ℕ
more_of w = more_by (eight_of (wrapper_words w))

-- the index of the words that they are compared with
abbrev index_of : Wrapper → ℕ
index_of w = cond (eqb (number_of w) 32) 17 (suc (number_of w % 16))

-- n where "on or" stands, and else 0
abbrev if_on_or : ℕ → ℕ → ℕ
if_on_or more n = cond (eqb more 0) 0 n

-- the slot where so many bytes are passed over
abbrev slot_by : ℕ → List ℕ → ℕ
slot_by skip s = (2 * get_or s 1 0 + 4 * get_or s 2 0 + get_or s (4 + skip) 0) % 32

-- the eight bytes by which it is told
abbrev eight_for : ℕ → ℕ
eight_for more = cond (eqb more 6) (eight_at (bytes " on or a") 0) (cond (eqb more 7) (eight_at (bytes " on or b") 0) 0)

-- what antt computes of the words of a wrapper, with so many bytes more for "on or", and of those of the index x
record Facts (w : Wrapper) (more x : ℕ) : Type 0 where
  index : (1 ≤ x) × (x ≤ 17)
  number : number_of w ≡ bare_number x + if_on_or more 16
  long : (7 + if_on_or more 6 ≤ length (wrapper_words w)) × (length (wrapper_words w) ≤ 11 + if_on_or more 6)
  count : length (wrapper_words w) ≡ count_by (four (wrapper_words w) 3) + more
  on : eqb (four (wrapper_words w) 3) (four (bytes " on ") 0) ≡ not (ltb (length (wrapper_words w)) 13)
  eight : if_on_or more (eight_at (wrapper_words w) 3) ≡ eight_for more
  slot : slot_by (if_on_or more 6) (wrapper_words w) ≡ wrapper_slot (bare_words x)
  outer : outer_of (wrapper_words w) (length (wrapper_words w)) ≡ outer_for bare_words x
  middle : four (wrapper_words w) (3 + if_on_or more 6) ≡ four (bare_words x) 3

facts : (w : Wrapper) → GoodWrapper w → Facts w (more_of w) (index_of w)
unfolding four
facts =
    by_wrapper (λ w. Facts w (more_of w) (index_of w))
    (search arith, search arith, search arith, search arith depth 20, search arith depth 20, search arith depth 20, search arith depth 20)

small_bytes : (w : Wrapper) → GoodWrapper w → Bytes (wrapper_words w)
unfolding within between
small_bytes w g = within_bytes 32 (wrapper_words w) (by_wrapper (λ w. within 32 122 (wrapper_words w) ≡ true) (search depth 20) w g)

-- ---- what is told by the bytes behind the weekday
-- what holds with 6 and with 7 of the eight bytes that tell these, and with 0 of any, holds with what is told
by_on_or : (P : ℕ → ℕ → Type 0) → P (eight_at (bytes " on or a") 0) 6 → P (eight_at (bytes " on or b") 0) 7 → ((e : ℕ) → P e 0) → (e : ℕ) → P e (more_by e)
by_on_or P a b none e =
    by_test (P e) (eqb e (eight_at (bytes " on or a") 0)) (λ q. rw (eqb-true e _ q) a) (λ _.
    by_test (P e) (eqb e (eight_at (bytes " on or b") 0)) (λ q. rw (eqb-true e _ q) b) (λ _. none e))

not_on_or : (e : ℕ) → (e % 4294967296 ≡ four (bytes " on ") 0 → ⊥) → more_by e ≡ 0
unfolding four
not_on_or = by_on_or (λ e m. (e % 4294967296 ≡ four (bytes " on ") 0 → ⊥) → m ≡ 0) (λ n. absurd (n refl)) (λ n. absurd (n refl)) (λ e n. refl)

few : (more n : ℕ) → if_on_or more n ≤ n
few more n = by_test (λ k. k ≤ n) (eqb more 0) (λ _. omega arith) (λ _. omega arith)

low_four : (s : List ℕ) → four s 3 < 4294967296 → eight_of s % 4294967296 ≡ four s 3
low_four s h = by_test (λ e. e % 4294967296 ≡ four s 3) (ltb (length s) 13) (λ _. omega arith) (λ _. omega arith)

-- ---- a phrase that begins with a wrapper's words is read as they are
module _ (w : Wrapper) (g : GoodWrapper w) (t : List ℕ) {s : List ℕ} (e : wrapper_words w ++ t ≡ s) where
  its_four : (i : ℕ) → i + 4 ≤ length (wrapper_words w) → four s i ≡ four (wrapper_words w) i
  its_four i h = rw e at (four_append (wrapper_words w) t i h)

  its_byte : (i : ℕ) → i < length (wrapper_words w) → get_or s i 0 ≡ get_or (wrapper_words w) i 0
  its_byte i h = rw e at (get_or-append (wrapper_words w) t 0 i h)

  there : (7 ≤ length (wrapper_words w)) × (length (wrapper_words w) ≤ length s)
  there = let l = ap length (sym e) ∙ length-append (wrapper_words w) t in omega (arith, (facts w g).long)

  small : four (wrapper_words w) 3 < 4294967296
  small = small_four (wrapper_words w) (small_bytes w g) 3

  low : eight_of s % 4294967296 ≡ four (wrapper_words w) 3
  low = let same = its_four 3 (omega (arith, there)) in low_four s (omega (arith, small)) ∙ same

  told : more_by (eight_of s) ≡ more_of w
  told =
      let v = wrapper_words w in
      elim (dec_lt (length v) 13) [
        | yes h ↦
            let other = eqb-false _ _ (rw (lt-ltb (length v) 13 h) at (facts w g).on) in
            not_on_or (eight_of s) (λ z. other (sym low ∙ z)) ∙ sym (not_on_or (eight_of v) (λ z. other (sym (low_four v small) ∙ z)))
        | no h ↦ rw (le-ltb (length s) 13 (omega (arith, there)), le-ltb (length v) 13 (omega arith), its_four 3 (omega arith), its_four 7 (omega arith))
      ]

  reads : {more l : ℕ} → LeadTold s more l → (more ≡ more_of w) × (l ≡ length (wrapper_words w))
  reads h = let m = h.more_told ∙ told in (m, omega (arith, rw low at h.count_told, (facts w g).count))

  slotted : slot_by (if_on_or (more_of w) 6) s ≡ wrapper_slot (bare_words (index_of w))
  slotted =
      let f = facts w g in
      rw (its_byte 1 (omega (arith, there)), its_byte 2 (omega (arith, there)), its_byte (4 + if_on_or (more_of w) 6) (omega (arith, f.long))) f.slot

pub long_enough : (s : List ℕ) → MayLead s (ltb 6 (length s))
long_enough s =
    elim (dec_lt 6 (length s)) [
      | yes h ↦ rw (lt-ltb 6 (length s) h) h
      | no h ↦ rw (le-ltb 6 (length s) (omega arith)) (λ w g t e. omega (arith, there w g t e))
    ]

pub not_led : (s : List ℕ) → (get_or s 3 0 ≡ space → ⊥) → (four s 0 ≡ four (bytes "morr") 0 → ⊥) → (four s 0 ≡ four (bytes "octa") 0 → ⊥) → Wordless s
unfolding four
not_led s a b c w g t e =
    let Start : Wrapper → Type 0 = λ w. (get_or (wrapper_words w) 3 0 ≡ space)
    ⊎ ((four (wrapper_words w) 0 ≡ four (bytes "morr") 0) ⊎ (four (wrapper_words w) 0 ≡ four (bytes "octa") 0)) in
    let same = its_four w g t e 0 (omega (arith, there w g t e)) in
    ⊎_elim (λ z. a (its_byte w g t e 3 (omega (arith, there w g t e)) ∙ z)) (⊎_elim (λ z. b (same ∙ z)) (λ z. c (same ∙ z)))
    (by_wrapper Start (search (inl, inr) depth 20) w g)

-- ---- a wrapper's words end in a space
pub spaced : (w : Wrapper) → (x : List ℕ) × (wrapper_words w ≡ x ++ space ∷ [])
spaced Eve = (bytes "eve of", refl)
spaced Morrow = (bytes "morrow of", refl)
spaced Octave = (bytes "octave of", refl)
spaced (First c After d) = (weekday_word d ++ (start_words c ++ bytes " after"), simp append_assoc)
spaced (First c Before d) = (weekday_word d ++ (start_words c ++ bytes " before"), simp append_assoc)

-- ---- what a phrase begins with
plain : {s : List ℕ} → Wordless s → Leads s None
plain none = unproduced (λ x good e. none x.wrapper good x.rest e) refl

pub no_space : (s : List ℕ) {more l : ℕ} → LeadTold s more l → length s < l → Leads s None
no_space s h short = plain (λ w g t e. omega (arith, reads w g t e h, there w g t e))

-- ---- where the fours of s agree with what a slot holds
-- an index with the bytes more that are told is that of a good wrapper, by its number
abbrev Known : ℕ → ℕ → Type 0
Known more x = let w = numbered_wrapper (bare_number x + if_on_or more 16) in GoodWrapper w × (more_of w ≡ more) × (index_of w ≡ x)

known : {more x : ℕ} → Known more x → (w : Wrapper) × (GoodWrapper w × Facts w more x)
known {more} {x} k = let w = numbered_wrapper (bare_number x + if_on_or more 16) in (w, (k.0, rw (k.1, k.2) at (facts w k.0)))

-- it is so where the fifth byte of the index's words is the last of the eight that tell "on or after" or "on or before"
abbrev Lettered : ℕ → ℕ → Type 0
Lettered more x = four (bare_words x) 3 / 256 % 256 ≡ eight_for more / 72057594037927936 → Known more x

all_known : Each (Known 0) 17 × Each (Lettered 6) 17 × Each (Lettered 7) 17
unfolding four
all_known = (search arith depth 30, search arith depth 40, search arith depth 40)

-- by the eight bytes e, the length and the four bytes from the fourth on, or those behind "on or", the wrapper of the index is told
abbrev Standing : List ℕ → (l x e more : ℕ) → Type 0
Standing s l x e more =
    eight_of s ≡ e → l ≡ count_by (four s 3) + more → four s (3 + if_on_or more 6) ≡ four (bare_words x) 3
    → Leads s (Some (record { wrapper = numbered_wrapper (bare_number x + if_on_or more 16); length = l }))

module _ (s : List ℕ) (bs : Bytes s) {l x : ℕ} (room : l ≤ length s) (good : (1 ≤ x) × (x ≤ 17)) (outer : outer_of s l ≡ outer_for bare_words x) where
  stands : {more e : ℕ} (w : Wrapper) → GoodWrapper w → Facts w more x → four s 3 ≡ four (wrapper_words w) 3
      → four s (3 + (if_on_or more 6 - 2)) ≡ four (wrapper_words w) (3 + (if_on_or more 6 - 2)) → Standing s l x e more
  stands {more} w g f low high _ el middle =
      let v = wrapper_words w in
      let fits : l ≡ length v = omega (arith, rw low at el, f.count) in
      let ends = both_fours s v bs (small_bytes w g) 0 (l - 4) 0 (length v - 4) (outer ∙ sym f.outer) in
      let all = same_word s v bs (small_bytes w g) (0 ∷ 3 ∷ (3 + (if_on_or more 6 - 2)) ∷ (3 + if_on_or more 6) ∷ (length v - 4) ∷ [])
      (ends.0, (low, (high, (middle ∙ sym f.middle, (rw fits at ends.1, tt))))) (omega (arith, f.long, few more 6)) (omega arith) in
      let number = ap numbered_wrapper (sym f.number) ∙ numbered w g in
      produced (record { wrapper = w; rest = drop (length v) s }) g all
      (ap₂ (λ (w : Wrapper) (n : ℕ). Some (record { wrapper = w; length = n })) number fits)

  letter : eight_at s 3 / 72057594037927936 ≡ four s 9 / 256 % 256
  unfolding four
  letter = omega (arith, bs 3, bs 4, bs 5, bs 6, bs 7, bs 8, bs 9, bs 10, bs 11, bs 12)

  -- what is told by eight bytes is told in a list that is long enough, and of the index's words by their letter
  counted : {more : ℕ} → eqb more 0 ≡ false → 4294967296 ≤ eight_for more → Each (Lettered more) 17 → Standing s l x (eight_for more) more
  counted {more} some great all e el middle =
      let eight : eight_at s 3 ≡ eight_for more =
      by_test (λ n. n ≡ eight_for more → eight_at s 3 ≡ eight_for more) (ltb (length s) 13) (λ _ q. absurd (omega (arith, small_four s bs 3))) (λ _ q. q) e in
      let nine : four s 9 ≡ four (bare_words x) 3 = rw some at middle in
      let k = known (each_at (Lettered more) 17 all x good (rw (← nine) (sym letter ∙ rw eight))) in
      let f = k.1.1 in
      let both = both_fours s (wrapper_words k.0) bs (small_bytes k.0 k.1.0) 3 7 3 7 (eight ∙ sym (rw some at f.eight)) in
      stands k.0 k.1.0 f both.0 (rw some both.1) e el middle

  standing : (e : ℕ) → Standing s l x e (more_by e)
  unfolding four
  standing =
      let k = known (each_at (Known 0) 17 all_known.0 x good) in
      by_on_or (Standing s l x) (counted refl (omega arith) all_known.1) (counted refl (omega arith) all_known.2)
      (λ e q el middle. let same = middle ∙ sym k.1.1.middle in stands k.0 k.1.0 k.1.1 same same q el middle)

-- ---- what is compared: the slot's bytes, and the two numbers that it holds
module _ (s : List ℕ) {more l : ℕ} (h : LeadTold s more l) {skip i o m : ℕ} (hs : skip ≡ if_on_or more 6) (hi : i ≡ slot_by skip s)
    (ho : o ≡ wrapper_outer i) (hm : m ≡ wrapper_middle i) where
  pub not_these : (four s 0 + 4294967296 * four s (l - 4) ≡ o → m % 4294967296 ≡ four s (3 + skip) → ⊥)
      → Leads s None
  not_these fails =
      plain (λ w g t e.
      let r = reads w g t e h in
      let f = facts w g in
      let x = index_of w in
      let passed : skip ≡ if_on_or (more_of w) 6 = hs ∙ rw r.0 in
      let slot = hi ∙ rw passed (slotted w g t e) in
      let is_o = ho ∙ ap wrapper_outer slot ∙ holds_it wrapper_slot bare_words 17 32 all_worded x f.index (outer_for bare_words) in
      let is_m = hm ∙ ap wrapper_middle slot ∙ holds_it wrapper_slot bare_words 17 32 all_worded x f.index middle_for in
      let small = small_four (bare_words x) (its_bytes wrapper_slot bare_words 17 32 all_worded x f.index) 3 in
      let at = its_four w g t e in
      fails (rw (r.1, at 0 (omega (arith, f.long)), at (length (wrapper_words w) - 4) (omega (arith, f.long))) (f.outer ∙ sym is_o))
      (rw passed (omega (arith, at (3 + if_on_or (more_of w) 6) (omega (arith, f.long)), f.middle))))

  -- a slot that holds nothing tells nothing
  not_empty : ((f : ℕ → ℕ) → held (λ k. wrapper_slot (bare_words k)) f 17 i ≡ 0)
      → four s 0 + 4294967296 * four s (l - 4) ≡ o → m % 4294967296 ≡ four s (3 + skip) → ⊥
  unfolding four held
  not_empty z eo em =
      let no_o = ho ∙ z (outer_for bare_words) in
      let no_m = hm ∙ z middle_for in
      let next : 3 + skip + 1 ≡ 4 + skip = omega arith in
      let none : i ≡ 0 = hi ∙ omega (arith, rw next at em) in
      omega (arith, rw none at (z (λ k. k)))

  pub these_words : Bytes s → l ≤ length s → four s 0 + 4294967296 * four s (l - 4) ≡ o → m % 4294967296 ≡ four s (3 + skip)
      → {c : ℕ} → c ≡ if_on_or more 16 → Leads s (Some (record { wrapper = numbered_wrapper (m / 4294967296 + c); length = l }))
  these_words bs room eo em hc =
      elim (holds (λ k. wrapper_slot (bare_words k)) 17 i) [
        | inl k ↦
            let x = k.0 in
            let w_small = small_four (bare_words x) (its_bytes wrapper_slot bare_words 17 32 all_worded x k.1.0) 3 in
            let is_m = hm ∙ k.1.1 middle_for in
            let q : m / 4294967296 ≡ bare_number x = omega arith in
            let middle : four s (3 + if_on_or more 6) ≡ four (bare_words x) 3 = rw (← hs) (omega arith) in
            let count = rw (low_four s (small_four s bs 3)) at h.count_told in
            let outer = eo ∙ ho ∙ k.1.1 (outer_for bare_words) in
            rw (q, hc, h.more_told) (standing s bs room k.1.0 outer (eight_of s) refl (rw h.more_told at count) (rw h.more_told at middle))
        | inr z ↦ absurd (not_empty z eo em)
      ]

-- ---- no wrapper's words begin another's, so what stands behind them is told too
pub one_wrapper : (v w : Wrapper) (a b : List ℕ) → GoodWrapper v → GoodWrapper w
    → wrapper_words v ++ a ≡ wrapper_words w ++ b → (v ≡ w) × (a ≡ b)
one_wrapper v w a b gv gw e =
    let more = sym (told v gv a e) ∙ told w gw b refl in
    let slots = sym (rw more at (slotted v gv a e)) ∙ slotted w gw b refl in
    let index = one_slot wrapper_slot bare_words 17 32 all_worded (index_of v) (index_of w) (facts v gv).index (facts w gw).index slots in
    let number : number_of v ≡ number_of w = (facts v gv).number ∙ rw (index, more) (sym (facts w gw).number) in
    let same = sym (numbered v gv) ∙ ap numbered_wrapper number ∙ numbered w gw in
    let behind = ap (drop (length (wrapper_words w))) (rw same at e) in
    (same, sym (drop-append_seam (wrapper_words w) a) ∙ behind ∙ drop-append_seam (wrapper_words w) b)

pub one_leading : OneReading leadings
one_leading x y g h e =
    let same = one_wrapper x.wrapper y.wrapper x.rest y.rest g h e in
    ap₂ (λ (w : Wrapper) (t : List ℕ). record { wrapper = w; rest = t }) same.0 same.1
