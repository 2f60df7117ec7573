-- What the private functions of the words answer. No public promise is stated by these.
use Rattle.std.specs.Prelude.{Bool, true, false, cond, List, ◌++◌, ◌≡◌, ℕ, zero, suc, pred, ◌+◌, ◌-◌, ◌*◌, ◌/◌, ◌%◌, ◌≤◌, eqb, ltb, length, get_or}
use Rattle.words.specs.Text.{bytes}
use Rattle.words.specs.Wrapper.{wrapper_words, GoodWrapper}
use Rattle.calendar.specs.declared.weekday.Side.TheVariants.{After, Before}
use Rattle.calendar.specs.declared.weekday.Start.TheVariants.{Counted, Uncounted}
use Rattle.words.specs.declared.wrapper.Wrapper.TheVariants.{Eve, Morrow, Octave, First}
use Rattle.words.specs.declared.wrapper.Wrapper.{Wrapper}

-- ---- words by their slots
-- the four bytes from a place on as one number, the first the lowest
unfoldable pub four : List ℕ → ℕ → ℕ
four s i = get_or s i 0 + 256 * get_or s (i + 1) 0 + 65536 * get_or s (i + 2) 0 + 16777216 * get_or s (i + 3) 0

-- the first and the last four of k bytes, and the four in their middle with k
abbrev pub outer_of : List ℕ → ℕ → ℕ
outer_of s k = four s 0 + 4294967296 * four s (k - 4)

abbrev pub inner_of : List ℕ → ℕ → ℕ
inner_of s k = four s ((k - 4) / 2) + 4294967296 * k

-- what a slot holds: f of the number from 1 to n that has the slot, or 0
unfoldable pub held : (slot f : ℕ → ℕ) → ℕ → ℕ → ℕ
held slot f zero i = 0
held slot f (suc n) i = cond (eqb (slot (suc n)) i) (f (suc n)) (held slot f n i)

-- what is compared of the word of a number, in the second half with the number
abbrev pub outer_for : (ℕ → List ℕ) → ℕ → ℕ
outer_for spelled k = outer_of (spelled k) (length (spelled k))

abbrev pub inner_for : (ℕ → List ℕ) → ℕ → ℕ
inner_for spelled k = inner_of (spelled k) (length (spelled k)) + 1099511627776 * k

-- what a slot holds of the word that has it, of the words of the numbers from 1 to n
abbrev pub outer_in : (List ℕ → ℕ) → (ℕ → List ℕ) → ℕ → ℕ → ℕ
outer_in slot_of spelled n i = held (λ k. slot_of (spelled k)) (outer_for spelled) n i

abbrev pub inner_in : (List ℕ → ℕ) → (ℕ → List ℕ) → ℕ → ℕ → ℕ
inner_in slot_of spelled n i = held (λ k. slot_of (spelled k)) (inner_for spelled) n i

-- the slot of a feast word, by two bytes and the length
abbrev pub feast_slot : List ℕ → ℕ
feast_slot s = (35 * get_or s 0 0 + 10 * get_or s 2 0 + 16 * length s) % 128

-- ---- wrappers
-- the slot of a wrapper's words, by three bytes
abbrev pub wrapper_slot : List ℕ → ℕ
wrapper_slot s = (2 * get_or s 1 0 + 4 * get_or s 2 0 + get_or s 4 0) % 32

-- the wrappers by number: a weekday's own, with 8 added for "before" and 16 where the starting day counts; 0, 8 and 32 for the others
abbrev pub numbered_wrapper : ℕ → Wrapper
numbered_wrapper n =
    cond (eqb n 0) Eve
    (cond (eqb n 8) Morrow
    (cond (eqb n 32) Octave
    (First (cond (ltb n 16) Uncounted Counted) (cond (eqb (n / 8 % 2) 0) After Before) (n % 8))))

-- the numbers of the seventeen wrappers without "on or", and their words
abbrev pub bare_number : ℕ → ℕ
bare_number k = cond (ltb k 17) (pred k) 32

abbrev pub bare_words : ℕ → List ℕ
bare_words k = wrapper_words (numbered_wrapper (bare_number k))

-- what a slot holds of the words that have it: the first and the last four bytes, and the four from the fourth on with the number
abbrev pub middle_for : ℕ → ℕ
middle_for k = four (bare_words k) 3 + 4294967296 * bare_number k

abbrev pub wrapper_outer : ℕ → ℕ
wrapper_outer i = outer_in wrapper_slot bare_words 17 i

abbrev pub wrapper_middle : ℕ → ℕ
wrapper_middle i = held (λ k. wrapper_slot (bare_words k)) middle_for 17 i

-- no wrapper's words stand at the start
abbrev pub Wordless : List ℕ → Type 0
Wordless s = (w : Wrapper) → GoodWrapper w → (t : List ℕ) → wrapper_words w ++ t ≡ s → ⊥

-- what a shortcut tells: passed by bytes that are enough for a wrapper's words, and failed by none that begin with such
abbrev pub MayLead : List ℕ → Bool → Type 0
MayLead s true = 7 ≤ length s
MayLead s false = Wordless s

-- how many bytes a wrapper's words have without "on or", by the four from the fourth on
abbrev pub count_by : ℕ → ℕ
count_by m = cond (eqb m (four (bytes " of ") 0)) 7 (cond (eqb m (four (bytes " bef") 0)) 11 10)

-- the eight bytes from a place on as one number
abbrev pub eight_at : List ℕ → ℕ → ℕ
eight_at s i = four s i + 4294967296 * four s (i + 4)

-- those from the fourth on, or four where s is too short for a weekday's words with "on or"
abbrev pub eight_of : List ℕ → ℕ
eight_of s = cond (ltb (length s) 13) (four s 3) (eight_at s 3)

-- how many bytes more than count_by tells a wrapper's words have, by these: 6 for "on or after", 7 for "on or before", which is longer by one; else 0
abbrev pub more_by : ℕ → ℕ
more_by e = cond (eqb e (eight_at (bytes " on or a") 0)) 6 (cond (eqb e (eight_at (bytes " on or b") 0)) 7 0)

-- what the first bytes of a phrase s tell of the words that it may begin with: how many bytes they have, and how many of them more for "on or"
pub record LeadTold (s : List ℕ) (more count : ℕ) : Type 0 where
  pub enough : 7 ≤ length s
  pub more_told : more ≡ more_by (eight_of s)
  pub count_told : count ≡ count_by (eight_of s % 4294967296) + more
