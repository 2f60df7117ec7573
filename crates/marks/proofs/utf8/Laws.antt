-- UTF-8: characters one behind the other, how they are counted, the places between them, and how they are read.
use mathlib.Core.Bool.{Bool, true, false, cond}
use mathlib.Core.List.{List, [], ◌∷◌, ◌++◌, append_assoc, append-nil}
use mathlib.Core.Path.{◌≡◌, refl, sym, ◌∙◌, ap}
use Prim.Native.Nat.{ℕ, zero, suc, ◌+◌, ◌-◌, ◌/◌, ◌<◌, ◌≤◌}
use native.Mathlib.Decide.{dec_lt}
use native.Mathlib.Nat.{add-zero, le_refl, sub_self, sub-zero, zero-add}
use native.Mathlib.Numerals.{add-one}
use native.Mathlib.Omega.{arith}
use lib.Dec.{eqb}
use lib.ListN.{length, take, drop, get_or, length-append, get_or-append}
use lib.Seq.{slice, append_snoc, take_at, drop_at, drop-cons, length-take-le, get_or-append-add}
use borrow.Author.Tests.{le-leb, lt-leb, eq-eqb, ne_eqb}
use Rattle.std.proofs.lemmas.Str.{encodes_same}
use Rattle.marks.proofs.utf8.Character.{Tails, Character, one, longer, in_bytes, ascii_byte}
use Rattle.marks.proofs.utf8.Library.{same_spelling}
use Rattle.marks.specs.Utf8.{encoded, spelled, CodePoints, Spells, characters_before, starts}

-- ---- characters one behind the other
pub spelled_append : (xs ys : List ℕ) → spelled (xs ++ ys) ≡ spelled xs ++ spelled ys
unfolding spelled
spelled_append [] ys = refl
spelled_append (x ∷ xs) ys = rw (spelled_append xs ys) (sym (append_assoc (encoded x) (spelled xs) (spelled ys)))

spelled_last : (xs : List ℕ) (c : ℕ) → length (spelled (xs ++ c ∷ [])) ≡ length (spelled xs) + length (encoded c)
unfolding spelled
spelled_last xs c = rw (spelled_append xs (c ∷ []), append-nil (encoded c)) (length-append (spelled xs) (encoded c))

points_split : (xs ys : List ℕ) → CodePoints (xs ++ ys) → CodePoints xs × CodePoints ys
points_split [] ys p = (tt, p)
points_split (x ∷ xs) ys p = let q = points_split xs ys p.1 in ((p.0, q.0), q.1)

-- a character has bytes, and one that is not ASCII two or more
sized : {c : ℕ} {s : List ℕ} → Character c s → (1 ≤ length s) × (0x80 ≤ c → 2 ≤ length s)
sized (one h) = omega arith
sized (longer a b s g h t) = omega arith

some_bytes : (c : ℕ) → 1 ≤ length (encoded c)
some_bytes c = (sized (in_bytes c)).0

spelled_length : (cs : List ℕ) → length cs ≤ length (spelled cs)
unfolding spelled
spelled_length [] = omega arith
spelled_length (c ∷ cs) = rw (length-append (encoded c) (spelled cs)) (omega (arith, some_bytes c, spelled_length cs))

-- bytes are spelled by at most one list of code points
pub one_list : {cs ds s : List ℕ} → Spells cs s → Spells ds s → cs ≡ ds
one_list {cs} {ds} p q = encodes_same cs ds (same_spelling cs ∙ p.bytes ∙ sym q.bytes ∙ sym (same_spelling ds))

-- ---- the bytes that begin a character
pub starts_append : (s t : List ℕ) → starts (s ++ t) ≡ starts s + starts t
unfolding starts
starts_append [] t = sym (zero-add (starts t))
starts_append (b ∷ s) t = go (eqb (b / 64) 2) (starts_append s t)
  where
    go : (k : Bool) → starts (s ++ t) ≡ starts s + starts t
        → cond k (starts (s ++ t)) (suc (starts (s ++ t))) ≡ cond k (starts s) (suc (starts s)) + starts t
    go true e = e
    go false e = omega arith

no_starts : (s : List ℕ) → Tails s → starts s ≡ 0
unfolding starts
no_starts [] t = refl
no_starts (b ∷ s) t = rw (eq-eqb (b / 64) 2 t.0) (no_starts s t.1)

-- a character has one byte that begins it
starts_once : {c : ℕ} {s : List ℕ} → Character c s → starts s ≡ 1
unfolding starts
starts_once {c} (one h) = rw (ne_eqb (c / 64) 2 (omega arith))
starts_once (longer a b s g h t) = rw (ne_eqb (a / 64) 2 (omega arith), no_starts (b ∷ s) t)

-- as many bytes begin a character as there are characters
pub starts_spelled : (cs : List ℕ) → starts (spelled cs) ≡ length cs
unfolding starts spelled
starts_spelled [] = refl
starts_spelled (c ∷ cs) = starts_append (encoded c) (spelled cs) ∙ rw (starts_once (in_bytes c), starts_spelled cs) (omega arith)

-- ---- characters before a byte place
-- before the first byte there are none
before_none : (cs : List ℕ) → characters_before 0 cs ≡ 0
unfolding characters_before
before_none [] = refl
before_none (c ∷ cs) = rw (lt-leb (length (encoded c)) 0 (some_bytes c))

-- those before a place behind xs are xs and those behind them
before_append : (xs ys : List ℕ) (i : ℕ) → length (spelled xs) ≤ i
    → characters_before i (xs ++ ys) ≡ length xs + characters_before (i - length (spelled xs)) ys
unfolding spelled characters_before
before_append [] ys i h = rw (sub-zero i) (sym (zero-add (characters_before i ys)))
before_append (x ∷ xs) ys i h =
    let l = length-append (encoded x) (spelled xs) in
    let e : i - length (encoded x ++ spelled xs) ≡ i - length (encoded x) - length (spelled xs) = omega arith in
    rw (le-leb (length (encoded x)) i (omega arith), before_append xs ys (i - length (encoded x)) (omega arith), e) (omega arith)

-- before the end of xs there are as many as xs has
pub before_split : (xs ys : List ℕ) → characters_before (length (spelled xs)) (xs ++ ys) ≡ length xs
before_split xs ys =
    before_append xs ys (length (spelled xs)) (le_refl (length (spelled xs)))
    ∙ rw (sub_self (length (spelled xs)), before_none ys) (add-zero (length xs))

-- there are no more characters than bytes
before_few : (cs : List ℕ) (i : ℕ) → characters_before i cs ≤ i
unfolding characters_before
before_few [] i = omega arith
before_few (c ∷ cs) i =
    elim (dec_lt i (length (encoded c))) [
      | yes h ↦ rw (lt-leb (length (encoded c)) i h) (omega arith)
      | no h ↦
          rw (le-leb (length (encoded c)) i (omega arith)) (omega (arith, some_bytes c, before_few cs (i - length (encoded c))))
    ]

-- every code point is ASCII
abbrev pub Ascii : List ℕ → Type 0
Ascii [] = Unit
Ascii (c ∷ cs) = (c < 0x80) × Ascii cs

-- in ASCII characters are counted as bytes are
pub ascii_counts : (cs : List ℕ) (i : ℕ) → CodePoints cs → Ascii cs → i ≤ length (spelled cs) → characters_before i cs ≡ i
unfolding spelled characters_before
ascii_counts [] i p a h = omega arith
ascii_counts (c ∷ cs) zero p a h = before_none (c ∷ cs)
ascii_counts (c ∷ cs) (suc i) p a h =
    let e = ascii_byte c a.0 in
    let k : suc i - 1 ≡ i = omega arith in
    rw (e, le-leb 1 (suc i) (omega arith), k) (ap suc (ascii_counts cs i p.1 a.1 (omega (arith, rw e at h))))

-- behind the first longer character the two counts differ
pub longer_differs : (xs : List ℕ) (c : ℕ) (ys : List ℕ) (i : ℕ) → Ascii xs → 0x80 ≤ c → length (spelled (xs ++ c ∷ [])) ≤ i
    → characters_before i (xs ++ c ∷ ys) < i
longer_differs xs c ys i a long h =
    let e = rw (append_snoc xs c ys) at (before_append (xs ++ c ∷ []) ys i h) in
    let few = before_few ys (i - length (spelled (xs ++ c ∷ []))) in
    omega (arith, length-append xs (c ∷ []), spelled_last xs c, spelled_length xs, (sized (in_bytes c)).1 long)

-- ---- places between characters
-- the byte place i stands between characters
pub record Split (cs s : List ℕ) (i : ℕ) : Type 0 where
  pub front : List ℕ
  pub back : List ℕ
  pub whole : cs ≡ front ++ back
  pub before : take i s ≡ spelled front
  pub after : drop i s ≡ spelled back
  pub inside : i ≤ length s

-- code points are split where their spelling is
split_of : {cs s : List ℕ} {i : ℕ} → Spells cs s → (xs ys : List ℕ) → cs ≡ xs ++ ys → length (spelled xs) ≡ i → Split cs s i
split_of {i = i} k xs ys w l =
    let e = sym k.bytes ∙ ap spelled w ∙ spelled_append xs ys in
    record {
      front = xs;
      back = ys;
      whole = w;
      before = rw e (take_at (spelled xs) (spelled ys) i l);
      after = rw e (drop_at (spelled xs) (spelled ys) i l);
      inside = omega (arith, ap length e ∙ length-append (spelled xs) (spelled ys));
    }

-- the byte at the place i is the one of an ASCII character
record Alone (cs : List ℕ) (i : ℕ) : Type 0 where
  front : List ℕ
  point : ℕ
  back : List ℕ
  whole : cs ≡ front ++ point ∷ back
  place : length (spelled front) ≡ i
  low : point < 0x80

abbrev High : List ℕ → Type 0
High [] = Unit
High (b ∷ s) = (0x80 ≤ b) × High s

high_tails : (s : List ℕ) → Tails s → High s
high_tails [] t = tt
high_tails (b ∷ s) t = (omega arith, high_tails s t.1)

-- the bytes of a longer character are 0x80 or more
high : {c : ℕ} {s : List ℕ} → 0x80 ≤ c → Character c s → High s
high g (one h) = absurd (omega arith)
high g (longer a b s l h t) = (omega arith, high_tails (b ∷ s) t)

high_at : (s : List ℕ) (i : ℕ) → High s → i < length s → 0x80 ≤ get_or s i 0
high_at [] i g h = absurd (omega arith)
high_at (b ∷ s) zero g h = g.0
high_at (b ∷ s) (suc i) g h = high_at s i g.1 (omega arith)

alone_behind : {cs : List ℕ} {k i : ℕ} (c : ℕ) → Alone cs k → length (encoded c) + k ≡ i → Alone (c ∷ cs) i
unfolding spelled
alone_behind c p e =
    record {
      front = c ∷ p.front;
      point = p.point;
      back = p.back;
      whole = ap (λ (xs : List ℕ). c ∷ xs) p.whole;
      place = length-append (encoded c) (spelled p.front) ∙ rw p.place e;
      low = p.low;
    }

alone : (cs : List ℕ) (i : ℕ) → i < length (spelled cs) → get_or (spelled cs) i 0 < 0x80 → Alone cs i
unfolding spelled
alone [] i h b = absurd (omega arith)
alone (c ∷ cs) i h b =
    let l = length-append (encoded c) (spelled cs) in
    elim (dec_lt i (length (encoded c))) [
      | yes m ↦
          elim (dec_lt c 0x80) [
            | yes low ↦
                let single = ap length (ascii_byte c low) in
                record { front = []; point = c; back = cs; whole = refl; place = omega arith; low = low }
            | no g ↦
                absurd (omega (arith, high_at (encoded c) i (high (omega arith) (in_bytes c)) m, get_or-append (encoded c) (spelled cs) 0 i m))
          ]
      | no m ↦
          let k = i - length (encoded c) in
          let e : length (encoded c) + k ≡ i = omega arith in
          alone_behind c (alone cs k (omega arith) (rw (← e, get_or-append-add (encoded c) (spelled cs) k 0) at b)) e
    ]

-- a byte below 0x80 is a character of its own
pub ascii_splits : {cs s : List ℕ} {i : ℕ} → Spells cs s → i < length s → get_or s i 0 < 0x80 → Split cs s i × Split cs s (i + 1)
ascii_splits {cs} {i = i} k h b =
    let p = alone cs i (rw k.bytes h) (rw k.bytes b) in (
      split_of k p.front (p.point ∷ p.back) p.whole p.place,
      split_of k (p.front ++ p.point ∷ []) p.back (p.whole ∙ sym (append_snoc p.front p.point p.back))
          (spelled_last p.front p.point ∙ rw (p.place, ascii_byte p.point p.low)),
    )

module _ {cs s : List ℕ} {i : ℕ} (p : Split cs s i) where
  front_length : length (spelled p.front) ≡ i
  front_length = sym (ap length p.before) ∙ length-take-le i s p.inside

  front_counts : characters_before i cs ≡ length p.front
  front_counts =
      ap (characters_before i) p.whole
      ∙ ap (λ (k : ℕ). characters_before k (p.front ++ p.back)) (sym front_length)
      ∙ before_split p.front p.back

  front_points : CodePoints cs → CodePoints p.front
  front_points h = (points_split p.front p.back (rw p.whole at h)).0

-- between characters, those before are as many as the bytes before that begin one
pub characters_at : {cs s : List ℕ} {i : ℕ} → Spells cs s → Split cs s i → characters_before i cs ≡ starts (take i s)
characters_at k p = front_counts p ∙ sym (ap starts p.before ∙ starts_spelled p.front)

-- of two fronts of one list, the one with more bytes begins with the other
longer_front : (xs ys us vs : List ℕ) → xs ++ us ≡ ys ++ vs → length (spelled xs) ≤ length (spelled ys) → (ts : List ℕ) × (ys ≡ xs ++ ts)
unfolding spelled
longer_front [] ys us vs e h = (ys, refl)
longer_front (x ∷ xs) [] us vs e h = absurd (omega (arith, spelled_length (x ∷ xs)))
longer_front (x ∷ xs) (y ∷ ys) us vs e h =
    let same : x ≡ y = cc in
    let behind : xs ++ us ≡ ys ++ vs = cc in
    let l = rw (same, length-append (encoded y) (spelled xs), length-append (encoded y) (spelled ys)) at h in
    let p = longer_front xs ys us vs behind (omega arith) in
    (p.0, cc p.1)

-- between two such places stand whole characters, by as many as the counts before them differ
pub between_splits : {cs s : List ℕ} {i j : ℕ} → Spells cs s → Split cs s i → Split cs s j → i ≤ j
    → (ts : List ℕ) × Spells ts (slice i j s) × (characters_before j cs ≡ characters_before i cs + length ts)
between_splits {i = i} k p q h =
    let f = longer_front p.front q.front p.back q.back (sym p.whole ∙ q.whole) (omega (arith, front_length p, front_length q)) in
    let bytes = q.before ∙ ap spelled f.1 ∙ spelled_append p.front f.0 in (
      f.0,
      record {
        points = (points_split p.front f.0 (rw f.1 at (front_points q k.points))).1;
        bytes = sym (ap (drop i) bytes ∙ drop_at (spelled p.front) (spelled f.0) i (front_length p));
      },
      front_counts q ∙ ap length f.1 ∙ length-append p.front f.0 ∙ ap (λ (n : ℕ). n + length f.0) (sym (front_counts p)),
    )

-- ---- reading byte by byte
-- a byte more is counted where it begins a character, and passed where it does not
module _ (s : List ℕ) (i : ℕ) (h : i < length s) where
  pub counted : (get_or s i 0 / 64 ≡ 2 → ⊥) → starts (drop i s) ≡ suc (starts (drop (i + 1) s))
  unfolding starts
  counted n = rw (add-one i, drop-cons s i 0 h, ne_eqb (get_or s i 0 / 64) 2 n)

  pub passed : get_or s i 0 / 64 ≡ 2 → starts (drop i s) ≡ starts (drop (i + 1) s)
  unfolding starts
  passed e = rw (add-one i, drop-cons s i 0 h, eq-eqb (get_or s i 0 / 64) 2 e)
