-- All marks of a text: in order, apart from each other, and mark by mark.
use mathlib.Core.Bool.{true}
use mathlib.Core.List.{List, [], ◌∷◌}
use mathlib.Core.Logic.{◌↔◌, ◌⊎◌, inl, inr, ⊎_elim}
use mathlib.Core.Path.{◌≡◌, refl, sym, ◌∙◌, ap, ap₂}
use Prim.Native.Char.{code}
use Prim.Native.Nat.{ℕ, zero, suc, ◌+◌, ◌-◌, ◌*◌, ◌<◌, ◌≤◌}
use native.Mathlib.Decide.{dec_lt}
use native.Mathlib.Omega.{arith}
use lib.ListN.{length, drop, get_or}
use Rattle.std.proofs.Common.{Option, Some, None}
use Rattle.marks.proofs.mark.Laws.{either, clash, brackets_differ, two_bytes, two_not, two_inside, two_drop, pair_two, apart, clear_first, clear_closed}
use Rattle.marks.proofs.mark.Laws.{not_end, past_one, in_order, Scan, scan_first, at_opening, at_closing, at_other, found, not_found}
use Rattle.marks.specs.Mark.{two, pair, opening, closing, IsMark, In, RiseFrom, AreMarks, IsFirstMark}
use Rattle.marks.specs.Steps.{Clear, Between}
use Rattle.marks.specs.Walk.{IsFirstFrom, NoneFrom}
use Rattle.marks.specs.declared.mark.Mark.{Mark}

-- ---- two marks of a text
module _ {s : List ℕ} {m : Mark} (h : IsMark s m) where
  pub ends_in : (get_or s m.end 0 ≡ code "]") × (get_or s (suc m.end) 0 ≡ code "]")
  ends_in = two_bytes (code "]") s m.end (pair_two (code "]") s m.end h.closed)

  -- no [[ has a byte of the ]] that ends a mark
  no_opening : (i : ℕ) → m.end ≤ suc i → i ≤ suc m.end → opening s i ≡ true → ⊥
  no_opening i low high k =
      let bytes = two_bytes (code "[") s i (pair_two (code "[") s i k) in
      elim (dec_lt i m.end) [
        | yes before ↦ let e : suc i ≡ m.end = omega arith in brackets_differ (sym bytes.1 ∙ rw e ends_in.0)
        | no after ↦
            elim (dec_lt m.end i) [
              | yes last ↦ let e : i ≡ suc m.end = omega arith in brackets_differ (sym bytes.0 ∙ rw e ends_in.1)
              | no first ↦ let e : i ≡ m.end = omega arith in brackets_differ (sym bytes.0 ∙ rw e ends_in.0)
            ]
      ]

  pub end_inside : m.end + 2 ≤ length s
  end_inside =
      let inside = two_inside (code "]") s m.end (omega arith) (pair_two (code "]") s m.end h.closed) in
      omega arith

  -- no pair reaches over the end of a mark, or over the end of its ]]
  clear_end : Clear s m.end
  clear_end =
      let shut = two_not (code "[") s m.end (λ e x. brackets_differ (sym e ∙ ends_in.0)) in
      record {
        opens =
            elim (either (opening s m.end)) [
              | inl k ↦ absurd (no_opening m.end (omega arith) (omega arith) k)
              | inr k ↦ k ∙ sym shut
            ];
        closes = h.closed ∙ sym (pair_two (code "]") s m.end h.closed);
      }

  pub clear_behind : Clear s (m.end + 2)
  clear_behind =
      let e : suc (suc m.end) ≡ m.end + 2 = omega arith in
      rw e at (clear_closed clear_end (pair_two (code "]") s m.end h.closed))

-- of two marks that end at different places the later one begins behind the ]] of the other
pub behind_other : {s : List ℕ} {m o : Mark} → IsMark s m → IsMark s o → m.end < o.end → m.end + 4 ≤ o.start
behind_other {s} {m} {o} h k later =
    let low = k.behind in
    let far = past_one {i = suc m.end} later (not_end k (suc m.end) (apart (code "]") s m.end h.closed)) in
    elim (dec_lt m.end o.start) [
      | yes behind ↦
          elim (dec_lt o.start (m.end + 4)) [
            | yes near ↦ absurd (no_opening h (o.start - 2) (omega arith) (omega arith) k.opened)
            | no enough ↦ omega arith
          ]
      | no across ↦ clash (closing s m.end) h.closed (k.between m.end (omega arith) (omega arith)).1
    ]

-- no two marks end at one place
pub one_end : {s : List ℕ} {m o : Mark} → IsMark s m → IsMark s o → m.end ≡ o.end → m ≡ o
one_end {s} {m} {o} h k e =
    let from = in_order h k (omega arith) in
    let to = in_order k h (omega arith) in
    let f : m.start ≡ o.start = omega arith in
    λ i. record { start = f i; end = e i }

-- ---- lists of marks that rise
rise_low : (i : ℕ) (ms : List Mark) (m : Mark) → RiseFrom i ms → In m ms → i ≤ m.start
rise_low i [] m r h = absurd h
rise_low i (x ∷ ms) m r (inl e) = rw e r.0
rise_low i (x ∷ ms) m r (inr h) = let low = rise_low (suc x.start) ms m r.1 h in omega (arith, r.0)

rise_at : (i : ℕ) {j : ℕ} (ms : List Mark) → RiseFrom i ms → ((m : Mark) → In m ms → j ≤ m.start) → RiseFrom j ms
rise_at i [] r all = tt
rise_at i (x ∷ ms) r all = (all x (inl refl), r.1)

-- what begins behind the first mark is not the first
not_first : (x y : Mark) (ms : List Mark) → y.start < x.start → In x (y ∷ ms) → In x ms
not_first x y ms less (inl e) = absurd (omega (arith, ap (λ (m : Mark). m.start) e))
not_first x y ms less (inr h) = h

-- the marks behind x are among those behind y, where all from x on are from y on and x is not before y
later_in : (x y : Mark) (ms ns : List Mark) → RiseFrom (suc x.start) ms → y.start ≤ x.start
    → ((m : Mark) → In m (x ∷ ms) → In m (y ∷ ns)) → (m : Mark) → In m ms → In m ns
later_in x y ms ns r less all m h = not_first m y ns (omega (arith, rise_low (suc x.start) ms m r h)) (all m (inr h))

-- marks that rise and are the same are in one list
pub one_rising : (i j : ℕ) (ms ns : List Mark) → RiseFrom i ms → RiseFrom j ns → ((m : Mark) → In m ms → In m ns)
    → ((m : Mark) → In m ns → In m ms) → ms ≡ ns
one_rising i j [] [] r q to from = refl
one_rising i j [] (y ∷ ns) r q to from = absurd (from y (inl refl))
one_rising i j (x ∷ ms) [] r q to from = absurd (to x (inl refl))
one_rising i j (x ∷ ms) (y ∷ ns) r q to from =
    let e = heads (to x (inl refl)) (from y (inl refl)) in
    let same = ap (λ (m : Mark). m.start) e in
    let on = later_in x y ms ns r.1 (omega arith) to in
    let back = later_in y x ns ms q.1 (omega arith) from in
    ap₂ (λ (m : Mark) (l : List Mark). m ∷ l) e (one_rising (suc x.start) (suc y.start) ms ns r.1 q.1 on back)
  where
    heads : In x (y ∷ ns) → In y (x ∷ ms) → x ≡ y
    heads (inl e) k = e
    heads (inr h) (inl e) = sym e
    heads (inr h) (inr k) =
        absurd (omega (arith, rise_low (suc y.start) ns x q.1 h, rise_low (suc x.start) ms y r.1 k))

-- ---- the marks of the rest of a text
pair_drop : (b : ℕ) (s : List ℕ) (i : ℕ) → pair b s i ≡ two b s i → (j : ℕ) → pair b (drop i s) j ≡ pair b s (i + j)
unfolding pair
pair_drop b s i free zero = let e : i + 0 ≡ i = omega arith in two_drop b s i 0 ∙ rw e (sym free)
pair_drop b s i free (suc j) =
    let e : i + suc j ≡ suc (i + j) = omega arith in
    rw (two_drop b s i (suc j), pair_drop b s i free j, e)

abbrev pub shifted : ℕ → Mark → Mark
shifted i m = record { start = i + m.start; end = i + m.end }

module _ {s : List ℕ} {i : ℕ} (clear : Clear s i) where
  opening_drop : (j : ℕ) → opening (drop i s) j ≡ opening s (i + j)
  opening_drop = pair_drop (code "[") s i clear.opens

  closing_drop : (j : ℕ) → closing (drop i s) j ≡ closing s (i + j)
  closing_drop = pair_drop (code "]") s i clear.closes

  pub mark_on : (m : Mark) → IsMark (drop i s) m → IsMark s (shifted i m)
  mark_on m h =
      let low = h.behind in
      let k : i + (m.start - 2) ≡ i + m.start - 2 = omega arith in
      record {
        behind = omega arith;
        opened = ap (opening s) (sym k) ∙ sym (opening_drop (m.start - 2)) ∙ h.opened;
        closed = sym (closing_drop m.end) ∙ h.closed;
        forward = omega (arith, h.forward);
        between = λ j from to.
            let e : i + (j - i) ≡ j = omega arith in
            let none = h.between (j - i) (omega arith) (omega arith) in
            (ap (opening s) (sym e) ∙ sym (opening_drop (j - i)) ∙ none.0, ap (closing s) (sym e) ∙ sym (closing_drop (j - i)) ∙ none.1);
      }

  -- a mark that begins behind the place is one of the rest
  pub mark_back : (m : Mark) → IsMark s m → i + 2 ≤ m.start → IsMark (drop i s) (record { start = m.start - i; end = m.end - i })
  mark_back m h low =
      let forward = h.forward in
      let first : i + (m.start - i - 2) ≡ m.start - 2 = omega arith in
      let last : i + (m.end - i) ≡ m.end = omega arith in
      record {
        behind = omega arith;
        opened = opening_drop (m.start - i - 2) ∙ ap (opening s) first ∙ h.opened;
        closed = closing_drop (m.end - i) ∙ ap (closing s) last ∙ h.closed;
        forward = omega arith;
        between = λ j from to.
            let none = h.between (i + j) (omega arith) (omega arith) in
            (opening_drop j ∙ none.0, closing_drop j ∙ none.1);
      }

-- ---- from mark to mark
pub at_first : (s : List ℕ) → Between s 0
at_first s = record { inside = omega arith; clear = clear_first s; beyond = λ m h low. h.behind }

pub after_mark : {s : List ℕ} {m : Mark} → IsMark s m → Between s (m.end + 2)
after_mark h = record {
  inside = end_inside h;
  clear = clear_behind h;
  beyond = λ o k low. let far = behind_other h k (omega arith) in omega arith;
}

-- the first mark of the rest is the first from there on
module _ {s : List ℕ} {i : ℕ} (p : Between s i) where
  rest_of : (o : Mark) → IsMark s o → i ≤ o.start → IsMark (drop i s) (record { start = o.start - i; end = o.end - i })
  rest_of o k low = mark_back p.clear o k (p.beyond o k (omega (arith, k.forward)))

  pub first_on : (m : Mark) → IsFirstMark (drop i s) (Some m) → IsFirstFrom s i (shifted i m)
  first_on m h = record {
    is_mark = mark_on p.clear m h.0;
    from = omega arith;
    first = λ o k low. omega (arith, h.1 (record { start = o.start - i; end = o.end - i }) (rest_of o k low));
  }

  pub none_on : IsFirstMark (drop i s) None → NoneFrom s i
  none_on none o k low = none (record { start = o.start - i; end = o.end - i }) (rest_of o k low)

pub one_marks : {s : List ℕ} {ms ns : List Mark} → AreMarks s ms → AreMarks s ns → ms ≡ ns
one_marks {ms = ms} {ns} p q =
    one_rising 0 0 ms ns p.rise q.rise (λ m h. (q.each m).1 ((p.each m).0 h)) (λ m h. (p.each m).1 ((q.each m).0 h))

-- ---- every text has its marks
-- the search for the first mark ends, with so many steps left
first_from : (n : ℕ) (s : List ℕ) (start : Option ℕ) (i : ℕ) → length s ≤ n + i → Scan s start i → (r : Option Mark) × IsFirstMark s r
first_from zero s start i few p = (None, not_found p (omega arith))
first_from (suc n) s start i few p =
    elim (either (two (code "[") s i)) [
      | inl opens ↦ first_from n s (Some (i + 2)) (i + 2) (omega arith) (at_opening p opens)
      | inr unopened ↦
          elim (either (two (code "]") s i)) [
            | inl closes ↦ ended closes (λ e. first_from n s start (i + 2) (omega arith) (at_closing p e closes)) start refl
            | inr unclosed ↦ first_from n s start (i + 1) (omega arith) (at_other p unopened unclosed)
          ]
    ]
  where
    ended : two (code "]") s i ≡ true → (start ≡ None → (r : Option Mark) × IsFirstMark s r) → (o : Option ℕ) → start ≡ o
        → (r : Option Mark) × IsFirstMark s r
    ended closes next (Some a) e = (Some (record { start = a; end = i }), found p a e closes)
    ended closes next None e = next e

-- ms are the marks of s that begin at the place i or later
pub record MarksFrom (s : List ℕ) (i : ℕ) (ms : List Mark) : Type 0 where
  pub each : (m : Mark) → In m ms ↔ (IsMark s m × (i ≤ m.start))
  pub rise : RiseFrom i ms

pub all_from : {s : List ℕ} {ms : List Mark} → AreMarks s ms → MarksFrom s 0 ms
all_from are = record { each = λ m. (λ h. ((are.each m).0 h, omega arith), λ k. (are.each m).1 k.0); rise = are.rise }

from_all : {s : List ℕ} {ms : List Mark} → MarksFrom s 0 ms → AreMarks s ms
from_all p = record { each = λ m. (λ h. ((p.each m).0 h).0, λ k. (p.each m).1 (k, omega arith)); rise = p.rise }

no_more : {s : List ℕ} {i : ℕ} → NoneFrom s i → MarksFrom s i []
no_more none = record { each = λ m. (λ h. absurd h, λ k. none m k.0 k.1); rise = tt }

module _ {s : List ℕ} {i : ℕ} {m : Mark} (h : IsFirstFrom s i m) where
  -- any other from there on begins after it
  behind_first : (o : Mark) → IsMark s o → i ≤ o.start → (o ≡ m) ⊎ (m.end + 4 ≤ o.start)
  behind_first o k from =
      elim (dec_lt m.end o.end) [
        | yes later ↦ inr (behind_other h.is_mark k later)
        | no not_later ↦
            elim (dec_lt o.end m.end) [
              | yes earlier ↦ absurd (omega (arith, behind_other k h.is_mark earlier, h.first o k from, k.forward))
              | no same ↦ inl (one_end k h.is_mark (omega arith))
            ]
      ]

  cons_from : {ms : List Mark} → MarksFrom s (m.end + 2) ms → MarksFrom s i (m ∷ ms)
  cons_from {ms} p = record {
    each = λ o. (
      λ k. ⊎_elim (λ e. rw e (h.is_mark, h.from)) (λ l. let old = (p.each o).0 l in (old.0, omega (arith, old.1, h.is_mark.forward, h.from))) k,
      λ k. ⊎_elim inl (λ far. inr ((p.each o).1 (k.0, omega arith))) (behind_first o k.0 k.1),
    );
    rise = (h.from, rise_at _ ms p.rise (λ o l. omega (arith, ((p.each o).0 l).1, h.is_mark.forward)));
  }

  -- of the marks from there on it is the first, and the others are those after it
  module _ {x : Mark} {ms : List Mark} (p : MarksFrom s i (x ∷ ms)) where
    pub head_from : m ≡ x
    head_from = ⊎_elim (λ e. e) later ((p.each m).1 (h.is_mark, h.from))
      where
        later : In m ms → m ≡ x
        later l =
            let x_is = (p.each x).0 (inl refl) in
            absurd (omega (arith, rise_low (suc x.start) ms m p.rise.1 l, h.first x x_is.0 x_is.1))

    pub tail_from : MarksFrom s (m.end + 2) ms
    tail_from = record {
      each = λ o. (λ l. (((p.each o).0 (inr l)).0, far o l), λ k. rest o k.0 k.1);
      rise = rise_at _ ms p.rise.1 far;
    }
      where
        far : (o : Mark) → In o ms → m.end + 2 ≤ o.start
        far o l =
            let o_is = (p.each o).0 (inr l) in
            ⊎_elim (λ e. absurd (omega (arith, rise_low (suc x.start) ms o p.rise.1 l, ap (λ (n : Mark). n.start) (e ∙ head_from)))) (λ k. omega arith)
            (behind_first o o_is.0 o_is.1)

        rest : (o : Mark) → IsMark s o → m.end + 2 ≤ o.start → In o ms
        rest o k low =
            ⊎_elim (λ e. absurd (omega (arith, h.is_mark.forward, ap (λ (n : Mark). n.start) (e ∙ sym head_from)))) (λ l. l)
            ((p.each o).1 (k, omega (arith, h.is_mark.forward, h.from)))

-- each mark takes four brackets
abbrev HasFrom : List ℕ → ℕ → Type 0
HasFrom s i = (ms : List Mark) × (MarksFrom s i ms × (length ms * 4 ≤ length s - i))

-- the first mark of the rest leads to all
with_first : {s : List ℕ} {i : ℕ} → Between s i → ((m : Mark) → IsFirstFrom s i m → i + 2 ≤ m.start → HasFrom s (m.end + 2))
    → (r : Option Mark) × IsFirstMark (drop i s) r → HasFrom s i
with_first {s} {i} p next (Some m, h) =
    let first = first_on p m h in
    let more = next (shifted i m) first (omega (arith, h.0.behind)) in
    (shifted i m ∷ more.0, (cons_from first more.1.0, omega (arith, more.1.1, end_inside first.is_mark, h.0.behind, h.0.forward)))
with_first p next (None, none) = ([], (no_more (none_on p none), omega arith))

has_from : (n : ℕ) (s : List ℕ) (i : ℕ) → length s ≤ n + i → Between s i → HasFrom s i
has_from zero s i few p = ([], (no_more (λ o k low. omega (arith, end_inside k, k.forward)), omega arith))
has_from (suc n) s i few p =
    with_first p (λ m h low. has_from n s (m.end + 2) (omega (arith, h.is_mark.forward)) (after_mark h.is_mark))
    (first_from (length (drop i s)) (drop i s) None 0 (omega arith) (scan_first (drop i s)))

pub has_marks : (s : List ℕ) → (ms : List Mark) × (AreMarks s ms × (length ms * 4 ≤ length s))
has_marks s = let all = has_from (length s) s 0 (omega arith) (at_first s) in (all.0, (from_all all.1.0, omega (arith, all.1.1)))
