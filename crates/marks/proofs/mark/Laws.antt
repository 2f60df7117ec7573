-- Pairs from left to right, and the first mark of a text.
use mathlib.Core.Bool.{Bool, true, false, not, true≢false, and-true, and-false}
use mathlib.Core.List.{List}
use mathlib.Core.Logic.{◌⊎◌, inl, inr}
use mathlib.Core.Path.{◌≡◌, refl, sym, ◌∙◌, ap}
use Prim.Native.Char.{code}
use Prim.Native.Nat.{ℕ, zero, suc, ◌+◌, ◌-◌, ◌<◌, ◌≤◌}
use native.Mathlib.Decide.{dec_lt}
use native.Mathlib.Omega.{arith}
use lib.Dec.{eqb}
use lib.ListN.{length, take, drop, get_or, length-drop, get_or-eq_default}
use lib.Seq.{get_or-drop}
use borrow.Author.Tests.{eqb-true, eq-eqb}
use Rattle.std.proofs.Common.{Option, Some, None, Bor}
use Rattle.std.proofs.lemmas.Bool.{and_parts}
use Rattle.std.proofs.lemmas.List.{get_or-take, take_rest}
use Rattle.std.proofs.lemmas.Option.{none-some}
use Rattle.std.specs.Array.{IsFirstChunk}
use Rattle.std.specs.Option.{MatchOption}
use Rattle.marks.specs.Mark.{two, pair, opening, closing, IsMark, IsFirstMark}
use Rattle.marks.specs.Steps.{Clear}
use Rattle.marks.specs.declared.mark.Mark.{Mark}

-- ---- tests
pub either : (b : Bool) → (b ≡ true) ⊎ (b ≡ false)
either true = inl refl
either false = inr refl

pub clash : {A : Type 0} (b : Bool) → b ≡ true → b ≡ false → A
clash b h k = absurd (true≢false (sym h ∙ k))

-- ---- two brackets
pub brackets_differ : code "[" ≡ code "]" → ⊥
brackets_differ e = omega (arith, e)

module _ (b : ℕ) (s : List ℕ) (i : ℕ) where
  pub two_bytes : two b s i ≡ true → (get_or s i 0 ≡ b) × (get_or s (suc i) 0 ≡ b)
  two_bytes h =
      let k = and_parts (eqb (get_or s i 0) b) (eqb (get_or s (suc i) 0) b) h in
      (eqb-true (get_or s i 0) b k.0, eqb-true (get_or s (suc i) 0) b k.1)

  pub two_both : get_or s i 0 ≡ b → get_or s (suc i) 0 ≡ b → two b s i ≡ true
  two_both h k = rw (eq-eqb (get_or s i 0) b h, eq-eqb (get_or s (suc i) 0) b k)

  pub two_inside : 0 < b → two b s i ≡ true → suc i < length s
  two_inside some h =
      elim (dec_lt (suc i) (length s)) [
        | yes k ↦ k
        | no k ↦ absurd (omega (arith, sym (two_bytes h).1 ∙ get_or-eq_default s 0 {n = suc i} (omega arith)))
      ]

  pub two_not : (get_or s i 0 ≡ b → get_or s (suc i) 0 ≡ b → ⊥) → two b s i ≡ false
  two_not n =
      elim (either (two b s i)) [
        | inl h ↦ absurd (n (two_bytes h).0 (two_bytes h).1)
        | inr h ↦ h
      ]

-- ---- two brackets, as the first chunk of a slice from i on shows them
pub two_drop : (b : ℕ) (s : List ℕ) (i j : ℕ) → two b (drop i s) j ≡ two b s (i + j)
two_drop b s i j =
    let e : i + suc j ≡ suc (i + j) = omega arith in
    rw (get_or-drop i s j 0, get_or-drop i s (suc j) 0, e)

module _ (b : ℕ) (s : List ℕ) (i : ℕ) where
  abbrev slice_from : List ℕ
  slice_from = take (length s - i) (drop i s)

  two_chunk : {p : List ℕ} → IsFirstChunk slice_from p 2 → two b p 0 ≡ two b s i
  two_chunk {p} h =
      let e : i + 0 ≡ i = omega arith in
      rw (h.same, get_or-take 2 slice_from 0 0 (omega arith), get_or-take 2 slice_from 1 0 (omega arith), take_rest s i, two_drop b s i 0, e)

  pub sees_two : {p : List ℕ} → IsFirstChunk slice_from p 2 → get_or p 0 0 ≡ b → get_or p 1 0 ≡ b → two b s i ≡ true
  sees_two {p} c h k = sym (two_chunk c) ∙ two_both b p 0 h k

  pub sees_other : (r : Option (Bor (List ℕ))) → MatchOption r (length slice_from < 2) (λ y. IsFirstChunk slice_from y.now 2) → 0 < b
      → ((y : Bor (List ℕ)) → r ≡ Some y → get_or y.now 0 0 ≡ b → get_or y.now 1 0 ≡ b → ⊥) → two b s i ≡ false
  sees_other (Some y) c some n = sym (two_chunk c) ∙ two_not b y.now 0 (n y refl)
  sees_other None short some n =
      let rest = ap length (take_rest s i) ∙ length-drop i s in
      two_not b s i (λ h k. omega (arith, short, two_inside b s i some (two_both b s i h k)))

-- ---- pairs
pub pair_two : (b : ℕ) (s : List ℕ) (i : ℕ) → pair b s i ≡ true → two b s i ≡ true
unfolding pair
pair_two b s zero h = h
pair_two b s (suc i) h = (and_parts (two b s (suc i)) (not (pair b s i)) h).0

-- behind a pair of its own kind none begins that would overlap it
pub apart : (b : ℕ) (s : List ℕ) (i : ℕ) → pair b s i ≡ true → pair b s (suc i) ≡ false
unfolding pair
apart b s i h = rw h (and-false (two b s (suc i)))

next_two : (b : ℕ) (s : List ℕ) (i : ℕ) → pair b s i ≡ false → pair b s (suc i) ≡ two b s (suc i)
unfolding pair
next_two b s i h = rw h (and-true (two b s (suc i)))

pub clear_first : (s : List ℕ) → Clear s 0
unfolding pair
clear_first s = record { opens = refl; closes = refl }

-- a pair of brackets b stands at the place i, and none of either kind begins in it beside
record Stands (b c : ℕ) (s : List ℕ) (i : ℕ) : Type 0 where
  here : pair b s i ≡ true
  next : pair b s (suc i) ≡ false
  other : pair c s i ≡ false
  other_next : pair c s (suc i) ≡ false

stands : (b c : ℕ) (s : List ℕ) (i : ℕ) → (b ≡ c → ⊥) → pair b s i ≡ two b s i → pair c s i ≡ two c s i → two b s i ≡ true
    → Stands b c s i
stands b c s i differ free free_other h =
    let k = two_bytes b s i h in
    let none = free_other ∙ two_not c s i (λ e x. differ (sym k.0 ∙ e)) in
    record {
      here = free ∙ h;
      next = apart b s i (free ∙ h);
      other = none;
      other_next = next_two c s i none ∙ two_not c s (suc i) (λ e x. differ (sym k.1 ∙ e));
    }

module _ {s : List ℕ} {i : ℕ} (clear : Clear s i) where
  opens_here : two (code "[") s i ≡ true → Stands (code "[") (code "]") s i
  opens_here = stands (code "[") (code "]") s i brackets_differ clear.opens clear.closes

  closes_here : two (code "]") s i ≡ true → Stands (code "]") (code "[") s i
  closes_here = stands (code "]") (code "[") s i (λ e. brackets_differ (sym e)) clear.closes clear.opens

  pub clear_opened : two (code "[") s i ≡ true → Clear s (suc (suc i))
  clear_opened h =
      let p = opens_here h in
      record { opens = next_two (code "[") s (suc i) p.next; closes = next_two (code "]") s (suc i) p.other_next }

  pub clear_closed : two (code "]") s i ≡ true → Clear s (suc (suc i))
  clear_closed h =
      let p = closes_here h in
      record { opens = next_two (code "[") s (suc i) p.other_next; closes = next_two (code "]") s (suc i) p.next }

  pub clear_other : two (code "[") s i ≡ false → two (code "]") s i ≡ false → Clear s (suc i)
  clear_other h k =
      record { opens = next_two (code "[") s i (clear.opens ∙ h); closes = next_two (code "]") s i (clear.closes ∙ k) }

-- ---- marks
-- a mark does not end where no ]] stands, nor begin behind a place where no [[ does
pub not_end : {s : List ℕ} {m : Mark} → IsMark s m → (i : ℕ) → closing s i ≡ false → m.end ≡ i → ⊥
not_end {s} {m} h i none e = clash (closing s m.end) h.closed (rw e none)

not_start : {s : List ℕ} {m : Mark} → IsMark s m → (i : ℕ) → opening s i ≡ false → m.start - 2 ≡ i → ⊥
not_start {s} {m} h i none e = clash (opening s (m.start - 2)) h.opened (rw e none)

pub past_one : {i n : ℕ} → i ≤ n → (n ≡ i → ⊥) → i + 1 ≤ n
past_one low other = omega arith

pub past_two : {i n : ℕ} → i ≤ n → (n ≡ i → ⊥) → (n ≡ suc i → ⊥) → i + 2 ≤ n
past_two low other another = omega arith

-- of two marks the one that ends first begins first
pub in_order : {s : List ℕ} {m o : Mark} → IsMark s m → IsMark s o → m.end ≤ o.end → m.start ≤ o.start
in_order {s} {m} {o} h k early =
    elim (dec_lt o.start m.start) [
      | yes less ↦ absurd (inner less)
      | no more ↦ omega arith
    ]
  where
    inner : o.start < m.start → ⊥
    inner less =
        elim (dec_lt o.start (m.start - 1)) [
          | yes far ↦
              let low = h.behind in
              let forward = h.forward in
              clash (opening s (m.start - 2)) h.opened (k.between (m.start - 2) (omega arith) (omega arith)).0
          | no near ↦
              let low = k.behind in
              let e : suc (o.start - 2) ≡ m.start - 2 = omega arith in
              clash (opening s (m.start - 2)) h.opened (rw e at (apart (code "[") s (o.start - 2) k.opened))
        ]

-- ---- the way to the first mark
-- a [[ is open at the place i: its text begins at start, with no pair since
pub record Open (s : List ℕ) (start i : ℕ) : Type 0 where
  pub behind : 2 ≤ start
  pub reached : start ≤ i
  pub opened : opening s (start - 2) ≡ true
  pub quiet : (j : ℕ) → start ≤ j → j < i → (opening s j ≡ false) × (closing s j ≡ false)

-- the bytes before the place i hold no whole mark; start is where a text begins, if a [[ is open there
pub record Scan (s : List ℕ) (start : Option ℕ) (i : ℕ) : Type 0 where
  pub clear : Clear s i
  pub none : (m : Mark) → IsMark s m → i ≤ m.end
  pub begun : (a : ℕ) → start ≡ Some a → Open s a i
  pub shut : start ≡ None → (m : Mark) → IsMark s m → i + 2 ≤ m.start

pub scan_first : (s : List ℕ) → Scan s None 0
scan_first s = record {
  clear = clear_first s;
  none = λ m h. omega arith;
  begun = λ a e. absurd (none-some a e);
  shut = λ e m h. omega (arith, h.behind);
}

module _ {s : List ℕ} {start : Option ℕ} {i : ℕ} (p : Scan s start i) where
  pub at_opening : two (code "[") s i ≡ true → Scan s (Some (i + 2)) (i + 2)
  at_opening two_here =
      let pair_here = opens_here p.clear two_here in
      let k : suc (suc i) ≡ i + 2 = omega arith in
      let j : i ≡ i + 2 - 2 = omega arith in
      record {
        clear = rw k at (clear_opened p.clear two_here);
        none = λ m h. past_two (p.none m h) (not_end h i pair_here.other) (not_end h (suc i) pair_here.other_next);
        begun = λ a e.
            let same : a ≡ i + 2 = cc in
            rw same record {
              behind = omega arith;
              reached = omega arith;
              opened = rw j at pair_here.here;
              quiet = λ j low high. absurd (omega arith);
            };
        shut = λ e. cc;
      }

  pub at_closing : start ≡ None → two (code "]") s i ≡ true → Scan s start (i + 2)
  at_closing z two_here =
      let pair_here = closes_here p.clear two_here in
      let k : suc (suc i) ≡ i + 2 = omega arith in
      let far : (m : Mark) → IsMark s m → i + 2 + 2 ≤ m.start = λ m h.
      let low = p.shut z m h in
      let more = past_two (omega arith) (not_start h i pair_here.other) (not_start h (suc i) pair_here.other_next) in
      omega arith in
      record {
        clear = rw k at (clear_closed p.clear two_here);
        none = λ m h. omega (arith, far m h, h.forward);
        begun = λ a e. absurd (none-some a (sym z ∙ e));
        shut = λ e. far;
      }

  pub at_other : two (code "[") s i ≡ false → two (code "]") s i ≡ false → Scan s start (i + 1)
  at_other no_opening no_closing =
      let opens = p.clear.opens ∙ no_opening in
      let closes = p.clear.closes ∙ no_closing in
      let k : suc i ≡ i + 1 = omega arith in
      record {
        clear = rw k at (clear_other p.clear no_opening no_closing);
        none = λ m h. past_one (p.none m h) (not_end h i closes);
        begun = λ a e.
            let o = p.begun a e in
            record {
              behind = o.behind;
              reached = omega (arith, o.reached);
              opened = o.opened;
              quiet = λ j from to.
                  elim (dec_lt j i) [
                    | yes before ↦ o.quiet j from before
                    | no last ↦ let e : j ≡ i = omega arith in rw e (opens, closes)
                  ];
            };
        shut = λ z m h.
            let low = p.shut z m h in
            let more = past_one {i = i} (omega arith) (not_start h i opens) in
            omega arith;
      }

  pub found : (a : ℕ) → start ≡ Some a → two (code "]") s i ≡ true → IsFirstMark s (Some (record { start = a; end = i }))
  found a e two_here =
      let o = p.begun a e in
      let mark : IsMark s (record { start = a; end = i }) = record {
        behind = o.behind;
        opened = o.opened;
        closed = p.clear.closes ∙ two_here;
        forward = o.reached;
        between = λ j from to. o.quiet j from (omega arith);
      } in
      (mark, λ m h. in_order mark h (p.none m h))

  pub not_found : length s ≤ i → IsFirstMark s None
  not_found end m h =
      let late = p.none m h in
      let byte = (two_bytes (code "]") s m.end (pair_two (code "]") s m.end h.closed)).0 in
      let nothing = get_or-eq_default s 0 {n = m.end} (omega arith) in
      omega (arith, sym byte ∙ nothing)
