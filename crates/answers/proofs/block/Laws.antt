-- What is kept of a line that is still open, a block line by line, and the calls.
use mathlib.Core.Bool.{false}
use mathlib.Core.List.{List, [], ◌∷◌, ◌++◌}
use mathlib.Core.Logic.{◌↔◌, ◌⊎◌, inl, inr}
use mathlib.Core.Path.{◌≡◌, refl, sym, ◌∙◌, ap, subst}
use Prim.Native.Nat.{ℕ, zero, suc, ◌+◌, ◌-◌, ◌*◌, ◌<◌, ◌≤◌, min}
use native.Mathlib.Decide.{dec_lt}
use native.Mathlib.Omega.{arith}
use lib.Dec.{eqb}
use lib.ListN.{length, take, drop, length-append, length-drop}
use lib.Seq.{length-take-le, take_all, take-length, take-append_seam, take-append-le, take-take, take-add, drop_at}
use lib.Seq.{sets}
use borrow.Author.Tests.{le-leb}
use Rattle.words.proofs.text.Laws.{either, neither}
use Rattle.dating.proofs.answer.Laws.{answer_length, overlong}
use Rattle.places.proofs.Bytes.{sets_start}
use Rattle.places.proofs.Turn.{turn_append, turn_one, turn_split}
use Rattle.answers.proofs.Lines.{lines_from, last_some, ended_append, open_append, parted, open_whole, open_lacks}
use Rattle.answers.proofs.Walk as walk
use Rattle.answers.proofs.Walk.{Sofar, sofar_length, passed, line_end, all_told, all_left}
use Rattle.std.specs.List.{copy_within}
use Rattle.words.specs.Text.{has, over}
use Rattle.dating.specs.Answer.{line_feed, IsAnswer, PutsAnswer}
use Rattle.answers.specs.Block.{kept, Written, AnswersBlock, AnswersLast, joined, Run}
use Rattle.answers.specs.Lines.{ended_lines, open_line, last_line, Answers}
use Rattle.answers.specs.Steps.{AnswersEnded, between, EndsAt}
use Rattle.answers.specs.declared.block.Ended.{Ended}

-- ---- what is kept of a line
-- two lines are alike where they are one, or both too long
Alike : List ℕ → List ℕ → Type 0
Alike p q = (p ≡ q) ⊎ ((120 < length p) × (120 < length q))

kept_alike : (p : List ℕ) → Alike (kept p) p
unfolding Alike
kept_alike p =
    elim (dec_lt 120 (length p)) [
      | yes long ↦ let l = length-take-le 121 p long in inr (omega arith, long)
      | no short ↦ inl (take_all 121 p (omega arith))
    ]

alike_back : (p q : List ℕ) → Alike p q → Alike q p
unfolding Alike
alike_back p q (inl e) = inl (sym e)
alike_back p q (inr h) = inr (h.1, h.0)

alike_on : (p q : List ℕ) (c : ℕ) → Alike p q → Alike (p ++ c ∷ []) (q ++ c ∷ [])
unfolding Alike
alike_on p q c (inl e) = inl (ap (λ (x : List ℕ). x ++ c ∷ []) e)
alike_on p q c (inr h) = inr (
  let l = length-append p (c ∷ []) in omega (arith, h),
  let l = length-append q (c ∷ []) in omega (arith, h),
)

alike_answer : (p q a : List ℕ) → Alike p q → IsAnswer p a → IsAnswer q a
unfolding Alike
alike_answer p q a (inl e) h = rw e at h
alike_answer p q a (inr k) h = overlong p q a k.0 k.1 h

alike_first : (p q : List ℕ) (ls : List (List ℕ)) (t : List ℕ) → Alike p q → Answers (p ∷ ls) t → Answers (q ∷ ls) t
alike_first p q ls t k h = (h.0, (h.1.0, (alike_answer p q h.0 k h.1.1.0, h.1.1.1)))

alike_answers : (p q s t : List ℕ) → Alike p q → Answers (ended_lines p s) t → Answers (ended_lines q s) t
unfolding ended_lines
alike_answers p q [] t k h = h
alike_answers p q (c ∷ s) t k h =
    elim (either (eqb c line_feed)) [
      | inl e ↦ rw e (alike_first p q (ended_lines [] s) t k (rw e at h))
      | inr e ↦ rw e (alike_answers (p ++ c ∷ []) (q ++ c ∷ []) s t (alike_on p q c k) (rw e at h))
    ]

kept_last : (p t : List ℕ) → Answers (last_line (kept p)) t ↔ Answers (last_line p) t
kept_last [] t = (λ h. h, λ h. h)
kept_last (c ∷ s) t =
    let k = kept_alike (c ∷ s) in
    (alike_first (kept (c ∷ s)) (c ∷ s) [] t k, alike_first (c ∷ s) (kept (c ∷ s)) [] t (alike_back (kept (c ∷ s)) (c ∷ s) k))

kept_on : (p : List ℕ) (c : ℕ) → kept (kept p ++ c ∷ []) ≡ kept (p ++ c ∷ [])
kept_on p c =
    elim (dec_lt 120 (length p)) [
      | yes long ↦
          let l = length-take-le 121 p long in
          take-append-le 121 (kept p) (c ∷ []) (omega arith) ∙ take-take 121 121 p (omega arith) ∙ sym (take-append-le 121 p (c ∷ []) (omega arith))
      | no short ↦ rw (take_all 121 p (omega arith))
    ]

kept_open : (p s : List ℕ) → kept (open_line (kept p) s) ≡ kept (open_line p s)
unfolding open_line
kept_open p [] = take-take 121 121 p (omega arith)
kept_open p (c ∷ s) =
    elim (either (eqb c line_feed)) [
      | inl e ↦ rw e
      | inr e ↦ rw e (sym (kept_open (kept p ++ c ∷ []) s) ∙ ap (λ (x : List ℕ). kept (open_line x s)) (kept_on p c) ∙ kept_open (p ++ c ∷ []) s)
    ]

take_lacks : (c n : ℕ) (s : List ℕ) → has c s ≡ false → has c (take n s) ≡ false
unfolding has
take_lacks c zero s h = refl
take_lacks c (suc n) [] h = refl
take_lacks c (suc n) (x ∷ s) h = let no = neither (eqb x c) h in rw no.0 (take_lacks c n s no.1)

-- ---- block by block
-- what is kept of the open line o serves for it
module _ (o b : List ℕ) (lacks : has line_feed o ≡ false) where
  whole : (ended_lines [] (kept o) ≡ []) × (open_line [] (kept o) ≡ kept o)
  whole = open_whole [] (kept o) (take_lacks line_feed 121 o lacks)

  kept_lines : ended_lines [] (kept o ++ b) ≡ ended_lines (kept o) b
  kept_lines = ended_append [] (kept o) b ∙ rw (whole.0, whole.1)

  kept_next : kept (open_line [] (kept o ++ b)) ≡ kept (open_line o b)
  kept_next = ap kept (rw whole.1 at (open_append [] (kept o) b)) ∙ kept_open o b

pub run_on : (o : List ℕ) (bs : List (List ℕ)) (t : List ℕ) → has line_feed o ≡ false → Run (kept o) bs t → Answers (lines_from o (joined bs)) t
unfolding ended_lines open_line
run_on o [] t lacks h = (kept_last o t).0 h
run_on o (b ∷ bs) t lacks (a, (u, (first, (rest, e)))) =
    let here = alike_answers (kept o) o b a (kept_alike o) (rw (kept_lines o b lacks) at first) in
    let there = run_on (open_line o b) bs u (open_lacks o b lacks) (rw (kept_next o b lacks) at rest) in
    rw (e, parted o b (joined bs)) (turn_append IsAnswer (ended_lines o b) (lines_from (open_line o b) (joined bs)) a u here there)

pub run_back : (o : List ℕ) (bs : List (List ℕ)) (t : List ℕ) → has line_feed o ≡ false → Answers (lines_from o (joined bs)) t → Run (kept o) bs t
unfolding ended_lines open_line
run_back o [] t lacks h = (kept_last o t).1 h
run_back o (b ∷ bs) t lacks h =
    let lines = lines_from (open_line o b) (joined bs) in
    let (a, (u, (first, (rest, e)))) = turn_split IsAnswer (ended_lines o b) lines t (rw (parted o b (joined bs)) at h) in
    let here = alike_answers o (kept o) b a (alike_back (kept o) o (kept_alike o)) first in
    let there = run_back (open_line o b) bs u (open_lacks o b lacks) rest in
    (a, (u, (rw (kept_lines o b lacks) here, (rw (kept_next o b lacks) there, e))))

-- ---- a block line by line
-- the lines of s that end before start are answered, each with at most four times the bytes of the line with its line feed
pub record Answering (s before : List ℕ) (written start : ℕ) (after : List ℕ) : Type 0 where
  pub sofar : Sofar IsAnswer s before written start start after
  pub small : written ≤ 4 * start

pub at_first : (s before : List ℕ) → Answering s before 0 0 before
at_first s before = record { sofar = walk.at_first IsAnswer s before; small = omega arith }

module _ {s before : List ℕ} {written start : ℕ} {after : List ℕ} (p : Answering s before written start after) (room : 4 * length s + 25 ≤ length before) where
  pub line_answered : {e : ℕ} → EndsAt s start e → e < length s → (now : List ℕ) (r : ℕ) → PutsAnswer (between s start e) written after now r
      → Answering s before (written + r) (e + 1) now
  line_answered {e} ends more now r h = go (rw (le-leb (written + 25) (length after) has_room) at h)
    where
      has_room : written + 25 ≤ length after
      has_room = omega (arith, sofar_length p.sofar, p.small, ends.quiet.from)

      go : (t : List ℕ) × (IsAnswer (between s start e) t × ((r ≡ length t) × (now ≡ sets after written t))) → Answering s before (written + r) (e + 1) now
      go (t, (told, (count, bytes))) =
          let from = ends.quiet.from in
          let small = p.small in
          let size = length-drop start s in
          let its_length = length-take-le (e - start) (drop start s) (omega arith) in
          let few = (answer_length (between s start e) t told).1 in
          record { sofar = rw count (line_end (passed p.sofar e ends.quiet) more t now (ends.feed more) told bytes); small = omega arith }

  pub all_answered : EndsAt s start (length s) → AnswersEnded s before after (record { written = written; start = start })
  all_answered ends =
      let whole = passed p.sofar (length s) ends.quiet in
      let from = ends.quiet.from in
      let small = p.small in
      let count = whole.count in
      record {
        output = record {
          text = whole.text;
          answers = all_told whole (omega arith);
          room = omega arith;
          count = count;
          bytes = whole.output ∙ sets_start whole.text before (omega arith);
        };
        inside = from;
        left = all_left whole (omega arith);
      }

-- ---- bytes moved to the start
moved : (b : List ℕ) (start k : ℕ) → start + k ≤ length b → copy_within b start (start + k) 0 ≡ over (take k (drop start b)) b
moved b start k inside =
    let count : start + k - start ≡ k = omega arith in
    let place : 0 + k ≡ k = omega arith in
    rw (count, place, length-take-le k (drop start b) (omega (arith, length-drop start b)))

-- ---- the bytes that a buffer is filled with
module _ (n : ℕ) (b : List ℕ) {size e : ℕ} (room : length b ≡ size) (part : e ≡ min n size) where
  front : take e b ≡ take n b
  front =
      elim (dec_lt n (length b)) [
        | yes h ↦ let all : e ≡ n = omega arith in rw all
        | no h ↦ let all : e ≡ length b = omega arith in rw all (take-length b) ∙ sym (take_all n b (omega arith))
      ]

  front_length : length (take e b) ≡ e
  front_length = length-take-le e b (omega arith)

  -- what is kept of the open line, moved to the start
  kept_part : (start k : ℕ) → start ≤ e → k ≡ min (e - start) 121 → take k (drop start b) ≡ kept (drop start (take e b))
  kept_part start k h few =
      let l = length-take-le start b (omega arith) in
      let j : start + (e - start) ≡ e = omega arith in
      let Rest-part = take (e - start) (drop start b) in
      let cut : drop start (take e b) ≡ Rest-part = ap (drop start) (rw j at (take-add start (e - start) b)) ∙ drop_at (take start b) Rest-part start l in
      elim (dec_lt 121 (e - start)) [
        | yes more ↦ let m : k ≡ 121 = omega arith in rw (cut, m) (sym (take-take 121 (e - start) (drop start b) (omega arith)))
        | no less ↦
            let m : k ≡ e - start = omega arith in
            let all = length-drop start b in
            let count = length-take-le (e - start) (drop start b) (omega arith) in
            rw (cut, m) (sym (take_all 121 (take (e - start) (drop start b)) (omega arith)))
      ]

  pub block_answered : {o p m : List ℕ} {r : Ended} {k : ℕ} → AnswersEnded (take e b) o p r → k ≡ min (e - r.start) 121
      → m ≡ copy_within b r.start (r.start + k) 0 → AnswersBlock (take n b) b m o p (record { written = r.written; kept = k })
  block_answered {r = r} {k} h least moves =
      let fits = front_length in
      let inside : r.start ≤ e = omega (arith, h.inside) in
      let keeps = kept_part r.start k inside least ∙ ap kept h.left in
      let all = length-drop r.start b in
      let count = length-take-le k (drop r.start b) (omega arith) in
      rw (← front) (record {
        output = h.output;
        keeps = sym count ∙ ap length keeps;
        buffer = moves ∙ moved b r.start k (omega arith) ∙ ap (λ (w : List ℕ). over w b) keeps;
      })

  pub last_answered : (o p : List ℕ) (r : ℕ) → 1 ≤ length (take e b) → 25 ≤ length o → PutsAnswer (take e b) 0 o p r → AnswersLast (take n b) o p r
  last_answered o p r some room h = go (rw (le-leb 25 (length o) room) at h)
    where
      go : (t : List ℕ) × (IsAnswer (take e b) t × ((r ≡ length t) × (p ≡ sets o 0 t))) → AnswersLast (take n b) o p r
      go (t, (told, (count, bytes))) =
          let few = (answer_length (take e b) t told).0 in
          rw (← front) (record {
            text = t;
            answers = rw (last_some (take e b) some) (turn_one IsAnswer (take e b) t told);
            room = omega arith;
            count = count;
            bytes = bytes ∙ sets_start t o (omega arith);
          })

-- ---- one result for each call
pub one_written : (output : List ℕ → Type 0) → ((t u : List ℕ) → output t → output u → t ≡ u)
    → (o p q : List ℕ) (n m : ℕ) → Written output o p n → Written output o q m → (n ≡ m) × (p ≡ q)
one_written output one o p q n m h k =
    let text = one h.text k.text h.answers k.answers in
    (h.count ∙ ap length text ∙ sym k.count, h.bytes ∙ ap (λ (t : List ℕ). over t o) text ∙ sym k.bytes)

-- ---- what a call leaves in its buffers is a step of the run
pub written_text : {output : List ℕ → Type 0} {o p : List ℕ} {n : ℕ} → Written output o p n → output (take n p)
written_text {output} {o} {p} {n} h =
    let text : take n p ≡ h.text = rw (h.count, h.bytes) (take-append_seam h.text (drop (length h.text) o)) in
    subst output (sym text) h.answers

over_length : (w s : List ℕ) → length w ≤ length s → length (over w s) ≡ length s
over_length w s h = let a = length-append w (drop (length w) s) in let b = length-drop (length w) s in omega arith

-- what is written changes no length
pub written_length : {output : List ℕ → Type 0} {o p : List ℕ} {n : ℕ} → Written output o p n → (length p ≡ length o) × (n ≤ length o)
written_length {o = o} h =
    let all = ap length h.bytes ∙ over_length h.text o h.room in
    (all, omega (arith, h.count, h.room))
