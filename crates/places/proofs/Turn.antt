-- Bytes that tell several things, one behind the other: put together, taken apart, one text alone, its length, and its places.
use mathlib.Core.List.{List, [], ◌∷◌, ◌++◌, append-nil, append_assoc}
use mathlib.Core.Path.{◌≡◌, refl, sym, ◌∙◌, ap, ap₂}
use Prim.Native.Nat.{ℕ, zero, suc, ◌+◌, ◌*◌, ◌<◌}
use native.Mathlib.Nat.{mul-zero, mul-suc}
use native.Mathlib.Omega.{arith}
use lib.ListN.{length, take, drop, get_or, length-append}
use lib.Seq.{take-append_seam, drop-append-add}
use Rattle.places.specs.Turn.{InTurn}

module _ {A : Type 0} (tells : A → List ℕ → Type 0) where
  pub turn_append : (xs ys : List A) (t u : List ℕ) → InTurn tells xs t → InTurn tells ys u → InTurn tells (xs ++ ys) (t ++ u)
  turn_append [] ys t u h k = rw h k
  turn_append (x ∷ xs) ys t u (a, (v, (told, (rest, e)))) k =
      (a, (v ++ u, (told, (turn_append xs ys v u rest k, ap (λ (w : List ℕ). w ++ u) e ∙ append_assoc a v u))))

  pub turn_one : (x : A) (t : List ℕ) → tells x t → InTurn tells (x ∷ []) t
  turn_one x t told = (t, ([], (told, (refl, sym (append-nil t)))))

  pub turn_split : (xs ys : List A) (t : List ℕ) → InTurn tells (xs ++ ys) t
      → (a : List ℕ) × ((u : List ℕ) × (InTurn tells xs a × (InTurn tells ys u × (t ≡ a ++ u))))
  turn_split [] ys t h = ([], (t, (refl, (h, refl))))
  turn_split (x ∷ xs) ys t (b, (v, (told, (rest, e)))) =
      let (a, (u, (first, (second, f)))) = turn_split xs ys v rest in
      (b ++ a, (u, ((b, (a, (told, (first, refl)))), (second, e ∙ ap (λ (w : List ℕ). b ++ w) f ∙ sym (append_assoc b a u)))))

  -- where each thing is told by one text alone, so are all
  pub one_turn : ((x : A) (t u : List ℕ) → tells x t → tells x u → t ≡ u)
      → (xs : List A) (t u : List ℕ) → InTurn tells xs t → InTurn tells xs u → t ≡ u
  one_turn one [] t u h k = h ∙ sym k
  one_turn one (x ∷ xs) t u (a, (v, (told, (rest, e)))) (b, (w, (also, (others, f)))) =
      e ∙ ap₂ (λ (y z : List ℕ). y ++ z) (one x a b told also) (one_turn one xs v w rest others) ∙ sym f

  -- where each thing is told by so many bytes, all are told by as many times that
  pub turn_length : (n : ℕ) → ((x : A) (t : List ℕ) → tells x t → length t ≡ n)
      → (xs : List A) (t : List ℕ) → InTurn tells xs t → length t ≡ n * length xs
  turn_length n size [] t h = rw mul-zero (ap length h)
  turn_length n size (x ∷ xs) t (a, (u, (told, (rest, e)))) =
      let one = size x a told in
      let more = turn_length n size xs u rest in
      let all = ap length e ∙ length-append a u in
      rw mul-suc (omega arith)

  -- and each has its place among them, whatever stands behind
  pub turn_at : (n : ℕ) → ((x : A) (t : List ℕ) → tells x t → length t ≡ n)
      → (none : A) (xs : List A) (t rest : List ℕ) → InTurn tells xs t
      → (i : ℕ) → i < length xs → tells (get_or xs i none) (take n (drop (n * i) (t ++ rest)))
  turn_at n size none [] t rest h i inside = absurd (omega arith)
  turn_at n size none (x ∷ xs) t rest (a, (u, (told, (others, e)))) zero inside =
      rw (mul-zero, e, append_assoc a u rest, ← size x a told, take-append_seam a (u ++ rest)) told
  turn_at n size none (x ∷ xs) t rest (a, (u, (told, (others, e)))) (suc i) inside =
      let k : n * suc i ≡ length a + n * i = rw mul-suc (omega (arith, size x a told)) in
      rw (k, e, append_assoc a u rest, drop-append-add a (u ++ rest) (n * i)) (turn_at n size none xs u rest others i (omega arith))
