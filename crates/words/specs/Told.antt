-- Grammars, and what bytes tell by one.
use Rattle.std.specs.Prelude.{List, ◌≡◌, ℕ}

-- trees, which of them are good, and the bytes that each is spelled with
pub record Grammar : Type 1 where
  pub Tree : Type 0
  pub Good : Tree → Type 0
  pub spell : Tree → List ℕ

-- r is what the bytes s tell: the meaning of a good tree that is spelled s, and otherwise, where the grammar does not produce s, a fixed answer
pub data Told (g : Grammar) {R : Type 0} (meaning : g.Tree → R) (otherwise : R) (s : List ℕ) (r : R) : Type 0 where
  produced : (x : g.Tree) → g.Good x → g.spell x ≡ s → r ≡ meaning x → Told g meaning otherwise s r
  unproduced : ((x : g.Tree) → g.Good x → g.spell x ≡ s → ⊥) → r ≡ otherwise → Told g meaning otherwise s r
