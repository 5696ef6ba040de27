-- A line gathered from what is read, piece by piece.
use Rattle.std.specs.Prelude.{ℕ, ◌≤◌, ◌≡◌, List, [], ◌∷◌, ◌++◌, Bool, cond, eqb, take}
use Rattle.rules.specs.01-Lists.{any}

-- what stands before the first newline, and what stands behind it
unfoldable pub upto : List ℕ → List ℕ
upto [] = []
upto (c ∷ cs) = cond (eqb c 10) [] (c ∷ upto cs)

unfoldable pub beyond : List ℕ → List ℕ
beyond [] = []
beyond (c ∷ cs) = cond (eqb c 10) cs (beyond cs)

abbrev pub has_newline : List ℕ → Bool
has_newline l = any (λ c. eqb c 10) l

-- a line as it is held: what is kept of it, and the room that stands in, so that a copy of it is made field by field
pub record Held : Type 0 where
  pub kept : List ℕ
  pub bytes : List ℕ
  pub many : ℕ

-- the line has the piece more; of a long line 128 bytes are kept
pub record Kept (line : List ℕ) (n : ℕ) (piece line' : List ℕ) (r : ℕ) : Type 0 where
  pub few : r ≤ 128
  pub is : take r line' ≡ take 128 (take n line ++ piece)
