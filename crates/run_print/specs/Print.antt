-- Bytes put down one after the other, the numbers among them, and what is said of an answer.
use Rattle.std.specs.Prelude.{ℕ, zero, suc, ◌+◌, ◌*◌, ◌≡◌, List, [], ◌∷◌, ◌++◌, cond, eqb, length, get_or, take}
use Rattle.rules.specs.14-Run.{decimal, printed}

-- the text stands from `at` on, what stood before it is unchanged, and r is the place behind it
pub record Printed (before : List ℕ) (at : ℕ) (text after : List ℕ) (r : ℕ) : Type 0 where
  pub long : length after ≡ length before
  pub end : r ≡ at + length text
  pub is : take r after ≡ take at before ++ text

-- a space before each number
unfoldable pub spaced : List ℕ → List ℕ
spaced [] = []
spaced (n ∷ ns) = 32 ∷ (decimal 20 n ++ spaced ns)

-- the first entries of a list, "two bytes, low byte first"
unfoldable pub read_entries : List ℕ → ℕ → List ℕ
read_entries list zero = []
read_entries list (suc i) = read_entries list i ++ ((get_or list (i * 2 + 1) 0 * 256 + get_or list (i * 2) 0) ∷ [])

-- "A refusal prints its number alone."
unfoldable pub spoken : ℕ → List ℕ → List ℕ
spoken n values = printed (cond (eqb n 0) (0 ∷ values) (n ∷ []))
