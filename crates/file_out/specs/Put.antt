-- What the functions that put down a part write: bytes behind others, and the rows of a table by their number.
use Rattle.std.specs.Prelude.{ℕ, ◌+◌, ◌*◌, ◌≡◌, List, [], ◌∷◌, map, Bool, not, cond, eqb, length, get_or}
use Rattle.rules.specs.01-Lists.{numbers}
use Rattle.rows.specs.Rows.{part}
use Rattle.rows.specs.Table.{written}

-- `list` put down in an output from `from` on, and where it ends
pub record PutOn (list before : List ℕ) (from : ℕ) (after : List ℕ) (r : ℕ) : Type 0 where
  pub long : r ≡ from + length list
  pub is : after ≡ written before from list

-- the row that starts at `row` begins with a byte that is not 0: in a sound base the number of an SDS or of a type is used exactly then
unfoldable pub begun : List ℕ → ℕ → Bool
begun b row = not (eqb (get_or b row 0) 0)

-- number k, and of its row the first bytes
abbrev pub row_entry : List ℕ → ℕ → ℕ → ℕ → List ℕ
row_entry b row kept k = k ∷ part b row kept

-- nothing where the row begins with 0
unfoldable pub row_bytes : List ℕ → ℕ → ℕ → ℕ → List ℕ
row_bytes b row kept k = cond (begun b row) (row_entry b row kept k) []

-- of n rows of width w the numbers of those that are begun, and their entries
abbrev pub begun_rows : List ℕ → ℕ → ℕ → ℕ → List ℕ
begun_rows b start w n = numbers 0 n (λ k. begun b (start + k * w))

unfoldable pub row_entries : List ℕ → ℕ → ℕ → ℕ → ℕ → List (List ℕ)
row_entries b start w kept n = map (λ k. row_entry b (start + k * w) kept k) (begun_rows b start w n)
