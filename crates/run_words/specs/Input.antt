-- An input, line by line. Of a read of standard input the toolchain says how many bytes it put at the start of the buffer, and
-- nothing of which.
-- So what came is what stands in the buffer then; behind the next read it is a list that there is. That no read's bytes are passed
-- over is seen in `fill`, which has the only one.
use Rattle.std.specs.Prelude.{ℕ, ◌≤◌, ◌≡◌, ◌⊎◌, Bool, true, false, not, ◌&&◌, List, [], ◌++◌, eqb, length, take}
use Rattle.run_words.specs.Lines.{upto, beyond, has_newline}

-- what was read and is not yet gathered, and whether the last read brought nothing; then the buffer that this stands in, so that a copy
-- of it is made field by field
pub record Left : Type 0 where
  pub unread : List ℕ
  pub over : Bool
  pub read : List ℕ
  pub from : ℕ
  pub n : ℕ

-- the turns that `next_line` has
abbrev pub all_turns : ℕ
all_turns = 18446744073709551615

-- there is something to gather, unless the input is over: what was left, or where nothing was, what a read brought
pub record Filled (left : List ℕ) (x' : Left) (r : Bool) : Type 0 where
  pub more : List ℕ
  pub lean : (left ≡ []) ⊎ (more ≡ [])
  pub is : x'.unread ≡ left ++ more
  pub over : x'.over ≡ eqb (length (left ++ more)) 0
  pub some : r ≡ not (x'.over)

-- the line has what was to be gathered, up to a newline
pub record Gathered (x : Left) (line : List ℕ) (x' : Left) (line' : List ℕ) (r : Bool) : Type 0 where
  pub is : line' ≡ take 128 (line ++ upto x.unread)
  pub rest : x'.unread ≡ beyond x.unread
  pub over : x'.over ≡ x.over
  pub ends : r ≡ has_newline x.unread

-- The next line. What came is what was left and, behind it, `more`: what the reads of this call brought, one behind the other.
pub record NextLine (left : List ℕ) (x' : Left) (line' : List ℕ) (r : Bool) : Type 0 where
  pub more : List ℕ
  -- nothing is read as long as a line is left
  pub lean : has_newline left ≡ true → more ≡ []
  -- the line is what stands before the first newline, all that came where there is none; 128 bytes are kept of a longer one
  pub is : line' ≡ take 128 (upto (left ++ more))
  -- what stands behind that newline is left for the next line, nothing where there is none
  pub rest : x'.unread ≡ beyond (left ++ more)
  -- with a newline the input goes on
  pub goes_on : has_newline (left ++ more) ≡ true → x'.over ≡ false
  -- without one it is over, by a read that brought nothing; or every turn has brought a byte, and the line is cut where they end
  pub ends : has_newline (left ++ more) ≡ false → (x'.over ≡ true) ⊎ (all_turns ≤ length (left ++ more))
  -- there is a line, unless the input is over and no byte is kept
  pub some : r ≡ not (x'.over && eqb (length line') 0)
