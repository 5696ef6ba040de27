-- The bytes of rows, over any start and width.
use Rattle.std.specs.Prelude.{◌≡◌, ℕ, zero, suc, ◌+◌, ◌*◌, ◌<◌, ◌≤◌, Bool, true, false, cond, ◌&&◌, List, [], ◌∷◌, take, drop, replicate, ◌≢◌, nat_eq, slice_index}
use Rattle.rules.specs.01-Lists.{same_bytes, bytes_before}
use Rattle.name_fields.specs.Field.{blank_field}

-- w bytes from `at` on
abbrev pub part : List ℕ → ℕ → ℕ → List ℕ
part b at w = take w (drop at b)

-- row i of the rows of width w that start at `start`
abbrev pub row_at : List ℕ → ℕ → ℕ → ℕ → List ℕ
row_at b start w i = part b (start + i * w) w

-- what the first n rows of width w show
unfoldable pub rows : {A : Type 0} → ℕ → (List ℕ → A) → ℕ → List ℕ → List A
rows w read zero l = []
rows w read (suc n) l = read (take w l) ∷ rows w read n (drop w l)

-- a row is unused exactly when it is all 0: how many of the first n rows of width w stand before the first unused one
unfoldable pub filled : ℕ → ℕ → List ℕ → ℕ
filled w zero l = 0
filled w (suc n) l = cond (same_bytes (replicate w 0) (take w l)) 0 (suc (filled w n (drop w l)))

-- n times eight bytes are zero, those at `at` and then those sixteen further on
unfoldable pub blank_eights : List ℕ → ℕ → ℕ → Bool
blank_eights b at zero = true
blank_eights b at (suc n) = blank_eights b at n && blank_field (part b (at + n * 16) 8)

-- no bit of r is set exactly where t is true
pub record NoBit (t : Bool) (r : ℕ) : Type 0 where
  pub is : nat_eq r 0 ≡ t

-- r is the byte that stands at `at`
pub record Reads (b : List ℕ) (at r : ℕ) : Type 0 where
  pub is : r ≡ slice_index b at
  pub small : r < 256

-- r of n rows of width w stand before the first unused one
pub record Filled (b : List ℕ) (start w n r : ℕ) : Type 0 where
  pub fits : r ≤ n
  pub used : (k : ℕ) → k < r → row_at b start w k ≢ replicate w 0
  pub free : r < n → row_at b start w r ≡ replicate w 0

-- of the numbers below n those below r pass and no other, as far as the two beside r tell
pub record TurnsAt (told : ℕ → Bool → Type 0) (n r : ℕ) : Type 0 where
  pub fits : r ≤ n
  pub last : (k : ℕ) → r ≡ k + 1 → told k true
  pub next : r < n → told r false

-- of n rows of width w the first k have a byte that is not 0 in a certain place, and no other has; that of row 0 stands at `first`
pub record Parted (b : List ℕ) (first w n k : ℕ) : Type 0 where
  pub fits : k ≤ n
  pub used : (i : ℕ) → i < k → slice_index b (first + i * w) ≢ 0
  pub free : (i : ℕ) → k ≤ i → i < n → slice_index b (first + i * w) ≡ 0

-- r is where the rows part, if they do
pub record Halved (b : List ℕ) (first w n r : ℕ) : Type 0 where
  pub fits : r ≤ n
  pub is : (k : ℕ) → Parted b first w n k → r ≡ k

-- r is a count, and at most what there is room for
pub record Counted (count most r : ℕ) : Type 0 where
  pub is : r ≡ count
  pub fits : r ≤ most

-- what each of n rows is compared by stands before that of the next
abbrev pub Rising : (ℕ → List ℕ) → ℕ → Type 0
Rising row n = (i : ℕ) → suc i < n → bytes_before (row i) (row (suc i)) ≡ true

-- the SDSs of n rows do not fall; that of row 0 stands at `first`
abbrev pub Level : List ℕ → ℕ → ℕ → ℕ → Type 0
Level b first width n = (i j : ℕ) → i < j → j < n → slice_index b (first + i * width) ≤ slice_index b (first + j * width)
