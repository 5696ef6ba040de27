-- What the walk over a file computes, byte by byte.
use Rattle.std.specs.Prelude.{ℕ, zero, suc, ◌-◌, ◌/◌, ◌%◌, min, ◌≤◌, ◌<◌, ◌≡◌, List, [], ◌∷◌, Bool, true, false, cond, ◌&&◌, ltb, eqb, length, drop}
use Rattle.rules.specs.11-File.{Section, shared, Longest}

-- every byte is 255
unfoldable pub full : List ℕ → Bool
full [] = true
full (x ∷ l) = eqb x 255 && full l

-- how many bytes of l can begin a run that stands above the entry `prev` and is as wide; before the first entry there is none, []
unfoldable pub above : List ℕ → List ℕ → ℕ
above [] l = length l
above (y ∷ ys) [] = 0
above (y ∷ ys) (x ∷ l) = cond (ltb y x) (suc (length l)) (cond (ltb x y) 0 (cond (full ys) 0 (suc (above ys l))))

-- how many bytes of l can begin a run that does not stand above `zs`
unfoldable pub within : List ℕ → List ℕ → ℕ
within [] l = length l
within (z ∷ zs) [] = 0
within (z ∷ zs) (x ∷ l) = cond (ltb x z) (suc (length l)) (cond (ltb z x) 0 (suc (within zs l)))

-- the byte behind which k - 1 follow of the last string that leaves m strings of its width above itself (m < 65,536)
unfoldable pub top_byte : ℕ → ℕ → ℕ
top_byte k m = cond (ltb 2 k) 255 (cond (eqb k 2) (255 - m / 256) (255 - m % 256))

-- that string, of width k
unfoldable pub top : ℕ → ℕ → List ℕ
top zero m = []
top (suc k) m = top_byte (suc k) m ∷ top k m

-- how many bytes of e, at most w of them, can begin an entry of width w above `prev` with m entries to come
abbrev pub fitting : ℕ → List ℕ → ℕ → List ℕ → ℕ
fitting w prev m e = min (above prev e) (within (top w m) e)

-- k bytes are the longest start of l; `whole`: they are one that is an L; not `whole`: no start of l is one
pub record Start (L : List ℕ → Type 0) (l : List ℕ) (k : ℕ) (whole : Bool) : Type 0 where
  pub longest : Longest L l k
  pub passed : whole ≡ true → length longest.some ≡ k
  pub stopped : whole ≡ false → (other : List ℕ) → L other → shared l other < length other

-- a section read from `at` on, up to `end`; `whole`: it ends there; not `whole`: so far some section begins as these bytes do
pub record Walked (w : ℕ) (file : List ℕ) (at end : ℕ) (whole : Bool) : Type 0 where
  pub further : at ≤ end
  pub inside : end ≤ length file
  pub start : Start (Section w) (drop at file) (end - at) whole
