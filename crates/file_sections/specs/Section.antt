-- What the count of a section is, whatever bytes the file has.
use Rattle.std.specs.Prelude.{ℕ, ◌+◌, ◌*◌, ◌≤◌, ◌<◌, ◌≡◌, Option, Some, IfSome, List, ◌++◌, length, drop}
use Rattle.rules.specs.01-Lists.{◌∈◌, joined}
use Rattle.rules.specs.11-File.{section}

-- if a section of entries of width w starts at `at`, r is how many it has; a number so told fits two bytes, and so many are there
pub record SectionAt (file : List ℕ) (at w : ℕ) (r : Option ℕ) : Type 0 where
  pub fits : IfSome r (λ n. (n < 65536) × (at + 2 + n * w ≤ length file))
  pub is : (es : List (List ℕ)) (rest : List ℕ) → length es < 65536 → ((e : List ℕ) → e ∈ es → length e ≡ w) → drop at file ≡ section es ++ rest
      → r ≡ Some (length es)

-- if a section of at most `most` entries of width w starts at `at`, r is these one behind another; what is so told is there, and so short
pub record EntriesAt (file : List ℕ) (at w most : ℕ) (r : Option (List ℕ)) : Type 0 where
  pub fits : IfSome r (λ bytes. (at + 2 + length bytes ≤ length file) × (length bytes ≤ most * w))
  pub is : (es : List (List ℕ)) (rest : List ℕ) → length es ≤ most → ((e : List ℕ) → e ∈ es → length e ≡ w) → drop at file ≡ section es ++ rest
      → r ≡ Some (joined es)
