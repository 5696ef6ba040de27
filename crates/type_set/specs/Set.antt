-- "128 marks in two 64-bit words, type n at bit n mod 64 of word n div 64".
use Rattle.std.specs.Prelude.{ℕ, ◌/◌, ◌%◌, ◌^◌, ◌≤◌, ◌<◌, ◌≡◌, List, [], ◌∷◌, Bool, true, false, eqb, get_or}
use Rattle.type_set.specs.declared.TypeSet.{TypeSet}

-- bit n of a word
unfoldable pub bit : ℕ → ℕ → Bool
bit w n = eqb (w / 2 ^ n % 2) 1

-- the two words of a set, in their order
unfoldable pub words : TypeSet → List ℕ
words s = s.low ∷ s.high ∷ []

-- the mark of type n: bit n mod 64 of word n div 64
unfoldable pub has : TypeSet → ℕ → Bool
has s n = bit (get_or (words s) (n / 64) 0) (n % 64)

-- n is the lowest type that passes, or 128 where none does
pub record Lowest (p : ℕ → Bool) (n : ℕ) : Type 0 where
  pub most : n ≤ 128
  pub passes : n < 128 → p n ≡ true
  pub first : (k : ℕ) → k < n → p k ≡ false

-- n is the lowest type that passes
pub record IsLowest (p : ℕ → Bool) (n : ℕ) : Type 0 where
  pub below : n < 128
  pub passes : p n ≡ true
  pub first : (k : ℕ) → k < n → p k ≡ false
