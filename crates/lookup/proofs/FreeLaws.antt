-- The lowest number that no type has is a new type's, and the next one a second new type's. Assumes nothing.
use Prim.Native.Nat.{ℕ, suc, ◌+◌, ◌-◌, ◌≤◌, ◌<◌}
use native.Mathlib.Numerals.{add-one}
use native.Mathlib.Omega.{arith}
use mathlib.Core.Path.{◌≡◌, sym, ap, ◌∙◌, subst}
use mathlib.Core.List.{List, [], ◌∷◌}
use mathlib.Core.Bool.{Bool, true, false, not}
use lib.Dec.{ltb}
use lib.ListN.{length, get_or}
use borrow.Author.Tests.{lt-ltb, le-ltb}
use Rattle.rules.specs.01-Lists.{numbers}
use Rattle.rules.specs.04-Schema.{Schema, kind_of, is_used}
use Rattle.rules.specs.05-Descent.{members}
use Rattle.rules.specs.09-Refusals.{free_types}
use Rattle.rules.specs.10-Changes.{new_type, second_new_type}
use Rattle.rules.proofs.01-Lists.{numbers_first, numbers_none}
use Rattle.lookup.specs.Found.{FreeType}

-- the numbers that no type has
abbrev free : Schema → ℕ → Bool
free s t = not (is_used (kind_of s t))

module _ {s : Schema} {from r : ℕ} (f : FreeType s from r) (m : ℕ) (whole : from + m ≡ 128) where
  free_first : r < 128 → numbers from m (free s) ≡ r ∷ numbers (suc r) (128 - suc r) (free s)
  free_first h =
      numbers_first (free s) from m r (f.free h).0 (omega arith) (λ k l u. ap not (f.used k l u)) (ap not (f.free h).1)
      ∙ ap (λ (n : ℕ). r ∷ numbers (suc r) (n - suc r) (free s)) whole

  free_none : 128 ≤ r → numbers from m (free s) ≡ []
  free_none h = numbers_none (free s) from m (λ k l u. ap not (f.used k l (omega arith)))

module _ {s : Schema} {r : ℕ} (f : FreeType s 0 r) where
  -- there is no number left
  pub none_free : 128 ≤ r → free_types s ≡ []
  unfolding free_types members
  none_free h = free_none f 128 (omega arith) h

  module _ (h : r < 128) where
    one_free : free_types s ≡ r ∷ numbers (suc r) (128 - suc r) (free s)
    unfolding free_types members
    one_free = free_first f 128 (omega arith) h

    pub new_type_is : r ≡ new_type s
    new_type_is = sym (ap (λ (l : List ℕ). get_or l 0 0) one_free)

    pub room_for_one : ltb (length (free_types s)) 1 ≡ false
    room_for_one = le-ltb (length (free_types s)) 1 (omega (arith, ap length one_free))

    -- q is the second number that is left
    module _ {q : ℕ} (g : FreeType s (r + 1) q) where
      behind : FreeType s (suc r) q
      behind = subst (λ (k : ℕ). FreeType s k q) (add-one r) g

      pub only_one_free : 128 ≤ q → free_types s ≡ r ∷ []
      only_one_free u = one_free ∙ ap (λ (l : List ℕ). r ∷ l) (free_none behind (128 - suc r) (omega arith) u)

      two_free : q < 128 → free_types s ≡ r ∷ q ∷ numbers (suc q) (128 - suc q) (free s)
      two_free u = one_free ∙ ap (λ (l : List ℕ). r ∷ l) (free_first behind (128 - suc r) (omega arith) u)

      pub second_type_is : q < 128 → q ≡ second_new_type s
      second_type_is u = sym (ap (λ (l : List ℕ). get_or l 1 0) (two_free u))

      pub room_for_two : q < 128 → ltb (length (free_types s)) 2 ≡ false
      room_for_two u = le-ltb (length (free_types s)) 2 (omega (arith, ap length (two_free u)))

      pub no_room_for_two : 128 ≤ q → ltb (length (free_types s)) 2 ≡ true
      no_room_for_two u = ap (λ (l : List ℕ). ltb (length l) 2) (only_one_free u)

  pub no_room_for : (more : ℕ) → 0 < more → 128 ≤ r → ltb (length (free_types s)) more ≡ true
  no_room_for more p h = lt-ltb (length (free_types s)) more (omega (arith, ap length (none_free h)))
