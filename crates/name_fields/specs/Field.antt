-- A name in a field: its bytes, and zeros behind them.
use Rattle.std.specs.Prelude.{◌≡◌, ℕ, ◌+◌, ◌≤◌, Bool, true, cond, not, ◌&&◌, ◌||◌, List, [], ◌∷◌, length, take, drop, replicate, ◌==◌, slice_index}
use Rattle.rules.specs.01-Lists.{same_bytes}
use Rattle.rules.specs.02-Limits.{limits}
use Rattle.rules.specs.03-Names.{letter, letter_or_digit, well_formed}
use Rattle.rules.specs.07-Picture.{pad}
use Rattle.rules.specs.Read.{strip}

-- the field holds a well-formed name
unfoldable pub name_field : List ℕ → Bool
name_field f = well_formed (strip f) && same_bytes (pad limits.name (strip f)) f

-- the field holds nothing
unfoldable pub blank_field : List ℕ → Bool
blank_field f = same_bytes (replicate (length f) 0) f

-- byte c may stand behind byte `last`, which is 32 before the first: a letter first, and behind a zero only zeros
unfoldable pub may_follow : ℕ → ℕ → Bool
may_follow last c =
    (letter_or_digit c && (not (last == 0) && (not (last == 32) || letter c))) || (c == 0 && not (last == 32))

-- each byte of the field may stand behind the one before it, the first behind `before`
unfoldable pub following : ℕ → List ℕ → Bool
following before [] = true
following before (c ∷ l) = may_follow before c && following c l

-- a byte that a field can hold
abbrev pub field_byte : ℕ → Bool
field_byte c = letter_or_digit c || c == 0

-- letters, digits and underscores, and zeros behind them
unfoldable pub orderly : List ℕ → Bool
orderly [] = true
orderly (c ∷ l) = cond (letter_or_digit c) (orderly l) (blank_field (c ∷ l))

-- and behind `last`, if that is zero, no other than zero
abbrev pub may_stand : ℕ → ℕ → Bool
may_stand last c = field_byte c && (not (last == 0) || c == 0)

-- the bytes behind `last` are such that a field can hold, and behind a zero only zeros
unfoldable pub standing : ℕ → List ℕ → Bool
standing last [] = true
standing last (c ∷ l) = may_stand last c && standing c l

-- the faults that were, and those of the 16 bytes behind the one at `at`: none is left exactly where none was and these stand
pub record Gathered (b : List ℕ) (at : ℕ) (were faults : List ℕ) : Type 0 where
  pub room : length faults ≡ 16
  pub blank : blank_field faults ≡ (blank_field were && standing (slice_index b at) (take 16 (drop (at + 1) b)))

-- r bytes of the field are its name
pub record Stripped (field : List ℕ) (r : ℕ) : Type 0 where
  pub fits : r ≤ length field
  pub name : take r field ≡ strip field
  pub long : r ≡ length (strip field)
