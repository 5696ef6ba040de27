-- "Names are 1 to 16 bytes: ASCII letters, digits and underscore, beginning with a letter". When two are the same 02 says (Q-5).
use Rattle.std.specs.Prelude.{ℕ, ◌+◌, List, [], ◌∷◌, map, Bool, cond, ◌&&◌, ◌||◌, leb, eqb, length, get_or}
use Rattle.rules.specs.01-Lists.{same_bytes, bytes_before, all}
use Rattle.rules.specs.02-Limits.{limits}

-- a name, well formed or not, is the list of its bytes
abbrev pub Name : Type 0
Name = List ℕ

unfoldable pub letter : ℕ → Bool
letter c = (leb 65 c && leb c 90) || (leb 97 c && leb c 122)

-- a letter, a digit or an underscore
unfoldable pub letter_or_digit : ℕ → Bool
letter_or_digit c = letter c || ((leb 48 c && leb c 57) || eqb c 95)

unfoldable pub well_formed : Name → Bool
well_formed n = leb 1 (length n) && (leb (length n) limits.name && (letter (get_or n 0 0) && all letter_or_digit n))

-- "blank (length 0)"
abbrev pub blank : Name → Bool
blank n = eqb (length n) 0

-- A to Z become a to z, and every other byte stays
unfoldable pub lower : ℕ → ℕ
lower c = cond (leb 65 c && leb c 90) (c + 32) c

-- "after ASCII letters are brought to lower case" (02, Q-5)
unfoldable pub lowered : Name → Name
lowered n = map lower n

-- "Names are equal when they are equal after ASCII letters are brought to lower case" (02, Q-5); no other definition says when two names
-- are one
unfoldable pub same_name : Name → Name → Bool
same_name n m = same_bytes (lowered n) (lowered m)

-- the order that rows are kept in, a strict total order: by the lowered names, and as they are spelled where these agree; no other
-- definition says which of two names is first
unfoldable pub name_before : Name → Name → Bool
name_before n m = bytes_before (lowered n) (lowered m) || (same_name n m && bytes_before n m)

-- c put in front of the first name
abbrev onto : ℕ → List Name → List Name
onto c [] = (c ∷ []) ∷ []
onto c (n ∷ ns) = (c ∷ n) ∷ ns

-- what stands between spaces: one name more than there are spaces, so that a leading, a trailing and a double space make a blank one
unfoldable pub parted : List ℕ → List Name
parted [] = [] ∷ []
parted (c ∷ cs) = cond (eqb c 32) ([] ∷ parted cs) (onto c (parted cs))

-- "one run of bytes, names parted by one space; an empty run is no parents"
unfoldable pub names_in : List ℕ → List Name
names_in [] = []
names_in (c ∷ cs) = parted (c ∷ cs)
