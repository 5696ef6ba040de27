-- The rules of document 01, as document 02 amends them, as definitions. Read the files in the order of their numbers, with both beside
-- them (docs/changes has the requests of 02 that are in):
--
--   01 Lists      words on lists and bytes that the others use
--   02 Limits     the room of a base
--   03 Names      what a name is, when two are the same, in which order they stand
--   04 Schema     the things in a base
--   05 Descent    ancestors, descendants, depth
--   06 Good       what a sound base keeps, a field for each sentence
--   07 Picture    a schema in bytes, and when a base is sound
--   08 Working    what a working schema shows
--   09 Refusals   the numbers, each with its condition, and what an outcome is
--   10 Changes    calls 1 to 8, and setting modes
--   11 Asks       calls 9 to 13, and asking for modes
--   11 File       the exchange file, and writing it
--   12 Contracts  what each function of the keeper promises
--   13 History    any sequence of calls, and demand 3
--   14 Run        the run program
--   15 Cases      the marked cases
--
-- A comment in quotation marks is 01's own sentence; one of 02's has its request behind it. Nothing here is proved; the laws stand in
-- proofs/, in files named alike. The files without a number, Read and Parts, are the code's and the proofs': no numbered file uses them.
--
-- How to read a definition, for a reader of Ada or C:
--
--   f : A → B → C       f is a function of an A and a B that gives a C; `f a b` is its call. The lines below it, tried from the top,
--                       are its body: `f [] = ..` where the list is empty, `f (x ∷ xs) = ..` where x is its head and xs the rest
--   ℕ  Bool  List A     numbers from 0 on; false and true; lists. `[]` is the empty list, `x ∷ xs` x in front of xs, `xs ++ ys` one
--                       behind the other, `suc n` is n + 1, and `limits.types` a field of a record
--   a / b  a % b  a ^ b    the quotient of numbers, rounded down, the remainder, and the power
--   λ k. ..             a function without a name, of k
--   cond c a b          a where c is true, else b. `eqb`, `ltb`, `leb` test x = y, x < y, x ≤ y; `&&`, `||`, `not` are as everywhere
--   get_or xs i d       the element at place i, from 0 on; d where there is none. `set xs i a` is xs with a there, `map f xs` f of each
--   a ≡ b   A × B   ⊥   the statements that a is b, that A and B both hold, and the one that nothing proves: `A → ⊥` says that A fails.
--                       `p.0` and `p.1` are the halves of a pair. `(n : ℕ) → ..` says it for every n, `(n : ℕ) × ..` for some n
--   x ∈ xs              x stands in the list
--   record, data        a record of named fields; a choice between the shapes that are listed
--   abbrev, unfoldable, pub    how the checker treats a name; they say nothing about its meaning. A name in braces, `{A : Type 0}`,
--                       is found by the checker and not written at a call. `◌` in a name is where an argument goes: `◌∈◌` is x ∈ xs
use Rattle.std.specs.Prelude.{ℕ, zero, suc, max, Bool, true, false, cond, ◌&&◌, ◌||◌, ltb, eqb}
use Prim.Native.Char.{code}
use Prim.Native.String as Text
use Prim.Native.String.{String}
use mathlib.Core.List.{List, [], ◌∷◌, ◌++◌, Memᴰ}

-- the bytes of a text that is written out
abbrev pub bytes : String → List ℕ
bytes Text.[] = []
bytes (Text.◌∷◌ c text) = code c ∷ bytes text

-- two runs of bytes are the same, byte for byte
unfoldable pub same_bytes : List ℕ → List ℕ → Bool
same_bytes [] [] = true
same_bytes [] (y ∷ ys) = false
same_bytes (x ∷ xs) [] = false
same_bytes (x ∷ xs) (y ∷ ys) = eqb x y && same_bytes xs ys

-- the first byte in which two runs differ decides; a run stands before a longer one that it begins
unfoldable pub bytes_before : List ℕ → List ℕ → Bool
bytes_before [] [] = false
bytes_before [] (y ∷ ys) = true
bytes_before (x ∷ xs) [] = false
bytes_before (x ∷ xs) (y ∷ ys) = ltb x y || (eqb x y && bytes_before xs ys)

infix 45 ◌∈◌
-- x stands in the list
abbrev pub ◌∈◌ : {A : Type 0} → A → List A → Type 0
x ∈ xs = Memᴰ x xs

module _ {A : Type 0} where
  -- some element passes
  unfoldable pub any : (A → Bool) → List A → Bool
  any p [] = false
  any p (x ∷ xs) = p x || any p xs

  -- every element passes
  unfoldable pub all : (A → Bool) → List A → Bool
  all p [] = true
  all p (x ∷ xs) = p x && all p xs

  -- the first element that passes; d where none does
  unfoldable pub first : (A → Bool) → A → List A → A
  first p d [] = d
  first p d (x ∷ xs) = cond (p x) x (first p d xs)

  -- the list less the elements that pass
  unfoldable pub without : (A → Bool) → List A → List A
  without p [] = []
  without p (x ∷ xs) = cond (p x) (without p xs) (x ∷ without p xs)

  -- each element is before the next
  unfoldable pub rising : (A → A → Bool) → List A → Bool
  rising before [] = true
  rising before (x ∷ []) = true
  rising before (x ∷ y ∷ xs) = before x y && rising before (y ∷ xs)

  -- a put in at its place in a rising list
  unfoldable pub put : (A → A → Bool) → A → List A → List A
  put before a [] = a ∷ []
  put before a (x ∷ xs) = cond (before x a) (x ∷ put before a xs) (a ∷ x ∷ xs)

-- each put in at its place
unfoldable pub put_all : {A : Type 0} → (A → A → Bool) → List A → List A → List A
put_all before [] rs = rs
put_all before (a ∷ more) rs = put_all before more (put before a rs)

-- the lists one behind another
unfoldable pub joined : {A : Type 0} → List (List A) → List A
joined [] = []
joined (l ∷ ls) = l ++ joined ls

-- how many elements stand before the first that passes
unfoldable pub place : {A : Type 0} → (A → Bool) → List A → ℕ
place p [] = 0
place p (x ∷ xs) = cond (p x) 0 (suc (place p xs))

-- the greatest of what f makes of the numbers, 0 where there are none
unfoldable pub greatest : (ℕ → ℕ) → List ℕ → ℕ
greatest f [] = 0
greatest f (p ∷ ps) = max (f p) (greatest f ps)

-- n is one of the numbers
abbrev pub among : List ℕ → ℕ → Bool
among ns n = any (eqb n) ns

-- a number stands in the list twice
unfoldable pub repeated : List ℕ → Bool
repeated [] = false
repeated (n ∷ ns) = among ns n || repeated ns

-- of the `many` numbers from `start` on those that pass, rising
unfoldable pub numbers : ℕ → ℕ → (ℕ → Bool) → List ℕ
numbers start zero p = []
numbers start (suc many) p = cond (p start) (start ∷ numbers (suc start) many p) (numbers (suc start) many p)
