-- What a function that makes several tests of a call tells of them.
use Rattle.std.specs.Prelude.{ℕ, ◌≡◌, List, [], ◌∷◌, cond, eqb, Result, Ok, Err}
use Rattle.rules.specs.07-Picture.{Sound}
use Rattle.rules.specs.declared.Refused.{Refused}
use Rattle.rules.specs.09-Refusals.{Refusals, number_of, value_of}

-- the number of the first condition that holds, 0 where none does
unfoldable pub told : Refusals → ℕ
told [] = 0
told (r ∷ rs) = cond r.holds r.no (told rs)

-- what it tells, 0 where none does
unfoldable pub told_value : Refusals → ℕ
told_value [] = 0
told_value (r ∷ rs) = cond r.holds r.value (told_value rs)

-- no and value are those of the first condition that holds, zeros where none does; 1 comes before them all
pub data Tested (b : List ℕ) (rs : Refusals) (no value : ℕ) : Type 0 where
  spoiled : (Sound b → ⊥) → no ≡ 1 → value ≡ 0 → Tested b rs no value
  tested : Sound b → no ≡ told rs → value ≡ told_value rs → Tested b rs no value

-- of what a function returns that makes such tests: the number of the refusal, and what it tells, zeros where it is none
abbrev pub number_in : {A : Type 0} → Result A Refused → ℕ
number_in (Ok x) = 0
number_in (Err e) = number_of e

abbrev pub value_in : {A : Type 0} → Result A Refused → ℕ
value_in (Ok x) = 0
value_in (Err e) = value_of e

-- it returns the refusal of the first condition that holds, and none where none does
abbrev pub Tests : {A : Type 0} → List ℕ → Refusals → Result A Refused → Type 0
Tests b rs r = Tested b rs (number_in r) (value_in r)

-- the conditions that come before that of number n, and those from it on
abbrev pub until : ℕ → Refusals → Refusals
until n [] = []
until n (r ∷ rs) = cond (eqb r.no n) [] (r ∷ until n rs)

abbrev pub onward : ℕ → Refusals → Refusals
onward n [] = []
onward n (r ∷ rs) = cond (eqb r.no n) (r ∷ rs) (onward n rs)
