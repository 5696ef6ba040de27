-- "A refusal is given exactly when its condition holds and no lower number's does." Each condition of 01's table, as 02 amends it, is
-- defined here, once, under its number; 10-Changes and 11-Asks put them in order. Number 1 is said in 12-Contracts, for all calls.
use Rattle.std.specs.Prelude.{ℕ, ◌+◌, List, [], ◌∷◌, Bool, false, not, cond, ◌&&◌, ◌||◌, leb, ltb, eqb, length, get_or, Result, Ok, Err}
use Rattle.rules.specs.declared.Answer.{Answer}
use Rattle.rules.specs.declared.Done.{Done}
use Rattle.rules.specs.declared.Refused.{Refused}
use Rattle.rules.specs.declared.Refused.TheVariants.{NotSound, UnknownSds, SystemSds, Malformed, UnknownCode, NoSuchType, WrongKind, Repeated}
use Rattle.rules.specs.declared.Refused.TheVariants.{AlreadyThere, NameTaken, SdsInUse, NotThere, NoRoom, ShortOutput, ChildPresent}
use Rattle.rules.specs.declared.Refused.TheVariants.{ApplicationPresent, EndPresent, UnknownMode, MalformedFile, UnsoundFile}
use Rattle.rules.specs.01-Lists.{any, numbers}
use Rattle.rules.specs.02-Limits.{limits}
use Rattle.rules.specs.03-Names.{Name, well_formed, blank, same_name}
use Rattle.rules.specs.04-Schema.{Schema, Modes, all_modes, used_sds, kind_of, is_used, is_object, is_attribute, is_link, is_parent, reverse}
use Rattle.rules.specs.04-Schema.{present, bears, type_named, applied, has_end}
use Rattle.rules.specs.04-Schema.Side.{origin, destination}
use Rattle.rules.specs.05-Descent.{members}
use Rattle.rules.specs.08-Working.{visible}

-- what a call comes to: refused by a number, with a value that it tells; or done, with its values and what it makes: of a changing
-- call the next schema, of an asking call the list that it puts down
pub data Outcome (Made : Type 0) : Type 0 where
  refused : ℕ → ℕ → Outcome Made
  done : ℕ → ℕ → ℕ → Made → Outcome Made

-- a row of 01's table, as it stands in a call: the number, whether its condition holds, and what it tells
pub record Refusal : Type 0 where
  pub no : ℕ
  pub holds : Bool
  pub value : ℕ

infix 5 ◌when◌
-- "It returns its number and zeros"
abbrev pub ◌when◌ : ℕ → Bool → Refusal
n when condition = record { no = n; holds = condition; value = 0 }

infix 5 ◌held_by◌
-- "give the number of the lowest-numbered type that stands in the way" (02, Q-1): ts are the types that do, rising
abbrev pub ◌held_by◌ : ℕ → List ℕ → Refusal
n held_by ts = record { no = n; holds = ltb 0 (length ts); value = get_or ts 0 0 }

abbrev pub Refusals : Type 0
Refusals = List Refusal

-- the first condition that holds refuses by its number; where none does, the effect
unfoldable pub verdict : {Made : Type 0} → Refusals → Outcome Made → Outcome Made
verdict [] effect = effect
verdict (r ∷ rs) effect = cond r.holds (refused r.no r.value) (verdict rs effect)

-- the answer of a refusal: its number, what it tells, and zeros
abbrev pub telling : ℕ → ℕ → Answer
telling n value = record { no = n; one = value; two = 0; three = 0 }

-- "It returns its number and zeros"
abbrev pub refusal : ℕ → Answer
refusal n = telling n 0

-- "0 is done"
abbrev pub success : ℕ → ℕ → ℕ → Answer
success one two three = record { no = 0; one = one; two = two; three = three }

abbrev pub answer_of : {Made : Type 0} → Outcome Made → Answer
answer_of (refused n value) = telling n value
answer_of (done one two three made) = success one two three

-- ---- what a call of the source returns, as such an answer

-- 01's number of a refusal
abbrev pub number_of : Refused → ℕ
number_of NotSound = 1
number_of UnknownSds = 2
number_of SystemSds = 3
number_of Malformed = 4
number_of UnknownCode = 5
number_of NoSuchType = 6
number_of WrongKind = 7
number_of Repeated = 8
number_of AlreadyThere = 9
number_of NameTaken = 11
number_of (SdsInUse t) = 12
number_of NotThere = 13
number_of NoRoom = 14
number_of ShortOutput = 15
number_of (ChildPresent t) = 16
number_of (ApplicationPresent t) = 17
number_of (EndPresent t) = 18
number_of UnknownMode = 19
number_of (MalformedFile start) = 20
number_of UnsoundFile = 21

-- what it tells
abbrev pub value_of : Refused → ℕ
value_of (SdsInUse t) = t
value_of (ChildPresent t) = t
value_of (ApplicationPresent t) = t
value_of (EndPresent t) = t
value_of (MalformedFile start) = start
value_of NotSound = 0
value_of UnknownSds = 0
value_of SystemSds = 0
value_of Malformed = 0
value_of UnknownCode = 0
value_of NoSuchType = 0
value_of WrongKind = 0
value_of Repeated = 0
value_of AlreadyThere = 0
value_of NameTaken = 0
value_of NotThere = 0
value_of NoRoom = 0
value_of ShortOutput = 0
value_of UnknownMode = 0
value_of UnsoundFile = 0

abbrev pub answered : Result Done Refused → Answer
answered (Ok values) = success values.0 values.1 values.2
answered (Err r) = telling (number_of r) (value_of r)

-- ---- 2 "an SDS number over 15 or unused"

unfoldable pub unknown_sds : Schema → ℕ → Bool
unknown_sds s d = leb limits.sdss d || not (used_sds s d)

-- ---- 3 "a changing call is aimed at SDS 0"

unfoldable pub system_sds : ℕ → Bool
system_sds d = eqb d 0

-- ---- 4 "a name is malformed, or blank outside import's new names"

unfoldable pub malformed : Name → Bool
malformed n = not (well_formed n)

unfoldable pub malformed_new : Name → Bool
malformed_new n = not (blank n) && malformed n

-- ---- 5 "unknown kind, category or scan code; category 4 in a pair; both implicit; parents not 1 to 4"

unfoldable pub unknown_value_kind : ℕ → Bool
unknown_value_kind v = ltb 5 v

unfoldable pub no_pair : ℕ → ℕ → Bool
no_pair c c' = ltb 3 c || (ltb 3 c' || (eqb c 3 && eqb c' 3))

unfoldable pub unknown_object_scan : ℕ → Bool
unknown_object_scan code = ltb 9 code

unfoldable pub unknown_link_scan : ℕ → Bool
unknown_link_scan code = ltb 4 code

unfoldable pub not_1_to_4 : List Name → Bool
not_1_to_4 ns = ltb (length ns) 1 || ltb 4 (length ns)

-- ---- 19 "an unknown mode, tested directly after 5" (02, Q-2)

-- a sum over that of all five has another
unfoldable pub unknown_mode : Modes → Bool
unknown_mode modes = ltb all_modes modes

-- ---- 6 "no such local name there, or type number unused, not visible or not present there" (what is unused is present nowhere)

unfoldable pub no_such_name : Schema → ℕ → Name → Bool
no_such_name s d n = not (bears s d n)

unfoldable pub no_name_listed : Schema → List ℕ → Name → Bool
no_name_listed s w n = not (any (λ d. bears s d n) w)

unfoldable pub not_visible : Schema → List ℕ → ℕ → Bool
not_visible s w t = not (visible s w t)

unfoldable pub not_present : Schema → ℕ → ℕ → Bool
not_present s d t = not (present s d t)

-- ---- 7 "wrong kind of type, or a reverse name given in an import of a type that has none"

unfoldable pub no_object : Schema → ℕ → Bool
no_object s t = not (is_object (kind_of s t))

unfoldable pub no_attribute : Schema → ℕ → Bool
no_attribute s t = not (is_attribute (kind_of s t))

unfoldable pub no_link : Schema → ℕ → Bool
no_link s t = not (is_link (kind_of s t))

unfoldable pub idle_reverse_name : Schema → ℕ → Name → Bool
idle_reverse_name s t n = not (blank n) && eqb (length (reverse s t)) 0

-- ---- 8 "the same parent twice, or the same SDS twice in a list" is `repeated` of 01-Lists
-- ---- 9 "already present, applied or that end" is `present`, `applied` or `has_end` of 04-Schema, and 13 "no such application or
-- end to take away" its contrary

-- ---- 10 "no longer occurs" (02, Q-8)

-- ---- 11 "a new name (blanks filled in) borne by another, or the two of a call equal"

unfoldable pub sds_name_taken : Schema → Name → Bool
sds_name_taken s n = any (λ m. not (blank m) && same_name m n) s.sdss

abbrev two_equal : List Name → Bool
two_equal [] = false
two_equal (n ∷ ns) = any (same_name n) ns || two_equal ns

unfoldable pub names_taken : Schema → ℕ → List Name → Bool
names_taken s d ns = any (bears s d) ns || two_equal ns

-- for a rename of type t
unfoldable pub borne_by_another : Schema → ℕ → ℕ → Name → Bool
borne_by_another s d t n = bears s d n && not (eqb (type_named s d n) t)

-- ---- 12 "stays for an SDS that still has presences, and there the type told is its lowest" (02, Q-1)

unfoldable pub types_in : Schema → ℕ → List ℕ
types_in s d = members (present s d)

-- ---- 16 "a child present", 17 "an application", 18 "an end" (02, Q-1): the ways in which type x holds type t in SDS d

-- 16 "while it has a child present there"
unfoldable pub child_there : Schema → ℕ → ℕ → ℕ → Bool
child_there s d t x = present s d x && is_parent s x t

-- 17 "is applied or has anything applied to it there"
unfoldable pub applied_there : Schema → ℕ → ℕ → ℕ → Bool
applied_there s d t x = applied s d x t || applied s d t x

-- object type o is an end of link type l in SDS d, on either side
unfoldable pub end_of : Schema → ℕ → ℕ → ℕ → Bool
end_of s d l o = has_end s d l origin o || has_end s d l destination o

-- 18 "or is or has an end there"
unfoldable pub end_there : Schema → ℕ → ℕ → ℕ → Bool
end_there s d t x = end_of s d x t || end_of s d t x

-- "and the test covers both": the types that hold one of ts in that way
unfoldable pub in_the_way : (ℕ → ℕ → Bool) → List ℕ → List ℕ
in_the_way holds ts = members (λ x. any (λ t. holds t x) ts)

-- ---- 14 "no room in the base"

-- the unused numbers, the lowest first
unfoldable pub free_sdss : Schema → List ℕ
free_sdss s = numbers 0 limits.sdss (λ d. not (used_sds s d))

unfoldable pub free_types : Schema → List ℕ
free_types s = members (λ t. not (is_used (kind_of s t)))

unfoldable pub no_free_sds : Schema → Bool
no_free_sds s = ltb (length (free_sdss s)) 1

-- for so many presences, applications, ends more
unfoldable pub presences_full : Schema → ℕ → Bool
presences_full s more = ltb limits.presences (length s.presences + more)

unfoldable pub applications_full : Schema → ℕ → Bool
applications_full s more = ltb limits.applications (length s.applications + more)

unfoldable pub ends_full : Schema → ℕ → Bool
ends_full s more = ltb limits.ends (length s.ends + more)

-- for so many new types, each with a presence
unfoldable pub types_full : Schema → ℕ → Bool
types_full s more = ltb (length (free_types s)) more || presences_full s more

-- ---- 15 "output shorter than the count"; "room is counted in whole entries"

unfoldable pub short_output : ℕ → ℕ → Bool
short_output room count = ltb room count
