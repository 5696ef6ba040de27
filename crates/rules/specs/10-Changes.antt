-- The changing calls, 1 to 8 of 01 and those of 02: of each its refusals in order, and its effect.
use Rattle.std.specs.Prelude.{ℕ, List, [], ◌∷◌, ◌++◌, map, Bool, not, cond, ◌&&◌, ◌||◌, ltb, eqb, length, get_or, set}
use Rattle.rules.specs.01-Lists.{any, among, repeated, without, put, put_all}
use Rattle.rules.specs.03-Names.{Name, blank, names_in}
use Rattle.rules.specs.04-Schema.{with_sdss, with_types, with_presences, with_applications, with_ends, Schema, Kind, Modes, Presence, Side, End}
use Rattle.rules.specs.04-Schema.{new_presence, with_modes, type_presence}
use Rattle.rules.specs.04-Schema.{reverse, with_reverse, present, type_named, local_name, holds_type, applied, is_application, has_end, is_end}
use Rattle.rules.specs.04-Schema.{other_side}
use Rattle.rules.specs.05-Descent.{descends, members}
use Rattle.rules.specs.06-Good.{presence_before, application_before, end_before}
use Rattle.rules.specs.04-Schema.Kind.{unused, object, attribute, designation, paired}
use Rattle.rules.specs.04-Schema.Side.{origin, destination}
use Rattle.rules.specs.09-Refusals.{Outcome, Refusals, ◌when◌, ◌held_by◌, verdict, unknown_sds, system_sds, malformed, malformed_new, unknown_value_kind}
use Rattle.rules.specs.09-Refusals.{no_pair, not_1_to_4, unknown_mode, no_such_name, no_object, no_attribute, no_link, not_present, idle_reverse_name}
use Rattle.rules.specs.09-Refusals.{sds_name_taken, names_taken, borne_by_another, types_in, child_there, applied_there, end_there, in_the_way}
use Rattle.rules.specs.09-Refusals.{no_free_sds, presences_full, applications_full, ends_full, types_full, free_sdss, free_types}
use Rattle.rules.specs.09-Refusals.Outcome.{done}

-- ---- 2 "New SDS by name; remove SDS by number; it must hold no presence."

abbrev pub new_sds_refusals : Name → Schema → Refusals
new_sds_refusals n s =
    (4 when malformed n)
    ∷ (11 when sds_name_taken s n)
    ∷ (14 when no_free_sds s)
    ∷ []

-- "New SDS and type numbers are the lowest unused"
abbrev pub new_sds_number : Schema → ℕ
new_sds_number s = get_or (free_sdss s) 0 0

unfoldable pub new_sds : Name → Schema → Outcome Schema
new_sds n s = verdict (new_sds_refusals n s) (done (new_sds_number s) 0 0 (with_sdss s (set s.sdss (new_sds_number s) n)))

abbrev pub remove_sds_refusals : ℕ → Schema → Refusals
remove_sds_refusals d s =
    (2 when unknown_sds s d)
    ∷ (3 when system_sds d)
    ∷ (12 held_by types_in s d)
    ∷ []

unfoldable pub remove_sds : ℕ → Schema → Outcome Schema
remove_sds d s = verdict (remove_sds_refusals d s) (done 0 0 0 (with_sdss s (set s.sdss d [])))

-- ---- 3 new types

-- the lowest unused type numbers: the first and the second
abbrev pub new_type : Schema → ℕ
new_type s = get_or (free_types s) 0 0

abbrev pub second_new_type : Schema → ℕ
second_new_type s = get_or (free_types s) 1 0

-- type t is of kind k, and in SDS d under the name n
abbrev pub with_type : ℕ → Kind → ℕ → Name → Schema → Schema
with_type t k d n s =
    with_presences (with_types s (set s.types t k)) (put presence_before (new_presence d n t) s.presences)

-- "New object type: SDS, name, local names of its parents in that SDS"
abbrev pub parents_named : Schema → ℕ → List ℕ → List ℕ
parents_named s d run = map (type_named s d) (names_in run)

abbrev pub new_object_refusals : ℕ → Name → List ℕ → Schema → Refusals
new_object_refusals d n run s =
    (2 when unknown_sds s d)
    ∷ (3 when system_sds d)
    ∷ (4 when malformed n || any malformed (names_in run))
    ∷ (5 when not_1_to_4 (names_in run))
    ∷ (6 when any (no_such_name s d) (names_in run))
    ∷ (7 when any (no_object s) (parents_named s d run))
    ∷ (8 when repeated (parents_named s d run))
    ∷ (11 when names_taken s d (n ∷ []))
    ∷ (14 when types_full s 1)
    ∷ []

-- the parents are kept rising
unfoldable pub new_object : ℕ → Name → List ℕ → Schema → Outcome Schema
new_object d n run s =
    verdict (new_object_refusals d n run s)
    (done (new_type s) 0 0 (with_type (new_type s) (object (put_all ltb (parents_named s d run) [])) d n s))

-- "New attribute type: SDS, name, value kind."
abbrev pub new_attribute_refusals : ℕ → Name → ℕ → Schema → Refusals
new_attribute_refusals d n v s =
    (2 when unknown_sds s d)
    ∷ (3 when system_sds d)
    ∷ (4 when malformed n)
    ∷ (5 when unknown_value_kind v)
    ∷ (11 when names_taken s d (n ∷ []))
    ∷ (14 when types_full s 1)
    ∷ []

unfoldable pub new_attribute : ℕ → Name → ℕ → Schema → Outcome Schema
new_attribute d n v s = verdict (new_attribute_refusals d n v s) (done (new_type s) 0 0 (with_type (new_type s) (attribute v) d n s))

-- "New designation link type: SDS, name."
abbrev pub new_designation_refusals : ℕ → Name → Schema → Refusals
new_designation_refusals d n s =
    (2 when unknown_sds s d)
    ∷ (3 when system_sds d)
    ∷ (4 when malformed n)
    ∷ (11 when names_taken s d (n ∷ []))
    ∷ (14 when types_full s 1)
    ∷ []

unfoldable pub new_designation : ℕ → Name → Schema → Outcome Schema
new_designation d n s = verdict (new_designation_refusals d n s) (done (new_type s) 0 0 (with_type (new_type s) designation d n s))

-- "New pair: SDS, two names, two categories from 0 to 3; the forward type takes the lower number."
abbrev pub new_pair_refusals : ℕ → Name → Name → ℕ → ℕ → Schema → Refusals
new_pair_refusals d n m c c' s =
    (2 when unknown_sds s d)
    ∷ (3 when system_sds d)
    ∷ (4 when malformed n || malformed m)
    ∷ (5 when no_pair c c')
    ∷ (11 when names_taken s d (n ∷ m ∷ []))
    ∷ (14 when types_full s 2)
    ∷ []

abbrev pub with_pair : ℕ → ℕ → ℕ → Name → Name → ℕ → ℕ → Schema → Schema
with_pair t r d n m c c' s = with_type r (paired c' t) d m (with_type t (paired c r) d n s)

unfoldable pub new_pair : ℕ → Name → Name → ℕ → ℕ → Schema → Outcome Schema
new_pair d n m c c' s =
    verdict (new_pair_refusals d n m c c' s)
    (done (new_type s) (second_new_type s) 0 (with_pair (new_type s) (second_new_type s) d n m c c' s))

-- ---- 4 "Import: target, source, local name there, new name, new name for the reverse."

-- "A blank (length 0) new name means the name in the source."
abbrev pub filled : Schema → ℕ → ℕ → Name → Name
filled s source t new = cond (blank new) (local_name s source t) new

-- "A pair is imported together.": the presences that come into the target under a name, the named type's first
unfoldable pub imported : ℕ → ℕ → ℕ → Name → Name → Schema → List Presence
imported target source t new new_reverse s =
    new_presence target (filled s source t new) t ∷ map (λ r. new_presence target (filled s source r new_reverse) r) (reverse s t)

-- "An import shall add the missing ancestors too" (02, Q-8): those of type t that the target lacks, each once
unfoldable pub missing : ℕ → ℕ → Schema → List ℕ
missing target t s = members (λ a. descends s t a && not_present s target a)

-- "without a local name" (02, Q-8)
abbrev pub nameless : ℕ → ℕ → Presence
nameless d t = new_presence d [] t

-- all presences that come into the target
unfoldable pub incoming : ℕ → ℕ → ℕ → Name → Name → Schema → List Presence
incoming target source t new new_reverse s = imported target source t new new_reverse s ++ map (nameless target) (missing target t s)

abbrev pub import_refusals : ℕ → ℕ → Name → Name → Name → Schema → Refusals
import_refusals target source n new new_reverse s =
    let t = type_named s source n in
    (2 when unknown_sds s target || unknown_sds s source)
    ∷ (3 when system_sds target)
    ∷ (4 when malformed n || (malformed_new new || malformed_new new_reverse))
    ∷ (6 when no_such_name s source n)
    ∷ (7 when idle_reverse_name s t new_reverse)
    ∷ (9 when present s target t)
    ∷ (11 when names_taken s target (map (λ p. p.name) (imported target source t new new_reverse s)))
    ∷ (14 when presences_full s (length (incoming target source t new new_reverse s)))
    ∷ []

-- "Applications and ends don't come along."
unfoldable pub import : ℕ → ℕ → Name → Name → Name → Schema → Outcome Schema
import target source n new new_reverse s =
    let t = type_named s source n in
    verdict (import_refusals target source n new new_reverse s)
    (done t (get_or (reverse s t) 0 0) 0
    (with_presences s (put_all presence_before (incoming target source t new new_reverse s) s.presences)))

-- ---- 5 "Apply or unapply an attribute type to an object or link type, by local names."

abbrev pub application_refusals : ℕ → Name → Name → Schema → Refusals
application_refusals d a n s =
    (2 when unknown_sds s d)
    ∷ (3 when system_sds d)
    ∷ (4 when malformed a || malformed n)
    ∷ (6 when no_such_name s d a || no_such_name s d n)
    ∷ (7 when no_attribute s (type_named s d a) || (no_object s (type_named s d n) && no_link s (type_named s d n)))
    ∷ []

abbrev pub apply_refusals : ℕ → Name → Name → Schema → Refusals
apply_refusals d a n s =
    application_refusals d a n s
    ++ ((9 when applied s d (type_named s d n) (type_named s d a))
    ∷ (14 when applications_full s 1)
    ∷ [])

unfoldable pub apply : ℕ → Name → Name → Schema → Outcome Schema
apply d a n s =
    verdict (apply_refusals d a n s)
    (done 0 0 0
    (with_applications s
    (put application_before (record { sds = d; to = type_named s d n; attribute = type_named s d a }) s.applications)))

abbrev pub unapply_refusals : ℕ → Name → Name → Schema → Refusals
unapply_refusals d a n s =
    application_refusals d a n s
    ++ ((13 when not (applied s d (type_named s d n) (type_named s d a)))
    ∷ [])

unfoldable pub unapply : ℕ → Name → Name → Schema → Outcome Schema
unapply d a n s =
    verdict (unapply_refusals d a n s)
    (done 0 0 0 (with_applications s (without (is_application d (type_named s d n) (type_named s d a)) s.applications)))

-- ---- 6 "Apply link type and add destination, with their takings-away"

-- "applying makes the object type an origin, and a destination of the reverse; adding a destination is the converse"
unfoldable pub both_ends : ℕ → ℕ → Side → ℕ → Schema → List End
both_ends d l side o s =
    record { sds = d; link = l; side = side; object = o }
    ∷ map (λ r. record { sds = d; link = r; side = other_side side; object = o }) (reverse s l)

abbrev pub end_refusals : ℕ → Name → Name → Schema → Refusals
end_refusals d n m s =
    (2 when unknown_sds s d)
    ∷ (3 when system_sds d)
    ∷ (4 when malformed n || malformed m)
    ∷ (6 when no_such_name s d n || no_such_name s d m)
    ∷ (7 when no_link s (type_named s d n) || no_object s (type_named s d m))
    ∷ []

-- "A reversed link needs two ends, a designation type one."
abbrev pub add_end_refusals : Side → ℕ → Name → Name → Schema → Refusals
add_end_refusals side d n m s =
    end_refusals d n m s
    ++ ((9 when has_end s d (type_named s d n) side (type_named s d m))
    ∷ (14 when ends_full s (length (with_reverse s (type_named s d n))))
    ∷ [])

unfoldable pub add_end : Side → ℕ → Name → Name → Schema → Outcome Schema
add_end side d n m s =
    verdict (add_end_refusals side d n m s)
    (done 0 0 0 (with_ends s (put_all end_before (both_ends d (type_named s d n) side (type_named s d m) s) s.ends)))

abbrev pub remove_end_refusals : Side → ℕ → Name → Name → Schema → Refusals
remove_end_refusals side d n m s =
    end_refusals d n m s
    ++ ((13 when not (has_end s d (type_named s d n) side (type_named s d m)))
    ∷ [])

abbrev pub is_one_of : List End → End → Bool
is_one_of es x = any (λ e. is_end e.sds e.link e.side e.object x) es

unfoldable pub remove_end : Side → ℕ → Name → Name → Schema → Outcome Schema
remove_end side d n m s =
    verdict (remove_end_refusals side d n m s)
    (done 0 0 0 (with_ends s (without (is_one_of (both_ends d (type_named s d n) side (type_named s d m) s)) s.ends)))

abbrev pub apply_link : ℕ → Name → Name → Schema → Outcome Schema
apply_link = add_end origin

abbrev pub unapply_link : ℕ → Name → Name → Schema → Outcome Schema
unapply_link = remove_end origin

abbrev pub add_destination : ℕ → Name → Name → Schema → Outcome Schema
add_destination = add_end destination

abbrev pub remove_destination : ℕ → Name → Name → Schema → Outcome Schema
remove_destination = remove_end destination

-- ---- 7 "Remove type from an SDS"

-- "refused while it has a child present there, is applied or has anything applied to it there, or is or has an end there. A link type
-- goes with its reverse, and the test covers both."; "16 .., 17 .., 18 .., tested in that order where 12 stood" (02, Q-1)
abbrev pub obstacles : ℕ → ℕ → Schema → Refusals
obstacles d t s =
    (16 held_by in_the_way (child_there s d) (with_reverse s t))
    ∷ (17 held_by in_the_way (applied_there s d) (with_reverse s t))
    ∷ (18 held_by in_the_way (end_there s d) (with_reverse s t))
    ∷ []

abbrev pub remove_type_refusals : ℕ → Name → Schema → Refusals
remove_type_refusals d n s =
    (2 when unknown_sds s d)
    ∷ (3 when system_sds d)
    ∷ (4 when malformed n)
    ∷ (6 when no_such_name s d n)
    ∷ obstacles d (type_named s d n) s

-- "A type with no presence left is gone.": of the types ts those that are present nowhere
unfoldable pub less_gone : List ℕ → Schema → Schema
less_gone [] s = s
less_gone (t ∷ ts) s = less_gone ts (cond (any (λ p. eqb p.type t) s.presences) s (with_types s (set s.types t unused)))

-- type t and its reverse are taken from SDS d
abbrev pub less_type : ℕ → ℕ → Schema → Schema
less_type d t s =
    let ts = with_reverse s t in
    less_gone ts (with_presences s (without (λ p. eqb p.sds d && among ts p.type) s.presences))

unfoldable pub remove_type : ℕ → Name → Schema → Outcome Schema
remove_type d n s =
    let t = type_named s d n in
    verdict (remove_type_refusals d n s) (done t 0 0 (less_type d t s))

-- "Rename and remove also accept a type number" (02, Q-8)
abbrev pub remove_number_refusals : ℕ → ℕ → Schema → Refusals
remove_number_refusals d t s =
    (2 when unknown_sds s d)
    ∷ (3 when system_sds d)
    ∷ (6 when not_present s d t)
    ∷ obstacles d t s

unfoldable pub remove_number : ℕ → ℕ → Schema → Outcome Schema
remove_number d t s = verdict (remove_number_refusals d t s) (done t 0 0 (less_type d t s))

-- ---- 8 "Rename a presence. Its own present name is accepted and changes nothing." "A rename that alters only the spelling is still
-- done" (02, Q-5)

abbrev pub rename_refusals : ℕ → Name → Name → Schema → Refusals
rename_refusals d n new s =
    (2 when unknown_sds s d)
    ∷ (3 when system_sds d)
    ∷ (4 when malformed n || malformed new)
    ∷ (6 when no_such_name s d n)
    ∷ (11 when borne_by_another s d (type_named s d n) new)
    ∷ []

-- the presence of type t in SDS d under the new name; its modes are what they were
abbrev pub renamed : ℕ → Name → ℕ → Schema → Presence
renamed d new t s = with_modes (type_presence s d t).usage (type_presence s d t).definition (new_presence d new t)

-- type t has the new name in SDS d, and no other
abbrev pub with_name : ℕ → Name → ℕ → Schema → Schema
with_name d new t s = with_presences s (put presence_before (renamed d new t s) (without (holds_type d t) s.presences))

unfoldable pub rename : ℕ → Name → Name → Schema → Outcome Schema
rename d n new s = verdict (rename_refusals d n new s) (done 0 0 0 (with_name d new (type_named s d n) s))

-- "Rename and remove also accept a type number" (02, Q-8)
abbrev pub rename_number_refusals : ℕ → ℕ → Name → Schema → Refusals
rename_number_refusals d t new s =
    (2 when unknown_sds s d)
    ∷ (3 when system_sds d)
    ∷ (4 when malformed new)
    ∷ (6 when not_present s d t)
    ∷ (11 when borne_by_another s d t new)
    ∷ []

unfoldable pub rename_number : ℕ → ℕ → Name → Schema → Outcome Schema
rename_number d t new s = verdict (rename_number_refusals d t new s) (done 0 0 0 (with_name d new t s))

-- ---- "A call sets both sets." (02, Q-2)

abbrev pub set_modes_refusals : ℕ → Name → Modes → Modes → Schema → Refusals
set_modes_refusals d n usage definition s =
    (2 when unknown_sds s d)
    ∷ (3 when system_sds d)
    ∷ (4 when malformed n)
    ∷ (19 when unknown_mode usage || unknown_mode definition)
    ∷ (6 when no_such_name s d n)
    ∷ []

-- the presences, those of the types ts in SDS d with these modes
unfoldable pub modes_set : ℕ → List ℕ → Modes → Modes → List Presence → List Presence
modes_set d ts usage definition ps = map (λ p. cond (eqb p.sds d && among ts p.type) (with_modes usage definition p) p) ps

-- those of the reverse of a link type "are set .. in the same way" (000, 10.2.25)
unfoldable pub set_modes : ℕ → Name → Modes → Modes → Schema → Outcome Schema
set_modes d n usage definition s =
    verdict (set_modes_refusals d n usage definition s)
    (done 0 0 0 (with_presences s (modes_set d (with_reverse s (type_named s d n)) usage definition s.presences)))
