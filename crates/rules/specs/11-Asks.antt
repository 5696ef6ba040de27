-- The asking calls, 9 to 13 of 01 and that for modes of 02: of each its refusals in order, its values, and the list that it puts down,
-- [] where it puts down none. `w` is the working schema, as the caller lists it; `room` is the whole entries that the output has.
use Rattle.std.specs.Prelude.{ℕ, zero, suc, ◌+◌, ◌*◌, List, [], ◌∷◌, ◌++◌, Bool, true, false, ◌&&◌, eqb, length, get_or}
use Rattle.rules.specs.01-Lists.{any, first, place, among, repeated}
use Rattle.rules.specs.03-Names.{Name}
use Rattle.rules.specs.04-Schema.{Schema, Presence, Modes, has_mode, bears, holds_type, type_named, local_name}
use Rattle.rules.specs.05-Descent.{descends, depth, members}
use Rattle.rules.specs.07-Picture.{name_start}
use Rattle.rules.specs.08-Working.{visible, shown, object_scans, link_scans, ancestor, attribute_all, link_origin_all}
use Rattle.rules.specs.09-Refusals.{Outcome, Refusals, ◌when◌, verdict, unknown_sds, malformed, unknown_object_scan, unknown_link_scan}
use Rattle.rules.specs.09-Refusals.{no_name_listed, not_visible, not_present, no_object, no_link, short_output}
use Rattle.rules.specs.09-Refusals.Outcome.{done}

-- ---- 9 and 10, scans

-- "codes 0 to 9"
unfoldable pub object_scan_list : List ℕ → ℕ → ℕ → Schema → List ℕ
object_scan_list w t code s = shown s w (get_or (object_scans s w t) code (λ k. false))

abbrev pub scan_object_refusals : List ℕ → ℕ → ℕ → ℕ → Schema → Refusals
scan_object_refusals w t code room s =
    (2 when any (unknown_sds s) w)
    ∷ (5 when unknown_object_scan code)
    ∷ (6 when not_visible s w t)
    ∷ (7 when no_object s t)
    ∷ (8 when repeated w)
    ∷ (15 when short_output room (length (object_scan_list w t code s)))
    ∷ []

-- "A scan gives its count"
unfoldable pub scan_object : List ℕ → ℕ → ℕ → ℕ → Schema → Outcome (List ℕ)
scan_object w t code room s =
    verdict (scan_object_refusals w t code room s) (done (length (object_scan_list w t code s)) 0 0 (object_scan_list w t code s))

-- "codes 0 to 4"
unfoldable pub link_scan_list : List ℕ → ℕ → ℕ → Schema → List ℕ
link_scan_list w t code s = shown s w (get_or (link_scans s w t) code (λ k. false))

abbrev pub scan_link_refusals : List ℕ → ℕ → ℕ → ℕ → Schema → Refusals
scan_link_refusals w t code room s =
    (2 when any (unknown_sds s) w)
    ∷ (5 when unknown_link_scan code)
    ∷ (6 when not_visible s w t)
    ∷ (7 when no_link s t)
    ∷ (8 when repeated w)
    ∷ (15 when short_output room (length (link_scan_list w t code s)))
    ∷ []

unfoldable pub scan_link : List ℕ → ℕ → ℕ → ℕ → Schema → Outcome (List ℕ)
scan_link w t code room s =
    verdict (scan_link_refusals w t code room s) (done (length (link_scan_list w t code s)) 0 0 (link_scan_list w t code s))

-- ---- 11 "Profile of an object type: ancestors, then attribute-all, then link-origin-all, each list put down straight after the last"

abbrev pub profile_ancestors : List ℕ → ℕ → Schema → List ℕ
profile_ancestors w t s = object_scan_list w t ancestor s

abbrev pub profile_attributes : List ℕ → ℕ → Schema → List ℕ
profile_attributes w t s = object_scan_list w t attribute_all s

abbrev pub profile_links : List ℕ → ℕ → Schema → List ℕ
profile_links w t s = object_scan_list w t link_origin_all s

unfoldable pub profile_list : List ℕ → ℕ → Schema → List ℕ
profile_list w t s = profile_ancestors w t s ++ (profile_attributes w t s ++ profile_links w t s)

-- "(profile: the three together)"
abbrev pub profile_refusals : List ℕ → ℕ → ℕ → Schema → Refusals
profile_refusals w t room s =
    (2 when any (unknown_sds s) w)
    ∷ (6 when not_visible s w t)
    ∷ (7 when no_object s t)
    ∷ (8 when repeated w)
    ∷ (15 when short_output room (length (profile_list w t s)))
    ∷ []

-- "with three counts"
unfoldable pub profile : List ℕ → ℕ → ℕ → Schema → Outcome (List ℕ)
profile w t room s =
    verdict (profile_refusals w t room s)
    (done (length (profile_ancestors w t s)) (length (profile_attributes w t s)) (length (profile_links w t s)) (profile_list w t s))

-- ---- 12 "Find: the type bearing a local name in the first listed SDS that has it."

abbrev pub find_refusals : List ℕ → Name → Schema → Refusals
find_refusals w n s =
    (2 when any (unknown_sds s) w)
    ∷ (4 when malformed n)
    ∷ (6 when no_name_listed s w n)
    ∷ (8 when repeated w)
    ∷ []

unfoldable pub find : List ℕ → Name → Schema → Outcome (List ℕ)
find w n s = verdict (find_refusals w n s) (done (type_named s (first (λ d. bears s d n) 0 w) n) 0 0 [])

-- "Depth of an object type." Call 13 asks the same of its inputs.
abbrev pub object_refusals : List ℕ → ℕ → Schema → Refusals
object_refusals w t s =
    (2 when any (unknown_sds s) w)
    ∷ (6 when not_visible s w t)
    ∷ (7 when no_object s t)
    ∷ (8 when repeated w)
    ∷ []

unfoldable pub depth_of : List ℕ → ℕ → Schema → Outcome (List ℕ)
depth_of w t s = verdict (object_refusals w t s) (done (depth s t) 0 0 [])

-- "Name: for an SDS and a type number, the stretch of the lent base that holds its local name."
abbrev pub name_refusals : ℕ → ℕ → Schema → Refusals
name_refusals d t s =
    (2 when unknown_sds s d)
    ∷ (6 when not_present s d t)
    ∷ []

-- its values: where the stretch starts, and how long it is
unfoldable pub name : ℕ → ℕ → Schema → Outcome (List ℕ)
name d t s =
    verdict (name_refusals d t s)
    (done (name_start s (place (holds_type d t) s.presences)) (length (local_name s d t)) 0 [])

-- ---- 13 "Set of descendants: 128 marks in two 64-bit words, type n at bit n mod 64 of word n div 64, with the number of marks set."

abbrev pub one_if : Bool → ℕ
one_if true = 1
one_if false = 0

-- the word of `many` bits, the lowest first, that are the marks of the types from `start` on
unfoldable pub marks : ℕ → ℕ → (ℕ → Bool) → ℕ
marks start zero p = 0
marks start (suc many) p = marks (suc start) many p * 2 + one_if (p start)

unfoldable pub visible_descendant : List ℕ → ℕ → Schema → ℕ → Bool
visible_descendant w t s k = visible s w k && descends s k t

unfoldable pub descendant_set : List ℕ → ℕ → Schema → Outcome (List ℕ)
descendant_set w t s =
    verdict (object_refusals w t s)
    (done (marks 0 64 (visible_descendant w t s)) (marks 64 64 (visible_descendant w t s)) (length (members (visible_descendant w t s))) [])

-- ---- "The modes of a type under a working schema are the union over the listed SDSs." (02, Q-2)

-- some presence of type t in a listed SDS has mode m, in its usage or its definition, whichever `modes` gives
unfoldable pub mode_listed : (Presence → Modes) → List ℕ → ℕ → Schema → ℕ → Bool
mode_listed modes w t s m = any (λ p. among w p.sds && (eqb p.type t && has_mode (modes p) m)) s.presences

-- the modes of which that is so, as a sum
abbrev pub modes_under : (Presence → Modes) → List ℕ → ℕ → Schema → Modes
modes_under modes w t s = marks 0 5 (mode_listed modes w t s)

abbrev pub modes_refusals : List ℕ → ℕ → Schema → Refusals
modes_refusals w t s =
    (2 when any (unknown_sds s) w)
    ∷ (6 when not_visible s w t)
    ∷ (8 when repeated w)
    ∷ []

-- its values: usage and definition
unfoldable pub modes_of : List ℕ → ℕ → Schema → Outcome (List ℕ)
modes_of w t s = verdict (modes_refusals w t s) (done (modes_under (λ p. p.usage) w t s) (modes_under (λ p. p.definition) w t s) 0 [])
