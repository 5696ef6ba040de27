-- 01, "Both sides of each edge": the marked cases, each a sequence of calls from a fresh base with what they answer, and the worked
-- sequence as lines of the run program. One statement holds over the table: proofs/15-Cases.
use Rattle.std.specs.Prelude.{ℕ, List, [], ◌∷◌, ◌++◌, Bool, true, false, ◌&&◌, eqb, replicate}
use Prim.Native.String.{String}
use Rattle.rules.specs.declared.Answer.{Answer}
use Rattle.rules.specs.01-Lists.{bytes, same_bytes}
use Rattle.rules.specs.04-Schema.{Schema, fresh}
use Rattle.rules.specs.07-Picture.{pad}
use Rattle.rules.specs.09-Refusals.{Outcome, answer_of, telling, refusal, success}
use Rattle.rules.specs.09-Refusals.Outcome.{refused, done}
use Rattle.rules.specs.13-History.{Change, Ask, Call, change_rule, ask_rule, after}
use Rattle.rules.specs.13-History.Change.{new_sds, remove_sds, new_object, new_attribute, new_designation, new_pair, import, apply}
use Rattle.rules.specs.13-History.Change.{unapply, apply_link, unapply_link, add_destination, remove_destination, remove_type, remove_number, rename}
use Rattle.rules.specs.13-History.Change.{rename_number, set_modes}
use Rattle.rules.specs.13-History.Ask.{scan_object, scan_link, profile, find, depth_of, name, descendant_set, modes_of, write_file}
use Rattle.rules.specs.13-History.Call.{begin_fresh, change, ask, read}
use Rattle.rules.specs.14-Run.{reply}

-- a call, its answer, and the list that it puts down
pub record Step : Type 0 where
  pub call : Call
  pub answer : Answer
  pub list : List ℕ

-- a row of the table: calls from a fresh base, or lines of the run program
pub data Row : Type 0 where
  calls : List Step → Row
  lines : List (String × String) → Row

abbrev same_answer : Answer → Answer → Bool
same_answer a b = eqb a.no b.no && (eqb a.one b.one && (eqb a.two b.two && eqb a.three b.three))

abbrev list_of : Outcome (List ℕ) → List ℕ
list_of (refused n value) = []
list_of (done one two three list) = list

-- the call answers as the step says
abbrev answers : Schema → Step → Call → Bool
answers s x begin_fresh = same_answer (success 0 0 0) x.answer
answers s x (change c) = same_answer (answer_of (change_rule c s)) x.answer
answers s x (ask q) = same_answer (answer_of (ask_rule q s)) x.answer && same_bytes (list_of (ask_rule q s)) x.list
-- no row reads: whether a file is accepted is proved, not run
answers s x (read file r) = false

unfoldable pub calls_hold : Schema → List Step → Bool
calls_hold s [] = true
calls_hold s (x ∷ xs) = answers s x x.call && calls_hold (after s x.call) xs

unfoldable pub lines_hold : Schema → List (String × String) → Bool
lines_hold s [] = true
lines_hold s (x ∷ xs) = same_bytes (reply (bytes x.0) s).line (bytes x.1) && lines_hold (reply (bytes x.0) s).next xs

abbrev pub row_holds : Row → Bool
row_holds (calls xs) = calls_hold fresh xs
row_holds (lines xs) = lines_hold fresh xs

-- ---- how a row is written

abbrev changes : Change → Answer → Step
changes c a = record { call = change c; answer = a; list = [] }

abbrev asks : Ask → Answer → List ℕ → Step
asks q a list = record { call = ask q; answer = a; list = list }

-- SDS 1 "bus", with type 0 in it
abbrev bus : List Step
bus = changes (new_sds (bytes "bus")) (success 1 0 0) ∷ changes (import 1 0 (bytes "object") [] []) (success 0 0 0) ∷ []

-- a name in a file, zeros behind it, and all five modes
abbrev named : String → List ℕ
named text = pad 16 (bytes text)

abbrev named_fully : String → List ℕ
named_fully text = named text ++ (31 ∷ 31 ∷ [])

-- ---- the marked cases

abbrev pub marked : List Row
marked =
    -- Fresh, list of SDS 0 alone: depth of type 0 is 0, no descendants, also with an output of length 0.
    calls (asks (depth_of (0 ∷ []) 0) (success 0 0 0) [] ∷ asks (scan_object (0 ∷ []) 0 1 0) (success 0 0 0) [] ∷ [])
    -- Name of 16 bytes accepted; 17 refused 4
    ∷ calls (changes (new_sds (replicate 16 97)) (success 1 0 0) ∷ [])
    ∷ calls (changes (new_sds (replicate 17 97)) (refusal 4) ∷ [])
    -- 0 or 5 parents refused 5
    ∷ calls (bus ++ (changes (new_object 1 (bytes "unit") []) (refusal 5) ∷ []))
    ∷ calls (bus ++ (changes (new_object 1 (bytes "unit") (bytes "a b c d e")) (refusal 5) ∷ []))
    -- SDS 16: 2.
    ∷ calls (changes (new_attribute 16 (bytes "state") 0) (refusal 2) ∷ asks (find (16 ∷ []) (bytes "object")) (refusal 2) [] ∷ [])
    -- New SDS "system": 11.
    ∷ calls (changes (new_sds (bytes "system")) (refusal 11) ∷ [])
    -- Importing what is present is 9, even if the new name is taken.
    ∷ calls
    (bus
    ++ (changes (new_object 1 (bytes "unit") (bytes "object")) (success 1 0 0) ∷ changes (import 1 0 (bytes "object") (bytes "unit") []) (refusal 9) ∷ []))
    -- Rename to its own name: 0.
    ∷ calls (bus ++ (changes (rename 1 (bytes "object") (bytes "object")) (success 0 0 0) ∷ asks (find (1 ∷ []) (bytes "object")) (success 0 0 0) [] ∷ []))
    -- Pair of categories 3 and 3: 5; 0 and 3: done.
    ∷ calls (bus ++ (changes (new_pair 1 (bytes "has") (bytes "of") 3 3) (refusal 5) ∷ []))
    ∷ calls (bus ++ (changes (new_pair 1 (bytes "has") (bytes "of") 0 3) (success 1 2 0) ∷ []))
    -- the worked sequence of the run program; "01's refused removal of template becomes 16" (02, Q-1)
    ∷ lines
    (("sds bus", "0 1")
    ∷ ("import bus system object", "0 0")
    ∷ ("object bus unit object", "0 1")
    ∷ ("object bus template unit", "0 2")
    ∷ ("object bus radio unit", "0 3")
    ∷ ("object bus fifo template radio", "0 4")
    ∷ ("object bus fifo2 radio template", "0 5")
    ∷ ("desc bus template", "0 2 4 5")
    ∷ ("depth bus fifo", "0 3")
    ∷ ("remove bus template", "16")
    ∷ ("remove bus fifo", "0 4")
    ∷ ("object bus adc fifo2", "0 4")
    ∷ ("desc bus template", "0 2 4 5")
    ∷ ("depth bus adc", "0 4")
    ∷ [])
    ∷ []

-- ---- rows of our own, set apart from 01's

-- SDS 1 with object types 1 "unit" and 2 "radio" below it, attribute types 3 and 4, the pair 5 "has" and 6 "of", the designation type 7
abbrev ship : List Step
ship =
    bus
    ++ (changes (new_object 1 (bytes "unit") (bytes "object")) (success 1 0 0)
    ∷ changes (new_object 1 (bytes "radio") (bytes "unit")) (success 2 0 0)
    ∷ changes (new_attribute 1 (bytes "state") 5) (success 3 0 0)
    ∷ changes (new_attribute 1 (bytes "mass") 3) (success 4 0 0)
    ∷ changes (new_pair 1 (bytes "has") (bytes "of") 0 3) (success 5 6 0)
    ∷ changes (new_designation 1 (bytes "see")) (success 7 0 0)
    ∷ [])

-- two teams' SDSs: "bus", and SDS 2 "ground" with type 0 in it too
abbrev teams : List Step
teams = bus ++ (changes (new_sds (bytes "ground")) (success 2 0 0) ∷ changes (import 2 0 (bytes "object") [] []) (success 0 0 0) ∷ [])

-- SDS 1 with object types 1 "unit", below it 2 "template" and 3 "radio", below both 4 "fifo", and 5 "adc" below 3; SDS 2 "ground" is empty
abbrev diamond : List Step
diamond =
    bus
    ++ (changes (new_object 1 (bytes "unit") (bytes "object")) (success 1 0 0)
    ∷ changes (new_object 1 (bytes "template") (bytes "unit")) (success 2 0 0)
    ∷ changes (new_object 1 (bytes "radio") (bytes "unit")) (success 3 0 0)
    ∷ changes (new_object 1 (bytes "fifo") (bytes "template radio")) (success 4 0 0)
    ∷ changes (new_object 1 (bytes "adc") (bytes "radio")) (success 5 0 0)
    ∷ changes (new_sds (bytes "ground")) (success 2 0 0)
    ∷ [])

abbrev applications_and_ends : List Step
applications_and_ends =
    changes (apply 1 (bytes "state") (bytes "unit")) (success 0 0 0)
    ∷ changes (apply 1 (bytes "state") (bytes "unit")) (refusal 9)
    ∷ changes (apply 1 (bytes "mass") (bytes "has")) (success 0 0 0)
    ∷ changes (apply_link 1 (bytes "has") (bytes "unit")) (success 0 0 0)
    ∷ changes (apply_link 1 (bytes "has") (bytes "unit")) (refusal 9)
    ∷ changes (add_destination 1 (bytes "of") (bytes "unit")) (refusal 9)
    ∷ changes (add_destination 1 (bytes "has") (bytes "radio")) (success 0 0 0)
    ∷ changes (apply_link 1 (bytes "see") (bytes "object")) (success 0 0 0)
    ∷ []

abbrev pub own : List Row
own =
    -- an empty list shows nothing (02, Q-7): each question is 6, and done where the SDS is listed; 4 and 5 come first
    calls
    (ship
    ++ (asks (scan_object [] 1 1 9) (refusal 6) []
    ∷ asks (scan_object (1 ∷ []) 1 1 9) (success 1 0 0) (2 ∷ [])
    ∷ asks (scan_link [] 5 4 9) (refusal 6) []
    ∷ asks (scan_link (1 ∷ []) 5 4 9) (success 0 0 0) []
    ∷ asks (profile [] 0 9) (refusal 6) []
    ∷ asks (profile (1 ∷ []) 0 9) (success 0 0 0) []
    ∷ asks (find [] (bytes "object")) (refusal 6) []
    ∷ asks (find (0 ∷ []) (bytes "object")) (success 0 0 0) []
    ∷ asks (depth_of [] 0) (refusal 6) []
    ∷ asks (depth_of (0 ∷ []) 0) (success 0 0 0) []
    ∷ asks (descendant_set [] 0) (refusal 6) []
    ∷ asks (descendant_set (1 ∷ []) 0) (success 6 0 2) []
    ∷ asks (find [] (bytes "1unit")) (refusal 4) []
    ∷ asks (scan_object [] 1 10 9) (refusal 5) []
    ∷ asks (scan_link [] 5 5 9) (refusal 5) []
    ∷ []))
    -- a type that is not visible is 6, even if the list has an SDS twice
    ∷ calls (asks (scan_object (0 ∷ 0 ∷ []) 5 1 0) (refusal 6) [] ∷ asks (scan_object (0 ∷ 0 ∷ []) 0 1 0) (refusal 8) [] ∷ [])
    -- a pair comes together, by either name
    ∷ calls
    (ship
    ++ (changes (new_sds (bytes "ground")) (success 2 0 0)
    ∷ changes (import 2 1 (bytes "of") (bytes "part") []) (success 6 5 0)
    ∷ asks (find (2 ∷ []) (bytes "has")) (success 5 0 0) []
    ∷ asks (find (2 ∷ []) (bytes "part")) (success 6 0 0) []
    ∷ changes (import 2 1 (bytes "mass") [] (bytes "x")) (refusal 7)
    ∷ changes (remove_type 2 (bytes "has")) (success 5 0 0)
    ∷ asks (find (2 ∷ []) (bytes "part")) (refusal 6) []
    ∷ asks (find (2 ∷ 1 ∷ []) (bytes "of")) (success 6 0 0) []
    ∷ changes (remove_sds 2) (success 0 0 0)
    ∷ changes (remove_sds 1) (telling 12 0)
    ∷ []))
    -- what the asking calls show of applications and ends
    ∷ calls
    (ship
    ++ (applications_and_ends
    ++ (asks (scan_object (1 ∷ []) 2 4 9) (success 0 0 0) []
    ∷ asks (scan_object (1 ∷ []) 2 5 1) (success 1 0 0) (3 ∷ [])
    ∷ asks (scan_object (1 ∷ []) 2 5 0) (refusal 15) []
    ∷ asks (scan_object (1 ∷ []) 2 7 9) (success 3 0 0) (5 ∷ 6 ∷ 7 ∷ [])
    ∷ asks (scan_object (1 ∷ []) 1 8 9) (success 1 0 0) (6 ∷ [])
    ∷ asks (scan_link (1 ∷ []) 5 1 9) (success 2 0 0) (1 ∷ 2 ∷ [])
    ∷ asks (scan_link (1 ∷ []) 5 2 9) (success 1 0 0) (2 ∷ [])
    ∷ asks (scan_link (1 ∷ []) 5 4 9) (success 1 0 0) (4 ∷ [])
    ∷ asks (scan_link (0 ∷ []) 5 4 9) (refusal 6) []
    ∷ asks (profile (1 ∷ []) 2 6) (success 2 1 3) (0 ∷ 1 ∷ 3 ∷ 5 ∷ 6 ∷ 7 ∷ [])
    ∷ asks (profile (1 ∷ []) 2 5) (refusal 15) []
    ∷ asks (descendant_set (1 ∷ []) 0) (success 6 0 2) []
    ∷ asks (name 1 2) (success 1381 5 0) []
    ∷ [])))
    -- what is taken away is gone, and only then can a type go
    ∷ calls
    (ship
    ++ (applications_and_ends
    ++ (changes (remove_type 1 (bytes "of")) (telling 17 4)
    ∷ changes (unapply_link 1 (bytes "has") (bytes "unit")) (success 0 0 0)
    ∷ changes (remove_destination 1 (bytes "of") (bytes "unit")) (refusal 13)
    ∷ changes (remove_destination 1 (bytes "has") (bytes "radio")) (success 0 0 0)
    ∷ changes (remove_type 1 (bytes "of")) (telling 17 4)
    ∷ changes (unapply 1 (bytes "mass") (bytes "has")) (success 0 0 0)
    ∷ changes (unapply 1 (bytes "mass") (bytes "has")) (refusal 13)
    ∷ changes (remove_type 1 (bytes "of")) (success 6 0 0)
    ∷ asks (find (1 ∷ []) (bytes "has")) (refusal 6) []
    ∷ changes (rename 1 (bytes "radio") (bytes "tuner")) (success 0 0 0)
    ∷ asks (find (1 ∷ []) (bytes "tuner")) (success 2 0 0) []
    ∷ changes (rename 1 (bytes "tuner") (bytes "unit")) (refusal 11)
    ∷ changes (new_designation 1 (bytes "radio")) (success 5 0 0)
    ∷ [])))
    -- the lowest type in the way is told, and of two ways the lower number (02, Q-1); what is told is taken away until all can go
    ∷ calls
    (ship
    ++ (applications_and_ends
    ++ (changes (apply 1 (bytes "state") (bytes "radio")) (success 0 0 0)
    ∷ changes (apply 1 (bytes "mass") (bytes "unit")) (success 0 0 0)
    ∷ changes (remove_type 1 (bytes "object")) (telling 16 1)
    ∷ changes (remove_type 1 (bytes "unit")) (telling 16 2)
    ∷ changes (remove_type 1 (bytes "state")) (telling 17 1)
    ∷ changes (remove_type 1 (bytes "of")) (telling 17 4)
    ∷ changes (remove_type 1 (bytes "see")) (telling 18 0)
    ∷ changes (remove_type 1 (bytes "radio")) (telling 17 3)
    ∷ changes (unapply 1 (bytes "state") (bytes "radio")) (success 0 0 0)
    ∷ changes (remove_type 1 (bytes "radio")) (telling 18 5)
    ∷ changes (remove_destination 1 (bytes "has") (bytes "radio")) (success 0 0 0)
    ∷ changes (remove_type 1 (bytes "radio")) (success 2 0 0)
    ∷ changes (remove_type 1 (bytes "unit")) (telling 17 3)
    ∷ changes (unapply 1 (bytes "state") (bytes "unit")) (success 0 0 0)
    ∷ changes (remove_type 1 (bytes "state")) (success 3 0 0)
    ∷ changes (remove_type 1 (bytes "unit")) (telling 17 4)
    ∷ changes (unapply 1 (bytes "mass") (bytes "unit")) (success 0 0 0)
    ∷ changes (remove_type 1 (bytes "mass")) (telling 17 5)
    ∷ changes (unapply 1 (bytes "mass") (bytes "has")) (success 0 0 0)
    ∷ changes (remove_type 1 (bytes "of")) (telling 18 1)
    ∷ changes (unapply_link 1 (bytes "has") (bytes "unit")) (success 0 0 0)
    ∷ changes (remove_type 1 (bytes "unit")) (success 1 0 0)
    ∷ changes (remove_type 1 (bytes "of")) (success 6 0 0)
    ∷ changes (remove_type 1 (bytes "object")) (telling 18 7)
    ∷ changes (unapply_link 1 (bytes "see") (bytes "object")) (success 0 0 0)
    ∷ changes (remove_type 1 (bytes "object")) (success 0 0 0)
    ∷ changes (remove_sds 1) (telling 12 4)
    ∷ changes (import 1 0 (bytes "object") [] []) (success 0 0 0)
    ∷ changes (remove_type 1 (bytes "mass")) (success 4 0 0)
    ∷ changes (remove_type 1 (bytes "see")) (success 7 0 0)
    ∷ changes (remove_sds 1) (telling 12 0)
    ∷ changes (remove_type 1 (bytes "object")) (success 0 0 0)
    ∷ changes (remove_sds 1) (success 0 0 0)
    ∷ [])))
    -- names ignore case (02, Q-5): "System" is taken; types are found, taken, repeated and renamed in any spelling
    ∷ calls
    (ship
    ++ (changes (new_sds (bytes "System")) (refusal 11)
    ∷ changes (new_sds (bytes "BUS")) (refusal 11)
    ∷ changes (new_sds (bytes "Buses")) (success 2 0 0)
    ∷ changes (new_object 1 (bytes "UNIT") (bytes "object")) (refusal 11)
    ∷ changes (new_object 1 (bytes "Fifo") (bytes "Unit unit")) (refusal 8)
    ∷ changes (new_object 1 (bytes "Fifo") (bytes "Unit RADIO")) (success 8 0 0)
    ∷ changes (new_pair 1 (bytes "A") (bytes "a") 0 2) (refusal 11)
    ∷ changes (new_pair 1 (bytes "A") (bytes "b") 0 2) (success 9 10 0)
    ∷ asks (find (1 ∷ []) (bytes "fIFO")) (success 8 0 0) []
    ∷ changes (rename 1 (bytes "fifo") (bytes "FIFO")) (success 0 0 0)
    ∷ changes (rename 1 (bytes "Fifo") (bytes "Radio")) (refusal 11)
    ∷ changes (apply 1 (bytes "STATE") (bytes "Fifo")) (success 0 0 0)
    ∷ changes (import 2 0 (bytes "Object") (bytes "Has") []) (success 0 0 0)
    ∷ changes (import 2 1 (bytes "HAS") [] []) (refusal 11)
    ∷ changes (import 2 1 (bytes "HAS") (bytes "Of") []) (refusal 11)
    ∷ changes (import 2 1 (bytes "HAS") (bytes "Of") (bytes "By")) (success 5 6 0)
    ∷ changes (remove_type 2 (bytes "OF")) (success 5 0 0)
    ∷ []))
    -- Z is the last letter that is lowered; the bytes around the letters are in no name; a name of 16 letters is one in any spelling
    ∷ calls
    (bus
    ++ (changes (new_designation 1 (bytes "aZ")) (success 1 0 0)
    ∷ changes (new_designation 1 (bytes "Az")) (refusal 11)
    ∷ changes (new_designation 1 (bytes "aY")) (success 2 0 0)
    ∷ changes (new_designation 1 (bytes "a[")) (refusal 4)
    ∷ changes (new_designation 1 (bytes "a@")) (refusal 4)
    ∷ changes (new_designation 1 (bytes "a`")) (refusal 4)
    ∷ changes (new_designation 1 (bytes "a{")) (refusal 4)
    ∷ changes (new_sds (replicate 16 90)) (success 2 0 0)
    ∷ changes (new_sds (replicate 16 122)) (refusal 11)
    ∷ changes (new_sds (replicate 15 122)) (success 3 0 0)
    ∷ []))
    -- rows stand by lowered names: an underscore stands before the letters, where byte for byte B stands before it
    ∷ calls
    (bus
    ++ (changes (new_designation 1 (bytes "AB")) (success 1 0 0)
    ∷ changes (new_designation 1 (bytes "A_")) (success 2 0 0)
    ∷ asks (name 1 2) (success 1301 2 0) []
    ∷ asks (name 1 1) (success 1321 2 0) []
    ∷ []))
    -- "Attribute-all can give more than the two apart" (02, Q-10): bus holds t and its parent a, ground a with x applied
    ∷ calls
    (teams
    ++ (changes (new_object 1 (bytes "a") (bytes "object")) (success 1 0 0)
    ∷ changes (new_object 1 (bytes "t") (bytes "a")) (success 2 0 0)
    ∷ changes (import 2 1 (bytes "a") [] []) (success 1 0 0)
    ∷ changes (new_attribute 2 (bytes "x") 5) (success 3 0 0)
    ∷ changes (apply 2 (bytes "x") (bytes "a")) (success 0 0 0)
    ∷ asks (scan_object (1 ∷ []) 2 5 9) (success 0 0 0) []
    ∷ asks (scan_object (2 ∷ []) 2 5 9) (refusal 6) []
    ∷ asks (scan_object (1 ∷ 2 ∷ []) 2 5 9) (success 1 0 0) (3 ∷ [])
    ∷ []))
    -- the order of the list decides what find answers, and alters no scan; descendants of a join, which can need more room (02, Q-10)
    ∷ calls
    (teams
    ++ (changes (new_object 1 (bytes "radio") (bytes "object")) (success 1 0 0)
    ∷ changes (new_object 2 (bytes "radio") (bytes "object")) (success 2 0 0)
    ∷ changes (new_object 2 (bytes "dish") (bytes "radio")) (success 3 0 0)
    ∷ asks (find (1 ∷ 2 ∷ []) (bytes "radio")) (success 1 0 0) []
    ∷ asks (find (2 ∷ 1 ∷ []) (bytes "radio")) (success 2 0 0) []
    ∷ asks (find (1 ∷ []) (bytes "dish")) (refusal 6) []
    ∷ asks (find (1 ∷ 2 ∷ []) (bytes "dish")) (success 3 0 0) []
    ∷ asks (scan_object (1 ∷ []) 0 1 2) (success 1 0 0) (1 ∷ [])
    ∷ asks (scan_object (2 ∷ []) 0 1 2) (success 2 0 0) (2 ∷ 3 ∷ [])
    ∷ asks (scan_object (1 ∷ 2 ∷ []) 0 1 3) (success 3 0 0) (1 ∷ 2 ∷ 3 ∷ [])
    ∷ asks (scan_object (2 ∷ 1 ∷ []) 0 1 3) (success 3 0 0) (1 ∷ 2 ∷ 3 ∷ [])
    ∷ asks (scan_object (1 ∷ 2 ∷ []) 0 1 2) (refusal 15) []
    ∷ asks (scan_object (1 ∷ []) 2 1 2) (refusal 6) []
    ∷ asks (scan_object (1 ∷ 2 ∷ []) 2 1 2) (success 1 0 0) (3 ∷ [])
    ∷ asks (descendant_set (2 ∷ 1 ∷ []) 0) (success 14 0 3) []
    ∷ []))
    -- modes (02, Q-2): all five at first; 31 is a set and 32 none, 19 comes after 3 and 4 and before 6; any set may be set on any kind
    ∷ calls
    (ship
    ++ (asks (modes_of (0 ∷ []) 0) (success 31 31 0) []
    ∷ asks (modes_of (1 ∷ []) 3) (success 31 31 0) []
    ∷ changes (set_modes 1 (bytes "state") 31 31) (success 0 0 0)
    ∷ changes (set_modes 1 (bytes "state") 32 31) (refusal 19)
    ∷ changes (set_modes 1 (bytes "state") 31 32) (refusal 19)
    ∷ changes (set_modes 1 (bytes "none") 257 0) (refusal 19)
    ∷ changes (set_modes 1 (bytes "none") 0 4294967297) (refusal 19)
    ∷ changes (set_modes 1 (bytes "none") 31 31) (refusal 6)
    ∷ changes (set_modes 1 (bytes "1none") 32 32) (refusal 4)
    ∷ changes (set_modes 0 (bytes "1none") 32 32) (refusal 3)
    ∷ changes (set_modes 16 (bytes "state") 0 0) (refusal 2)
    ∷ asks (modes_of (1 ∷ []) 3) (success 31 31 0) []
    ∷ changes (set_modes 1 (bytes "STATE") 0 0) (success 0 0 0)
    ∷ asks (modes_of (1 ∷ []) 3) (success 0 0 0) []
    ∷ changes (set_modes 1 (bytes "unit") 4 16) (success 0 0 0)
    ∷ asks (modes_of (1 ∷ []) 1) (success 4 16 0) []
    ∷ asks (modes_of [] 1) (refusal 6) []
    ∷ asks (modes_of (0 ∷ []) 1) (refusal 6) []
    ∷ asks (modes_of (1 ∷ 1 ∷ []) 8) (refusal 6) []
    ∷ asks (modes_of (1 ∷ 1 ∷ []) 1) (refusal 8) []
    ∷ asks (modes_of (1 ∷ 16 ∷ []) 1) (refusal 2) []
    ∷ []))
    -- a pair has its modes together, by either name; an import has all five, whatever the source has; rename keeps them, and a removal
    -- and a new import give all five again; under two SDSs they are the union
    ∷ calls
    (ship
    ++ (changes (set_modes 1 (bytes "has") 1 2) (success 0 0 0)
    ∷ asks (modes_of (1 ∷ []) 6) (success 1 2 0) []
    ∷ changes (set_modes 1 (bytes "of") 9 6) (success 0 0 0)
    ∷ asks (modes_of (1 ∷ []) 5) (success 9 6 0) []
    ∷ changes (rename 1 (bytes "of") (bytes "part")) (success 0 0 0)
    ∷ asks (modes_of (1 ∷ []) 6) (success 9 6 0) []
    ∷ changes (new_sds (bytes "ground")) (success 2 0 0)
    ∷ changes (import 2 1 (bytes "part") [] []) (success 6 5 0)
    ∷ asks (modes_of (2 ∷ []) 5) (success 31 31 0) []
    ∷ asks (modes_of (2 ∷ 0 ∷ []) 6) (success 31 31 0) []
    ∷ asks (modes_of (1 ∷ []) 6) (success 9 6 0) []
    ∷ changes (set_modes 2 (bytes "has") 20 0) (success 0 0 0)
    ∷ asks (modes_of (1 ∷ 2 ∷ []) 5) (success 29 6 0) []
    ∷ asks (modes_of (2 ∷ 1 ∷ 0 ∷ []) 6) (success 29 6 0) []
    ∷ changes (remove_type 2 (bytes "part")) (success 6 0 0)
    ∷ asks (modes_of (1 ∷ 2 ∷ []) 5) (success 9 6 0) []
    ∷ changes (import 2 1 (bytes "has") [] []) (success 5 6 0)
    ∷ asks (modes_of (2 ∷ []) 6) (success 31 31 0) []
    ∷ []))
    -- an import brings the missing ancestors, each once, nameless and with all five modes (02, Q-8): by a diamond, then a type that shares
    -- them; a name does not find them, a blank one is 4; they are listed as others, and their names are empty stretches
    ∷ calls
    (diamond
    ++ (changes (set_modes 1 (bytes "unit") 1 2) (success 0 0 0)
    ∷ changes (import 2 1 (bytes "fifo") [] []) (success 4 0 0)
    ∷ asks (scan_object (2 ∷ []) 4 3 9) (success 4 0 0) (0 ∷ 1 ∷ 2 ∷ 3 ∷ [])
    ∷ asks (scan_object (2 ∷ []) 1 1 9) (success 3 0 0) (2 ∷ 3 ∷ 4 ∷ [])
    ∷ asks (modes_of (2 ∷ []) 1) (success 31 31 0) []
    ∷ asks (name 2 0) (success 1421 0 0) []
    ∷ asks (name 2 1) (success 1441 0 0) []
    ∷ asks (name 2 4) (success 1501 4 0) []
    ∷ asks (find (2 ∷ []) (bytes "unit")) (refusal 6) []
    ∷ asks (find (2 ∷ []) []) (refusal 4) []
    ∷ changes (new_object 2 (bytes "adc") (bytes "unit")) (refusal 6)
    ∷ changes (set_modes 2 (bytes "unit") 1 2) (refusal 6)
    ∷ changes (import 2 1 (bytes "unit") [] []) (refusal 9)
    ∷ changes (import 2 1 (bytes "adc") [] []) (success 5 0 0)
    ∷ asks (scan_object (2 ∷ []) 0 1 9) (success 5 0 0) (1 ∷ 2 ∷ 3 ∷ 4 ∷ 5 ∷ [])
    ∷ []))
    -- rename by number gives them a name, remove by number takes them out where nothing holds them; a removal leaves them, and the SDS is
    -- not empty then; by number named ones too, and a link type with its reverse
    ∷ calls
    (diamond
    ++ (changes (import 2 1 (bytes "radio") [] []) (success 3 0 0)
    ∷ changes (rename_number 2 1 []) (refusal 4)
    ∷ changes (rename_number 2 4 (bytes "x")) (refusal 6)
    ∷ changes (rename_number 2 1 (bytes "Radio")) (refusal 11)
    ∷ changes (rename_number 0 0 (bytes "x")) (refusal 3)
    ∷ changes (rename_number 16 0 (bytes "1x")) (refusal 2)
    ∷ changes (rename_number 2 1 (bytes "part")) (success 0 0 0)
    ∷ asks (find (2 ∷ []) (bytes "PART")) (success 1 0 0) []
    ∷ changes (rename_number 2 3 (bytes "RADIO")) (success 0 0 0)
    ∷ changes (remove_number 2 0) (telling 16 1)
    ∷ changes (remove_number 2 2) (refusal 6)
    ∷ changes (remove_number 0 0) (refusal 3)
    ∷ changes (remove_type 2 (bytes "radio")) (success 3 0 0)
    ∷ changes (remove_number 2 1) (success 1 0 0)
    ∷ changes (remove_sds 2) (telling 12 0)
    ∷ changes (remove_number 2 0) (success 0 0 0)
    ∷ changes (remove_sds 2) (success 0 0 0)
    ∷ changes (new_pair 1 (bytes "has") (bytes "of") 0 3) (success 6 7 0)
    ∷ changes (remove_number 1 7) (success 7 0 0)
    ∷ asks (find (1 ∷ []) (bytes "has")) (refusal 6) []
    ∷ []))
    -- the exchange file (02, Q-3): room is counted in bytes, and a fresh base's file has 53; then one with an entry of each kind, presences
    -- by type and not by name
    ∷ calls
    (asks (write_file 53) (success 53 0 0)
    ((1 ∷ 0 ∷ 0 ∷ named "system") ++ ((1 ∷ 0 ∷ 0 ∷ 1 ∷ 0 ∷ 0 ∷ 0 ∷ 0 ∷ 1 ∷ 0 ∷ 0 ∷ 0 ∷ named_fully "object") ++ (0 ∷ 0 ∷ 0 ∷ 0 ∷ [])))
    ∷ asks (write_file 52) (refusal 15) []
    ∷ asks (write_file 0) (refusal 15) []
    ∷ [])
    ∷ calls
    (bus
    ++ (changes (new_attribute 1 (bytes "mass") 2) (success 1 0 0)
    ∷ changes (new_designation 1 (bytes "near")) (success 2 0 0)
    ∷ changes (new_object 1 (bytes "Box") (bytes "object")) (success 3 0 0)
    ∷ changes (apply 1 (bytes "mass") (bytes "box")) (success 0 0 0)
    ∷ changes (apply_link 1 (bytes "near") (bytes "box")) (success 0 0 0)
    ∷ changes (set_modes 1 (bytes "box") 4 16) (success 0 0 0)
    ∷ asks (write_file 170) (refusal 15) []
    ∷ asks (write_file 171) (success 171 0 0)
    ((2 ∷ 0 ∷ 0 ∷ named "system") ++ ((1 ∷ named "bus")
    ++ ((4 ∷ 0 ∷ 0 ∷ 1 ∷ 0 ∷ 0 ∷ 1 ∷ 2 ∷ 2 ∷ 0 ∷ 2 ∷ 3 ∷ 4 ∷ 0 ∷ 3 ∷ 1 ∷ 0 ∷ 0 ∷ 1 ∷ 0 ∷ 3 ∷ 0 ∷ 5 ∷ 0 ∷ 0 ∷ 0 ∷ named_fully "object")
    ++ ((1 ∷ 0 ∷ named_fully "object") ++ ((1 ∷ 1 ∷ named_fully "mass") ++ ((1 ∷ 2 ∷ named_fully "near")
    ++ ((1 ∷ 3 ∷ named "Box") ++ (4 ∷ 16 ∷ 1 ∷ 0 ∷ 1 ∷ 3 ∷ 1 ∷ 1 ∷ 0 ∷ 1 ∷ 2 ∷ 0 ∷ 3 ∷ []))))))))
    ∷ []))
    -- the run program's SDSs and types in any spelling; its commands byte for byte
    ∷ lines
    (("sds bus", "0 1")
    ∷ ("sds Bus", "11")
    ∷ ("SDS ground", "?")
    ∷ ("import BUS System OBJECT", "0 0")
    ∷ ("object Bus Radio Object", "0 1")
    ∷ ("object bus radio object", "11")
    ∷ ("desc bUs oBject", "0 1 1")
    ∷ ("depth bus RADIO", "0 1")
    ∷ ("remove BUS rADIO", "0 1")
    ∷ [])
    ∷ []
