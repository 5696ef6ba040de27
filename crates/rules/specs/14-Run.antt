-- "The run program starts from a fresh base and reads commands on standard input, words parted by one space .. and prints a line for
-- each": a line read, to a line printed and the next schema.
use Rattle.std.specs.Prelude.{ℕ, zero, suc, ◌+◌, ◌/◌, ◌%◌, List, [], ◌∷◌, ◌++◌, Bool, cond, ◌&&◌, ◌||◌, leb, ltb, eqb, length, get_or, drop}
use Rattle.rules.specs.01-Lists.{bytes, same_bytes, any, numbers}
use Rattle.rules.specs.02-Limits.{limits}
use Rattle.rules.specs.03-Names.{Name, blank, same_name, parted}
use Rattle.rules.specs.04-Schema.{Schema, sds_name, used_sds}
use Rattle.rules.specs.08-Working.{descendant}
use Rattle.rules.specs.09-Refusals.{Outcome}
use Rattle.rules.specs.09-Refusals.Outcome.{refused, done}
use Rattle.rules.specs.10-Changes.{new_sds, import, new_object, remove_type}
use Rattle.rules.specs.11-Asks.{find, scan_object, depth_of}

-- a line that is printed, without its newline, and the schema behind it
pub record Reply : Type 0 where
  pub line : List ℕ
  pub next : Schema

-- ---- numbers as they are printed

-- in decimal; `places` is more than there are
unfoldable pub decimal : ℕ → ℕ → List ℕ
decimal zero n = []
decimal (suc places) n = cond (ltb n 10) ((48 + n) ∷ []) (decimal places (n / 10) ++ ((48 + n % 10) ∷ []))

-- parted by one space
unfoldable pub printed : List ℕ → List ℕ
printed [] = []
printed (n ∷ []) = decimal 20 n
printed (n ∷ m ∷ ns) = decimal 20 n ++ (32 ∷ printed (m ∷ ns))

-- "prints a line for each: the number, then" the values; "A refusal prints its number alone."
abbrev pub changed : Schema → Outcome Schema → Reply
changed s (refused n value) = record { line = printed (n ∷ []); next = s }
changed s (done one two three s') = record { line = printed (0 ∷ one ∷ []); next = s' }

abbrev pub asked : (ℕ → List ℕ → List ℕ) → Schema → Outcome (List ℕ) → Reply
asked values s (refused n value) = record { line = printed (n ∷ []); next = s }
asked values s (done one two three list) = record { line = printed (0 ∷ values one list); next = s }

-- ---- the words of a line

-- word 0 is the command
abbrev pub word : List Name → ℕ → Name
word ws i = get_or ws i []

-- "SDSs by name (an unknown one counts as number 16)"
unfoldable pub sds_called : Schema → Name → ℕ
sds_called s n = get_or (numbers 0 limits.sdss (λ d. used_sds s d && same_name (sds_name s d) n)) 0 16

abbrev pub sds_word : List Name → ℕ → Schema → ℕ
sds_word ws i s = sds_called s (word ws i)

-- the words of a run, parted by one space
unfoldable pub joined : List Name → List ℕ
joined [] = []
joined (n ∷ []) = n
joined (n ∷ m ∷ ns) = n ++ (32 ∷ joined (m ∷ ns))

-- the words begin with the command and are as many
abbrev pub says : Name → ℕ → List Name → Bool
says command many ws = same_bytes (word ws 0) command && eqb (length ws) many

-- "object takes any number of parents, none included"
abbrev pub says_object : List Name → Bool
says_object ws = same_bytes (word ws 0) (bytes "object") && leb 3 (length ws)

-- ---- the commands

-- "for `sds` the SDS number"
unfoldable pub obey_sds : List Name → Schema → Reply
obey_sds ws s = changed s (new_sds (word ws 1) s)

-- "for `import` (target, source, name; new names blank), `object` and `remove` the type number"
unfoldable pub obey_import : List Name → Schema → Reply
obey_import ws s = changed s (import (sds_word ws 1 s) (sds_word ws 2 s) (word ws 3) [] [] s)

-- "for .. `object` .. the type number": an SDS, the new name, and behind it the parents
unfoldable pub obey_object : List Name → Schema → Reply
obey_object ws s = changed s (new_object (sds_word ws 1 s) (word ws 2) (joined (drop 3 ws)) s)

-- "for .. `remove` the type number": an SDS and the name there
unfoldable pub obey_remove : List Name → Schema → Reply
obey_remove ws s = changed s (remove_type (sds_word ws 1 s) (word ws 2) s)

-- "desc and depth list the one SDS named", and name the type there
abbrev pub about_type : Outcome (List ℕ) → (ℕ → Outcome (List ℕ)) → Outcome (List ℕ)
about_type (refused n value) question = refused n value
about_type (done t two three list) question = question t

-- "for `desc` the count and the list"
unfoldable pub obey_desc : List Name → Schema → Reply
obey_desc ws s =
    let listed : List ℕ = sds_word ws 1 s ∷ [] in
    asked (λ one list. one ∷ list) s (about_type (find listed (word ws 2) s) (λ t. scan_object listed t descendant limits.types s))

-- "for `depth` the depth"
unfoldable pub obey_depth : List Name → Schema → Reply
obey_depth ws s =
    let listed : List ℕ = sds_word ws 1 s ∷ [] in
    asked (λ one list. one ∷ []) s (about_type (find listed (word ws 2) s) (λ t. depth_of listed t s))

-- "prints `?`"
unfoldable pub unreadable : Schema → Reply
unreadable s = record { line = bytes "?"; next = s }

-- unreadable where it "begins with no such command" or "has the wrong number of words"
unfoldable pub obey : List Name → Schema → Reply
obey ws s =
    cond (says (bytes "sds") 2 ws) (obey_sds ws s)
    (cond (says (bytes "import") 4 ws) (obey_import ws s)
    (cond (says_object ws) (obey_object ws s)
    (cond (says (bytes "remove") 3 ws) (obey_remove ws s)
    (cond (says (bytes "desc") 3 ws) (obey_desc ws s)
    (cond (says (bytes "depth") 3 ws) (obey_depth ws s)
    (unreadable s))))))

-- "A line is unreadable, and prints `?`, when it is too long, begins with no such command, has an empty word or has the wrong number
-- of words"; "lines of at most 127 bytes (newline not counted ..)"
unfoldable pub reply : List ℕ → Schema → Reply
reply line s = cond (ltb 127 (length line) || any blank (parted line)) (unreadable s) (obey (parted line) s)
