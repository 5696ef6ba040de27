-- Any sequence of calls with any inputs at all, and demand 3 over it. The proof is the crate `history`'s.
use Rattle.std.specs.Prelude.{ℕ, ◌≡◌, ◌↔◌, List, [], ◌∷◌, true, ltb, length}
use Rattle.rules.specs.declared.Answer.{Answer}
use Rattle.rules.specs.01-Lists.{◌∈◌, rising}
use Rattle.rules.specs.03-Names.{Name}
use Rattle.rules.specs.04-Schema.{Schema, Modes, fresh}
use Rattle.rules.specs.05-Descent.{Descends}
use Rattle.rules.specs.06-Good.{Good}
use Rattle.rules.specs.07-Picture.{picture, base_length}
use Rattle.rules.specs.08-Working.{visible, descendant}
use Rattle.rules.specs.09-Refusals.{Outcome}
use Rattle.rules.specs.09-Refusals.Outcome.{refused, done}
use Rattle.rules.specs.10-Changes as Changes
use Rattle.rules.specs.11-Asks as Asks
use Rattle.rules.specs.11-File as File
use Rattle.rules.specs.11-File.{WrittenAs}
use Rattle.rules.specs.12-Contracts.{Kept, Answered, Freshened, ReadIn}

-- a changing call with its inputs, in the order of its rule
pub data Change : Type 0 where
  new_sds : Name → Change
  remove_sds : ℕ → Change
  new_object : ℕ → Name → List ℕ → Change
  new_attribute : ℕ → Name → ℕ → Change
  new_designation : ℕ → Name → Change
  new_pair : ℕ → Name → Name → ℕ → ℕ → Change
  import : ℕ → ℕ → Name → Name → Name → Change
  apply : ℕ → Name → Name → Change
  unapply : ℕ → Name → Name → Change
  apply_link : ℕ → Name → Name → Change
  unapply_link : ℕ → Name → Name → Change
  add_destination : ℕ → Name → Name → Change
  remove_destination : ℕ → Name → Name → Change
  remove_type : ℕ → Name → Change
  remove_number : ℕ → ℕ → Change
  rename : ℕ → Name → Name → Change
  rename_number : ℕ → ℕ → Name → Change
  set_modes : ℕ → Name → Modes → Modes → Change

abbrev pub change_rule : Change → Schema → Outcome Schema
change_rule (new_sds n) = Changes.new_sds n
change_rule (remove_sds d) = Changes.remove_sds d
change_rule (new_object d n run) = Changes.new_object d n run
change_rule (new_attribute d n v) = Changes.new_attribute d n v
change_rule (new_designation d n) = Changes.new_designation d n
change_rule (new_pair d n m c c') = Changes.new_pair d n m c c'
change_rule (import target source n new new_reverse) = Changes.import target source n new new_reverse
change_rule (apply d a n) = Changes.apply d a n
change_rule (unapply d a n) = Changes.unapply d a n
change_rule (apply_link d n m) = Changes.apply_link d n m
change_rule (unapply_link d n m) = Changes.unapply_link d n m
change_rule (add_destination d n m) = Changes.add_destination d n m
change_rule (remove_destination d n m) = Changes.remove_destination d n m
change_rule (remove_type d n) = Changes.remove_type d n
change_rule (remove_number d t) = Changes.remove_number d t
change_rule (rename d n new) = Changes.rename d n new
change_rule (rename_number d t new) = Changes.rename_number d t new
change_rule (set_modes d n usage definition) = Changes.set_modes d n usage definition

-- an asking call with its inputs; the last of a call that puts a list down is the room of its output
pub data Ask : Type 0 where
  scan_object : List ℕ → ℕ → ℕ → ℕ → Ask
  scan_link : List ℕ → ℕ → ℕ → ℕ → Ask
  profile : List ℕ → ℕ → ℕ → Ask
  find : List ℕ → Name → Ask
  depth_of : List ℕ → ℕ → Ask
  name : ℕ → ℕ → Ask
  descendant_set : List ℕ → ℕ → Ask
  modes_of : List ℕ → ℕ → Ask
  write_file : ℕ → Ask

abbrev pub ask_rule : Ask → Schema → Outcome (List ℕ)
ask_rule (scan_object w t code room) = Asks.scan_object w t code room
ask_rule (scan_link w t code room) = Asks.scan_link w t code room
ask_rule (profile w t room) = Asks.profile w t room
ask_rule (find w n) = Asks.find w n
ask_rule (depth_of w t) = Asks.depth_of w t
ask_rule (name d t) = Asks.name d t
ask_rule (descendant_set w t) = Asks.descendant_set w t
ask_rule (modes_of w t) = Asks.modes_of w t
ask_rule (write_file room) = File.write_file room

-- whether a file is that of some good schema; what reading it answers tells which (`read_tells` in history/proofs/Files)
pub data Reading (file : List ℕ) : Type 0 where
  accepted : (s : Schema) → WrittenAs file s → Reading file
  not_accepted : ((s : Schema) → WrittenAs file s → ⊥) → Reading file

pub data Call : Type 0 where
  begin_fresh : Call
  change : Change → Call
  ask : Ask → Call
  read : (file : List ℕ) → Reading file → Call

-- ---- on schemas

-- a refusal changes nothing
abbrev pub next : Schema → Outcome Schema → Schema
next s (refused n value) = s
next s (done one two three s') = s'

-- "Reading a written file gives a base with the same meaning" (02, Q-3)
abbrev pub read_next : {file : List ℕ} → Schema → Reading file → Schema
read_next s (accepted s' w) = s'
read_next s (not_accepted n) = s

-- the schema after a call
abbrev pub after : Schema → Call → Schema
after s begin_fresh = fresh
after s (change c) = next s (change_rule c s)
after s (ask q) = s
after s (read file r) = read_next s r

-- the schema after the calls, one after the other
unfoldable pub after_all : Schema → List Call → Schema
after_all s [] = s
after_all s (c ∷ cs) = after_all (after s c) cs

-- ---- on bytes

-- what a function that keeps its contract may answer to a call, and leave of the base; an asking call is lent it unchangeably
abbrev pub Allowed : Call → List ℕ → Answer → List ℕ → Type 0
Allowed begin_fresh before answer base = Freshened before answer base
Allowed (change c) before answer base = Kept before (change_rule c) answer base
Allowed (ask q) before answer base = (base ≡ before) × Answered before (ask_rule q) answer
Allowed (read file r) before answer base = ReadIn before file answer base

-- a keeper whose every function keeps its contract takes the first bytes to the last by these calls
pub data Runs : List ℕ → List Call → List ℕ → Type 0 where
  stop : {b : List ℕ} → Runs b [] b
  step : {b b' b'' : List ℕ} (c : Call) {cs : List Call} (answer : Answer) → Allowed c b answer b' → Runs b' cs b'' → Runs b (c ∷ cs) b''

-- ---- demand 3

-- "the list of descendants holds every visible descendant once": it has these and no others, and rises
pub record WholeList (s : Schema) (w : List ℕ) (t : ℕ) : Type 0 where
  pub exact : (k : ℕ) → (k ∈ Asks.object_scan_list w t descendant s) ↔ ((visible s w k ≡ true) × Descends s k t)
  pub once : rising ltb (Asks.object_scan_list w t descendant s) ≡ true

-- "From then on demand 3 starts from a fresh base or from one read in." (02, Q-3): s, and the bytes that the first call left, whatever it was
-- lent of a base's length
pub data Begun : Schema → List ℕ → Type 0 where
  freshened : (before : List ℕ) → length before ≡ base_length → (answer : Answer) {b : List ℕ} → Freshened before answer b → Begun fresh b
  read_in : (before : List ℕ) → length before ≡ base_length → (file : List ℕ) {s : Schema} → WrittenAs file s
      → (answer : Answer) {b : List ℕ} → ReadIn before file answer b → Begun s b

-- "From a fresh base, any sequence of calls gives the base that the rules give, and that base is good"
pub record Demand3 : Type 0 where
  pub good : {s : Schema} {b : List ℕ} → Begun s b → (cs : List Call) → Good (after_all s cs)
  pub bytes : {s : Schema} {b : List ℕ} → Begun s b → (cs : List Call) (b' : List ℕ) → Runs b cs b' → b' ≡ picture (after_all s cs)
  pub never_1 : {s : Schema} {b : List ℕ} → Begun s b → (cs : List Call) (b' : List ℕ) → Runs b cs b'
      → (c : Call) (answer : Answer) (b'' : List ℕ) → Allowed c b' answer b'' → answer.no ≡ 1 → ⊥
  pub descendants : {s : Schema} {b : List ℕ} → Begun s b → (cs : List Call) (w : List ℕ) (t : ℕ) → WholeList (after_all s cs) w t
