-- What each function of the keeper promises, for every input: one sentence for all changing calls, one for all that put a list
-- down, one for all that only answer, one for the part that *name* hands back, *fresh*, and a file written and read.
use Rattle.std.specs.Prelude.{ℕ, ◌/◌, ◌%◌, ◌≡◌, List, [], ◌∷◌, ◌++◌, length, take, drop}
use Rattle.rules.specs.declared.Answer.{Answer}
use Rattle.rules.specs.04-Schema.{Schema, fresh}
use Rattle.rules.specs.06-Good.{Good}
use Rattle.rules.specs.07-Picture.{Sound, picture, base_length}
use Rattle.rules.specs.09-Refusals.{Outcome, answer_of, telling, refusal, success}
use Rattle.rules.specs.09-Refusals.Outcome.{refused, done}
use Rattle.rules.specs.11-File.{WellFormed, Longest, WrittenAs}

-- "changes nothing lent"
abbrev pub base_after : List ℕ → Outcome Schema → List ℕ
base_after before (refused n value) = before
base_after before (done one two three next) = picture next

-- "an entry is two bytes, low byte first"
unfoldable pub entries : List ℕ → List ℕ
entries [] = []
entries (n ∷ ns) = n % 256 ∷ n / 256 ∷ entries ns

-- "room is counted in whole entries"
abbrev pub room : List ℕ → ℕ
room out = length out / 2

-- "Output beyond the count is unchanged."
abbrev pub output_after : List ℕ → Outcome (List ℕ) → List ℕ
output_after before (refused n value) = before
output_after before (done one two three list) = entries list ++ drop (length (entries list)) before

-- a changing call: on the picture of a good schema answer and base are what the rule gives; on any other bytes the answer is 1
pub record Kept (before : List ℕ) (rule : Schema → Outcome Schema) (answer : Answer) (after : List ℕ) : Type 0 where
  pub spoiled : (Sound before → ⊥) → (answer ≡ refusal 1) × (after ≡ before)
  pub kept : (s : Schema) → Good s → before ≡ picture s → (answer ≡ answer_of (rule s)) × (after ≡ base_after before (rule s))

-- a call that puts a list down in an output
pub record Listed (base : List ℕ) (rule : Schema → Outcome (List ℕ)) (answer : Answer) (before after : List ℕ) : Type 0 where
  pub spoiled : (Sound base → ⊥) → (answer ≡ refusal 1) × (after ≡ before)
  pub kept : (s : Schema) → Good s → base ≡ picture s → (answer ≡ answer_of (rule s)) × (after ≡ output_after before (rule s))

-- a call that only answers
pub record Answered (base : List ℕ) (rule : Schema → Outcome (List ℕ)) (answer : Answer) : Type 0 where
  pub spoiled : (Sound base → ⊥) → answer ≡ refusal 1
  pub kept : (s : Schema) → Good s → base ≡ picture s → answer ≡ answer_of (rule s)

-- "the stretch of the lent base" that an answer tells of: where it starts, and how long it is
abbrev pub stretch : List ℕ → Answer → List ℕ
stretch base answer = take answer.two (drop answer.one base)

-- "The name call returns a part of the caller's base, empty on refusal"
pub record Handed (base : List ℕ) (rule : Schema → Outcome (List ℕ)) (part : List ℕ) : Type 0 where
  pub spoiled : (Sound base → ⊥) → part ≡ []
  pub kept : (s : Schema) → Good s → base ≡ picture s → part ≡ stretch base (answer_of (rule s))

-- "Fresh: writes a fresh base over any bytes of the right length."
pub record Freshened (before : List ℕ) (answer : Answer) (after : List ℕ) : Type 0 where
  pub wrong_length : (length before ≡ base_length → ⊥) → (answer ≡ refusal 1) × (after ≡ before)
  pub written : length before ≡ base_length → (answer ≡ success 0 0 0) × (after ≡ picture fresh)

-- ---- the exchange file (02, Q-3)

-- "Output beyond the count is unchanged."
abbrev pub file_after : List ℕ → Outcome (List ℕ) → List ℕ
file_after before (refused n value) = before
file_after before (done one two three file) = file ++ drop (length file) before

-- a call that writes a file to an output
pub record Filed (base : List ℕ) (rule : Schema → Outcome (List ℕ)) (answer : Answer) (before after : List ℕ) : Type 0 where
  pub spoiled : (Sound base → ⊥) → (answer ≡ refusal 1) × (after ≡ before)
  pub kept : (s : Schema) → Good s → base ≡ picture s → (answer ≡ answer_of (rule s)) × (after ≡ file_after before (rule s))

-- "Reading, as fresh does, writes over any bytes of the right length. Refusals: 20 malformed, with the length of the longest start it shares
-- with a well-formed file; 21 well formed but over a limit or not sound; both after 1 and in that order"
pub data ReadIn (before file : List ℕ) (answer : Answer) (after : List ℕ) : Type 0 where
  wrong_length : (length before ≡ base_length → ⊥) → answer ≡ refusal 1 → after ≡ before → ReadIn before file answer after
  malformed : length before ≡ base_length → (WellFormed file → ⊥) → (start : ℕ) → Longest WellFormed file start
      → answer ≡ telling 20 start → after ≡ before → ReadIn before file answer after
  not_sound : length before ≡ base_length → WellFormed file → ((s : Schema) → WrittenAs file s → ⊥)
      → answer ≡ refusal 21 → after ≡ before → ReadIn before file answer after
  read : length before ≡ base_length → (s : Schema) → WrittenAs file s → answer ≡ success 0 0 0 → after ≡ picture s → ReadIn before file answer after
