-- What is asked of the modes of link types and their reverses, row by row, and what the words keep of the rows passed.
use Rattle.std.specs.Prelude.{ℕ, ◌+◌, ◌*◌, ◌≤◌, ◌<◌, ◌≡◌, List, Bool, length, get_or}
use Rattle.rules.specs.02-Limits.{limits}
use Rattle.rules.specs.04-Schema.{Presence, kind_of}
use Rattle.rules.specs.04-Schema.Kind.{paired}
use Rattle.rules.specs.06-Good.{SameModes}
use Rattle.rules.specs.07-Picture.{base_length}
use Rattle.rows.specs.Decides.{Decides}
use Rattle.base.specs.Back.{schema_of, presence_shown}
use Rattle.lookup.proofs.KindBytes.{reverse_byte}
use Rattle.check_held.specs.Fine.{PresencesFine, TypesFine}

-- what is known where the modes are looked at
pub record Fine (b : List ℕ) : Type 0 where
  pub long : length b ≡ base_length
  pub presences : PresencesFine b
  pub types : TypesFine b

-- a presence's SDS and modes in one number
abbrev pub word : Presence → ℕ
word p = p.sds * 1024 + p.usage * 32 + p.definition

-- row i has the modes of each row before it that is of its type's reverse, in its SDS
pub record Agrees (b : List ℕ) (i : ℕ) : Type 0 where
  pub with_passed : (j : ℕ) → j < i → (presence_shown b i).sds ≡ (presence_shown b j).sds
      → (c : ℕ) → kind_of (schema_of b) (presence_shown b i).type ≡ paired c (presence_shown b j).type → SameModes (presence_shown b i) (presence_shown b j)

-- a word that is not 0 is that of one of the first n rows, and of its type; the word of a row's type that has a reverse is not of an
-- earlier SDS than that row
pub record Keeps (b : List ℕ) (n : ℕ) (words : List ℕ) : Type 0 where
  pub room : length words ≡ limits.types
  pub shown : (t : ℕ) → 0 < get_or words t 0 → (j : ℕ) × (j < n) × ((presence_shown b j).type ≡ t) × (get_or words t 0 ≡ word (presence_shown b j))
  pub passed : (j : ℕ) → j < n → (reverse_byte b (presence_shown b j).type ≡ 0 → ⊥)
      → (presence_shown b j).sds * 1024 ≤ get_or words (presence_shown b j).type 0

-- true where row i agrees; in either case the words keep it too
pub record Agreed (b : List ℕ) (i : ℕ) (words : List ℕ) (r : Bool) : Type 0 where
  pub agrees : Decides (Agrees b i) r
  pub keeps : Keeps b (i + 1) words
