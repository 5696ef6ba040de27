-- What is said to a line, and what becomes of the base.
use Rattle.std.specs.Prelude.{ℕ, ◌≤◌, ◌≡◌, List, length, take}
use Rattle.rules.specs.04-Schema.{Schema}
use Rattle.rules.specs.07-Picture.{Sound, picture, base_length}
use Rattle.rules.specs.14-Run.{Reply, reply}
use Rattle.base.specs.Back.{schema_of}

-- on a sound base the line that is printed, r bytes of it, and the base are what the rule says; on any other only lengths are kept
pub record Says (rule : Schema → Reply) (b b' out out' : List ℕ) (r : ℕ) : Type 0 where
  pub long : length b' ≡ base_length
  pub room : length out' ≡ length out
  pub within : r ≤ length out'
  pub said : Sound b → (take r out' ≡ (rule (schema_of b)).line) × (b' ≡ picture (rule (schema_of b)).next)

-- the same of the reply to a line, which is r bytes long
pub record Replied (b line b' out out' : List ℕ) (r : ℕ) : Type 0 where
  pub long : length b' ≡ base_length
  pub room : length out' ≡ length out
  pub within : r ≤ length out'
  pub said : Sound b → (take r out' ≡ (reply line (schema_of b)).line)
      × (r ≡ length (reply line (schema_of b)).line) × (b' ≡ picture (reply line (schema_of b)).next)
