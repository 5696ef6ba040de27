-- What a search by name under a list of SDSs finds.
use Rattle.std.specs.Prelude.{ℕ, ◌<◌, ◌≡◌, List, true, false}
use Rattle.rules.specs.01-Lists.{first}
use Rattle.rules.specs.03-Names.{Name}
use Rattle.rules.specs.04-Schema.{Schema, bears, type_named}
use Rattle.rules.specs.09-Refusals.{no_name_listed}

-- r is the type that bears the name in the first listed SDS that has it, as many as there are types where none has it
pub record NamedFirst (s : Schema) (w : List ℕ) (n : Name) (r : ℕ) : Type 0 where
  pub found : no_name_listed s w n ≡ false → (r < 128) × (r ≡ type_named s (first (λ d. bears s d n) 0 w) n)
  pub none : no_name_listed s w n ≡ true → r ≡ 128
