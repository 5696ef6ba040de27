-- What loading and accepting a file promise, whatever its bytes are.
use Rattle.std.specs.Prelude.{ℕ, ◌≡◌, List, Bool, true, false, length}
use Rattle.rules.specs.04-Schema.{Schema}
use Rattle.rules.specs.07-Picture.{Sound, picture, base_length}
use Rattle.rules.specs.11-File.{file_of, WrittenAs}
use Rattle.base.specs.Back.{schema_of}

-- an area that the file of a good schema was put into shows that schema
pub record Loaded (file area : List ℕ) : Type 0 where
  pub long : length area ≡ base_length
  pub shows : (s : Schema) → WrittenAs file s → area ≡ picture s

-- the bytes are a base, and the file is that base's
pub record ToldBy (area file : List ℕ) : Type 0 where
  pub sound : Sound area
  pub is : file ≡ file_of (schema_of area)

-- r tells whether the file is that of some good schema; then the base shows it, else it is as it was
pub record Accepts (before file : List ℕ) (r : Bool) (after : List ℕ) : Type 0 where
  pub taken : r ≡ true → (s : Schema) × WrittenAs file s × (after ≡ picture s)
  pub left : r ≡ false → ((s : Schema) → WrittenAs file s → ⊥) × (after ≡ before)
