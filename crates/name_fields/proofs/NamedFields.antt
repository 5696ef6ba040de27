-- A field that holds a name: the name, and the bytes that it is written in. Assumes nothing.
use Rattle.std.proofs.Common.{◌≡◌, ℕ, zero, suc, true, List, [], ◌∷◌, get_or, arith}
use mathlib.Core.Bool.{false≢true}
use Rattle.rules.specs.01-Lists.{same_bytes}
use Rattle.rules.specs.02-Limits.{limits}
use Rattle.rules.specs.03-Names.{well_formed}
use Rattle.rules.specs.07-Picture.{pad}
use Rattle.rules.specs.Read.{strip}
use Rattle.rules.proofs.Bools.{and_both, and_of}
use Rattle.rules.proofs.01-Lists.{same_bytes_is, same_bytes_refl}
use Rattle.name_fields.specs.Field.{name_field}

module _ (f : List ℕ) where
  pub name_field_of : well_formed (strip f) ≡ true → pad limits.name (strip f) ≡ f → name_field f ≡ true
  unfolding name_field
  name_field_of w e = and_of (well_formed (strip f)) (same_bytes (pad limits.name (strip f)) f) w (rw e (same_bytes_refl f))

  pub name_field_formed : name_field f ≡ true → well_formed (strip f) ≡ true
  unfolding name_field
  name_field_formed e = (and_both (well_formed (strip f)) (same_bytes (pad limits.name (strip f)) f) e).0

  pub name_field_padded : name_field f ≡ true → pad limits.name (strip f) ≡ f
  unfolding name_field
  name_field_padded e = same_bytes_is (pad limits.name (strip f)) f (and_both (well_formed (strip f)) (same_bytes (pad limits.name (strip f)) f) e).1

-- a name has a first byte
pub formed_first : (f : List ℕ) → well_formed (strip f) ≡ true → get_or f 0 0 ≡ 0 → ⊥
unfolding strip well_formed
formed_first [] w z = false≢true w
formed_first (zero ∷ f) w z = false≢true w
formed_first (suc x ∷ f) w z = absurd (omega arith)
