-- What the calls that ask about a type have tested of their inputs.
use Rattle.std.specs.Prelude.{ℕ, ◌<◌, ◌≡◌, List, [], ◌∷◌, Bool, true, false, not, Result, IfOk, OnOk}
use Rattle.rules.specs.01-Lists.{any, among, repeated}
use Rattle.rules.specs.04-Schema.{Schema, Kind, kind_of, is_object, is_link}
use Rattle.rules.specs.07-Picture.{Sound}
use Rattle.rules.specs.declared.Refused.{Refused}
use Rattle.rules.specs.09-Refusals.{◌when◌, Refusals, unknown_sds, not_visible}
use Rattle.base.specs.Back.{schema_of}
use Rattle.base.specs.Tested.{Tests}
use Rattle.type_set.specs.Set.{bit}
use Rattle.visible.specs.Shown.{held_in}

-- the kind that is asked about
abbrev pub of_kind : Bool → Kind → Bool
of_kind true k = is_link k
of_kind false k = is_object k

-- the refusals that all these calls share, but for 1
abbrev pub type_refusals : Schema → List ℕ → ℕ → Bool → Bool → Refusals
type_refusals s w t link known =
    (2 when any (unknown_sds s) w)
    ∷ (5 when not known)
    ∷ (6 when not_visible s w t)
    ∷ (7 when not (of_kind link (kind_of s t)))
    ∷ (8 when repeated w)
    ∷ []

-- what a call looks through where none holds
pub record Through (b w : List ℕ) (t : ℕ) (link : Bool) (word : ℕ) : Type 0 where
  pub sound : Sound b
  pub below : t < 128
  pub kind : of_kind link (kind_of (schema_of b) t) ≡ true
  pub listed : (d : ℕ) → bit word d ≡ among w d
  pub held : held_in (schema_of b) (bit word) t ≡ true

pub record Viewed (b w : List ℕ) (t : ℕ) (link known : Bool) (r : Result ℕ Refused) : Type 0 where
  pub told : Tests b (type_refusals (schema_of b) w t link known) r
  pub code_known : OnOk r (known ≡ true)
  pub through : IfOk r (λ listed. Through b w t link listed)
