-- The modes call, test by test, and what it tells. Assumes nothing.
use Prim.Native.Nat.{ℕ}
use mathlib.Core.Path.{◌≡◌, refl, ap}
use mathlib.Core.List.{List, []}
use mathlib.Core.Bool.{Bool, ◌&&◌}
use lib.Dec.{eqb}
use Rattle.rules.specs.01-Lists.{any, among}
use Rattle.rules.specs.04-Schema.{Schema, Presence, Modes, has_mode}
use Rattle.rules.specs.09-Refusals.{Outcome}
use Rattle.rules.specs.09-Refusals.Outcome.{done}
use Rattle.rules.specs.11-Asks.{marks, mode_listed, modes_under, modes_refusals, modes_of}
use Rattle.rules.proofs.09-Refusals.{Left}
use Rattle.visible.specs.Shown.{joined}

abbrev pub modes_effect : List ℕ → ℕ → Schema → Outcome (List ℕ)
modes_effect w t s = done (modes_under (λ p. p.usage) w t s) (modes_under (λ p. p.definition) w t s) 0 []

-- before the first test
pub modes_left : (w : List ℕ) (t : ℕ) (s : Schema) → Left (modes_of w t s) (modes_refusals w t s) (modes_effect w t s)
unfolding modes_of
modes_left w t s = record { is = refl }

-- what is joined over the SDSs of the word is what the list shows
pub joined_under : (sdss : ℕ → Bool) (w : List ℕ) → ((k : ℕ) → sdss k ≡ among w k) → (modes : Presence → Modes) (t : ℕ) (s : Schema)
    → joined sdss t modes s.presences ≡ modes_under modes w t s
unfolding mode_listed
joined_under sdss w e modes t s =
    ap (marks 0 5) (λ i m. any (λ p. e p.sds i && (eqb p.type t && has_mode (modes p) m)) s.presences)
