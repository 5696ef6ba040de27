-- The find call, test by test. Assumes nothing.
use Prim.Native.Nat.{ℕ}
use native.Mathlib.Omega.{arith}
use mathlib.Core.Path.{◌≡◌, refl, ap}
use mathlib.Core.List.{List, []}
use mathlib.Core.Bool.{Bool, true, false, not}
use Rattle.rules.specs.01-Lists.{first}
use Rattle.rules.specs.03-Names.{Name, well_formed}
use Rattle.rules.specs.04-Schema.{Schema, bears, type_named}
use Rattle.rules.specs.09-Refusals.{Outcome, malformed, no_name_listed}
use Rattle.rules.specs.09-Refusals.Outcome.{done}
use Rattle.rules.specs.11-Asks.{find, find_refusals}
use Rattle.rules.proofs.09-Refusals.{Left}
use Rattle.working.specs.Listed.{NamedFirst}

abbrev pub find_effect : List ℕ → Name → Schema → Outcome (List ℕ)
find_effect w n s = done (type_named s (first (λ d. bears s d n) 0 w) n) 0 0 []

-- before the first test
pub find_left : (w : List ℕ) (n : Name) (s : Schema) → Left (find w n s) (find_refusals w n s) (find_effect w n s)
unfolding find
find_left w n s = record { is = refl }

pub well_named : (n : Name) → well_formed n ≡ true → malformed n ≡ false
unfolding malformed
well_named n e = ap not e

pub ill_named : (n : Name) → well_formed n ≡ false → malformed n ≡ true
unfolding malformed
ill_named n e = ap not e

module _ {s : Schema} {w : List ℕ} {n : Name} {r : ℕ} (found : NamedFirst s w n r) where
  -- what was handed back tells whether the name is there
  pub named : (r ≡ 128 → ⊥) → no_name_listed s w n ≡ false
  named h = go (no_name_listed s w n) refl
    where
      go : (x : Bool) → no_name_listed s w n ≡ x → no_name_listed s w n ≡ false
      go true e = absurd (h (found.none e))
      go false e = e

  pub nameless : r ≡ 128 → no_name_listed s w n ≡ true
  nameless h = go (no_name_listed s w n) refl
    where
      go : (x : Bool) → no_name_listed s w n ≡ x → no_name_listed s w n ≡ true
      go true e = e
      go false e = absurd (let (u, q) = found.found e in omega arith)
