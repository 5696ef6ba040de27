-- "Ancestors are what parents reach in one or more steps; descendants are the converse. Depth is the greatest number of parent
-- steps from a type up to type 0."
use Rattle.std.specs.Prelude.{ℕ, zero, suc, List, Bool, false, ◌||◌, eqb}
use Rattle.rules.specs.01-Lists.{◌∈◌, any, greatest, numbers}
use Rattle.rules.specs.02-Limits.{limits}
use Rattle.rules.specs.04-Schema.{Schema, parents}

pub record Parent (s : Schema) (t a : ℕ) : Type 0 where
  pub listed : a ∈ parents s t

-- t descends from a, and a is an ancestor of t
pub data Descends (s : Schema) : ℕ → ℕ → Type 0 where
  by_parent : {t a : ℕ} → Parent s t a → Descends s t a
  by_step : {t p a : ℕ} → Parent s t p → Descends s p a → Descends s t a

-- n parent steps from t up to type 0
pub data Chain (s : Schema) : ℕ → ℕ → Type 0 where
  at_root : Chain s 0 0
  up : {t p n : ℕ} → Parent s t p → Chain s p n → Chain s t (suc n)

-- ---- the same, as tests that can be run: proofs/05-Descent shows that they agree on every good schema

-- a is reached from t in one to n steps
unfoldable pub climbs : Schema → ℕ → ℕ → ℕ → Bool
climbs s zero t a = false
climbs s (suc n) t a = any (λ p. eqb p a || climbs s n p a) (parents s t)

-- no way up is longer than there are types
unfoldable pub descends : Schema → ℕ → ℕ → Bool
descends s t a = climbs s limits.types t a

-- the greatest number of steps from t, n of them at most
unfoldable pub height : Schema → ℕ → ℕ → ℕ
height s zero t = 0
height s (suc n) t = greatest (λ p. suc (height s n p)) (parents s t)

unfoldable pub depth : Schema → ℕ → ℕ
depth s t = height s limits.types t

-- "Lists come in rising type number, each once": the type numbers that pass
unfoldable pub members : (ℕ → Bool) → List ℕ
members p = numbers 0 limits.types p
