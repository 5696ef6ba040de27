-- A round over the types: the set p, and what a test m takes besides.
use Rattle.std.specs.Prelude.{ℕ, Bool, ◌&&◌, ◌||◌, ltb}
use Rattle.rules.specs.02-Limits.{limits}

-- p, and the numbers below n that m takes
unfoldable pub grow_to : ℕ → (ℕ → Bool) → (ℕ → Bool) → ℕ → Bool
grow_to n m p k = p k || (ltb k n && m k)

-- p, and every type that m takes: a whole round
abbrev pub grow : (ℕ → Bool) → (ℕ → Bool) → ℕ → Bool
grow = grow_to limits.types
