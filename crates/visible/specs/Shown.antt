-- What a set of SDSs shows.
use Rattle.std.specs.Prelude.{ℕ, ◌<◌, ◌≡◌, List, Bool, true, ◌&&◌, eqb}
use Rattle.rules.specs.01-Lists.{any}
use Rattle.rules.specs.04-Schema.{Schema, Presence, Modes, has_mode}
use Rattle.rules.specs.11-Asks.{marks}

-- k is the type that some row which passes puts in
unfoldable pub gathered : {A : Type 0} → (A → Bool) → (A → ℕ) → List A → ℕ → Bool
gathered test type rows k = any (λ x. test x && eqb k (type x)) rows

-- the modes that presences of type t in these SDSs have
abbrev pub joined : (ℕ → Bool) → ℕ → (Presence → Modes) → List Presence → Modes
joined sdss t modes ps = marks 0 5 (λ m. any (λ p. sdss p.sds && (eqb p.type t && has_mode (modes p) m)) ps)

-- k is in one of these SDSs
abbrev pub held_in : Schema → (ℕ → Bool) → ℕ → Bool
held_in s sdss = gathered (λ p. sdss p.sds) (λ p. p.type) s.presences

-- p has what the rows below n put in: of each row that passes the type that it has, and no other. `passes` and `value` say what a row may
-- answer
pub record Gathers (n : ℕ) (passes : ℕ → Bool → Type 0) (value : ℕ → ℕ → Type 0) (p : ℕ → Bool) : Type 0 where
  pub marked : (i : ℕ) → i < n → (x : Bool) × passes i x × (x ≡ true → (t : ℕ) × value i t × (p t ≡ true))
  pub marks : (k : ℕ) → p k ≡ true → (i : ℕ) × (i < n) × passes i true × value i k
