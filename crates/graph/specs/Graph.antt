-- A way up goes from a type to a parent of it, and so on. A type is settled where every way up from it is known to end; no type is its
-- own ancestor exactly where all can be settled.
use Rattle.std.specs.Prelude.{ℕ, ◌≡◌, List, [], ◌∷◌, Bool, true, false}
use Rattle.rules.specs.04-Schema.{Schema}
use Rattle.rules.specs.05-Descent.{Parent}

-- where a way up from t has come to: l are the types on it above t, the last first
abbrev pub reached : ℕ → List ℕ → ℕ
reached t [] = t
reached t (a ∷ l) = a

-- a is a parent of t that is not in p
pub record Unsettled (s : Schema) (p : ℕ → Bool) (t a : ℕ) : Type 0 where
  pub parent : Parent s t a
  pub out : p a ≡ false

-- all parents of t are in p
abbrev pub AllSettled : Schema → (ℕ → Bool) → ℕ → Type 0
AllSettled s p t = (a : ℕ) → Parent s t a → p a ≡ true

-- every way up from t ends, whichever parents it takes
pub data Grounded (s : Schema) : ℕ → Type 0 where
  ground : {t : ℕ} → ((a : ℕ) → Parent s t a → Grounded s a) → Grounded s t

-- every way up from a type of p ends
abbrev pub AllGrounded : Schema → (ℕ → Bool) → Type 0
AllGrounded s p = (k : ℕ) → p k ≡ true → Grounded s k

-- q has what p has, and t, and every way up from one of its types ends
pub record Settled (s : Schema) (p : ℕ → Bool) (t : ℕ) (q : ℕ → Bool) : Type 0 where
  pub kept : (k : ℕ) → p k ≡ true → q k ≡ true
  pub here : q t ≡ true
  pub grounded : AllGrounded s q
