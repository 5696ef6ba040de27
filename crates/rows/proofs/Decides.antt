-- Answers of a test. Assumes nothing.
use Rattle.std.proofs.Common.{◌≡◌, Bool, true, false, sym, ◌∙◌, true≢false}
use mathlib.Core.Bool.{false≢true}
use Rattle.rows.specs.Decides.{Decides}

pub decides_no : {P : Type 0} → (P → ⊥) → Decides P false
decides_no n = record { holds = λ e. absurd (false≢true e); fails = λ e p. n p }

pub decides_yes : {P : Type 0} → P → Decides P true
decides_yes p = record { holds = λ e. p; fails = λ e q. true≢false e }

-- P and Q hold together
pub decides_iff : {P Q : Type 0} {r : Bool} → (P → Q) → (Q → P) → Decides P r → Decides Q r
decides_iff f g d = record { holds = λ e. f (d.holds e); fails = λ e q. d.fails e (g q) }

-- a test that is equal to a definition decides that this is true
pub decides_test : {r t : Bool} → r ≡ t → Decides (t ≡ true) r
decides_test e = record { holds = λ h. sym e ∙ h; fails = λ h q. true≢false (sym q ∙ sym e ∙ h) }
