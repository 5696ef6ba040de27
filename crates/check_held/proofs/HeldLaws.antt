-- A bit of a word tells whether an SDS holds a type. Assumes nothing.
use Prim.Native.Nat.{ℕ, ◌/◌, ◌^◌, ◌≤◌, ◌<◌}
use native.Mathlib.Omega.{arith}
use mathlib.Core.Path.{◌≡◌, refl, sym, ap, ◌∙◌}
use mathlib.Core.List.{List, []}
use mathlib.Core.Bool.{Bool, true, false, true≢false}
use lib.Bits.{bit_and}
use lib.Dec.{ltb, eqb}
use lib.ListN.{get_or, get_or-eq_default}
use borrow.Author.Tests.{ltb-true, ltb-false}
use Rattle.rules.specs.02-Limits.{limits}
use Rattle.rules.specs.04-Schema.{Kind, kind_of, present}
use Rattle.rules.specs.04-Schema.Kind.{object}
use Rattle.rules.specs.Parts.{of_presences}
use Rattle.rules.proofs.Bools.{fails}
use Rattle.rules.proofs.06-Good.{system_lacks}
use Rattle.type_set.specs.Set.{bit}
use Rattle.type_set.proofs.Bit.{bit_zero, bit_masked}
use Rattle.base.specs.Back.{schema_of}
use Rattle.check_held.specs.Held.{Holds, HeldBy}
use Rattle.check_held.specs.Fine.{Shown}

-- what an SDS holds is what the presences say, whatever else there is
pub present_shown : (b : List ℕ) (d t : ℕ) → present (of_presences (schema_of b).presences) d t ≡ present (schema_of b) d t
unfolding present
present_shown b d t = refl

pub held_there : (b : List ℕ) {d e t u : ℕ} → d ≡ e → t ≡ u → present (schema_of b) d t ≡ present (of_presences (schema_of b).presences) e u
held_there b {e = e} {u = u} x y = (λ j. present (schema_of b) (x j) (y j)) ∙ sym (present_shown b e u)

-- the word of any type, whatever its number
pub shows_any : {b held : List ℕ} → Holds b held → (t d : ℕ) → d < 16 → bit (get_or held t 0) d ≡ present (schema_of b) d t
shows_any {b} {held} holds t d h = go (ltb t 128) refl
  where
    go : (x : Bool) → ltb t 128 ≡ x → bit (get_or held t 0) d ≡ present (schema_of b) d t
    go true q = holds.shows t d (ltb-true t 128 q) h
    go false q =
        let past : 128 ≤ t = ltb-false t 128 q in
        ap (λ (w : ℕ). bit w d) (get_or-eq_default held 0 {n = t} (omega (arith, holds.room))) ∙ bit_zero d
        ∙ sym (fails (present (schema_of b) d t) (λ e. omega (arith, (holds.places d t e).1)))

pub held_bit : {held : List ℕ} (d t : ℕ) → d < limits.sdss → t < limits.types → HeldBy held d t (eqb (bit_and (get_or held t 0 / 2 ^ d) 1) 1)
held_bit {held} d t h k = record { is = λ b s. bit_masked (get_or held t 0) d ∙ s.shows t d k h }

module _ {b held : List ℕ} (s : Holds b held) {d t : ℕ} {r : Bool} (h : HeldBy held d t r) where
  pub not_held : r ≡ false → present (schema_of b) d t ≡ true → ⊥
  not_held n e = true≢false (sym e ∙ sym (h.is b s) ∙ n)

  pub is_held : r ≡ true → present (schema_of b) d t ≡ true
  is_held e = sym (h.is b s) ∙ e

-- SDS 0 holds type 0 alone, and so no type of another kind
pub shown_lacks : {b held : List ℕ} → Shown b held → (test : Kind → Bool) → test (object []) ≡ false → (d t : ℕ)
    → test (kind_of (schema_of b) t) ≡ true → present (of_presences (schema_of b).presences) d t ≡ true → d ≡ 0 → ⊥
shown_lacks {b} s test e d t k h =
    system_lacks (schema_of b) s.types.parents.root s.presences.rows.system_alone test e d t k (sym (present_shown b d t) ∙ h)
