-- The kinds that apply and unapply test; then what is left of each, and its effect. Assumes nothing.
use Prim.Native.Nat.{ℕ, ◌+◌, ◌≤◌, ◌<◌}
use native.Mathlib.Omega.{arith}
use mathlib.Core.Path.{◌≡◌, refl, sym, ap, ◌∙◌}
use mathlib.Core.List.{List, [], ◌∷◌, ◌++◌}
use mathlib.Core.Bool.{Bool, true, false, not, ◌&&◌, ◌||◌}
use lib.Dec.{eqb, ltb}
use lib.ListN.{length}
use borrow.Author.Tests.{lt-ltb, le-ltb}
use Rattle.rules.specs.01-Lists.{all, without, put}
use Rattle.rules.specs.02-Limits.{limits}
use Rattle.rules.specs.03-Names.{Name}
use Rattle.rules.specs.04-Schema.{Schema, Application, kind_of, is_attribute, type_named, applied, is_application, with_applications, kind_code}
use Rattle.rules.specs.06-Good.{application_before}
use Rattle.rules.specs.07-Picture.{Sound, picture}
use Rattle.rules.specs.09-Refusals.{Outcome, ◌when◌, Refusals, malformed, no_object, no_attribute, no_link, applications_full}
use Rattle.rules.specs.09-Refusals.Outcome.{done}
use Rattle.rules.specs.10-Changes.{application_refusals, apply, unapply}
use Rattle.rules.proofs.Bools.{or_left}
use Rattle.rules.proofs.09-Refusals.{Left}
use Rattle.rows.specs.Rows.{Counted}
use Rattle.base.specs.Back.{schema_of, application_count, application_shown}
use Rattle.lookup.specs.Found.{FirstRow}
use Rattle.base.specs.Stored.{less_row, Shows}
use Rattle.base.proofs.Shown.{applications_long}
use Rattle.base.proofs.StoredLaws.{sound_stored}
use Rattle.edit.proofs.TakenLaws.{application_without}
use Rattle.base.specs.Tested.{Tested}
use Rattle.base.proofs.TestedLaws.{begun_passes}
use Rattle.conditions.specs.Aimed.{aim_refusals, Both}
use Rattle.conditions.proofs.ConditionLaws.{applied_row}
use Rattle.change_applications.specs.Applying.{wrong_kind, kind_refusals}

-- ---- the kinds, by their codes

module _ (b : List ℕ) (a t : ℕ) {x : Bool} (e : x ≡ eqb (kind_code (kind_of (schema_of b) a)) 2) where
  pub wrong_attribute : x ≡ false → true ≡ wrong_kind (schema_of b) a t
  unfolding no_attribute
  wrong_attribute q =
      sym (or_left (not (is_attribute (kind_of (schema_of b) a))) (no_object (schema_of b) t && no_link (schema_of b) t)
      (ap not (sym e ∙ q)))

  module _ (q : x ≡ true) {y : Bool} (f : y ≡ eqb (kind_code (kind_of (schema_of b) t)) 1) where
    pub right_object : y ≡ true → false ≡ wrong_kind (schema_of b) a t
    unfolding no_attribute no_object
    right_object p = rw (ap not (sym e ∙ q), sym f ∙ p)

    pub link_or_wrong : y ≡ false → {z : Bool} → z ≡ eqb (kind_code (kind_of (schema_of b) t)) 3 → not z ≡ wrong_kind (schema_of b) a t
    unfolding no_attribute no_object no_link
    link_or_wrong p g = rw (ap not (sym e ∙ q), sym f ∙ p) (ap not g)

-- of the types that were found, and so of those that are named
pub wrong_named : {b : List ℕ} {d : ℕ} {a n : Name} {u t : ℕ} → Both b d a n u t → {r : Bool} → r ≡ wrong_kind (schema_of b) u t
    → wrong_kind (schema_of b) (type_named (schema_of b) d a) (type_named (schema_of b) d n) ≡ r
wrong_named {b} x q = sym (q ∙ (λ i. wrong_kind (schema_of b) (x.one.named i) (x.two.named i)))

-- ---- the two rules

abbrev pub with_application : ℕ → ℕ → ℕ → Schema → Schema
with_application d t a s = with_applications s (put application_before (record { sds = d; to = t; attribute = a }) s.applications)

abbrev pub less_application : ℕ → ℕ → ℕ → Schema → Schema
less_application d t a s = with_applications s (without (is_application d t a) s.applications)

-- what the rules test besides
abbrev pub apply_rest : ℕ → Name → Name → Schema → Refusals
apply_rest d a n s = (9 when applied s d (type_named s d n) (type_named s d a)) ∷ (14 when applications_full s 1) ∷ []

abbrev pub unapply_rest : ℕ → Name → Name → Schema → Refusals
unapply_rest d a n s = (13 when not (applied s d (type_named s d n) (type_named s d a))) ∷ []

module _ (d : ℕ) (a n : Name) (s : Schema) where
  pub apply_left : Left (apply d a n s) (application_refusals d a n s ++ apply_rest d a n s)
      (done 0 0 0 (with_application d (type_named s d n) (type_named s d a) s))
  unfolding apply
  apply_left = record { is = refl }

  pub unapply_left : Left (unapply d a n s) (application_refusals d a n s ++ unapply_rest d a n s)
      (done 0 0 0 (less_application d (type_named s d n) (type_named s d a) s))
  unfolding unapply
  unapply_left = record { is = refl }

-- what is left of either once the SDS and the names have passed, and then the types
module _ {b : List ℕ} (d : ℕ) (a n : Name) (aimed : Tested b (aim_refusals (schema_of b) d (malformed a || malformed n)) 0 0)
    {o effect : Outcome Schema} {rest : Refusals} where
  pub past_aimed : Left o (application_refusals d a n (schema_of b) ++ rest) effect → Left o (kind_refusals (schema_of b) d a n ++ rest) effect
  unfolding all
  past_aimed left = begun_passes _ aimed refl refl left

  pub past_kinds : Tested b (kind_refusals (schema_of b) d a n) 0 0 → Left o (application_refusals d a n (schema_of b) ++ rest) effect
      → Left o rest effect
  unfolding all
  past_kinds kinds left = begun_passes _ kinds refl refl (past_aimed left)

-- the types are those that were found
module _ {b : List ℕ} {d : ℕ} {a n : Name} {u t : ℕ} (x : Both b d a n u t) where
  pub same_types : {A : Type 0} (f : ℕ → ℕ → A) → f t u ≡ f (type_named (schema_of b) d n) (type_named (schema_of b) d a)
  same_types f = λ i. f (x.two.named i) (x.one.named i)

  pub same_applied : {r : Bool} → r ≡ applied (schema_of b) d t u
      → r ≡ applied (schema_of b) d (type_named (schema_of b) d n) (type_named (schema_of b) d a)
  same_applied e = e ∙ same_types (applied (schema_of b) d)

  pub put_down : {b₁ : List ℕ} → Shows b₁ (with_application d t u (schema_of b))
      → b₁ ≡ picture (with_application d (type_named (schema_of b) d n) (type_named (schema_of b) d a) (schema_of b))
  put_down o = o.shown ∙ same_types (λ y z. picture (with_application d y z (schema_of b)))

  module _ {r : ℕ} (found : FirstRow (application_count b) (λ i. is_application d t u (application_shown b i)) r) where
    -- whether there is a row
    row_told : ltb r (application_count b) ≡ applied (schema_of b) d (type_named (schema_of b) d n) (type_named (schema_of b) d a)
    row_told = same_applied (applied_row b d t u refl found)

    pub row_none : application_count b ≤ r → not (applied (schema_of b) d (type_named (schema_of b) d n) (type_named (schema_of b) d a)) ≡ true
    row_none h = ap not (sym row_told ∙ le-ltb r (application_count b) h)

    pub row_some : r < application_count b → not (applied (schema_of b) d (type_named (schema_of b) d n) (type_named (schema_of b) d a)) ≡ false
    row_some h = ap not (sym row_told ∙ lt-ltb r (application_count b) h)

    row_gone : Sound b → r < application_count b
        → without (is_application d t u) (schema_of b).applications ≡ less_row r (schema_of b).applications
    row_gone sound h = application_without (sound_stored sound) r d t u h (found.found h)

    pub taken_off : Sound b → r < application_count b → {b₁ : List ℕ} → Shows b₁ (with_applications (schema_of b) (less_row r (schema_of b).applications))
        → b₁ ≡ picture (less_application d (type_named (schema_of b) d n) (type_named (schema_of b) d a) (schema_of b))
    taken_off sound h o =
        o.shown ∙ ap (λ (l : List Application). picture (with_applications (schema_of b) l)) (sym (row_gone sound h))
        ∙ same_types (λ y z. picture (less_application d y z (schema_of b)))

-- room for one more
module _ (b : List ℕ) {k : ℕ} (c : Counted (application_count b) limits.applications k) where
  pub full : 256 ≤ k → applications_full (schema_of b) 1 ≡ true
  unfolding applications_full
  full h = lt-ltb 256 (length (schema_of b).applications + 1) (omega (arith, applications_long b, c.is))

  pub room : k < 256 → applications_full (schema_of b) 1 ≡ false
  unfolding applications_full
  room h = le-ltb 256 (length (schema_of b).applications + 1) (omega (arith, applications_long b, c.is))

  pub room_left : k < 256 → length (schema_of b).applications < limits.applications
  room_left h = omega (arith, applications_long b, c.is)
