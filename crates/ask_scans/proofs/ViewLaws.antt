-- The view of a call: its refusals test by test, and what it looks through where none holds. Assumes nothing.
use Prim.Native.Nat.{ℕ, ◌<◌}
use native.Mathlib.Omega.{arith}
use mathlib.Core.Path.{◌≡◌, refl, sym, ap, ◌∙◌}
use mathlib.Core.List.{List, ◌++◌}
use mathlib.Core.Bool.{Bool, true, false, not, true≢false}
use lib.Dec.{leb}
use lib.ListN.{length, get_or}
use borrow.Author.Tests.{not-false}
use Rattle.std.specs.Prelude.{Ok, Err}
use Rattle.rules.specs.declared.Refused.{Refused}
use Rattle.rules.specs.01-Lists.{any, all}
use Rattle.rules.specs.02-Limits.{limits}
use Rattle.rules.specs.04-Schema.{used_sds}
use Rattle.rules.specs.07-Picture.{Sound}
use Rattle.rules.specs.08-Working.{visible}
use Rattle.rules.specs.09-Refusals.{Outcome, Refusals, unknown_sds, not_visible, number_of, value_of}
use Rattle.rules.proofs.Bools.{or_neither}
use Rattle.rules.proofs.01-Lists.{any_at, place_in}
use Rattle.rules.proofs.05-Descent.{used_below}
use Rattle.rules.proofs.08-Working.{visible_used}
use Rattle.rules.proofs.09-Refusals.{Left}
use Rattle.base.specs.Back.{schema_of}
use Rattle.base.specs.Tested.{Tested}
use Rattle.base.proofs.Back.{sound_good}
use Rattle.base.proofs.Kept.{sound_long}
use Rattle.base.proofs.TestedLaws.{begun_passes}
use Rattle.lookup.proofs.SdsShown as SdsShown
use Rattle.ask_scans.specs.View.{type_refusals, Viewed}

pub not_viewed : {b w : List ℕ} {t : ℕ} {link known : Bool} (e : Refused)
    → Tested b (type_refusals (schema_of b) w t link known) (number_of e) (value_of e) → Viewed b w t link known (Err e)
not_viewed e r = record { told = r; code_known = tt; through = tt }

-- ---- what the tests say

module _ {b : List ℕ} (s : Sound b) where
  pub visible_below : (w : List ℕ) (t : ℕ) → visible (schema_of b) w t ≡ true → t < 128
  visible_below w t e = used_below (sound_good s) t (visible_used (sound_good s) w t e)

  -- every number of a list of SDSs is one of an SDS, and so small
  pub listed_sds : (w : List ℕ) → any (unknown_sds (schema_of b)) w ≡ false → (i : ℕ) → i < length w → get_or w i 0 < limits.sdss
  unfolding unknown_sds
  listed_sds w e i h =
      let d = get_or w i 0 in
      let known : unknown_sds (schema_of b) d ≡ false
      = not_all (unknown_sds (schema_of b) d) (λ q. any_at (unknown_sds (schema_of b)) (place_in 0 w i h) q) in
      let used : not (used_sds (schema_of b) d) ≡ false = (or_neither (leb 16 d) (not (used_sds (schema_of b) d)) known).1 in
      omega (arith, SdsShown.used_below b (sound_long s) d (not-false (used_sds (schema_of b) d) used))
    where
      not_all : (x : Bool) → (x ≡ true → any (unknown_sds (schema_of b)) w ≡ true) → x ≡ false
      not_all true f = absurd (true≢false (sym (f refl) ∙ e))
      not_all false f = refl

  pub listed_small : (w : List ℕ) → any (unknown_sds (schema_of b)) w ≡ false → (i : ℕ) → i < length w → get_or w i 0 < 128
  listed_small w e i h = omega (arith, listed_sds w e i h)

module _ (b w : List ℕ) (t : ℕ) where
  pub not_seen : {x : Bool} → x ≡ visible (schema_of b) w t → not x ≡ true → not_visible (schema_of b) w t ≡ true
  unfolding not_visible
  not_seen e f = ap not (sym e) ∙ f

  pub seen : {x : Bool} → x ≡ visible (schema_of b) w t → not x ≡ false → not_visible (schema_of b) w t ≡ false
  unfolding not_visible
  seen e f = ap not (sym e) ∙ f

-- ---- of refusals that begin with these, the others are left where none of them holds

pub viewed_passes : {Made : Type 0} {o effect : Outcome Made} {b w : List ℕ} {t : ℕ} {link known : Bool} {listed : ℕ} → Viewed b w t link known (Ok listed)
    → (rest : Refusals) → Left o (type_refusals (schema_of b) w t link known ++ rest) effect → Left o rest effect
unfolding all
viewed_passes viewed rest l = begun_passes rest viewed.told refl refl l
