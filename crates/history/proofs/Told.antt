-- "This amends 01's rule that a refusal returns zeros, for these numbers alone" (02, Q-1): 12, 16, 17 and 18 tell the lowest type that
-- stands in the way, every other number zeros; and a removal with nothing in its way is done. Assumes nothing.
use Prim.Native.Nat.{ℕ, ◌<◌}
use native.Mathlib.Omega.{arith}
use mathlib.Core.Path.{◌≡◌, refl}
use mathlib.Core.Logic.{⊎_elim}
use mathlib.Core.List.{List, [], ◌∷◌}
use mathlib.Core.Bool.{Bool, true, false, cond, ◌&&◌}
use lib.Dec.{eqb}
use lib.ListN.{set}
use borrow.Author.Tests.{eqb-true}
use Rattle.rules.specs.01-Lists.{any}
use Rattle.rules.specs.03-Names.{Name}
use Rattle.rules.specs.04-Schema.{Schema, Side, present, applied, is_application, has_end, is_end, side_code, with_reverse, type_named}
use Rattle.rules.specs.04-Schema.{with_sdss}
use Rattle.rules.specs.06-Good.{Good}
use Rattle.rules.specs.09-Refusals.{Outcome, Refusal, Refusals, ◌held_by◌, verdict, unknown_sds, system_sds, malformed, no_such_name}
use Rattle.rules.specs.09-Refusals.{types_in, child_there, applied_there, end_of, end_there, in_the_way}
use Rattle.rules.specs.09-Refusals.Outcome.{refused, done}
use Rattle.rules.specs.10-Changes as Changes
use Rattle.rules.proofs.Bools.{and_both, or_cases}
use Rattle.rules.proofs.01-Lists.{any_where}
use Rattle.rules.proofs.09-Refusals.{Refusing, told_passes, told_lowest, of_side}

-- so of each refusal whose condition holds
data Each (P : ℕ → ℕ → Type 0) : Refusals → Type 0 where
  none : Each P []
  more : {r : Refusal} {rs : Refusals} → (r.holds ≡ true → P r.no r.value) → Each P rs → Each P (r ∷ rs)

-- so of the verdict
verdict_tells : (P : ℕ → ℕ → Type 0) {rs : Refusals} (effect : Outcome Schema) → Each P rs → Refusing P effect → Refusing P (verdict rs effect)
unfolding verdict
verdict_tells P effect none so = so
verdict_tells P effect (more {r = r} {rs = rs} one others) so = go r.holds refl (verdict_tells P effect others so)
  where
    go : (x : Bool) → r.holds ≡ x → Refusing P (verdict rs effect) → Refusing P (cond x (refused r.no r.value) (verdict rs effect))
    go true e rest = one e
    go false e rest = rest

-- ---- a removal that is refused

-- type v is in SDS d and holds there, and no lower type does
pub record LowestThere (s : Schema) (d : ℕ) (holds : ℕ → Bool) (v : ℕ) : Type 0 where
  pub there : present s d v ≡ true
  pub stands : holds v ≡ true
  pub lowest : (x : ℕ) → x < v → holds x ≡ false

-- by which number the removal of ts from SDS d is refused, and what it tells
pub data TypeTold (s : Schema) (d : ℕ) (ts : List ℕ) : ℕ → ℕ → Type 0 where
  zeros : {n : ℕ} → n < 12 → TypeTold s d ts n 0
  child : {v : ℕ} → LowestThere s d (λ x. any (λ t. child_there s d t x) ts) v → TypeTold s d ts 16 v
  application : {v : ℕ} → LowestThere s d (λ x. any (λ t. applied_there s d t x) ts) v → TypeTold s d ts 17 v
  end : {v : ℕ} → LowestThere s d (λ x. any (λ t. end_there s d t x) ts) v → TypeTold s d ts 18 v

pub data SdsTold (s : Schema) (d : ℕ) : ℕ → ℕ → Type 0 where
  zeros : {n : ℕ} → n < 12 → SdsTold s d n 0
  type : {v : ℕ} → LowestThere s d (present s d) v → SdsTold s d 12 v

module _ {s : Schema} (good : Good s) (d : ℕ) where
  child_present : (t x : ℕ) → child_there s d t x ≡ true → present s d x ≡ true
  unfolding child_there
  child_present t x e = (and_both _ _ e).0

  -- both types of an application, and of an end, are there
  applied_present : (t a : ℕ) → applied s d t a ≡ true → (present s d t ≡ true) × (present s d a ≡ true)
  unfolding applied
  applied_present t a e =
      let (x, i, f) = any_where (is_application d t a) s.applications e in
      let (g, h) = and_both (eqb x.sds d) (eqb x.to t && eqb x.attribute a) f in
      let (j, k) = and_both (eqb x.to t) (eqb x.attribute a) h in
      let (l, m) = and_both (present s x.sds x.to) (present s x.sds x.attribute) (good.application_present x i) in
      (rw (eqb-true x.sds d g, eqb-true x.to t j) at l, rw (eqb-true x.sds d g, eqb-true x.attribute a k) at m)

  end_present : (l : ℕ) (side : Side) (o : ℕ) → has_end s d l side o ≡ true → (present s d l ≡ true) × (present s d o ≡ true)
  unfolding has_end
  end_present l side o e =
      let (x, i, f) = any_where (is_end d l side o) s.ends e in
      let at_Side = eqb (side_code x.side) (side_code side) in
      let (g, h) = and_both (eqb x.sds d) (eqb x.link l && (at_Side && eqb x.object o)) f in
      let (j, k) = and_both (eqb x.link l) (at_Side && eqb x.object o) h in
      let (_, n) = and_both at_Side (eqb x.object o) k in
      let (p, q) = and_both (present s x.sds x.link) (present s x.sds x.object) (good.end_present x i) in
      (rw (eqb-true x.sds d g, eqb-true x.link l j) at p, rw (eqb-true x.sds d g, eqb-true x.object o n) at q)

  either_end : (l o : ℕ) → end_of s d l o ≡ true → (present s d l ≡ true) × (present s d o ≡ true)
  either_end l o e = let (side, f) = of_side s d l o e in end_present l side o f

  application_there : (t x : ℕ) → applied_there s d t x ≡ true → present s d x ≡ true
  unfolding applied_there
  application_there t x e = ⊎_elim (λ f. (applied_present x t f).0) (λ f. (applied_present t x f).1) (or_cases _ _ e)

  ends_there : (t x : ℕ) → end_there s d t x ≡ true → present s d x ≡ true
  unfolding end_there
  ends_there t x e = ⊎_elim (λ f. (either_end x t f).0) (λ f. (either_end t x f).1) (or_cases _ _ e)

  in_way : (n : ℕ) (holds : ℕ → ℕ → Bool) (ts : List ℕ) → ((t x : ℕ) → holds t x ≡ true → present s d x ≡ true)
      → (n held_by in_the_way holds ts).holds ≡ true → LowestThere s d (λ x. any (λ t. holds t x) ts) (n held_by in_the_way holds ts).value
  unfolding in_the_way
  in_way n holds ts there e =
      let stands = told_passes n (λ x. any (λ t. holds t x) ts) e in
      record {
        there = let (t, _, f) = any_where (λ t. holds t _) ts stands in there t _ f;
        stands = stands;
        lowest = told_lowest n (λ x. any (λ t. holds t x) ts) e;
      }

  obstacles_tell : (t : ℕ) → Each (TypeTold s d (with_reverse s t)) (Changes.obstacles d t s)
  obstacles_tell t =
      more (λ e. child (in_way 16 (child_there s d) _ child_present e))
      (more (λ e. application (in_way 17 (applied_there s d) _ application_there e))
      (more (λ e. end (in_way 18 (end_there s d) _ ends_there e)) none))

  pub remove_type_tells : (n : Name) → Refusing (TypeTold s d (with_reverse s (type_named s d n))) (Changes.remove_type d n s)
  unfolding Changes.remove_type
  remove_type_tells n =
      verdict_tells (TypeTold s d (with_reverse s (type_named s d n))) _
      (more (λ _. zeros (omega arith))
      (more (λ _. zeros (omega arith))
      (more (λ _. zeros (omega arith))
      (more (λ _. zeros (omega arith)) (obstacles_tell (type_named s d n)))))) tt

  pub remove_number_tells : (t : ℕ) → Refusing (TypeTold s d (with_reverse s t)) (Changes.remove_number d t s)
  unfolding Changes.remove_number
  remove_number_tells t =
      verdict_tells (TypeTold s d (with_reverse s t)) _
      (more (λ _. zeros (omega arith))
      (more (λ _. zeros (omega arith))
      (more (λ _. zeros (omega arith)) (obstacles_tell t)))) tt

  pub remove_sds_tells : Refusing (SdsTold s d) (Changes.remove_sds d s)
  unfolding Changes.remove_sds types_in
  remove_sds_tells =
      verdict_tells (SdsTold s d) _
      (more (λ _. zeros (omega arith))
      (more (λ _. zeros (omega arith))
      (more (λ e.
      let there = told_passes 12 (present s d) e in
      type (record { there = there; stands = there; lowest = told_lowest 12 (present s d) e })) none))) tt

-- ---- and one that is done: none of 2 to 6 holds, and nothing is in the way

pub remove_type_done : (d : ℕ) (n : Name) (s : Schema) → unknown_sds s d ≡ false → system_sds d ≡ false → malformed n ≡ false → no_such_name s d n ≡ false
    → let t = type_named s d n in
    in_the_way (child_there s d) (with_reverse s t) ≡ [] → in_the_way (applied_there s d) (with_reverse s t) ≡ []
    → in_the_way (end_there s d) (with_reverse s t) ≡ []
    → Changes.remove_type d n s ≡ done t 0 0 (Changes.less_type d t s)
unfolding Changes.remove_type verdict
remove_type_done d n s a b c e f g h = rw (a, b, c, e, f, g, h) refl

pub remove_sds_done : (d : ℕ) (s : Schema) → unknown_sds s d ≡ false → system_sds d ≡ false → types_in s d ≡ []
    → Changes.remove_sds d s ≡ done 0 0 0 (with_sdss s (set s.sdss d []))
unfolding Changes.remove_sds verdict
remove_sds_done d s a b c = rw (a, b, c) refl
