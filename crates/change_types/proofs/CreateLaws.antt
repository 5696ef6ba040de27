-- The calls that make types: their refusals test by test, and the row and the presence of the new type. Assumes nothing.
use Prim.Native.Nat.{ℕ, ◌+◌, ◌≤◌, ◌<◌}
use native.Mathlib.Omega.{arith}
use mathlib.Core.Path.{◌≡◌, refl, ap, ◌∙◌, subst}
use mathlib.Core.List.{List, []}
use mathlib.Core.Bool.{Bool, true, false}
use lib.Dec.{ltb}
use lib.ListN.{length, set}
use borrow.Author.Tests.{lt-ltb, le-ltb}
use Rattle.std.specs.Prelude.{Result}
use Rattle.std.proofs.lemmas.Result.{IfOk-weaker}
use Rattle.rules.specs.declared.Refused.{Refused}
use Rattle.rules.specs.02-Limits.{limits}
use Rattle.rules.specs.declared.Answer.{Answer}
use Rattle.rules.specs.01-Lists.{put}
use Rattle.rules.specs.03-Names.{Name}
use Rattle.rules.specs.04-Schema.{Schema, Kind, new_presence, bears, with_types, with_presences}
use Rattle.rules.specs.06-Good.{presence_before}
use Rattle.rules.specs.04-Schema.Kind.{attribute, designation}
use Rattle.rules.specs.07-Picture.{picture}
use Rattle.rules.specs.09-Refusals.{Outcome, verdict, success, malformed, unknown_value_kind, presences_full, types_full, free_types}
use Rattle.rules.specs.09-Refusals.Outcome.{done}
use Rattle.rules.specs.10-Changes.{with_type, new_type, new_attribute, new_designation}
use Rattle.rules.specs.12-Contracts.{Kept}
use Rattle.rules.proofs.Bools.{or_left, or_right}
use Rattle.rules.proofs.09-Refusals.{Left}
use Rattle.base.specs.Back.{schema_of, presence_count}
use Rattle.base.specs.Stored.{Shows, Becomes}
use Rattle.base.proofs.Kept.{kept_done}
use Rattle.base.proofs.Shown.{presences_long}
use Rattle.base.proofs.StoredLaws.{shows_schema}
use Rattle.base.specs.Tested.{Tested}
use Rattle.base.proofs.TestedLaws.{come_next, come_rest}
use Rattle.conditions.specs.Aimed.{aim_refusals, RefusedOr}
use Rattle.conditions.proofs.AimedLaws.{aimed_well, names_fit, formed, come_aimed}
use Rattle.change_types.specs.Create.{room_refusals, one_refusals, Room, Ready}

-- ---- what the tests of a call that makes one type say

module _ {b : List ℕ} {d : ℕ} {n : Name} (aimed : Tested b (aim_refusals (schema_of b) d (malformed n)) 0 0) where
  pub room_ready : {t : ℕ} → Room b d n t → Ready b d n t
  room_ready r = record { aim = aimed_well _ aimed refl; formed = formed n (names_fit d [] aimed refl); room = r }

  -- what stands between is a value kind
  pub room_placed : {unknown : Bool} → unknown ≡ false → {r : Result ℕ Refused} → RefusedOr b (room_refusals (schema_of b) d n) r (Room b d n)
      → RefusedOr b (one_refusals (schema_of b) d n unknown) r (Ready b d n)
  room_placed e {r} room = record {
    told = come_rest (come_next (come_aimed d aimed refl _) e) room.told;
    so = IfOk-weaker r _ _ (λ _. room_ready) room.so;
  }

-- the room for new types is room for their numbers and for their presences
module _ (b : List ℕ) (more : ℕ) where
  pub numbers_short : ltb (length (free_types (schema_of b))) more ≡ true → types_full (schema_of b) more ≡ true
  unfolding types_full
  numbers_short e = or_left _ (presences_full (schema_of b) more) e

  pub presences_short : 512 < presence_count b + more → types_full (schema_of b) more ≡ true
  unfolding types_full presences_full
  presences_short h =
      or_right (ltb (length (free_types (schema_of b))) more) _
      (lt-ltb 512 (length (schema_of b).presences + more) (omega (arith, presences_long b)))

  pub both_fit : ltb (length (free_types (schema_of b))) more ≡ false → presence_count b + more ≤ limits.presences → types_full (schema_of b) more ≡ false
  unfolding types_full presences_full
  both_fit e h = rw (e, le-ltb 512 (length (schema_of b).presences + more) (omega (arith, presences_long b)))

-- ---- a type gets its row, and then its presence

module _ (b : List ℕ) (t : ℕ) (k : Kind) {b₁ : List ℕ} (w : Becomes b t k b₁) (d : ℕ) (n : Name) where
  typed : schema_of b₁ ≡ with_types (schema_of b) (set (schema_of b).types t k)
  typed = shows_schema w

  pub room_typed : length (schema_of b).presences < limits.presences → length (schema_of b₁).presences < limits.presences
  room_typed h = omega (arith, ap (λ (x : Schema). length x.presences) typed)

  pub free_typed : bears (schema_of b) d n ≡ false → bears (schema_of b₁) d n ≡ false
  unfolding bears
  free_typed e = ap (λ (x : Schema). bears x d n) typed ∙ e

  pub type_put : {b₂ : List ℕ}
      → Shows b₂ (with_presences (schema_of b₁) (put presence_before (new_presence d n t) (schema_of b₁).presences))
      → Shows b₂ (with_type t k d n (schema_of b))
  type_put {b₂} p =
      subst (λ (x : Schema). Shows b₂ (with_presences x (put presence_before (new_presence d n t) x.presences))) typed p

-- ---- the rules

-- one new type of kind k
abbrev pub made : ℕ → Name → Kind → Schema → Outcome Schema
made d n k s = done (new_type s) 0 0 (with_type (new_type s) k d n s)

module _ (d : ℕ) (n : Name) where
  pub new_attribute_left : (v : ℕ) (s : Schema) → Left (new_attribute d n v s) (one_refusals s d n (ltb 5 v)) (made d n (attribute v) s)
  unfolding new_attribute unknown_value_kind
  new_attribute_left v s = record { is = refl }

  pub new_designation_left : (s : Schema) → Left (new_designation d n s) (one_refusals s d n false) (made d n designation s)
  unfolding new_designation verdict
  new_designation_left s = record { is = refl }

-- ---- the effect of a call that makes one type

module _ {b : List ℕ} {d : ℕ} {n : Name} {t : ℕ} (r : Ready b d n t) (k : Kind) {b₁ : List ℕ} (w : Becomes b t k b₁) where
  pub made_kept : {rule : Schema → Outcome Schema} {a : Answer} {b₂ : List ℕ} → rule (schema_of b) ≡ made d n k (schema_of b) → a ≡ success t 0 0
      → Shows b₂ (with_presences (schema_of b₁) (put presence_before (new_presence d n t) (schema_of b₁).presences))
      → Kept b rule a b₂
  made_kept o e p =
      kept_done r.aim.sound o (e ∙ ap (λ (x : ℕ). success x 0 0) r.room.new)
      ((type_put b t k w d n p).shown ∙ ap (λ (x : ℕ). picture (with_type x k d n (schema_of b))) r.room.new)
