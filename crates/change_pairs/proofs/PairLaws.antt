-- The call that makes a pair: its tests, and the rows and the presences of the two types. Assumes nothing.
use Prim.Native.Nat.{ℕ, ◌≤◌, ◌<◌}
use native.Mathlib.Omega.{arith}
use mathlib.Core.Path.{◌≡◌, refl, ◌∙◌}
use mathlib.Core.List.{List, [], ◌∷◌}
use mathlib.Core.Bool.{false, ◌&&◌, ◌||◌}
use lib.Dec.{ltb, eqb}
use lib.ListN.{length}
use borrow.Author.Tests.{ltb-false, lt-ltb, le-ltb, eq-eqb, ne_eqb}
use Rattle.std.specs.Prelude.{Result}
use Rattle.std.proofs.lemmas.Result.{IfOk-weaker}
use Rattle.rules.specs.declared.Refused.{Refused}
use Rattle.rules.specs.02-Limits.{limits}
use Rattle.rules.specs.declared.Answer.{Answer}
use Rattle.rules.specs.01-Lists.{put}
use Rattle.rules.specs.03-Names.{Name}
use Rattle.rules.specs.04-Schema.{Schema, new_presence, bears, holds_name, with_presences}
use Rattle.rules.specs.06-Good.{presence_before}
use Rattle.rules.specs.04-Schema.Kind.{paired}
use Rattle.rules.specs.07-Picture.{picture}
use Rattle.rules.specs.09-Refusals.{Outcome, success, malformed, names_taken, no_pair}
use Rattle.rules.specs.09-Refusals.Outcome.{done}
use Rattle.rules.specs.10-Changes.{with_type, with_pair, new_type, second_new_type, new_pair, new_pair_refusals}
use Rattle.rules.specs.12-Contracts.{Kept}
use Rattle.rules.proofs.Bools.{or_neither}
use Rattle.rules.proofs.Edits.{put_long, put_none}
use Rattle.rules.proofs.09-Refusals.{Left}
use Rattle.base.specs.Back.{schema_of}
use Rattle.base.specs.Stored.{Shows, Becomes}
use Rattle.base.proofs.Kept.{kept_done}
use Rattle.base.proofs.StoredLaws.{shows_has, shows_next}
use Rattle.base.specs.Tested.{Tested}
use Rattle.base.proofs.TestedLaws.{come_next, come_rest}
use Rattle.conditions.specs.Aimed.{aim_refusals, RefusedOr}
use Rattle.rules.proofs.NameTests.{two_names}
use Rattle.conditions.proofs.AimedLaws.{aimed_well, names_fit, both_formed, come_aimed}
use Rattle.change_pairs.specs.Pair.{TwoFree, room_refusals, PairReady}
use Rattle.change_types.proofs.CreateLaws.{room_typed, free_typed, type_put}

-- ---- the categories

module _ (c c' : ℕ) where
  pub forward_unfit : 3 < c → ltb 3 c ≡ no_pair c c'
  unfolding no_pair
  forward_unfit h = rw (lt-ltb 3 c h)

  module _ (h : c ≤ 3) where
    pub reverse_unfit : 3 < c' → ltb 3 c' ≡ no_pair c c'
    unfolding no_pair
    reverse_unfit k = rw (le-ltb 3 c h, lt-ltb 3 c' k)

    module _ (k : c' ≤ 3) where
      pub forward_not_implicit : (c ≡ 3 → ⊥) → eqb c 3 ≡ no_pair c c'
      unfolding no_pair
      forward_not_implicit n = rw (le-ltb 3 c h, le-ltb 3 c' k, ne_eqb c 3 n)

      pub forward_implicit : c ≡ 3 → eqb c' 3 ≡ no_pair c c'
      unfolding no_pair
      forward_implicit e = rw (le-ltb 3 c h, le-ltb 3 c' k, eq-eqb c 3 e)

  pub categories_fit : no_pair c c' ≡ false → (c ≤ 3) × (c' ≤ 3)
  unfolding no_pair
  categories_fit e =
      let (f, g) = or_neither (ltb 3 c) (ltb 3 c' || (eqb c 3 && eqb c' 3)) e in
      (ltb-false 3 c f, ltb-false 3 c' (or_neither (ltb 3 c') (eqb c 3 && eqb c' 3) g).0)

-- ---- what the tests say

module _ {b : List ℕ} {d : ℕ} {n m : Name} {c c' : ℕ} (aimed : Tested b (aim_refusals (schema_of b) d (malformed n || malformed m)) 0 0)
    (fit : no_pair c c' ≡ false) (free : names_taken (schema_of b) d (n ∷ m ∷ []) ≡ false) where
  pair_ready : {t r : ℕ} → TwoFree b t r → PairReady b d n m c c' t r
  pair_ready room =
      let names = two_names (schema_of b) d n m free in
      record {
        aim = aimed_well _ aimed refl;
        formed = both_formed n m (names_fit d [] aimed refl);
        categories = categories_fit c c' fit;
        free = names.free;
        other_free = names.other_free;
        apart = names.apart;
        room = room;
      }

  pub pair_placed : {r : Result (ℕ × ℕ) Refused} → RefusedOr b (room_refusals b) r (λ types. TwoFree b types.0 types.1)
      → RefusedOr b (new_pair_refusals d n m c c' (schema_of b)) r (λ types. PairReady b d n m c c' types.0 types.1)
  pair_placed {r} room = record {
    told = come_rest (come_next (come_next (come_aimed d aimed refl _) fit) free) room.told;
    so = IfOk-weaker r _ _ (λ _. pair_ready) room.so;
  }

-- ---- the rule

abbrev pub pair_made : ℕ → Name → Name → ℕ → ℕ → Schema → Outcome Schema
pair_made d n m c c' s = done (new_type s) (second_new_type s) 0 (with_pair (new_type s) (second_new_type s) d n m c c' s)

pub new_pair_left : (d : ℕ) (n m : Name) (c c' : ℕ) (s : Schema)
    → Left (new_pair d n m c c' s) (new_pair_refusals d n m c c' s) (pair_made d n m c c' s)
unfolding new_pair
new_pair_left d n m c c' s = record { is = refl }

-- ---- the forward type gets its row and its presence, and then the reverse

module _ {b : List ℕ} {d : ℕ} {n m : Name} {c c' t r : ℕ} (x : PairReady b d n m c c' t r) where
  module _ {b₁ b₂ : List ℕ} (w : Becomes b t (paired c r) b₁)
      (p : Shows b₂ (with_presences (schema_of b₁) (put presence_before (new_presence d n t) (schema_of b₁).presences))) where
    pub forward : Shows b₂ (with_type t (paired c r) d n (schema_of b))
    forward = type_put b t (paired c r) w d n p

    room_left : length (schema_of b₂).presences < limits.presences
    room_left =
        shows_has (λ s. length s.presences < limits.presences) forward
        (omega (arith, x.room.room, put_long presence_before (new_presence d n t) (schema_of b).presences))

    reverse_free : bears (schema_of b₂) d m ≡ false
    unfolding bears
    reverse_free =
        shows_has (λ s. bears s d m ≡ false) forward
        (put_none presence_before (holds_name d m) (new_presence d n t) (schema_of b).presences
        (rw (eq-eqb d d refl) x.apart) x.other_free)

    module _ {b₃ : List ℕ} (v : Becomes b₂ r (paired c' t) b₃) where
      -- what its presence needs
      pub reverse_room : length (schema_of b₃).presences < limits.presences
      reverse_room = room_typed b₂ r (paired c' t) v d m room_left

      pub reverse_unborne : bears (schema_of b₃) d m ≡ false
      reverse_unborne = free_typed b₂ r (paired c' t) v d m reverse_free

      pub pair_kept : {rule : Schema → Outcome Schema} {a : Answer} {b₄ : List ℕ} → rule (schema_of b) ≡ pair_made d n m c c' (schema_of b)
          → a ≡ success t r 0
          → Shows b₄ (with_presences (schema_of b₃) (put presence_before (new_presence d m r) (schema_of b₃).presences))
          → Kept b rule a b₄
      pair_kept {b₄ = b₄} o e q =
          let made : Shows b₄ (with_pair t r d n m c c' (schema_of b)) =
          shows_next (with_type r (paired c' t) d m) forward (type_put b₂ r (paired c' t) v d m q) in
          kept_done x.aim.sound o (e ∙ (λ i. success (x.room.new i) (x.room.second i) 0))
          (made.shown ∙ (λ i. picture (with_pair (x.room.new i) (x.room.second i) d n m c c' (schema_of b))))
