-- A presence taken out and put in again under another name. Assumes nothing.
use Prim.Native.Nat.{ℕ, zero, suc, ◌<◌}
use native.Mathlib.Omega.{arith}
use mathlib.Core.Path.{◌≡◌, refl, sym, ap, ◌∙◌}
use mathlib.Core.List.{List, [], ◌∷◌, ◌++◌}
use mathlib.Core.Bool.{Bool, true, false, not, ◌||◌, true≢false}
use lib.Dec.{eqb}
use lib.ListN.{length}
use borrow.Author.Tests.{eqb-true, eq-eqb}
use Rattle.rules.specs.01-Lists.{◌∈◌, any, all, without, put}
use Rattle.rules.specs.02-Limits.{limits}
use Rattle.rules.specs.03-Names.{Name, well_formed, same_name}
use Rattle.rules.specs.04-Schema.{Schema, Presence, new_presence, with_modes, holds_type, holds_name, bears, type_named, type_presence, with_presences}
use Rattle.rules.specs.06-Good.{presence_before, Good}
use Rattle.rules.specs.07-Picture.{Sound, picture}
use Rattle.rules.specs.09-Refusals.{Refusals, ◌when◌, malformed, no_such_name, not_present, borne_by_another}
use Rattle.rules.specs.09-Refusals.Outcome.{done}
use Rattle.rules.specs.10-Changes.{renamed, with_name, rename, rename_refusals, rename_number, rename_number_refusals}
use Rattle.rules.proofs.Bools.{and_both, and_of}
use Rattle.rules.proofs.01-Lists.{any_at, any_none}
use Rattle.rules.proofs.Edits.{without_in}
use Rattle.rules.proofs.03-Names.{same_asked, same_blank, formed_named}
use Rattle.rules.proofs.NameTests.{type_present}
use Rattle.rules.proofs.09-Refusals.{Left}
use Rattle.base.specs.Back.{schema_of, presence_count, presence_shown}
use Rattle.lookup.specs.Found.{PresenceRow, NamedIn}
use Rattle.base.specs.Stored.{less_row, Shows}
use Rattle.base.specs.Tested.{Tested}
use Rattle.base.proofs.Back.{sound_good}
use Rattle.base.proofs.Shown.{presences_long, presence_there}
use Rattle.base.proofs.StoredLaws.{sound_stored, shows_schema}
use Rattle.base.proofs.TestedLaws.{begun_passes}
use Rattle.conditions.specs.Aimed.{aim_refusals, type_refusals, TypeOf}
use Rattle.lookup.proofs.NamedLaws.{borne, not_borne}
use Rattle.conditions.proofs.AimedLaws.{all_passed, aimed_well, formed, both_formed, name_borne}
use Rattle.change_presences.specs.Remove.{less_presence}
use Rattle.change_presences.specs.Rename.{Nameable, renaming}
use Rattle.change_presences.proofs.HeldLaws.{held_row, row_taken}
use Rattle.rules.proofs.08-Working.{bearer, named_present, holder}
use Rattle.lookup.proofs.Walked.{presence_first}

-- ---- a row less

less_long : {A : Type 0} (k : ℕ) (l : List A) → k < length l → suc (length (less_row k l)) ≡ length l
less_long k [] h = absurd (omega arith)
less_long zero (x ∷ l) h = refl
less_long (suc k) (x ∷ l) h = ap suc (less_long k l (omega arith))

-- ---- who bears a name

module _ {s : Schema} (good : Good s) (d : ℕ) (n : Name) (formed : well_formed n ≡ true) where
  -- where no other than t bears it, none does once t is gone
  pub free_then : (t : ℕ) → borne_by_another s d t n ≡ false → bears (less_presence d t s) d n ≡ false
  unfolding bears borne_by_another
  free_then t e =
      any_none (holds_name d n) (without (holds_type d t) s.presences) (λ p i.
      let (j, gone) = without_in (holds_type d t) s.presences i in
      none p j gone (holds_name d n p) refl)
    where
      none : (p : Presence) → p ∈ s.presences → holds_type d t p ≡ false → (x : Bool) → holds_name d n p ≡ x → x ≡ false
      none p j gone false q = refl
      none p j gone true q =
          let b : any (holds_name d n) s.presences ≡ true = any_at (holds_name d n) j q in
          let (p', i, at, same, type) = bearer s d n b in
          let (x, y) = and_both (eqb p.sds d) (same_name p.name n) q in
          let one : p ≡ p' = good.local_names_unique p p' j i (eqb-true p.sds d x ∙ sym at) (same_blank p.name n y ∙ formed_named n formed)
          (same_asked p'.name n same p.name ∙ y) in
          let it : type_named s d n ≡ t = is_it (eqb (type_named s d n) t) refl b in
          absurd (true≢false (sym (and_of (eqb p.sds d) (eqb p.type t) x (eq-eqb p.type t (ap (λ (z : Presence). z.type) one ∙ type ∙ it))) ∙ gone))
        where
          is_it : (z : Bool) → eqb (type_named s d n) t ≡ z → any (holds_name d n) s.presences ≡ true → type_named s d n ≡ t
          is_it true g b = eqb-true (type_named s d n) t g
          is_it false g b = absurd (true≢false (sym (and_of (any (holds_name d n) s.presences) (not (eqb (type_named s d n) t)) b (ap not g)) ∙ e))

-- ---- the rules

pub rename_left : (d : ℕ) (n new : Name) (s : Schema)
    → Left (rename d n new s) (rename_refusals d n new s) (done 0 0 0 (with_name d new (type_named s d n) s))
unfolding rename
rename_left d n new s = record { is = refl }

pub number_left : (d t : ℕ) (new : Name) (s : Schema) → Left (rename_number d t new s) (rename_number_refusals d t new s) (done 0 0 0 (with_name d new t s))
unfolding rename_number
number_left d t new s = record { is = refl }

pub renaming_left : (d t : ℕ) (n : Name) (s : Schema)
    → Left (renaming d t n s) ((11 when borne_by_another s d t n) ∷ []) (done 0 0 0 (with_name d n t s))
renaming_left d t n s = record { is = refl }

-- what the refusals of a rename come to once the type is found, by its name, and by its number
abbrev pub named_first : ℕ → Name → Name → Schema → Refusals
named_first d n new s = aim_refusals s d (malformed n || malformed new) ++ type_refusals (no_such_name s d n)

abbrev pub number_first : ℕ → ℕ → Name → Schema → Refusals
number_first d t new s = aim_refusals s d (malformed new) ++ type_refusals (not_present s d t)

module _ {b : List ℕ} (d : ℕ) (new : Name) where
  pub nameable_named : (n : Name) {t : ℕ} → Tested b (named_first d n new (schema_of b)) 0 0 → TypeOf b d n t → Nameable b d t new
  unfolding all
  nameable_named n told found =
      let s = schema_of b in
      let p = all_passed told refl refl in record {
        aim = aimed_well _ told refl;
        there = named_present s d n (name_borne s d n (p.fails 6)) found.named;
        formed = (both_formed n new (p.fails 4)).1;
      }

  pub named_on : (n : Name) {t : ℕ} → Tested b (named_first d n new (schema_of b)) 0 0 → TypeOf b d n t
      → rename d n new (schema_of b) ≡ renaming d t new (schema_of b)
  unfolding all
  named_on n told found =
      (begun_passes _ told refl refl (rename_left d n new (schema_of b))).is ∙ ap (λ (y : ℕ). renaming d y new (schema_of b)) (sym found.named)

  pub nameable_number : (t : ℕ) → Tested b (number_first d t new (schema_of b)) 0 0 → Nameable b d t new
  unfolding all
  nameable_number t told =
      let s = schema_of b in
      let p = all_passed told refl refl in
      record { aim = aimed_well _ told refl; there = type_present s d t (p.fails 6); formed = formed new (p.fails 4) }

  pub number_on : (t : ℕ) → Tested b (number_first d t new (schema_of b)) 0 0 → rename_number d t new (schema_of b) ≡ renaming d t new (schema_of b)
  unfolding all
  number_on t told = (begun_passes _ told refl refl (number_left d t new (schema_of b))).is

-- the name is another's exactly where a type is found under it, and it is another
module _ {s : Schema} {d : ℕ} {n : Name} {r : ℕ} (found : NamedIn s d n r) where
  pub another_none : (t : ℕ) → r ≡ 128 → false ≡ borne_by_another s d t n
  unfolding borne_by_another
  another_none t h = rw (not_borne found h)

  pub another_some : (t : ℕ) → (r ≡ 128 → ⊥) → not (eqb r t) ≡ borne_by_another s d t n
  unfolding borne_by_another
  another_some t h = rw (borne found h) (ap (λ (x : ℕ). not (eqb x t)) (found.found (borne found h)).1)

-- ---- the bytes: a row taken out, and one put in

module _ {b b₁ : List ℕ} (s : Sound b) {d t r : ℕ} (found : PresenceRow b (presence_count b) d t r) (h : r < presence_count b)
    (out : Shows b₁ (with_presences (schema_of b) (less_row r (schema_of b).presences))) where
  is_now : schema_of b₁ ≡ less_presence d t (schema_of b)
  is_now = shows_schema (row_taken (held_row (sound_good s) found h) found (sound_stored s) out)

  -- there is room for it, and its name is free
  pub room_then : length (schema_of b₁).presences < limits.presences
  room_then =
      omega (
        arith,
        ap (λ (x : Schema). length x.presences) (shows_schema out),
        less_long r (schema_of b).presences
            (omega (arith, presences_long b)),
        presences_long b,
        (sound_good s).presence_room,
      )

  pub name_free : (new : Name) → well_formed new ≡ true → borne_by_another (schema_of b) d t new ≡ false → bears (schema_of b₁) d new ≡ false
  name_free new w e = ap (λ (x : Schema). bears x d new) is_now ∙ free_then (sound_good s) d new w t e

  -- the row that went shows the presence of the type
  was : type_presence (schema_of b) d t ≡ presence_shown b r
  was =
      let once = held_row (sound_good s) found h in
      let (i, at, of) = holder (schema_of b) d t once.there in
      once.once (type_presence (schema_of b) d t) (presence_shown b r) i (presence_there b r h)
      (and_of (eqb _ d) (eqb _ t) (eq-eqb _ d at) (eq-eqb _ t of)) ((presence_first b d t found).found h)

  pub put_again : (new : Name) {u f : ℕ} → u ≡ (presence_shown b r).usage → f ≡ (presence_shown b r).definition → {b₂ : List ℕ}
      → Shows b₂ (with_presences (schema_of b₁) (put presence_before (with_modes u f (new_presence d new t)) (schema_of b₁).presences))
      → b₂ ≡ picture (with_name d new t (schema_of b))
  put_again new {u} {f} is_u is_f in' =
      let same : with_modes u f (new_presence d new t) ≡ renamed d new t (schema_of b)
      = λ i. with_modes ((is_u ∙ ap (λ (p : Presence). p.usage) (sym was)) i) ((is_f ∙ ap (λ (p : Presence). p.definition) (sym was)) i)
      (new_presence d new t) in
      in'.shown ∙ (λ i. picture (with_presences (is_now i) (put presence_before (same i) (is_now i).presences)))
