-- The ancestors that an SDS lacks, and how they come into it, one after the other. Assumes nothing.
use Prim.Native.Nat.{ℕ, zero, suc, ◌<◌}
use native.Mathlib.Omega.{arith}
use mathlib.Core.Path.{◌≡◌, refl, sym, ap, ap₂, ◌∙◌, subst}
use mathlib.Core.List.{List, [], ◌∷◌, map}
use mathlib.Core.Bool.{Bool, true, false, not, ◌&&◌, and-false, or-false}
use lib.Dec.{eqb}
use lib.ListN.{length, get_or}
use borrow.Author.Tests.{eqb-false, ne_eqb, not-true}
use Rattle.rules.specs.01-Lists.{any, among, put, put_all}
use Rattle.rules.specs.02-Limits.{limits}
use Rattle.rules.specs.04-Schema.{Schema, holds_type, present, with_presences}
use Rattle.rules.specs.05-Descent.{descends, members}
use Rattle.rules.specs.06-Good.{presence_before}
use Rattle.rules.specs.08-Working.{visible}
use Rattle.rules.specs.09-Refusals.{not_present}
use Rattle.rules.specs.10-Changes.{nameless}
use Rattle.rules.proofs.Bools.{and_both}
use Rattle.rules.proofs.01-Lists.{at_place, numbers_none}
use Rattle.rules.proofs.05-Descent.{members_of}
use Rattle.rules.proofs.Edits.{put_long, put_none}
use Rattle.base.specs.Back.{schema_of}
use Rattle.base.specs.Stored.{Stored, Shows}
use Rattle.base.proofs.StoredLaws.{shows_schema, shows_stored}
use Rattle.type_set.proofs.Members.{members_first}
use Rattle.kin.specs.Kin.{ancestors_of}
use Rattle.kin.proofs.KinLaws.{above}
use Rattle.visible.specs.Shown.{held_in}
use Rattle.visible.proofs.Rules.{visible_are}
use Rattle.change_imports.specs.Import.{brought, Lacking}

-- ---- those that are missing

-- the one SDS that is asked
pub one_listed : (d : ℕ) → d < limits.sdss → (i : ℕ) → i < 1 → get_or (d ∷ []) i 0 < limits.sdss
one_listed d h zero l = h
one_listed d h (suc i) l = absurd (omega arith)

-- a set of one type, all above it, and what one SDS holds
module _ (s : Schema) (d t : ℕ) (small : t < 128) {one all sdss held : ℕ → Bool}
    (only : (k : ℕ) → one k ≡ eqb k t) (up : (k : ℕ) → all k ≡ ancestors_of s one k)
    (listed : (k : ℕ) → sdss k ≡ among (d ∷ []) k) (shown : (k : ℕ) → held k ≡ held_in s sdss k) where
  is_held : (k : ℕ) → held k ≡ present s d k
  unfolding visible any
  is_held k = shown k ∙ visible_are s (d ∷ []) sdss listed k ∙ or-false (present s d k)

  pub missing_are : (k : ℕ) → all k && not (held k) ≡ descends s t k && not_present s d k
  unfolding not_present
  missing_are k = ap₂ (λ (x y : Bool). x && not y) (up k ∙ above one t small only s k) (is_held k)

-- ---- one after the other

-- of the types those of `left` are still to come, and with them all that were to come are there
pub record Bringing (d : ℕ) (s : Schema) (types left : ℕ → Bool) (b : List ℕ) : Type 0 where
  pub stored : Stored b
  pub lacking : Lacking d left (schema_of b)
  pub to_come : brought d left (schema_of b) ≡ brought d types s

module _ {d : ℕ} {s : Schema} {types left : ℕ → Bool} {b : List ℕ} (so_far : Bringing d s types left b) where
  -- there is room for one that is to come
  pub room : (t : ℕ) → left t ≡ true → t < 128 → length (schema_of b).presences < limits.presences
  room t e h =
      let (i, u, is) = at_place 0 (members_of left t h e) in
      omega (arith, so_far.lacking.room)

  -- the lowest comes
  module _ (rest : ℕ → Bool) (t : ℕ) (h : t < 128) (e : left t ≡ true) (none : (k : ℕ) → k < t → left k ≡ false)
      (out : (k : ℕ) → rest k ≡ left k && not (eqb k t)) where
    first_comes : members left ≡ t ∷ members rest
    first_comes = members_first left rest t e out h none

    pub fewer : length (members rest) < length (members left)
    fewer = omega (arith, ap length first_comes)

    pub brought_more : {b₁ : List ℕ} → Shows b₁ (with_presences (schema_of b) (put presence_before (nameless d t) (schema_of b).presences))
        → Bringing d s types rest b₁
    unfolding present brought put_all
    brought_more {b₁} in' =
        let now = with_presences (schema_of b) (put presence_before (nameless d t) (schema_of b).presences) in
        let is : schema_of b₁ ≡ now = shows_schema in' in record {
          stored = shows_stored in';
          lacking = subst (λ (x : Schema). Lacking d rest x) (sym is) (record {
            room = omega (arith, put_long presence_before (nameless d t) (schema_of b).presences, so_far.lacking.room, ap length first_comes);
            lacked = λ k g.
                let (was, other) = and_both (left k) (not (eqb k t)) (sym (out k) ∙ g) in
                put_none presence_before (holds_type d k) (nameless d t) (schema_of b).presences
                (rw (ne_eqb t k (λ same. eqb-false k t (not-true (eqb k t) other) (sym same))) (and-false (eqb d d)))
                (so_far.lacking.lacked k was);
          });
          to_come = ap (brought d rest) is
              ∙ ap (λ (ts : List ℕ). with_presences (schema_of b) (put_all presence_before (map (nameless d) ts) (schema_of b).presences)) (sym first_comes)
              ∙ so_far.to_come;
        }

  -- none is to come any more
  pub brought_all : ((k : ℕ) → left k ≡ false) → Shows b (brought d types s)
  unfolding brought put_all members
  brought_all none =
      let nothing : members left ≡ [] = numbers_none left 0 128 (λ k l u. none k) in
      let is : schema_of b ≡ brought d types s
      = ap (λ (ts : List ℕ). with_presences (schema_of b) (put_all presence_before (map (nameless d) ts) (schema_of b).presences)) (sym nothing)
      ∙ so_far.to_come in
      subst (λ (x : Schema). Shows b x) is (record { rows = so_far.stored.rows; shown = so_far.stored.shown })

pub bringing_none : {d : ℕ} {b : List ℕ} (types : ℕ → Bool) → Stored b → Lacking d types (schema_of b) → Bringing d (schema_of b) types types b
bringing_none types x l = record { stored = x; lacking = l; to_come = refl }
