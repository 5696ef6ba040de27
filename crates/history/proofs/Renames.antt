-- A rename, by name or by number, keeps a schema good: the same types are present in the same SDSs, and no other bears the new name. Assumes nothing.
use Prim.Native.Nat.{ℕ, ◌+◌, ◌≤◌}
use native.Mathlib.Omega.{arith}
use mathlib.Core.Path.{◌≡◌, refl, sym, ap, ◌∙◌}
use mathlib.Core.Logic.{inl}
use mathlib.Core.List.{List}
use mathlib.Core.Bool.{Bool, true, false, not, true≢false}
use lib.Dec.{eqb}
use lib.ListN.{length}
use borrow.Author.Tests.{not-false, eqb-true, eq-eqb, ne_eqb}
use Rattle.rules.specs.01-Lists.{◌∈◌, first, without, put}
use Rattle.rules.specs.02-Limits.{limits}
use Rattle.rules.specs.03-Names.{Name, same_name}
use Rattle.rules.specs.04-Schema.{Schema, Presence, system_presence, nowhere, used_sds, holds_type, holds_name, present, bears, type_named}
use Rattle.rules.specs.04-Schema.{type_presence}
use Rattle.rules.specs.06-Good.{presence_before, Good}
use Rattle.rules.specs.09-Refusals.{unknown_sds, system_sds, malformed, not_present, borne_by_another}
use Rattle.rules.specs.09-Refusals.Outcome.{done}
use Rattle.rules.specs.10-Changes.{renamed, with_name, rename, rename_refusals, rename_number, rename_number_refusals}
use Rattle.rules.specs.13-History.{next}
use Rattle.rules.specs.Parts.{of_presences}
use Rattle.rules.proofs.Bools.{or_neither, and_both, and_of, and_rest, fails}
use Rattle.rules.proofs.01-Lists.{any_at, any_none}
use Rattle.rules.proofs.03-Names.{same_asked, same_blank, formed_named, formed_allowed}
use Rattle.rules.proofs.Edits.{put_each, put_old, first_in, without_in, without_keeps, without_fewer}
use Rattle.rules.proofs.08-Working.{holder}
use Rattle.rules.proofs.09-Refusals.{verdict_keeps}
use Rattle.rules.proofs.Parts.{presence_there, parts_of}
use Rattle.history.proofs.Parts.{Stayed, rows_of, stayed}
use Rattle.history.proofs.Passed.{known, aimed, formed, named_present}
use Rattle.history.proofs.Rows.{present_over, present_new, RowFits, rows_less, rows_more, with_more_good}

module _ (s : Schema) (g : Good s) (d : ℕ) (new : Name) (t : ℕ) where
  abbrev x : Presence
  x = renamed d new t s

  -- the presence that goes, whose modes stay
  abbrev old : Presence
  old = type_presence s d t

  -- the other presences, and these with it
  abbrev left : List Presence
  left = without (holds_type d t) s.presences

  abbrev after : List Presence
  after = put presence_before x left

  -- who bears the new name is of type t
  bearer : malformed new ≡ false → borne_by_another s d t new ≡ false → (q : Presence) → q ∈ s.presences → holds_name d new q ≡ true → q.type ≡ t
  unfolding borne_by_another bears type_named
  bearer well e q i h =
      let borne = any_at (holds_name d new) i h in
      let p = first (holds_name d new) nowhere s.presences in
      let (j, k) = first_in (holds_name d new) nowhere s.presences borne in
      let (a, b) = and_both (eqb q.sds d) (same_name q.name new) h in
      let (a', b') = and_both (eqb p.sds d) (same_name p.name new) k in
      let one : q ≡ p = g.local_names_unique q p i j (eqb-true q.sds d a ∙ sym (eqb-true p.sds d a'))
      (same_blank q.name new b ∙ formed_named new (formed new well)) (same_asked p.name new b' q.name ∙ b) in
      ap (λ r. r.type) one ∙ eqb-true p.type t (not-false (eqb p.type t) (and_rest (bears s d new) (not (eqb p.type t)) borne e))

  -- without it none of type t is left, nor one of the new name
  fits : unknown_sds s d ≡ false → system_sds d ≡ false → malformed new ≡ false → present s d t ≡ true → borne_by_another s d t new ≡ false
      → RowFits s.sdss left x
  unfolding used_sds
  fits is_Known outside well there another = record {
    in_used = known s d is_Known;
    outside = aimed d outside;
    named = formed_allowed new (formed new well);
    known = let m = g.modes_known old (holder s d t there).0 in record { usage = m.usage; definition = m.definition };
    free = λ _. any_none (holds_name d new) left (λ q i. fails (holds_name d new q) (other q i));
    new = any_none (holds_type d t) left (λ q i. (without_in (holds_type d t) s.presences i).1);
  }
    where
      other : (q : Presence) → q ∈ left → holds_name d new q ≡ true → ⊥
      other q i h =
          let (j, out) = without_in (holds_type d t) s.presences i in
          let in-d = (and_both (eqb q.sds d) (same_name q.name new) h).0 in
          true≢false (sym (and_of (eqb q.sds d) (eqb q.type t) in-d (eq-eqb q.type t (bearer well another q j h))) ∙ out)

  -- one out and one in
  room : present s d t ≡ true → length left + 1 ≤ limits.presences
  unfolding present
  room there = omega (arith, without_fewer (holds_type d t) s.presences there, g.presence_room)

  still : (e u : ℕ) → present (of_presences s.presences) e u ≡ true → present (of_presences after) e u ≡ true
  still = present_over s.presences after (λ p i. go p i (holds_type d t p) refl)
    where
      go : (p : Presence) → p ∈ s.presences → (b : Bool) → holds_type d t p ≡ b → present (of_presences after) p.sds p.type ≡ true
      go p i true h =
          let (a, b) = and_both (eqb p.sds d) (eqb p.type t) h in
          rw (eqb-true p.sds d a, eqb-true p.type t b) (present_new x left)
      go p i false h = presence_there (put_old presence_before x left (without_keeps (holds_type d t) s.presences i h))

  was : malformed new ≡ false → present s d t ≡ true → (p : Presence) → p ∈ after → Stayed s.types s.types s.presences p
  was well there p i =
      let (j, at, of) = holder s d t there in
      put_each presence_before i (Stayed s.types s.types s.presences)
      (record {
        row = old;
        there = j;
        sds = at;
        type = of;
        nameless = λ e. absurd (true≢false (sym e ∙ formed_named new (formed new well)));
        modes = record { usage = refl; definition = refl };
        kind = refl;
      })
      (λ k. stayed (without_in (holds_type d t) s.presences k).0 refl)

  good_after : unknown_sds s d ≡ false → system_sds d ≡ false → malformed new ≡ false → present s d t ≡ true → borne_by_another s d t new ≡ false
      → Good (with_name d new t s)
  good_after is_Known outside well there another =
      with_more_good g
      (rows_more (rows_less (rows_of (parts_of g).presences) (holds_type d t) stays) x (room there) (fits is_Known outside well there another))
      still
      (λ p i. inl (was well there p i))
    where
      stays : holds_type d t system_presence ≡ false
      stays = rw (ne_eqb 0 d (λ z. aimed d outside (sym z)))

pub rename_keeps : (d : ℕ) (n new : Name) (s : Schema) → Good s → Good (next s (rename d n new s))
unfolding rename
rename_keeps d n new s g =
    verdict_keeps (λ o. Good (next s o)) (rename_refusals d n new s)
    (done 0 0 0 (with_name d new (type_named s d n) s))
    (λ _ _. g)
    (λ passed.
    good_after s g d new (type_named s d n) (passed.fails 2) (passed.fails 3) (or_neither (malformed n) (malformed new) (passed.fails 4)).1
    (named_present s d n (passed.fails 6)) (passed.fails 11))

pub rename_number_keeps : (d t : ℕ) (new : Name) (s : Schema) → Good s → Good (next s (rename_number d t new s))
unfolding rename_number not_present
rename_number_keeps d t new s g =
    verdict_keeps (λ o. Good (next s o)) (rename_number_refusals d t new s) (done 0 0 0 (with_name d new t s))
    (λ _ _. g)
    (λ passed.
    good_after s g d new t (passed.fails 2) (passed.fails 3) (passed.fails 4) (not-false (present s d t) (passed.fails 6)) (passed.fails 11))
