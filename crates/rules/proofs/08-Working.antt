-- Under a working schema of a good schema a list has no hole: with a type all its ancestors are visible. Assumes nothing.
use Prim.Native.Nat.{ℕ}
use mathlib.Core.Path.{◌≡◌, refl, sym, ap, ◌∙◌}
use mathlib.Core.List.{List}
use mathlib.Core.Bool.{Bool, true, false, ◌&&◌, true≢false}
use lib.Dec.{eqb}
use borrow.Author.Tests.{eqb-true, eq-eqb}
use Rattle.rules.specs.01-Lists.{◌∈◌, first}
use Rattle.rules.specs.03-Names.{Name, blank, same_name}
use Rattle.rules.specs.04-Schema.{Schema, Presence, kind_of, is_used, is_object, nowhere, holds_type, holds_name, present, bears}
use Rattle.rules.specs.04-Schema.{type_named, type_presence, local_name}
use Rattle.rules.specs.05-Descent.{Descends}
use Rattle.rules.specs.05-Descent.Descends.{by_parent, by_step}
use Rattle.rules.specs.06-Good.{Good}
use Rattle.rules.specs.08-Working.{visible, shown}
use Rattle.rules.proofs.Bools.{and_both, and_of, fails}
use Rattle.rules.proofs.01-Lists.{any_at, any_where}
use Rattle.rules.proofs.03-Names.{same_blank}
use Rattle.rules.proofs.05-Descent.{used_below, members_in, members_of}
use Rattle.rules.proofs.Edits.{first_in}

-- the presence of a type that is present
pub holder : (s : Schema) (d t : ℕ) → present s d t ≡ true
    → (type_presence s d t ∈ s.presences) × ((type_presence s d t).sds ≡ d) × ((type_presence s d t).type ≡ t)
unfolding present
holder s d t e =
    let p = type_presence s d t in
    let (i, h) = first_in (holds_type d t) nowhere s.presences e in
    let (x, y) = and_both (eqb p.sds d) (eqb p.type t) h in
    (i, eqb-true p.sds d x, eqb-true p.type t y)

-- the type that bears a name is there under it
pub bearer : (s : Schema) (d : ℕ) (n : Name) → bears s d n ≡ true
    → (p : Presence) × (p ∈ s.presences) × (p.sds ≡ d) × (same_name p.name n ≡ true) × (p.type ≡ type_named s d n)
unfolding bears type_named
bearer s d n e =
    let p = first (holds_name d n) nowhere s.presences in
    let (i, h) = first_in (holds_name d n) nowhere s.presences e in
    let (x, y) = and_both (eqb p.sds d) (same_name p.name n) h in
    (p, i, eqb-true p.sds d x, y, refl)

pub named_present : (s : Schema) (d : ℕ) {t : ℕ} (n : Name) → bears s d n ≡ true → t ≡ type_named s d n → present s d t ≡ true
unfolding present
named_present s d {t} n e q =
    let (p, i, at, same, type) = bearer s d n e in
    any_at (holds_type d t) i (and_of (eqb p.sds d) (eqb p.type t) (eq-eqb p.sds d at) (eq-eqb p.type t (type ∙ sym q)))

module _ {s : Schema} (good : Good s) where
  -- what is present is a type
  pub present_used : (d t : ℕ) → present s d t ≡ true → is_used (kind_of s t) ≡ true
  unfolding present
  present_used d t e =
      let (p, i, h) = any_where (holds_type d t) s.presences e in
      let same : p.type ≡ t = eqb-true p.type t (and_both (eqb p.sds d) (eqb p.type t) h).1 in
      rw same at (good.presence_type p i)

  -- a presence is the one of its type in its SDS
  pub holder_is : (d t : ℕ) (p : Presence) → p ∈ s.presences → p.sds ≡ d → p.type ≡ t → type_presence s d t ≡ p
  unfolding present
  holder_is d t p i at of =
      let there = any_at (holds_type d t) i (and_of (eqb p.sds d) (eqb p.type t) (eq-eqb p.sds d at) (eq-eqb p.type t of)) in
      let (j, at', of') = holder s d t there in
      good.one_presence (type_presence s d t) p j i (at' ∙ sym at) (of' ∙ sym of)

  -- what was found by a name has one, and so has what is no object type (02, Q-8)
  pub bearer_named : (d : ℕ) (n : Name) → blank n ≡ false → bears s d n ≡ true → blank (local_name s d (type_named s d n)) ≡ false
  unfolding local_name
  bearer_named d n named e =
      let (p, i, at, same, of) = bearer s d n e in
      ap (λ (q : Presence). blank q.name) (holder_is d (type_named s d n) p i at of) ∙ same_blank p.name n same ∙ named

  pub other_named : (d t : ℕ) → present s d t ≡ true → is_object (kind_of s t) ≡ false → blank (local_name s d t) ≡ false
  unfolding local_name
  other_named d t e other =
      let (i, at, of) = holder s d t e in
      fails (blank (local_name s d t)) (λ b. true≢false (sym (rw of at (good.nameless_object (type_presence s d t) i b)) ∙ other))

  pub visible_used : (w : List ℕ) (t : ℕ) → visible s w t ≡ true → is_used (kind_of s t) ≡ true
  unfolding visible
  visible_used w t e = let (d, i, h) = any_where (λ d. present s d t) w e in present_used d t h

  ancestors_present : (d : ℕ) {t a : ℕ} → present s d t ≡ true → Descends s t a → present s d a ≡ true
  ancestors_present d {t} {a} e (by_parent by) = good.parents_present d t a e by
  ancestors_present d {t} e (by_step {p = p} by r) = ancestors_present d (good.parents_present d t p e by) r

  -- every ancestor of a visible type is visible
  pub ancestors_visible : (w : List ℕ) (t a : ℕ) → visible s w t ≡ true → Descends s t a → visible s w a ≡ true
  unfolding visible
  ancestors_visible w t a e r =
      let (d, i, h) = any_where (λ d. present s d t) w e in
      any_at (λ d. present s d a) i (ancestors_present d h r)

  -- what a list shows
  pub shown_in : (w : List ℕ) (p : ℕ → Bool) (k : ℕ) → k ∈ shown s w p → (visible s w k ≡ true) × (p k ≡ true)
  unfolding shown
  shown_in w p k i = and_both (visible s w k) (p k) (members_in (λ k. visible s w k && p k) k i).1

  pub shown_of : (w : List ℕ) (p : ℕ → Bool) (k : ℕ) → visible s w k ≡ true → p k ≡ true → k ∈ shown s w p
  unfolding shown
  shown_of w p k e g =
      members_of (λ k. visible s w k && p k) k (used_below good k (visible_used w k e)) (and_of (visible s w k) (p k) e g)
