-- The tests of an SDS and of names, one after the other. Assumes nothing.
use Prim.Native.Nat.{ℕ}
use mathlib.Core.Path.{◌≡◌, sym, ap, ◌∙◌}
use mathlib.Core.Logic.{⊎_elim}
use mathlib.Core.List.{[], ◌∷◌}
use mathlib.Core.Bool.{Bool, true, false, not, cond, ◌&&◌, ◌||◌, or-false, true≢false}
use borrow.Author.Tests.{eq-eqb, ne_eqb, not-false}
use Rattle.rules.specs.01-Lists.{any}
use Rattle.rules.specs.03-Names.{Name, blank, well_formed, same_name}
use Rattle.rules.specs.04-Schema.{Schema, present, bears, type_presence, local_name}
use Rattle.rules.specs.06-Good.{Good}
use Rattle.rules.specs.09-Refusals.{system_sds, malformed, malformed_new, no_such_name, not_present, names_taken}
use Rattle.rules.specs.10-Changes.{filled}
use Rattle.rules.proofs.Bools.{or_cases, or_neither}
use Rattle.rules.proofs.08-Working.{holder}

pub system_stops : (d : ℕ) → d ≡ 0 → system_sds d ≡ true
unfolding system_sds
system_stops d e = eq-eqb d 0 e

pub system_passes : (d : ℕ) → (d ≡ 0 → ⊥) → system_sds d ≡ false
unfolding system_sds
system_passes d e = ne_eqb d 0 e

pub formed_passes : (n : Name) → well_formed n ≡ true → malformed n ≡ false
unfolding malformed
formed_passes n e = ap not e

pub malformed_stops : (n : Name) → well_formed n ≡ false → malformed n ≡ true
unfolding malformed
malformed_stops n e = ap not e

pub name_there : (s : Schema) (d : ℕ) (n : Name) → bears s d n ≡ true → no_such_name s d n ≡ false
unfolding no_such_name
name_there s d n e = ap not e

pub name_missing : (s : Schema) (d : ℕ) (n : Name) → bears s d n ≡ false → no_such_name s d n ≡ true
unfolding no_such_name
name_missing s d n e = ap not e

-- a type by its number

pub type_there : (s : Schema) (d t : ℕ) → present s d t ≡ true → not_present s d t ≡ false
unfolding not_present
type_there s d t e = ap not e

pub type_missing : (s : Schema) (d t : ℕ) → present s d t ≡ false → not_present s d t ≡ true
unfolding not_present
type_missing s d t e = ap not e

pub type_present : (s : Schema) (d t : ℕ) → not_present s d t ≡ false → present s d t ≡ true
unfolding not_present
type_present s d t e = not-false (present s d t) e

-- ---- a new name of an import: the name in the source where there is one, or the one that is given

pub filled_formed : {s : Schema} → Good s → (source t : ℕ) (new : Name) → present s source t ≡ true → blank (local_name s source t) ≡ false
    → malformed_new new ≡ false → well_formed (filled s source t new) ≡ true
unfolding local_name malformed_new malformed
filled_formed {s} good source t new there named e = go (blank new) e
  where
    go : (b : Bool) → not b && not (well_formed new) ≡ false → well_formed (cond b (local_name s source t) new) ≡ true
    go true e =
        let p = type_presence s source t in
        ⊎_elim (λ b. absurd (true≢false (sym b ∙ named))) (λ w. w)
        (or_cases (blank p.name) (well_formed p.name) (good.presence_named p (holder s source t there).0))
    go false e = not-false (well_formed new) e

-- ---- new names: one, or the two of a call

module _ (s : Schema) (d : ℕ) (n : Name) where
  pub one_taken : bears s d n ≡ true → names_taken s d (n ∷ []) ≡ true
  unfolding names_taken any
  one_taken e = rw e

  pub one_free : bears s d n ≡ false → names_taken s d (n ∷ []) ≡ false
  unfolding names_taken any
  one_free e = rw e

  module _ (m : Name) where
    pub first_taken : bears s d n ≡ true → names_taken s d (n ∷ m ∷ []) ≡ true
    unfolding names_taken any
    first_taken e = rw e

    pub second_taken : bears s d n ≡ false → bears s d m ≡ true → names_taken s d (n ∷ m ∷ []) ≡ true
    unfolding names_taken any
    second_taken e f = rw (e, f)

    pub two_as_told : bears s d n ≡ false → bears s d m ≡ false → same_name n m ≡ names_taken s d (n ∷ m ∷ [])
    unfolding names_taken any
    two_as_told e f = rw (e, f) (sym (or-false (same_name n m || false) ∙ or-false (same_name n m)))

-- what it says that two are not taken
pub record TwoNames (s : Schema) (d : ℕ) (n m : Name) : Type 0 where
  pub free : bears s d n ≡ false
  pub other_free : bears s d m ≡ false
  pub apart : same_name n m ≡ false

none_of : (x y z : Bool) → (x || (y || false)) || ((z || false) || false) ≡ false → (x ≡ false) × ((y ≡ false) × (z ≡ false))
none_of x y z e =
    let (f, g) = or_neither (x || (y || false)) ((z || false) || false) e in
    let (h, k) = or_neither x (y || false) f in
    (h, ((or_neither y false k).0, (or_neither z false (or_neither (z || false) false g).0).0))

pub two_names : (s : Schema) (d : ℕ) (n m : Name) → names_taken s d (n ∷ m ∷ []) ≡ false → TwoNames s d n m
unfolding names_taken any
two_names s d n m e =
    let (f, (g, h)) = none_of (bears s d n) (bears s d m) (same_name n m) e in
    record { free = f; other_free = g; apart = h }
