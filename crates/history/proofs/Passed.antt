-- What the failure of a refusal's condition says, for the conditions that several calls share. Assumes nothing.
use Prim.Native.Nat.{ℕ, ◌+◌, ◌≤◌}
use mathlib.Core.Path.{◌≡◌, refl, sym, ◌∙◌}
use mathlib.Core.List.{List, [], ◌∷◌}
use mathlib.Core.List.Memᴰ
use mathlib.Core.Bool.{true, false, not, ◌||◌, true≢false}
use lib.Dec.{leb, ltb, eqb}
use lib.ListN.{length}
use borrow.Author.Tests.{not-false, ltb-false, eq-eqb}
use Rattle.rules.specs.01-Lists.{◌∈◌, any, first}
use Rattle.rules.specs.02-Limits.{limits}
use Rattle.rules.specs.03-Names.{Name, well_formed, same_name}
use Rattle.rules.specs.04-Schema.{Schema, nowhere, used_sds, holds_type, holds_name, present, bears, type_named}
use Rattle.rules.specs.09-Refusals.{unknown_sds, system_sds, malformed, no_such_name, names_taken, free_types, presences_full, types_full}
use Rattle.rules.proofs.Bools.{or_neither, and_both, and_of}
use Rattle.rules.proofs.01-Lists.{any_at, none_at}
use Rattle.rules.proofs.Edits.{first_in}

-- ---- 2, 3 and 4: the SDS is used and is not SDS 0, the name is well formed

pub known : (s : Schema) (d : ℕ) → unknown_sds s d ≡ false → used_sds s d ≡ true
unfolding unknown_sds
known s d e = not-false (used_sds s d) (or_neither (leb limits.sdss d) (not (used_sds s d)) e).1

pub aimed : (d : ℕ) → system_sds d ≡ false → d ≡ 0 → ⊥
unfolding system_sds
aimed d e z = true≢false (sym (eq-eqb d 0 z) ∙ e)

pub formed : (n : Name) → malformed n ≡ false → well_formed n ≡ true
unfolding malformed
formed n e = not-false (well_formed n) e

-- ---- 6: the type that a name stands for is there

pub named_present : (s : Schema) (d : ℕ) (n : Name) → no_such_name s d n ≡ false → present s d (type_named s d n) ≡ true
unfolding no_such_name bears present type_named
named_present s d n e =
    let (i, h) = first_in (holds_name d n) nowhere s.presences (not-false (bears s d n) e) in
    let p = first (holds_name d n) nowhere s.presences in
    any_at (holds_type d p.type) i
    (and_of (eqb p.sds d) (eqb p.type p.type) (and_both (eqb p.sds d) (same_name p.name n) h).0 (eq-eqb p.type p.type refl))

-- ---- 11: a new name is borne by none, and two differ

pub names_free : (s : Schema) (d : ℕ) (ns : List Name) → names_taken s d ns ≡ false → {n : Name} → n ∈ ns → bears s d n ≡ false
unfolding names_taken
names_free s d ns e i = none_at (bears s d) (or_neither (any (bears s d) ns) _ e).0 i

pub one_free : (s : Schema) (d : ℕ) (n : Name) → names_taken s d (n ∷ []) ≡ false → bears s d n ≡ false
one_free s d n e = names_free s d (n ∷ []) e (Memᴰ.head refl)

pub both_free : (s : Schema) (d : ℕ) (n m : Name) → names_taken s d (n ∷ m ∷ []) ≡ false
    → (bears s d n ≡ false) × (bears s d m ≡ false) × (same_name n m ≡ false)
unfolding names_taken any
both_free s d n m e =
    let (borne, same) = or_neither (bears s d n || (bears s d m || false)) ((same_name n m || false) || false) e in
    let (first, second) = or_neither (bears s d n) (bears s d m || false) borne in
    (first, (or_neither (bears s d m) false second).0, (or_neither (same_name n m) false (or_neither (same_name n m || false) false same).0).0)

-- ---- 14: there is room

pub presences_room : (s : Schema) (more : ℕ) → presences_full s more ≡ false → length s.presences + more ≤ limits.presences
unfolding presences_full
presences_room s more e = ltb-false limits.presences (length s.presences + more) e

pub types_room : (s : Schema) (more : ℕ) → types_full s more ≡ false → (more ≤ length (free_types s)) × (length s.presences + more ≤ limits.presences)
unfolding types_full
types_room s more e =
    let (a, b) = or_neither (ltb (length (free_types s)) more) (presences_full s more) e in
    (ltb-false (length (free_types s)) more a, presences_room s more b)
