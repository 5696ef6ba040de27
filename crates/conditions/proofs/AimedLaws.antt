-- The refusals that the changing calls begin with, test by test; and what is so where none of them holds. Assumes nothing.
use Prim.Native.Nat.{ℕ, ◌<◌}
use native.Mathlib.Omega.{arith}
use mathlib.Core.Path.{◌≡◌, refl, sym, ◌∙◌, subst}
use mathlib.Core.List.{List, [], ◌∷◌, ◌++◌}
use mathlib.Core.Bool.{Bool, true, false, not, cond, ◌||◌}
use lib.Dec.{ltb, leb}
use borrow.Author.Tests.{ltb-true, leb-false, eqb-false, not-false}
use Rattle.std.specs.Prelude.{Result, Err}
use Rattle.rules.specs.declared.Refused.{Refused}
use Rattle.rules.specs.01-Lists.{all}
use Rattle.rules.specs.02-Limits.{limits}
use Rattle.rules.specs.03-Names.{Name, well_formed}
use Rattle.rules.specs.04-Schema.{Schema, used_sds, bears}
use Rattle.rules.specs.09-Refusals.{Refusal, Refusals, ◌when◌, unknown_sds, system_sds, malformed, no_such_name, number_of, value_of}
use Rattle.rules.proofs.Bools.{and_both, or_neither}
use Rattle.rules.proofs.09-Refusals.{numbers_beyond, Passed, passed_none, passed_more}
use Rattle.base.specs.Back.{schema_of}
use Rattle.base.specs.Tested.{told, Tested}
use Rattle.base.specs.Tested.Tested.{spoiled, tested}
use Rattle.base.proofs.TestedLaws.{Come, come_first, come_stops, come_past, come_rest, tested_sound}
use Rattle.lookup.specs.Found.{NamedIn}
use Rattle.conditions.specs.Aimed.{sds_refusals, aim_refusals, Aimed, TypeOf, RefusedOr}
use Rattle.rules.proofs.NameTests.{name_there, name_missing}
use Rattle.lookup.proofs.NamedLaws.{borne, not_borne}

-- ---- where none of the refusals holds

-- neither does the first nor one of the others
none_told : (r : Refusal) (rs : Refusals) → 0 < r.no → told (r ∷ rs) ≡ 0 → (r.holds ≡ false) × (told rs ≡ 0)
unfolding told
none_told r rs positive z = go r.holds z
  where
    go : (x : Bool) → cond x r.no (told rs) ≡ 0 → (x ≡ false) × (told rs ≡ 0)
    go true z = absurd (omega arith)
    go false z = (refl, z)

none_passed : (rs : Refusals) → numbers_beyond 0 rs ≡ true → told rs ≡ 0 → Passed rs
unfolding all
none_passed [] h z = passed_none
none_passed (r ∷ rs) h z =
    let (first, more) = and_both (ltb 0 r.no) (numbers_beyond 0 rs) h in
    let (e, w) = none_told r rs (ltb-true 0 r.no first) z in
    passed_more e (none_passed rs more w)

-- all of them fail
pub all_passed : {b : List ℕ} {rs : Refusals} {no value : ℕ} → Tested b rs no value → no ≡ 0 → numbers_beyond 0 rs ≡ true → Passed rs
all_passed (spoiled n e f) z h = absurd (omega arith)
all_passed {rs = rs} (tested s e f) z h = none_passed rs h (sym e ∙ z)

unknown_not : (s : Schema) (d : ℕ) → unknown_sds s d ≡ false → (d < limits.sdss) × (used_sds s d ≡ true)
unfolding unknown_sds
unknown_not s d e = let (f, g) = or_neither (leb limits.sdss d) (not (used_sds s d)) e in (leb-false limits.sdss d f, not-false _ g)

pub system_not : (d : ℕ) → system_sds d ≡ false → d ≡ 0 → ⊥
unfolding system_sds
system_not d e = eqb-false d 0 e

pub formed : (n : Name) → malformed n ≡ false → well_formed n ≡ true
unfolding malformed
formed n e = not-false _ e

pub both_formed : (n m : Name) → malformed n || malformed m ≡ false → (well_formed n ≡ true) × (well_formed m ≡ true)
both_formed n m e = let (f, g) = or_neither (malformed n) (malformed m) e in (formed n f, formed m g)

pub aimed_well : {b : List ℕ} {d no : ℕ} (rest : Refusals) → Tested b (sds_refusals (schema_of b) d ++ rest) no 0 → no ≡ 0 → Aimed b d
aimed_well rest (spoiled n e f) z = absurd (omega arith)
aimed_well {b} {d} rest (tested s e f) z =
    let (known, more) = none_told (2 when unknown_sds (schema_of b) d) ((3 when system_sds d) ∷ rest) (omega arith) (sym e ∙ z) in
    let (other, last) = none_told (3 when system_sds d) rest (omega arith) more in
    let (below, used) = unknown_not (schema_of b) d known in
    record { sound = s; used = used; outside = system_not d other; below = below }

pub names_fit : {b : List ℕ} (d : ℕ) {bad : Bool} (rest : Refusals) {no : ℕ} → Tested b (aim_refusals (schema_of b) d bad ++ rest) no 0 → no ≡ 0
    → bad ≡ false
names_fit d rest (spoiled n e f) z = absurd (omega arith)
names_fit {b} d {bad} rest (tested s e f) z =
    let (known, more) = none_told (2 when unknown_sds (schema_of b) d) ((3 when system_sds d) ∷ (4 when bad) ∷ rest) (omega arith) (sym e ∙ z) in
    let (other, last) = none_told (3 when system_sds d) ((4 when bad) ∷ rest) (omega arith) more in
    (none_told (4 when bad) rest (omega arith) last).0

-- ---- test by test

-- a function that has told of the refusals rs goes on with the others
pub come_on : {b : List ℕ} {rs : Refusals} {no : ℕ} → Tested b rs no 0 → no ≡ 0 → numbers_beyond 0 rs ≡ true → (rest : Refusals)
    → Come b (rs ++ rest) rest
come_on {rs = rs} t z h rest = come_past rs rest (come_first (tested_sound t z)) h t z

pub come_aimed : {b : List ℕ} (d : ℕ) {bad : Bool} {no : ℕ} → Tested b (aim_refusals (schema_of b) d bad) no 0 → no ≡ 0 → (rest : Refusals)
    → Come b (aim_refusals (schema_of b) d bad ++ rest) rest
unfolding all
come_aimed d t z rest = come_on t z refl rest

-- a refusal of its own
pub refused_here : {A : Type 0} {b : List ℕ} {whole : Refusals} {n : ℕ} {holds : Bool} {rest : Refusals} (e : Refused) {So : A → Type 0}
    → Come b whole ((n when holds) ∷ rest) → holds ≡ true → number_of e ≡ n → value_of e ≡ 0 → RefusedOr b whole (Err e) So
refused_here {b = b} {whole} e come q n v = record { told = subst (λ x. Tested b whole (number_of e) x) (sym v) (come_stops come q n); so = tt }

-- what a function that was called refuses, which tests all that is left
pub refused_rest : {A : Type 0} {b : List ℕ} {whole rs : Refusals} {r : Result A Refused} {So : A → Type 0} → Come b whole rs
    → RefusedOr b rs r So → RefusedOr b whole r So
refused_rest c r = record { told = come_rest c r.told; so = r.so }

-- ---- the types of names

pub name_borne : (s : Schema) (d : ℕ) (n : Name) → no_such_name s d n ≡ false → bears s d n ≡ true
unfolding no_such_name
name_borne s d n e = not-false _ e

pub type_found : {b : List ℕ} {d : ℕ} {n : Name} {t : ℕ} → NamedIn (schema_of b) d n t → (t ≡ 128 → ⊥) → TypeOf b d n t
type_found found h = let (below, is) = found.found (borne found h) in record { below = below; named = is }

module _ {s : Schema} {d : ℕ} {n : Name} {t : ℕ} (found : NamedIn s d n t) where
  pub missing : t ≡ 128 → no_such_name s d n ≡ true
  missing h = name_missing s d n (not_borne found h)

  pub there : (t ≡ 128 → ⊥) → no_such_name s d n ≡ false
  there h = name_there s d n (borne found h)

-- of either of two tests
pub neither : {x y : Bool} → x ≡ false → y ≡ false → x || y ≡ false
neither e f = rw (e, f)
