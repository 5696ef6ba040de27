-- What a walk over the rows of a table says of the schema: some row passes a test, or none does. Assumes nothing.
use Prim.Native.Nat.{ℕ, ◌+◌, ◌<◌}
use native.Mathlib.Omega.{arith}
use mathlib.Core.Path.{◌≡◌, refl, sym, ap, ◌∙◌}
use mathlib.Core.List.{List}
use mathlib.Core.Bool.{Bool, true, false}
use lib.Dec.{ltb, eqb}
use lib.ListN.{get_or}
use borrow.Author.Tests.{ltb-true, ltb-false, eqb-true, eq-eqb}
use Rattle.rules.specs.01-Lists.{◌∈◌, any, place}
use Rattle.rules.specs.02-Limits.{limits}
use Rattle.rules.specs.04-Schema.{Presence, Application, End, system_presence, holds_type, present, local_name}
use Rattle.rules.proofs.Bools.{and_both, and_of}
use Rattle.rules.proofs.01-Lists.{any_at, any_none}
use Rattle.rules.specs.Read.{strip, name_offset, type_offset}
use Rattle.rules.proofs.11-Asks.{place_is, local_at}
use Rattle.rows.specs.Rows.{part}
use Rattle.base.specs.Rows.{presence_at}
use Rattle.base.specs.Back.{schema_of, presence_count, application_count, end_count, presence_shown, application_shown, end_shown}
use Rattle.lookup.specs.Found.{RowOf, PresenceRow, FirstRow}
use Rattle.base.proofs.Shown.{presences_long, presence_is, presence_there, presence_in, application_there, application_in, end_there, end_in}

-- ---- any table: `there` and `only` say that its n rows show the list

module _ {A : Type 0} (l : List A) (row : ℕ → A) (n : ℕ)
    (there : (i : ℕ) → i < n → row i ∈ l) (only : (x : A) → x ∈ l → (i : ℕ) × (i < n) × (x ≡ row i)) (test : A → Bool) where
  walk_some : (i : ℕ) → i < n → test (row i) ≡ true → true ≡ any test l
  walk_some i h e = sym (any_at test (there i h) e)

  walk_none : ((i : ℕ) → i < n → test (row i) ≡ false) → false ≡ any test l
  walk_none none = sym (any_none test l (λ x m. let (i, h, e) = only x m in ap test e ∙ none i h))

  walk_first : {r : ℕ} → FirstRow n (λ i. test (row i)) r → ltb r n ≡ any test l
  walk_first {r} f = go (ltb r n) refl
    where
      go : (t : Bool) → ltb r n ≡ t → t ≡ any test l
      go true e = let h = ltb-true r n e in walk_some r h (f.found h)
      go false e = let h = ltb-false r n e in walk_none (λ i u. f.others i (omega arith))

-- ---- the three tables

module _ (b : List ℕ) where
  module _ (test : Presence → Bool) where
    pub some_presence : (i : ℕ) → i < presence_count b → test (presence_shown b i) ≡ true → true ≡ any test (schema_of b).presences
    some_presence = walk_some (schema_of b).presences (presence_shown b) (presence_count b) (presence_there b) (presence_in b) test

    pub no_presence : ((i : ℕ) → i < presence_count b → test (presence_shown b i) ≡ false) → false ≡ any test (schema_of b).presences
    no_presence = walk_none (schema_of b).presences (presence_shown b) (presence_count b) (presence_there b) (presence_in b) test

    pub first_presence : {r : ℕ} → FirstRow (presence_count b) (λ i. test (presence_shown b i)) r
        → ltb r (presence_count b) ≡ any test (schema_of b).presences
    first_presence = walk_first (schema_of b).presences (presence_shown b) (presence_count b) (presence_there b) (presence_in b) test

  module _ (test : Application → Bool) where
    pub some_application : (i : ℕ) → i < application_count b → test (application_shown b i) ≡ true → true ≡ any test (schema_of b).applications
    some_application =
        walk_some (schema_of b).applications (application_shown b) (application_count b) (application_there b) (application_in b) test

    pub no_application : ((i : ℕ) → i < application_count b → test (application_shown b i) ≡ false) → false ≡ any test (schema_of b).applications
    no_application =
        walk_none (schema_of b).applications (application_shown b) (application_count b) (application_there b) (application_in b) test

    pub first_application : {r : ℕ} → FirstRow (application_count b) (λ i. test (application_shown b i)) r
        → ltb r (application_count b) ≡ any test (schema_of b).applications
    first_application =
        walk_first (schema_of b).applications (application_shown b) (application_count b) (application_there b) (application_in b) test

  module _ (test : End → Bool) where
    pub some_end : (i : ℕ) → i < end_count b → test (end_shown b i) ≡ true → true ≡ any test (schema_of b).ends
    some_end = walk_some (schema_of b).ends (end_shown b) (end_count b) (end_there b) (end_in b) test

    pub no_end : ((i : ℕ) → i < end_count b → test (end_shown b i) ≡ false) → false ≡ any test (schema_of b).ends
    no_end = walk_none (schema_of b).ends (end_shown b) (end_count b) (end_there b) (end_in b) test

  -- ---- the row that says that type t is in SDS d

  module _ (d t : ℕ) where
    row_holds : (i : ℕ) → RowOf b i d t → holds_type d t (presence_shown b i) ≡ true
    row_holds i w = and_of (eqb (get_or b (presence_at i) 0) d) (eqb (get_or b (presence_at i + type_offset) 0) t) (eq-eqb _ d w.0) (eq-eqb _ t w.1)

    holds_row : (i : ℕ) → holds_type d t (presence_shown b i) ≡ true → RowOf b i d t
    holds_row i e =
        let (x, y) = and_both (eqb (get_or b (presence_at i) 0) d) (eqb (get_or b (presence_at i + type_offset) 0) t) e in
        (eqb-true _ d x, eqb-true _ t y)

    not_row : (i : ℕ) → (RowOf b i d t → ⊥) → holds_type d t (presence_shown b i) ≡ false
    not_row i n = go (holds_type d t (presence_shown b i)) refl
      where
        go : (x : Bool) → holds_type d t (presence_shown b i) ≡ x → holds_type d t (presence_shown b i) ≡ false
        go true e = absurd (n (holds_row i e))
        go false e = e

    pub presence_first : {n r : ℕ} → PresenceRow b n d t r → FirstRow n (λ i. holds_type d t (presence_shown b i)) r
    presence_first p = record { fits = p.fits; others = λ i h. not_row i (p.others i h); found = λ h. row_holds _ (p.found h) }

    module _ {r : ℕ} (p : PresenceRow b (presence_count b) d t r) where
      -- a type that is in the SDS has a row
      pub row_below : present (schema_of b) d t ≡ true → r < presence_count b
      unfolding present
      row_below e = ltb-true r (presence_count b) (first_presence (holds_type d t) (presence_first p) ∙ e)

      -- with its local name
      pub row_name : present (schema_of b) d t ≡ true → strip (part b (presence_at r + name_offset) limits.name) ≡ local_name (schema_of b) d t
      row_name e =
          let h = row_below e in
          let f = presence_first p in
          let ps = (schema_of b).presences in
          let at : place (holds_type d t) ps ≡ r
          = place_is (holds_type d t) system_presence ps r (omega (arith, presences_long b))
          (λ i k. ap (holds_type d t) (presence_is b i system_presence (omega arith)) ∙ f.others i k)
          (ap (holds_type d t) (presence_is b r system_presence h) ∙ f.found h) in
          sym ((local_at (schema_of b) d t e).1 ∙ ap (λ (k : ℕ). (get_or ps k system_presence).name) at
          ∙ ap (λ (q : Presence). q.name) (presence_is b r system_presence h))
