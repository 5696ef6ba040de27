-- A row that was taken out is what a test takes out that this row alone passes. Assumes nothing.
use Prim.Native.Nat.{ℕ, ◌<◌}
use native.Mathlib.Omega.{arith}
use mathlib.Core.Path.{◌≡◌, refl, sym, ap, ◌∙◌}
use mathlib.Core.List.{List}
use mathlib.Core.Bool.{Bool, true, ◌&&◌}
use lib.Dec.{eqb}
use lib.ListN.{length, get_or}
use borrow.Author.Tests.{eqb-true}
use Rattle.rules.specs.01-Lists.{◌∈◌, without}
use Rattle.rules.specs.04-Schema.{Schema, Presence, Application, Side, End, system_presence, is_application, is_end, side_code}
use Rattle.rules.specs.07-Picture.{end_row}
use Rattle.rules.specs.Read.{read_side, read_end}
use Rattle.rules.proofs.Bools.{and_both}
use Rattle.rules.proofs.07-Picture.{end_back}
use Rattle.base.specs.Tables.{Table, Sorted}
use Rattle.base.specs.Back.{schema_of, presence_count, application_count, end_count, presence_shown, application_shown, end_shown}
use Rattle.base.specs.Stored.{Stored, less_row}
use Rattle.base.proofs.Tables.{Keeps, keeps_presences, keeps_applications, keeps_ends}
use Rattle.base.proofs.Back.{no_application, no_end}
use Rattle.base.proofs.Shown.{presences_long, applications_long, ends_long, presence_is, application_is, end_is}
use Rattle.base.proofs.OrderedLaws.{without_row}

-- ---- what tells one row from all others

one_application : (d t a : ℕ) (x : Application) → is_application d t a x ≡ true → x ≡ record { sds = d; to = t; attribute = a }
one_application d t a x e =
    let (f, more) = and_both (eqb x.sds d) (eqb x.to t && eqb x.attribute a) e in
    let (g, h) = and_both (eqb x.to t) (eqb x.attribute a) more in
    λ i. record { sds = eqb-true x.sds d f i; to = eqb-true x.to t g i; attribute = eqb-true x.attribute a h i }

-- a side is known by its code
side_is : (s : Side) {k : ℕ} → k ≡ side_code s → read_side k ≡ s
unfolding read_end end_row
side_is s e = ap read_side e ∙ ap (λ (x : End). x.side) (end_back (record { sds = 0; link = 0; side = s; object = 0 }))

pub one_end : (d l : ℕ) (s : Side) (o : ℕ) (x : End) → is_end d l s o x ≡ true → x ≡ record { sds = d; link = l; side = s; object = o }
one_end d l s o x e =
    let k = side_code s in
    let c = side_code x.side in
    let (f, more) = and_both (eqb x.sds d) (eqb x.link l && (eqb c k && eqb x.object o)) e in
    let (g, rest) = and_both (eqb x.link l) (eqb c k && eqb x.object o) more in
    let (h, j) = and_both (eqb c k) (eqb x.object o) rest in
    let side : x.side ≡ s = sym (side_is x.side refl) ∙ side_is s (eqb-true c k h) in
    λ i. record { sds = eqb-true x.sds d f i; link = eqb-true x.link l g i; side = side i; object = eqb-true x.object o j i }

-- ---- the three tables

module _ {b : List ℕ} (x : Stored b) (i : ℕ) where
  -- row i alone passes
  alone : {A : Type 0} {t : Table A} {o : Sorted t} {of : Schema → List A} {put : Schema → List A → Schema} → Keeps o of put
      → (d : A) {y : A} (q : A → Bool) → i < length (of (schema_of b)) → get_or (of (schema_of b)) i d ≡ y → q y ≡ true
      → ((z : A) → z ∈ of (schema_of b) → q z ≡ true → z ≡ y) → without q (of (schema_of b)) ≡ less_row i (of (schema_of b))
  alone k d q h is e one = without_row k.sorts (k.kept x.rows) d q i h (ap q is ∙ e) (λ z m t. one z m t ∙ sym is)

  -- which test tells a presence from all others depends on what is known of the schema
  pub presence_without : i < presence_count b → (q : Presence → Bool) → q (presence_shown b i) ≡ true
      → ((p : Presence) → p ∈ (schema_of b).presences → q p ≡ true → p ≡ presence_shown b i)
      → without q (schema_of b).presences ≡ less_row i (schema_of b).presences
  presence_without h q e one = alone keeps_presences system_presence q (omega (arith, presences_long b)) (presence_is b i system_presence h) e one

  pub application_without : (d t a : ℕ) → i < application_count b → is_application d t a (application_shown b i) ≡ true
      → without (is_application d t a) (schema_of b).applications ≡ less_row i (schema_of b).applications
  application_without d t a h e =
      alone keeps_applications no_application (is_application d t a) (omega (arith, applications_long b)) (application_is b i no_application h) e
      (λ y m q. one_application d t a y q ∙ sym (one_application d t a (application_shown b i) e))

  pub end_without : (d l : ℕ) (s : Side) (o : ℕ) → i < end_count b → is_end d l s o (end_shown b i) ≡ true
      → without (is_end d l s o) (schema_of b).ends ≡ less_row i (schema_of b).ends
  end_without d l s o h e =
      alone keeps_ends no_end (is_end d l s o) (omega (arith, ends_long b)) (end_is b i no_end h) e
      (λ y m q. one_end d l s o y q ∙ sym (one_end d l s o (end_shown b i) e))
