-- What the field of an SDS says of the schema that the bytes show. Assumes nothing.
use Prim.Native.Nat.{ℕ, zero, suc, ◌+◌, ◌-◌, ◌≤◌, ◌<◌}
use native.Mathlib.Omega.{arith}
use mathlib.Core.Path.{◌≡◌, refl, sym, ap, ◌∙◌}
use mathlib.Core.List.{List, [], ◌∷◌}
use mathlib.Core.Bool.{Bool, true, false, not, ◌&&◌, false≢true}
use lib.Dec.{leb, ltb, eqb, eqb-suc-zero}
use lib.ListN.{length, get_or}
use borrow.Author.Tests.{ltb-true, ltb-false, le-ltb, ne_eqb, lt-leb}
use Rattle.rules.specs.01-Lists.{numbers}
use Rattle.rules.specs.02-Limits.{limits}
use Rattle.rules.specs.03-Names.{Name, well_formed, blank, same_name}
use Rattle.rules.specs.04-Schema.{sds_name, used_sds}
use Rattle.rules.specs.07-Picture.{base_length}
use Rattle.rules.specs.09-Refusals.{unknown_sds, sds_name_taken, free_sdss, no_free_sds}
use Rattle.rules.specs.10-Changes.{new_sds_number}
use Rattle.rules.proofs.Bools.{and_of, or_right}
use Rattle.rules.proofs.01-Lists.{any_at, any_none, at_place, place_in, numbers_first, numbers_none}
use Rattle.rules.proofs.03-Names.{formed_long, same_long}
use Rattle.rules.specs.Read.{strip}
use Rattle.rows.specs.Rows.{part}
use Rattle.rows.proofs.Scan.{length_part}
use Rattle.base.specs.Rows.{sds_at}
use Rattle.base.specs.Back.{schema_of}
use Rattle.lookup.specs.Found.{FreeSds}
use Rattle.base.proofs.Shown.{sdss_long, sds_is, sds_none}

-- ---- SDSs

module _ (b : List ℕ) (long : length b ≡ base_length) where
  -- an SDS is used exactly where the first byte of its field is not 0
  pub used_first : (d : ℕ) → d < 16 → (f : List ℕ) → f ≡ part b (sds_at d) limits.name → not (eqb (get_or f 0 0) 0) ≡ used_sds (schema_of b) d
  unfolding used_sds strip
  used_first d h f e = rw (sds_is b d h, ← e) (go f (ap length e ∙ length_part b (sds_at d) limits.name (omega arith)))
    where
      go : (f : List ℕ) → length f ≡ 16 → not (eqb (get_or f 0 0) 0) ≡ not (eqb (length (strip f)) 0)
      go [] l = absurd (omega arith)
      go (zero ∷ f) l = refl
      go (suc x ∷ f) l = ap not (eqb-suc-zero x ∙ sym (eqb-suc-zero (length (strip f))))

  pub used_past : (d : ℕ) → 16 ≤ d → false ≡ used_sds (schema_of b) d
  unfolding used_sds
  used_past d h = rw (sds_none b d h)

  pub used_below : (d : ℕ) → used_sds (schema_of b) d ≡ true → d < 16
  used_below d u = go (ltb d 16) refl
    where
      go : (t : Bool) → ltb d 16 ≡ t → d < 16
      go true q = ltb-true d 16 q
      go false q = absurd (false≢true (used_past d (ltb-false d 16 q) ∙ u))

  pub known : (d : ℕ) → used_sds (schema_of b) d ≡ true → unknown_sds (schema_of b) d ≡ false
  unfolding unknown_sds
  known d u = rw (lt-leb 16 d (used_below d u), u)

  pub unknown : (d : ℕ) → used_sds (schema_of b) d ≡ false → unknown_sds (schema_of b) d ≡ true
  unfolding unknown_sds
  unknown d u = or_right (leb 16 d) (not (used_sds (schema_of b) d)) (ap not u)

-- ---- the name of an SDS is taken

-- some SDS has the name
pub taken_at : (b : List ℕ) (d : ℕ) (n m : Name) → d < 16 → m ≡ sds_name (schema_of b) d → well_formed n ≡ true → same_name m n ≡ true
    → true ≡ sds_name_taken (schema_of b) n
unfolding sds_name_taken
taken_at b d n m h e w q =
    sym (any_at (λ x. not (blank x) && same_name x n) (place_in [] (schema_of b).sdss d (omega (arith, sdss_long b)))
    (and_of (not (blank (sds_name (schema_of b) d))) (same_name (sds_name (schema_of b) d) n)
    (ap not (ne_eqb (length (sds_name (schema_of b) d)) 0 (λ z. omega (arith, (formed_long n w).0, same_long m n q, ap length e))))
    (ap (λ (x : Name). same_name x n) (sym e) ∙ q)))

-- no SDS has
pub taken_nowhere : (b : List ℕ) (n : Name) → ((d : ℕ) → d < 16 → same_name (sds_name (schema_of b) d) n ≡ false) → false ≡ sds_name_taken (schema_of b) n
unfolding sds_name_taken
taken_nowhere b n none =
    sym (any_none (λ x. not (blank x) && same_name x n) (schema_of b).sdss (λ x i.
    let (d, h, e) = at_place [] i in
    other x (ap (λ (y : Name). same_name y n) (sym e) ∙ none d (omega (arith, sdss_long b)))))
  where
    other : (x : Name) → same_name x n ≡ false → (not (blank x) && same_name x n) ≡ false
    other x q = rw q (and_no (not (blank x)))
      where
        and_no : (t : Bool) → (t && false) ≡ false
        and_no true = refl
        and_no false = refl

-- ---- the lowest number that no SDS has

module _ {b : List ℕ} {r : ℕ} (f : FreeSds b r) where
  pub free_some : r < 16 → no_free_sds (schema_of b) ≡ false
  unfolding no_free_sds free_sdss
  free_some h =
      let free : ℕ → Bool = λ d. not (used_sds (schema_of b) d) in
      rw (numbers_first free 0 16 r (omega arith) (omega arith) (λ k l u. ap not (f.used k u)) (ap not (f.free h)))
      (le-ltb (suc (length (numbers (suc r) (0 + 16 - suc r) free))) 1 (omega arith))

  pub free_number : r < 16 → r ≡ new_sds_number (schema_of b)
  unfolding free_sdss
  free_number h = rw (numbers_first (λ d. not (used_sds (schema_of b) d)) 0 16 r (omega arith) (omega arith) (λ k l u. ap not (f.used k u))
      (ap not (f.free h)))

  pub free_none : 16 ≤ r → no_free_sds (schema_of b) ≡ true
  unfolding no_free_sds free_sdss
  free_none h = rw (numbers_none (λ d. not (used_sds (schema_of b) d)) 0 16 (λ k l u. ap not (f.used k (omega arith))))
