-- Strings of one width as numbers, and their order. Assumes nothing.
use Prim.Native.Nat.{ℕ, zero, suc, ◌+◌, ◌*◌, ◌/◌, ◌%◌, ◌≤◌, ◌<◌}
use native.Mathlib.Nat.{mul-le-mul_right, mod-lt, div-add-mod', div-lt_iff_lt-mul}
use native.Mathlib.Omega.{arith}
use mathlib.Core.Path.{◌≡◌, refl, sym, ap}
use mathlib.Core.List.{List, [], ◌∷◌}
use mathlib.Core.Bool.{Bool, true, false, ◌&&◌, ◌||◌}
use lib.Arith.{digits_lt}
use lib.Dec.{ltb, eqb}
use lib.ListN.{length}
use borrow.Author.Tests.{ltb-true, ltb-false, lt-ltb, le-ltb, eqb-true, eqb-false}
use Rattle.rules.specs.01-Lists.{bytes_before}
use Rattle.rules.specs.11-File.{Entry}
use Rattle.rules.proofs.Bools.{same_test}
use Rattle.rules.proofs.Sections.{Bytes, bytes_none, bytes_more}

-- how many strings of w bytes there are
unfoldable pub many : ℕ → ℕ
many zero = 1
many (suc w) = 256 * many w

-- the place of a string among those of its width, in the order of bytes
unfoldable pub value : List ℕ → ℕ
value [] = 0
value (x ∷ l) = x * many (length l) + value l

-- the string of width w at a place
unfoldable pub digits : ℕ → ℕ → List ℕ
digits zero v = []
digits (suc w) v = v / many w ∷ digits w (v % many w)

pub many_pos : (w : ℕ) → 0 < many w
unfolding many
many_pos zero = omega arith
many_pos (suc w) = omega (arith, many_pos w)

pub many_more : (w : ℕ) → many (suc w) ≡ 256 * many w
unfolding many
many_more w = refl

-- ---- entries, byte by byte

pub bytes_rest : (x : ℕ) (l : List ℕ) → Bytes (x ∷ l) → Bytes l
bytes_rest x l h i = h (suc i)

pub entry_none : Entry 0 []
entry_none = record { wide = refl; bytes = bytes_none }

module _ {w x : ℕ} {l : List ℕ} where
  pub entry_rest : Entry (suc w) (x ∷ l) → Entry w l
  entry_rest e = record { wide = omega (arith, e.wide); bytes = bytes_rest x l e.bytes }

  pub entry_cons : x < 256 → Entry w l → Entry (suc w) (x ∷ l)
  entry_cons h e = record { wide = ap suc e.wide; bytes = bytes_more x l h e.bytes }

pub value_cons : {w : ℕ} {l : List ℕ} (x : ℕ) → Entry w l → value (x ∷ l) ≡ x * many w + value l
unfolding value
value_cons x e = rw e.wide

pub value_less : (w : ℕ) (l : List ℕ) → Entry w l → value l < many w
unfolding value many
value_less zero [] e = omega arith
value_less zero (x ∷ l) e = absurd (omega (arith, e.wide))
value_less (suc w) [] e = absurd (omega (arith, e.wide))
value_less (suc w) (x ∷ l) e = rw (entry_rest e).wide (digits_lt (e.bytes 0) (value_less w l (entry_rest e)))

digit_less : (w v : ℕ) → v < many (suc w) → v / many w < 256
unfolding many
digit_less w v h = (div-lt_iff_lt-mul (many_pos w)).1 h

pub digits_entry : (w v : ℕ) → v < many w → Entry w (digits w v)
unfolding digits
digits_entry zero v h = entry_none
digits_entry (suc w) v h = entry_cons (digit_less w v h) (digits_entry w (v % many w) (mod-lt v (many_pos w)))

pub digits_value : (w v : ℕ) → v < many w → value (digits w v) ≡ v
unfolding digits value many
digits_value zero v h = omega arith
digits_value (suc w) v h =
    let low = mod-lt v (many_pos w) in
    rw ((digits_entry w (v % many w) low).wide, digits_value w (v % many w) low) (div-add-mod' v (many w))

-- the order of the strings is that of the numbers
pub before_value : (w : ℕ) (a b : List ℕ) → Entry w a → Entry w b → bytes_before a b ≡ ltb (value a) (value b)
unfolding bytes_before value
before_value zero [] [] d e = refl
before_value zero [] (y ∷ b) d e = absurd (omega (arith, e.wide))
before_value zero (x ∷ a) b d e = absurd (omega (arith, d.wide))
before_value (suc w) [] b d e = absurd (omega (arith, d.wide))
before_value (suc w) (x ∷ a) [] d e = absurd (omega (arith, e.wide))
before_value (suc w) (x ∷ a) (y ∷ b) d e =
    rw ((entry_rest d).wide, (entry_rest e).wide) (go (ltb x y) refl (eqb x y) refl (before_value w a b (entry_rest d) (entry_rest e)))
  where
    go : (t : Bool) → ltb x y ≡ t → (u : Bool) → eqb x y ≡ u → bytes_before a b ≡ ltb (value a) (value b)
        → (ltb x y || (eqb x y && bytes_before a b)) ≡ ltb (x * many w + value a) (y * many w + value b)
    go true f u g ih =
        let far = mul-le-mul_right {m = suc x} {n = y} (many w) (ltb-true x y f) in
        rw f (sym (lt-ltb (x * many w + value a) (y * many w + value b) (omega (arith, far, value_less w a (entry_rest d)))))
    go false f true g ih =
        rw (f, g, ih, eqb-true x y g) (same_test (ltb (value a) (value b)) (ltb (y * many w + value a) (y * many w + value b))
        (λ e. lt-ltb (y * many w + value a) (y * many w + value b) (omega (arith, ltb-true (value a) (value b) e)))
        (λ e. lt-ltb (value a) (value b) (omega (arith, ltb-true (y * many w + value a) (y * many w + value b) e))))
    go false f false g ih =
        let more : suc y ≤ x = omega (arith, ltb-false x y f, eqb-false x y g) in
        let far = mul-le-mul_right {m = suc y} {n = x} (many w) more in
        rw (f, g) (sym (le-ltb (x * many w + value a) (y * many w + value b) (omega (arith, far, value_less w b (entry_rest e)))))
