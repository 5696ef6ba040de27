-- The bytes that fit, found by comparing with the entry before and with the last string that leaves enough above itself. Assumes nothing.
use Prim.Native.Nat.{ℕ, zero, suc, ◌+◌, ◌*◌, ◌-◌, ◌/◌, ◌%◌, min, ◌≤◌, ◌<◌}
use native.Mathlib.Nat.{min-zero, zero-min, suc-min-suc, mul-le-mul_right, div-add-mod', mod-lt, div-lt_iff_lt-mul}
use native.Mathlib.Omega.{arith}
use mathlib.Core.Path.{◌≡◌, refl, sym, ap, ◌∙◌}
use mathlib.Core.List.{List, [], ◌∷◌}
use mathlib.Core.Logic.{◌⊎◌, inl, inr}
use mathlib.Core.Bool.{Bool, true, false, cond, ◌&&◌, true≢false, false≢true}
use lib.Dec.{leb, ltb, eqb}
use lib.ListN.{length, take, length-take}
use borrow.Author.Tests.{ltb-true, ltb-false, lt-ltb, le-ltb, le-leb, lt-leb, eqb-true, eqb-false}
use Rattle.rules.specs.11-File.{Entry, Longest}
use Rattle.rules.proofs.Sections.{Bytes, bytes_take}
use Rattle.file_form.specs.Walk.{full, above, within, top_byte, top, fitting}
use Rattle.file_form.proofs.Values.{many, value, many_pos, many_more, bytes_rest, entry_none, entry_rest, entry_cons, value_cons, value_less}
use Rattle.file_form.proofs.Fit.{Between, fit, fit_longest}

-- ---- the two bounds apart

unfoldable low : ℕ → ℕ → List ℕ → ℕ
low zero a l = 0
low (suc w) a [] = 0
low (suc w) a (x ∷ l) = cond (ltb a (x * many w + many w)) (suc (low w (a - x * many w) l)) 0

unfoldable high : ℕ → ℕ → List ℕ → ℕ
high zero b l = 0
high (suc w) b [] = 0
high (suc w) b (x ∷ l) = cond (leb (x * many w) b) (suc (high w (b - x * many w) l)) 0

fit_min : (w a b : ℕ) (l : List ℕ) → fit w a b l ≡ min (low w a l) (high w b l)
unfolding fit low high
fit_min zero a b l = refl
fit_min (suc w) a b [] = refl
fit_min (suc w) a b (x ∷ l) =
    go (ltb a (x * many w + many w)) (leb (x * many w) b) (low w (a - x * many w) l) (high w (b - x * many w) l)
    (fit_min w (a - x * many w) (b - x * many w) l)
  where
    go : (t u : Bool) (p q : ℕ) {n : ℕ} → n ≡ min p q → cond (t && u) (suc n) 0 ≡ min (cond t (suc p) 0) (cond u (suc q) 0)
    go true true p q e = ap suc e ∙ sym (suc-min-suc p q)
    go true false p q e = sym (min-zero (suc p))
    go false u p q e = sym (zero-min (cond u (suc q) 0))

-- only w bytes are looked at
fit_take : (w a b : ℕ) (l : List ℕ) → fit w a b l ≡ fit w a b (take w l)
unfolding fit
fit_take zero a b l = refl
fit_take (suc w) a b [] = refl
fit_take (suc w) a b (x ∷ l) = rw (← fit_take w (a - x * many w) (b - x * many w) l)

-- ---- a bound that no longer binds

low_free : (w : ℕ) (l : List ℕ) → length l ≤ w → (a : ℕ) → a ≡ 0 → low w a l ≡ length l
unfolding low
low_free zero [] h a e = refl
low_free zero (x ∷ l) h a e = absurd (omega arith)
low_free (suc w) [] h a e = refl
low_free (suc w) (x ∷ l) h a e =
    rw (lt-ltb a (x * many w + many w) (omega (arith, many_pos w))) (ap suc (low_free w l (omega arith) (a - x * many w) (omega arith)))

high_free : (w : ℕ) (l : List ℕ) → Bytes l → length l ≤ w → (b : ℕ) → many w ≤ suc b → high w b l ≡ length l
unfolding high many
high_free zero [] s h b k = refl
high_free zero (x ∷ l) s h b k = absurd (omega arith)
high_free (suc w) [] s h b k = refl
high_free (suc w) (x ∷ l) s h b k =
    let byte : suc x ≤ 256 = s 0 in
    let far = mul-le-mul_right {m = suc x} {n = 256} (many w) byte in
    rw (le-leb (x * many w) b (omega (arith, many_pos w)))
    (ap suc (high_free w l (bytes_rest x l s) (omega arith) (b - x * many w) (omega (arith, many_pos w))))

-- ---- the bounds by bytes

full_value : (w : ℕ) (l : List ℕ) → Entry w l → full l ≡ true → suc (value l) ≡ many w
unfolding full value many
full_value zero [] e f = refl
full_value zero (x ∷ l) e f = absurd (omega (arith, e.wide))
full_value (suc w) [] e f = absurd (omega (arith, e.wide))
full_value (suc w) (x ∷ l) e f = go (eqb x 255) refl (full_value w l (entry_rest e))
  where
    go : (t : Bool) → eqb x 255 ≡ t → (full l ≡ true → suc (value l) ≡ many w) → suc (x * many (length l) + value l) ≡ 256 * many w
    go true g ih =
        let rest : full l ≡ true = rw g at f in
        rw ((entry_rest e).wide, eqb-true x 255 g) (omega (arith, ih rest))
    go false g ih =
        let no : false ≡ true = rw g at f in
        absurd (false≢true no)

part_value : (w : ℕ) (l : List ℕ) → Entry w l → full l ≡ false → suc (value l) < many w
unfolding full value many
part_value zero [] e f = absurd (true≢false f)
part_value zero (x ∷ l) e f = absurd (omega (arith, e.wide))
part_value (suc w) [] e f = absurd (omega (arith, e.wide))
part_value (suc w) (x ∷ l) e f = go (eqb x 255) refl (part_value w l (entry_rest e))
  where
    go : (t : Bool) → eqb x 255 ≡ t → (full l ≡ false → suc (value l) < many w) → suc (x * many (length l) + value l) < 256 * many w
    go true g ih =
        let rest : full l ≡ false = rw g at f in
        rw ((entry_rest e).wide, eqb-true x 255 g) (omega (arith, ih rest))
    go false g ih =
        let byte = e.bytes 0 in
        let less : suc x ≤ 255 = omega (arith, eqb-false x 255 g) in
        let far = mul-le-mul_right {m = suc x} {n = 255} (many w) less in
        rw (entry_rest e).wide (omega (arith, far, value_less w l (entry_rest e), many_pos w))

low_above : (w : ℕ) (p l : List ℕ) → Entry w p → Bytes l → length l ≤ w → low w (suc (value p)) l ≡ above p l
unfolding low above
low_above zero [] [] e s h = refl
low_above zero [] (x ∷ l) e s h = absurd (omega arith)
low_above zero (y ∷ p) l e s h = absurd (omega (arith, e.wide))
low_above (suc w) [] l e s h = absurd (omega (arith, e.wide))
low_above (suc w) (y ∷ p) [] e s h = refl
low_above (suc w) (y ∷ p) (x ∷ l) e s h =
    go (ltb y x) refl (ltb x y) refl (full p) refl (low_above w p l (entry_rest e) (bytes_rest x l s) (omega arith))
  where
    is : value (y ∷ p) ≡ y * many w + value p
    is = value_cons y (entry_rest e)

    some : value p < many w
    some = value_less w p (entry_rest e)

    go : (t : Bool) → ltb y x ≡ t → (u : Bool) → ltb x y ≡ u → (v : Bool) → full p ≡ v → low w (suc (value p)) l ≡ above p l
        → cond (ltb (suc (value (y ∷ p))) (x * many w + many w)) (suc (low w (suc (value (y ∷ p)) - x * many w) l)) 0
        ≡ cond (ltb y x) (suc (length l)) (cond (ltb x y) 0 (cond (full p) 0 (suc (above p l))))
    go true f u g v k ih =
        let far = mul-le-mul_right {m = suc y} {n = x} (many w) (ltb-true y x f) in
        rw (f, lt-ltb (suc (value (y ∷ p))) (x * many w + many w) (omega (arith, is, some, many_pos w)))
        (ap suc (low_free w l (omega arith) (suc (value (y ∷ p)) - x * many w) (omega (arith, is, some))))
    go false f true g v k ih =
        let far = mul-le-mul_right {m = suc x} {n = y} (many w) (ltb-true x y g) in
        rw (f, g, le-ltb (suc (value (y ∷ p))) (x * many w + many w) (omega (arith, is)))
    go false f false g true k ih =
        let same : x ≡ y = omega (arith, ltb-false y x f, ltb-false x y g) in
        rw (f, g, k, same, le-ltb (suc (value (y ∷ p))) (y * many w + many w) (omega (arith, is, full_value w p (entry_rest e) k)))
    go false f false g false k ih =
        let same : x ≡ y = omega (arith, ltb-false y x f, ltb-false x y g) in
        let left : suc (value (y ∷ p)) - y * many w ≡ suc (value p) = omega (arith, is) in
        rw (f, g, k, same, lt-ltb (suc (value (y ∷ p))) (y * many w + many w) (omega (arith, is, part_value w p (entry_rest e) k)), left, ih)

high_within : (w : ℕ) (z l : List ℕ) → Entry w z → Bytes l → length l ≤ w → high w (value z) l ≡ within z l
unfolding high within
high_within zero [] [] e s h = refl
high_within zero [] (x ∷ l) e s h = absurd (omega arith)
high_within zero (y ∷ z) l e s h = absurd (omega (arith, e.wide))
high_within (suc w) [] l e s h = absurd (omega (arith, e.wide))
high_within (suc w) (y ∷ z) [] e s h = refl
high_within (suc w) (y ∷ z) (x ∷ l) e s h =
    go (ltb x y) refl (ltb y x) refl (high_within w z l (entry_rest e) (bytes_rest x l s) (omega arith))
  where
    is : value (y ∷ z) ≡ y * many w + value z
    is = value_cons y (entry_rest e)

    go : (t : Bool) → ltb x y ≡ t → (u : Bool) → ltb y x ≡ u → high w (value z) l ≡ within z l
        → cond (leb (x * many w) (value (y ∷ z))) (suc (high w (value (y ∷ z) - x * many w) l)) 0
        ≡ cond (ltb x y) (suc (length l)) (cond (ltb y x) 0 (suc (within z l)))
    go true f u g ih =
        let far = mul-le-mul_right {m = suc x} {n = y} (many w) (ltb-true x y f) in
        rw (f, le-leb (x * many w) (value (y ∷ z)) (omega (arith, is)))
        (ap suc (high_free w l (bytes_rest x l s) (omega arith) (value (y ∷ z) - x * many w) (omega (arith, is))))
    go false f true g ih =
        let far = mul-le-mul_right {m = suc y} {n = x} (many w) (ltb-true y x g) in
        rw (f, g, lt-leb (x * many w) (value (y ∷ z)) (omega (arith, is, value_less w z (entry_rest e))))
    go false f false g ih =
        let same : x ≡ y = omega (arith, ltb-false x y f, ltb-false y x g) in
        let left : value (y ∷ z) - y * many w ≡ value z = omega (arith, is) in
        rw (f, g, same, le-leb (y * many w) (value (y ∷ z)) (omega (arith, is)), left, ih)

-- ---- the last string that leaves m above itself

top_entry : (k m : ℕ) → Entry k (top k m)
unfolding top top_byte
top_entry zero m = entry_none
top_entry (suc k) m = entry_cons byte (top_entry k m)
  where
    byte : top_byte (suc k) m < 256
    byte = small (ltb 2 (suc k)) (eqb (suc k) 2)
      where
        small : (t u : Bool) → cond t 255 (cond u (255 - m / 256) (255 - m % 256)) < 256
        small true u = omega arith
        small false true = omega arith
        small false false = omega arith

top_two : (m : ℕ) → m < 65536 → value (top 2 m) + suc m ≡ many 2
unfolding top top_byte value many
top_two m h =
    let some : m / 256 < 256 = (div-lt_iff_lt-mul {k = 256} {x = m} {y = 256} (omega arith)).1 h in
    omega (arith, div-add-mod' m 256, mod-lt m {m = 256} (omega arith))

top_more : (k m : ℕ) → value (top (suc (suc (suc k))) m) ≡ 255 * many (suc (suc k)) + value (top (suc (suc k)) m)
unfolding top top_byte
top_more k m =
    value_cons (top_byte (suc (suc (suc k))) m) (top_entry (suc (suc k)) m)
    ∙ rw (lt-ltb 2 (suc (suc (suc k))) (omega arith))

top_value : (k m : ℕ) → m < 65536 → value (top (suc (suc k)) m) + suc m ≡ many (suc (suc k))
top_value zero m h = top_two m h
top_value (suc k) m h = omega (arith, top_value k m h, top_more k m, many_more (suc (suc k)))

-- ---- the bytes of an entry

-- p is the entry before, or there is none
abbrev pub Prior : ℕ → List ℕ → Type 0
Prior w p = (p ≡ []) ⊎ Entry w p

-- the least place above p
unfoldable pub past : List ℕ → ℕ
past [] = 0
past (y ∷ p) = suc (value (y ∷ p))

pub past_some : (y : ℕ) (p : List ℕ) → past (y ∷ p) ≡ suc (value (y ∷ p))
unfolding past
past_some y p = refl

low_prior : (w : ℕ) (p l : List ℕ) → 0 < w → Prior w p → Bytes l → length l ≤ w → low w (past p) l ≡ above p l
unfolding past above
low_prior w [] l h r s k = low_free w l k 0 refl
low_prior w (y ∷ p) l h (inl e) s k = absurd (omega (arith, ap length e))
low_prior w (y ∷ p) l h (inr e) s k = low_above w (y ∷ p) l e s k

pub entry_longest : (w m : ℕ) (p l : List ℕ) → 2 ≤ w → m < 65536 → Prior w p → Bytes l → past p + m < many w
    → Longest (Between w (past p) (many w - suc m)) l (fitting w p m (take w l))
entry_longest zero m p l h k r s room = absurd (omega arith)
entry_longest (suc zero) m p l h k r s room = absurd (omega arith)
entry_longest (suc (suc w)) m p l h k r s room =
    rw (← found) (fit_longest (suc (suc w)) (past p) (many (suc (suc w)) - suc m) l s (omega arith) (omega arith))
  where
    e : List ℕ
    e = take (suc (suc w)) l

    short : length e ≤ suc (suc w)
    short = omega (arith, length-take (suc (suc w)) l)

    last : many (suc (suc w)) - suc m ≡ value (top (suc (suc w)) m)
    last = omega (arith, top_value w m k)

    found : fit (suc (suc w)) (past p) (many (suc (suc w)) - suc m) l ≡ fitting (suc (suc w)) p m e
    found =
        fit_take (suc (suc w)) (past p) (many (suc (suc w)) - suc m) l
        ∙ fit_min (suc (suc w)) (past p) (many (suc (suc w)) - suc m) e
        ∙ rw (
          last,
          low_prior (suc (suc w)) p e (omega arith) r (bytes_take (suc (suc w)) l s) short,
          high_within (suc (suc w)) (top (suc (suc w)) m) e (top_entry (suc (suc w)) m) (bytes_take (suc (suc w)) l s) short,
        )
