-- What a row in two numbers says of its bytes. Assumes nothing.
use Prim.Native.Nat.{ℕ, zero, suc, ◌+◌, ◌*◌, ◌/◌, ◌^◌, ◌-◌, ◌≤◌, ◌<◌}
use native.Mathlib.Omega.{arith}
use mathlib.Core.Path.{◌≡◌, refl, sym, ap, subst}
use mathlib.Core.List.{List}
use mathlib.Core.Bool.{Bool, true, false, ◌&&◌}
use lib.Dec.{eqb}
use lib.Bits.{bit_or, or_add_and, and_le_l, and_le_r}
use lib.ListN.{length, replicate}
use borrow.Author.Count.{below_more}
use borrow.Author.Tests.{eqb-true, eqb-false}
use Rattle.std.specs.Prelude.{Some}
use Rattle.rules.proofs.Bools.{and_both}
use Rattle.rules.specs.07-Picture.{base_length, type_width}
use Rattle.rows.specs.Rows.{part}
use Rattle.rows.proofs.Decides.{decides_yes}
use Rattle.base.specs.Rows.{type_at}
use Rattle.lookup.proofs.KindBytes.{parent_byte}
use Rattle.check_types.specs.declared.Numbering.TheVariants.{Below}
use Rattle.check_types.specs.OneType.{sdss_of, NoParentsFrom, Front, Places, ParentFine, ParentsBefore, ObjectFront, ObjectFine}
use Rattle.check_types.specs.OneType.{Told, TypeFine, Unheld}
use Rattle.check_types.proofs.RowLaws.{zero_row, row_bare}
use Rattle.check_types.proofs.OneTypeLaws.{unheld_type}

four : (P : ℕ → Type 0) → P 0 → P 1 → P 2 → P 3 → (i : ℕ) → i < 4 → P i
four P a b c d zero u = a
four P a b c d (suc zero) u = b
four P a b c d (suc (suc zero)) u = c
four P a b c d (suc (suc (suc zero))) u = d
four P a b c d (suc (suc (suc (suc i)))) u = absurd (omega arith)

-- ---- the places for parents

module _ {b : List ℕ} {t r : ℕ} (p : Places b t r) where
  pub no_places : r ≡ 0 → NoParentsFrom b t 0
  no_places e =
      four (λ i. 0 ≤ i → parent_byte b t i ≡ 0) (λ _. omega (arith, p.is)) (λ _. omega (arith, p.is)) (λ _. omega (arith, p.is))
      (λ _. omega (arith, p.is))

  -- the last of n parents and one more, with the places behind it: small where they are zero
  pub last_small : (n : ℕ) → n < 4 → r / 2 ^ (n * 8) < 128 → (r / 2 ^ (n * 8) ≡ parent_byte b t n) × NoParentsFrom b t (suc n)
  last_small = four
      (λ n. r / 2 ^ (n * 8) < 128 → (r / 2 ^ (n * 8) ≡ parent_byte b t n) × NoParentsFrom b t (suc n))
      (λ h. (
        omega (arith, p.is),
        four (λ i. 1 ≤ i → parent_byte b t i ≡ 0) (λ u. omega arith) (λ _. omega (arith, p.is)) (λ _. omega (arith, p.is))
            (λ _. omega (arith, p.is)),
      ))
      (λ h. (
        omega (arith, p.is, p.first),
        four (λ i. 2 ≤ i → parent_byte b t i ≡ 0) (λ u. omega arith) (λ u. omega arith) (λ _. omega (arith, p.is))
            (λ _. omega (arith, p.is)),
      ))
      (λ h. (
        omega (arith, p.is, p.first, p.second),
        four (λ i. 3 ≤ i → parent_byte b t i ≡ 0) (λ u. omega arith) (λ u. omega arith) (λ u. omega arith)
            (λ _. omega (arith, p.is)),
      ))
      (λ h. (omega (arith, p.is, p.first, p.second, p.third), λ i u l. absurd (omega arith)))

-- ---- object types

-- from i on
pub from_more : (P : ℕ → Type 0) (n i : ℕ) → ((k : ℕ) → k < n → i < k → P k) → P i → (k : ℕ) → k < n → i ≤ k → P k
from_more P n i f p k u l = go (eqb k i) refl
  where
    go : (s : Bool) → eqb k i ≡ s → P k
    go true e = subst P (sym (eqb-true k i e)) p
    go false e = let other = eqb-false k i e in f k u (omega arith)

pub from_before : (P : ℕ → Type 0) (n i : ℕ) → 0 < i → ((k : ℕ) → k < n → i ≤ k → P k) → P (i - 1) → (k : ℕ) → k < n → i - 1 ≤ k → P k
from_before P n i h f p = from_more P n (i - 1) (λ k u l. f k u (omega arith)) p

-- parents that rise are numbered below what the last is below
pub under : (b held : List ℕ) (t sdss n m : ℕ) → ParentsBefore b held t sdss n → parent_byte b t n < m → (i : ℕ) → i ≤ n → parent_byte b t i < m
under b held t sdss n m f last i u = go (n - i) i (omega arith)
  where
    go : (d i : ℕ) → d + i ≡ n → parent_byte b t i < m
    go zero i e = let same : parent_byte b t i ≡ parent_byte b t n = ap (parent_byte b t) (omega arith) in omega arith
    go (suc d) i e =
        let next = go d (suc i) (omega arith) in
        omega (arith, (f i (omega arith)).0)

pub object_all : {b held : List ℕ} {t sdss n : ℕ} → n < 4 → ObjectFront b t n → NoParentsFrom b t (suc n) → parent_byte b t n < 128
    → ParentFine b held sdss (parent_byte b t n) → ParentsBefore b held t sdss n → ObjectFine b held t sdss
object_all {b} {held} {t} {sdss} {n} h o z small last before = record {
  row = record {
    value = omega (arith, o.value);
    reverse = o.reverse;
    parents = record { count = omega (arith, o.count); places = λ i u l. z i u (omega (arith, o.count)) };
  };
  only_root = λ none. absurd (omega (arith, o.count));
  rising = λ i u. (before i (omega (arith, o.count))).0;
  small = λ i u. under b held t sdss n 128 before small i (omega (arith, o.count));
  each = λ i u. below_more (λ k. ParentFine b held sdss (parent_byte b t k)) n (λ k l. (before k l).1) last i (omega (arith, o.count));
}

-- ---- unused types

-- no bit is set in either
or_none : (a b : ℕ) → bit_or a b ≡ 0 → (a ≡ 0) × (b ≡ 0)
or_none a b e = (omega (arith, or_add_and a b, and_le_r a b), omega (arith, or_add_and a b, and_le_l a b))

pub bits_zero : {b : List ℕ} {t r q : ℕ} → length b ≡ base_length → t < 128 → Front b t r → Places b t q → bit_or r q ≡ 0
    → part b (type_at t) type_width ≡ replicate type_width 0
bits_zero {b} {t} {r} {q} long h f p e =
    let (none, empty) = or_none r q e in
    let no = no_places p empty in
    zero_row b t long h (omega (arith, f.is)) (omega (arith, f.is)) (omega (arith, f.is))
    (record { count = omega (arith, f.is); places = λ i u l. no i u (omega arith) })

pub zero_bits : {b : List ℕ} {t r q : ℕ} → length b ≡ base_length → t < 128 → Front b t r → Places b t q
    → part b (type_at t) type_width ≡ replicate type_width 0 → bit_or r q ≡ 0
zero_bits {b} {t} {r} {q} long h f p z =
    let (kind, value, reverse, parents) = row_bare b t long h 0 0 0 (sym z) in
    let none : (i : ℕ) → i < 4 → parent_byte b t i ≡ 0 = λ i u. parents.places i u (omega (arith, parents.count)) in
    let front : r ≡ 0 = omega (arith, f.is, kind, value, reverse, parents.count) in
    let places : q ≡ 0 = omega (arith, p.is, none 0 (omega arith), none 1 (omega arith), none 2 (omega arith), none 3 (omega arith)) in
    (λ j. bit_or (front j) (places j))

-- the four before t
four_before : (P : ℕ → Type 0) (t : ℕ) → 4 ≤ t → P (t - 1) → P (t - 2) → P (t - 3) → P (t - 4) → (k : ℕ) → k < t → t ≤ k + 4 → P k
four_before P t h a b c d k u l =
    let e : t - suc (t - 1 - k) ≡ k = omega arith in
    subst P e (four (λ i. P (t - suc i)) a b c d (t - 1 - k) (omega arith))

abbrev ZeroRow : List ℕ → ℕ → Type 0
ZeroRow b t = part b (type_at t) type_width ≡ replicate type_width 0

pub four_unheld : {b held : List ℕ} (t m n p q : ℕ) → 4 ≤ t → (m ≡ 0 → ZeroRow b (t - 1)) → (n ≡ 0 → ZeroRow b (t - 2))
    → (p ≡ 0 → ZeroRow b (t - 3)) → (q ≡ 0 → ZeroRow b (t - 4))
    → eqb (bit_or (bit_or (sdss_of held (t - 1)) (sdss_of held (t - 2))) (bit_or (sdss_of held (t - 3)) (sdss_of held (t - 4)))) 0
    && eqb (bit_or (bit_or m n) (bit_or p q)) 0 ≡ true → (k : ℕ) → k < t → t ≤ k + 4 → Unheld b held k
four_unheld {b} {held} t m n p q h zm zn zp zq e =
    let w : ℕ → ℕ = sdss_of held in
    let sdss = bit_or (bit_or (w (t - 1)) (w (t - 2))) (bit_or (w (t - 3)) (w (t - 4))) in
    let rows = bit_or (bit_or m n) (bit_or p q) in
    let (s, r) = and_both (eqb sdss 0) (eqb rows 0) e in
    let (s₁, s₂) = or_none (bit_or (w (t - 1)) (w (t - 2))) (bit_or (w (t - 3)) (w (t - 4))) (eqb-true sdss 0 s) in
    let (r₁, r₂) = or_none (bit_or m n) (bit_or p q) (eqb-true rows 0 r) in
    let (a, b₁) = or_none (w (t - 1)) (w (t - 2)) s₁ in
    let (c, d) = or_none (w (t - 3)) (w (t - 4)) s₂ in
    let (i, j) = or_none m n r₁ in
    let (k, l) = or_none p q r₂ in
    four_before (Unheld b held) t h (record { nowhere = a; row = zm i }) (record { nowhere = b₁; row = zn j }) (record { nowhere = c; row = zp k })
    (record { nowhere = d; row = zq l })

-- is fine, and has no parents
pub unheld_told : {b held : List ℕ} {t : ℕ} → length b ≡ base_length → t < 128 → Unheld b held t → Told (TypeFine b held t) b t (Some Below)
unheld_told long h x = unheld_type long h x.nowhere (decides_yes x.row)
