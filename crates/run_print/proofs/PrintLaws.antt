-- Numbers put down in decimal, one after the other. Assumes nothing.
use Prim.Native.Nat.{ℕ, zero, suc, ◌+◌, ◌-◌, ◌*◌, ◌/◌, ◌%◌, ◌^◌, ◌≤◌, ◌<◌}
use native.Mathlib.Nat.{pow-suc, one-le-pow, pow-le-pow_right}
use native.Mathlib.Omega.{arith}
use mathlib.Core.Path.{◌≡◌, refl, sym, ap, ap₂, ◌∙◌, subst}
use mathlib.Core.List.{List, [], ◌∷◌, ◌++◌, append_assoc, append-nil}
use mathlib.Core.Bool.{Bool, true, false, cond}
use lib.Dec.{ltb}
use lib.ListN.{length, get_or, take, set, length-append, length-take, length-set}
use lib.Seq.{take-suc, take-suc-set, take-length}
use borrow.Author.Tests.{lt-ltb, le-ltb, ltb-true, ltb-false}
use Rattle.rules.specs.12-Contracts.{entries}
use Rattle.rules.specs.14-Run.{decimal, printed}
use borrow.Rule.Slice.PartMut.{put_mid}
use Rattle.std.proofs.lemmas.Slice.{take-put_mid}
use Rattle.io.specs.Digits.{last_digits, IsDigitCount}
use Rattle.run_print.specs.Print.{Printed, spaced, read_entries}

-- ---- a number

-- the fewest digits are those that are printed
digits_decimal : (k p n : ℕ) → k ≤ p → 1 ≤ k → n < 10 ^ k → (1 < k → 10 ^ (k - 1) ≤ n) → last_digits 10 k n ≡ decimal p n
unfolding decimal
digits_decimal zero p n h l u f = absurd (omega arith)
digits_decimal (suc k) zero n h l u f = absurd (omega arith)
digits_decimal (suc zero) (suc p) n h l u f =
    let small : n % 10 ≡ n = omega arith in
    rw (small, lt-ltb n 10 u)
digits_decimal (suc (suc k)) (suc p) n h l u f =
    let less : suc (suc k) - 1 ≡ suc k = omega arith in
    let low : 10 ^ suc k ≤ n = subst (λ (x : ℕ). 10 ^ x ≤ n) less (f (omega arith)) in
    let power = pow-suc 10 k in
    let large : 10 ≤ n = omega (arith, low, power, one-le-pow k 10 (omega arith)) in
    let rest : last_digits 10 (suc k) (n / 10) ≡ decimal p (n / 10)
    = digits_decimal (suc k) p (n / 10) (omega arith) (omega arith) (omega (arith, u, pow-suc 10 (suc k))) (λ q. lower k q low) in
    rw (le-ltb n 10 large, lt-ltb (n % 10) 10 (omega arith), rest)
  where
    lower : (k : ℕ) → 1 < suc k → 10 ^ suc k ≤ n → 10 ^ (suc k - 1) ≤ n / 10
    lower k q low =
        let less : k ≡ suc k - 1 = omega arith in
        subst (λ (x : ℕ). 10 ^ x ≤ n / 10) less (omega (arith, low, pow-suc 10 k))

-- twenty places are enough for 64 bits
pub places_few : (n k : ℕ) → n < 18446744073709551616 → IsDigitCount 10 1 n k → k ≤ 20
places_few n k h fewest = go (ltb 20 k) refl
  where
    go : (t : Bool) → ltb 20 k ≡ t → k ≤ 20
    go false e = ltb-false 20 k e
    go true e =
        let many = ltb-true 20 k e in
        let ten : 0 < 10 = omega arith in
        let far : 20 ≤ k - 1 = omega (arith, many) in
        let more : 10 ^ 20 ≤ 10 ^ (k - 1) = pow-le-pow_right ten far in
        absurd (omega (arith, h, more, fewest.2 (omega (arith, many))))

pub decimal_few : (p n : ℕ) → length (decimal p n) ≤ p
unfolding decimal
decimal_few zero n = omega arith
decimal_few (suc p) n = go (ltb n 10) (decimal_few p (n / 10))
  where
    go : (t : Bool) → length (decimal p (n / 10)) ≤ p
        → length (cond t ((48 + n) ∷ []) (decimal p (n / 10) ++ ((48 + n % 10) ∷ []))) ≤ suc p
    go true h = omega arith
    go false h = omega (arith, length-append (decimal p (n / 10)) ((48 + n % 10) ∷ []))

-- ---- bytes put down

-- a number's digits put down over what stood there
pub number_printed : (b l : List ℕ) (at n k : ℕ) → at + 20 ≤ length b → n < 18446744073709551616 → IsDigitCount 10 1 n k → k ≡ length l
    → l ≡ last_digits 10 k n → length (put_mid at (at + k - at) b l) ≡ length b → Printed b at (decimal 20 n) (put_mid at (at + k - at) b l) (at + k)
number_printed b l at n k room small fewest long is whole =
    let few = places_few n k small fewest in
    let same : l ≡ decimal 20 n = is ∙ digits_decimal k 20 n few fewest.0 fewest.1 fewest.2 in
    record {
      long = whole;
      end = omega (arith, long, ap length same);
      is = take-put_mid at (at + k - at) b l (at + k) (omega (arith, long)) (omega arith) ∙ ap (λ (m : List ℕ). take at b ++ m) same;
    }

-- nothing
pub printed_none : (b : List ℕ) (at : ℕ) → Printed b at [] b at
printed_none b at = record { long = refl; end = omega arith; is = sym (append-nil (take at b)) }

-- one text behind the other
pub printed_next : {b b' b'' : List ℕ} {at r r' : ℕ} {l m : List ℕ} → Printed b at l b' r → Printed b' r m b'' r' → Printed b at (l ++ m) b'' r'
printed_next {b} {b'} {b''} {at} {r} {r'} {l} {m} x y = record {
  long = y.long ∙ x.long;
  end = omega (arith, y.end, x.end, length-append l m);
  is = y.is ∙ ap (λ (t : List ℕ). t ++ m) x.is ∙ append_assoc (take at b) l m;
}

-- one byte
pub printed_byte : (b : List ℕ) (at c : ℕ) → at < length b → Printed b at (c ∷ []) (set b at c) (at + 1)
printed_byte b at c h = record {
  long = length-set b at c;
  end = refl;
  is = ap (λ (k : ℕ). take k (set b at c)) next ∙ take-suc-set b at c h;
}
  where
    next : at + 1 ≡ suc at
    next = omega arith

-- from the start on
module _ {out text out' : List ℕ} {r : ℕ} (p : Printed out 0 text out' r) where
  pub printed_line : take r out' ≡ text
  printed_line = p.is

  pub printed_within : r ≤ length out'
  printed_within = omega (arith, p.end, ap length p.is, length-take r out')

-- ---- numbers one after the other

pub spaced_append : (l m : List ℕ) → spaced (l ++ m) ≡ spaced l ++ spaced m
unfolding spaced
spaced_append [] m = refl
spaced_append (n ∷ l) m =
    ap (λ (t : List ℕ). 32 ∷ t) (ap (λ (t : List ℕ). decimal 20 n ++ t) (spaced_append l m) ∙ sym (append_assoc (decimal 20 n) (spaced l) (spaced m)))

pub spaced_one : (n : ℕ) → spaced (n ∷ []) ≡ 32 ∷ decimal 20 n
unfolding spaced
spaced_one n = ap (λ (t : List ℕ). 32 ∷ t) (append-nil (decimal 20 n))

pub printed_spaced : (n : ℕ) (ns : List ℕ) → printed (n ∷ ns) ≡ decimal 20 n ++ spaced ns
unfolding printed spaced
printed_spaced n [] = sym (append-nil (decimal 20 n))
printed_spaced n (m ∷ ns) = ap (λ (t : List ℕ). decimal 20 n ++ (32 ∷ t)) (printed_spaced m ns)

-- ---- the entries of a list

entry_at : (l rest : List ℕ) (k : ℕ) → k < length l → get_or (entries l ++ rest) (k * 2 + 1) 0 * 256 + get_or (entries l ++ rest) (k * 2) 0 ≡ get_or l k 0
unfolding entries
entry_at [] rest k h = absurd (omega arith)
entry_at (x ∷ l) rest zero h = let whole : x / 256 * 256 + x % 256 ≡ x = omega arith in whole
entry_at (x ∷ l) rest (suc k) h =
    let low : suc k * 2 ≡ suc (suc (k * 2)) = omega arith in
    let high : suc k * 2 + 1 ≡ suc (suc (k * 2 + 1)) = omega arith in
    rw (high, low) (entry_at l rest k (omega arith))

read_first : (l rest : List ℕ) (k : ℕ) → k ≤ length l → read_entries (entries l ++ rest) k ≡ take k l
unfolding read_entries
read_first l rest zero h = refl
read_first l rest (suc k) h =
    ap₂ (λ (m : List ℕ) (n : ℕ). m ++ (n ∷ [])) (read_first l rest k (omega arith)) (entry_at l rest k (omega arith))
    ∙ sym (take-suc l k 0 (omega arith))

pub read_all : (l rest : List ℕ) → read_entries (entries l ++ rest) (length l) ≡ l
read_all l rest = read_first l rest (length l) (omega arith) ∙ take-length l

-- the first i entries are put down; each takes 21 bytes at most
pub record Going (out₀ : List ℕ) (at : ℕ) (list : List ℕ) (i : ℕ) (out : List ℕ) (end : ℕ) : Type 0 where
  pub so_far : Printed out₀ at (spaced (read_entries list i)) out end
  pub few : end ≤ at + i * 21

pub going_first : (out : List ℕ) (at : ℕ) (list : List ℕ) → Going out at list 0 out at
unfolding spaced read_entries
going_first out at list = record { so_far = printed_none out at; few = omega arith }

pub going_next : {out₀ out out' list : List ℕ} {at i end r n : ℕ} → Going out₀ at list i out end
    → n ≡ get_or list (i * 2) 0 + get_or list (i * 2 + 1) 0 * 256
    → Printed out end (32 ∷ decimal 20 n) out' r → Going out₀ at list (i + 1) out' r
unfolding read_entries
going_next {out₀} {out} {out'} {list} {at} {i} {end} {r} {n} g e p = record {
  so_far = subst (λ (t : List ℕ). Printed out₀ at t out' r) (sym text) (printed_next g.so_far p);
  few = omega (arith, g.few, p.end, decimal_few 20 n);
}
  where
    next : i + 1 ≡ suc i
    next = omega arith

    entry : get_or list (i * 2 + 1) 0 * 256 + get_or list (i * 2) 0 ≡ n
    entry = omega (arith, e)

    text : spaced (read_entries list (i + 1)) ≡ spaced (read_entries list i) ++ (32 ∷ decimal 20 n)
    text = ap (λ (k : ℕ). spaced (read_entries list k)) next ∙ ap (λ (m : ℕ). spaced (read_entries list i ++ (m ∷ []))) entry
        ∙ spaced_append (read_entries list i) (n ∷ []) ∙ ap (λ (t : List ℕ). spaced (read_entries list i) ++ t) (spaced_one n)

pub going_all : {out₀ out list : List ℕ} {at i count end : ℕ} → Going out₀ at list i out end → i ≡ count
    → Printed out₀ at (spaced (read_entries list count)) out end
going_all {out₀} {out} {list} {at} {i} {count} {end} g e = subst (λ (k : ℕ). Printed out₀ at (spaced (read_entries list k)) out end) e g.so_far
