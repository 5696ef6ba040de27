-- Bytes put down one behind another, and behind a count. Assumes nothing.
use Prim.Native.Nat.{ℕ, ◌+◌, ◌≤◌, ◌<◌}
use native.Mathlib.Nat.{add-zero}
use native.Mathlib.Omega.{arith}
use mathlib.Core.Path.{◌≡◌, refl, sym, ap, subst, ◌∙◌}
use mathlib.Core.List.{List, [], ◌∷◌, ◌++◌}
use lib.ListN.{length, set, length-append}
use Rattle.rules.specs.01-Lists.{joined}
use Rattle.rules.specs.11-File.{section}
use Rattle.rows.specs.Table.{written}
use Rattle.file_out_presences.specs.Out.{PutDown}
use Rattle.file_out_presences.proofs.PutLaws.{written_none, written_next, written_long, set_written, put_front}
use Rattle.file_out.specs.Parts.{count_bytes}
use Rattle.file_out.specs.Put.{PutOn}

-- ---- one run of bytes

pub put_none : (o : List ℕ) (at : ℕ) → PutOn [] o at o at
put_none o at = record { long = sym (add-zero at); is = sym (written_none o at) }

pub put_one : (o : List ℕ) (at x : ℕ) → at < length o → PutOn (x ∷ []) o at (set o at x) (at + 1)
put_one o at x h = record { long = refl; is = set_written o at x h }

-- the length stays
pub put_long : {l o o' : List ℕ} {from r : ℕ} → PutOn l o from o' r → from + length l ≤ length o → length o' ≡ length o
put_long {l} {o} {o'} {from} p h = ap length p.is ∙ written_long o l from h

-- one run behind another
pub put_behind : {l m o o' o'' : List ℕ} {from at r : ℕ} → PutOn l o from o' at → from + length l ≤ length o → PutOn m o' at o'' r → PutOn (l ++ m) o from o'' r
put_behind {l} {m} {o} {o'} {o''} {from} {at} p h q = record {
  long = omega (arith, p.long, q.long, length-append l m);
  is = q.is ∙ ap (λ (x : List ℕ). written x at m) p.is ∙ written_next o l m from at (omega arith) p.long;
}

-- the same bytes, said in another way
pub put_as : {l l' o o' : List ℕ} {r : ℕ} → l ≡ l' → PutDown l o o' r → PutDown l' o o' r
put_as {o = o} {o'} {r} e p = subst (λ (x : List ℕ). PutDown x o o' r) e p

pub room_as : {l l' : List ℕ} (n : ℕ) → l ≡ l' → length l' ≤ n → length l ≤ n
room_as n e h = omega (arith, ap length e)

-- ---- behind a count

pub count_long : (n : ℕ) (l : List ℕ) → length (count_bytes n ++ l) ≡ 2 + length l
unfolding count_bytes
count_long n l = omega arith

module _ (n : ℕ) (l : List ℕ) {o o' : List ℕ} {at : ℕ} (h : length (count_bytes n ++ l) ≤ length o) (p : PutOn (count_bytes n) o 0 o' at) where
  fits : 0 + length (count_bytes n) ≤ length o
  fits = omega (arith, length-append (count_bytes n) l)

  counted_same : length o' ≡ length o
  counted_same = put_long p fits

  pub counted_room : at + length l ≤ length o'
  counted_room = omega (arith, p.long, counted_same, length-append (count_bytes n) l)

  pub counted_put : {o'' : List ℕ} {r : ℕ} → r ≡ at + length l → o'' ≡ written o' at l → PutDown (count_bytes n ++ l) o o'' r
  counted_put e q = let both = put_behind p fits (record { long = e; is = q }) in put_front both.long both.is

-- a section
module _ (es : List (List ℕ)) where
  pub section_counted : 2 ≤ length (section es)
  unfolding section
  section_counted = omega arith

  section_is : {n : ℕ} → n ≡ length es → section es ≡ count_bytes n ++ joined es
  unfolding section count_bytes
  section_is e = λ i. count_bytes (sym e i) ++ joined es

  module _ {n : ℕ} (e : n ≡ length es) {o o' : List ℕ} {at : ℕ} (h : length (section es) ≤ length o) (p : PutOn (count_bytes n) o 0 o' at) where
    fits_counted : length (count_bytes n ++ joined es) ≤ length o
    fits_counted = omega (arith, ap length (section_is e))

    pub section_room : at + length (joined es) ≤ length o'
    section_room = counted_room n (joined es) fits_counted p

    pub section_put : {o'' : List ℕ} {r : ℕ} → r ≡ at + length (joined es) → o'' ≡ written o' at (joined es) → PutDown (section es) o o'' r
    section_put f q = rw (section_is e) (counted_put n (joined es) fits_counted p f q)
