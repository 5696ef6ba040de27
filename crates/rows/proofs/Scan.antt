-- What loops over bytes need: a part's first byte, bytes that are all zero, rows that rise, counts. Assumes nothing.
use Rattle.std.proofs.Common.{◌≡◌, ℕ, zero, suc, ◌+◌, ◌-◌, ◌*◌, ◌<◌, ◌≤◌, Bool, true, false, not, eqb, ltb, List, ◌∷◌, length, get_or, take, drop, replicate}
use Rattle.std.proofs.Common.{sym, refl, ap, ◌∙◌, subst, true≢false, add-zero, add-one, arith, length-drop, length-take, drop-cons, drop-drop}
use Rattle.std.proofs.Common.{ltb-false, ltb-true}
use lib.Dec.{eqb-suc-zero}
use lib.ListN.{length-replicate, get_or-replicate, get_or-eq_default}
use Rattle.rules.specs.01-Lists.{same_bytes, bytes_before}
use Rattle.rules.proofs.01-Lists.{same_bytes_is, same_bytes_refl, before_transitive, before_first}
use Rattle.name_fields.specs.Field.{blank_field}
use Rattle.rows.specs.Rows.{part, Rising, Filled, Parted, Halved, TurnsAt, Counted, Level, filled}
use Rattle.rows.specs.Decides.{Decides}
use Rattle.rows.proofs.Rows.{part_byte, filled_is}
use Rattle.rows.proofs.Decides.{decides_iff, decides_test}

pub part_cons : (b : List ℕ) (at n m : ℕ) → at < length b → n ≡ suc m → part b at n ≡ get_or b at 0 ∷ part b (at + 1) m
part_cons b at n m h e = rw (e, add-one at, drop-cons b at 0 h)

pub length_part : (b : List ℕ) (at n : ℕ) → at + n ≤ length b → length (part b at n) ≡ n
length_part b at n h = length-take n (drop at b) ∙ omega (arith, length-drop at b)

-- ---- zeros

pub zeros_room : {l : List ℕ} (n : ℕ) → l ≡ replicate n 0 → length l ≡ n
zeros_room n e = ap length e ∙ length-replicate {A = ℕ} n 0

pub zero_at : {l : List ℕ} (n : ℕ) → l ≡ replicate n 0 → (i : ℕ) → get_or l i 0 ≡ 0
zero_at {l} n e i = go (ltb i n) refl
  where
    go : (x : Bool) → ltb i n ≡ x → get_or l i 0 ≡ 0
    go true q = ap (λ (m : List ℕ). get_or m i 0) e ∙ get_or-replicate {A = ℕ} n i 0 0 (ltb-true i n q)
    go false q = get_or-eq_default l 0 {n = i} (omega (arith, ltb-false i n q, zeros_room n e))

blank_same : (l : List ℕ) (n : ℕ) → length l ≡ n → blank_field l ≡ same_bytes (replicate n 0) l
unfolding blank_field
blank_same l n e = rw e

pub zeros_blank : (b : List ℕ) (from to : ℕ) (r : Bool) → from ≤ to → to ≤ length b → r ≡ blank_field (part b from (to - from))
    → Decides (part b from (to - from) ≡ replicate (to - from) 0) r
zeros_blank b from to r h l e =
    let bytes = part b from (to - from) in
    let zeros = replicate {A = ℕ} (to - from) 0 in
    let test : blank_field bytes ≡ same_bytes zeros bytes = blank_same bytes (to - from) (length_part b from (to - from) (omega arith)) in
    decides_iff (λ q. sym (same_bytes_is zeros bytes (sym test ∙ q)))
    (λ q. test ∙ ap (same_bytes zeros) q ∙ same_bytes_refl zeros)
    (decides_test e)

-- ---- rows that rise, one more at a time

module _ (row : ℕ → List ℕ) where
  pub rising_one : Rising row (0 + 1)
  rising_one j h = absurd (omega arith)

  pub rising_more : (i : ℕ) → Rising row (i + 1) → bytes_before (row i) (row (i + 1)) ≡ true → Rising row (i + 1 + 1)
  rising_more i r n j h = go (ltb j i) refl
    where
      go : (t : Bool) → ltb j i ≡ t → bytes_before (row j) (row (suc j)) ≡ true
      go true q = r j (omega (arith, ltb-true j i q))
      go false q = let same : i ≡ j = omega (arith, ltb-false j i q) in rw (← add-one j, ← same) n

  -- two rows that do not rise
  pub rising_not : (i n : ℕ) → suc i < n → bytes_before (row i) (row (i + 1)) ≡ false → Rising row n → ⊥
  rising_not i n h f r = true≢false (sym (rw (← add-one i) at (r i h)) ∙ f)

  -- rows that rise one by one rise over any distance
  pub rising_far : (n : ℕ) → Rising row n → (i j : ℕ) → i < j → j < n → bytes_before (row i) (row j) ≡ true
  rising_far n r i zero h l = absurd (omega arith)
  rising_far n r i (suc j) h l = go (ltb i j) refl (λ q. rising_far n r i j q (omega arith))
    where
      go : (t : Bool) → ltb i j ≡ t → (i < j → bytes_before (row i) (row j) ≡ true) → bytes_before (row i) (row (suc j)) ≡ true
      go true q ih = before_transitive (row i) (row j) (row (suc j)) (ih (ltb-true i j q)) (r j l)
      go false q ih = let same : i ≡ j = omega (arith, ltb-false i j q) in rw same (r j l)

-- the SDSs of rows that rise do not fall
pub rising_level : (b : List ℕ) (first stride n : ℕ) (rest : ℕ → List ℕ) → Rising (λ i. get_or b (first + i * stride) 0 ∷ rest i) n → Level b first stride n
rising_level b first stride n rest r i j h k =
    before_first (get_or b (first + i * stride) 0) (rest i) (get_or b (first + j * stride) 0) (rest j)
    (rising_far (λ i. get_or b (first + i * stride) 0 ∷ rest i) n r i j h k)

-- ---- counts and the room behind rows

-- a row whose first byte is not 0
pub first_used : (b : List ℕ) (at w : ℕ) → 0 < w → (get_or b at 0 ≡ 0 → ⊥) → part b at w ≡ replicate w 0 → ⊥
first_used b at w h n e = n (rw (add-zero at) at (sym (part_byte b at w 0 h) ∙ ap (λ (l : List ℕ). get_or l 0 0) e ∙ get_or-replicate w 0 0 0 h))

zero_told : (c : ℕ) → false ≡ not (eqb c 0) → c ≡ 0
zero_told zero e = refl
zero_told (suc c) e = absurd (true≢false (sym (e ∙ rw (eqb-suc-zero c))))

pub counted : (b : List ℕ) (start w n r : ℕ) → Filled b start w n r → Counted (filled w n (drop start b)) n r
counted b start w n r h = record {
  is = filled_is w n (drop start b) r h.fits (λ k u z. h.used k u (there k ∙ z)) (λ u. sym (there r) ∙ h.free u);
  fits = h.fits;
}
  where
    there : (k : ℕ) → part b (start + k * w) w ≡ part (drop start b) (k * w) w
    there k = ap (take w) (sym (drop-drop (k * w) start b))

pub room_zero : (b : List ℕ) (from to k : ℕ) (r : Bool) → to - from ≡ k → Decides (part b from (to - from) ≡ replicate (to - from) 0) r
    → Decides (part b from k ≡ replicate k 0) r
room_zero b from to k r e d = subst (λ (m : ℕ). Decides (part b from m ≡ replicate m 0) r) e d

-- ---- where the rows part, the two bytes beside a place tell for their sides

pub halved_told : {b : List ℕ} {first w n r : ℕ} → TurnsAt (λ i t. t ≡ not (eqb (get_or b (first + i * w) 0) 0)) n r → Halved b first w n r
halved_told {b} {first} {w} {n} {r} x = record {
  fits = x.fits;
  is = λ k p. go k p (ltb r k) refl (ltb k r) refl;
}
  where
    byte : ℕ → ℕ
    byte i = get_or b (first + i * w) 0

    go : (k : ℕ) → Parted b first w n k → (t : Bool) → ltb r k ≡ t → (u : Bool) → ltb k r ≡ u → r ≡ k
    go k p true e u f =
        let less = ltb-true r k e in
        let there : false ≡ not (eqb (byte r) 0) = x.next (omega (arith, p.fits)) in
        absurd (p.used r less (zero_told (byte r) there))
    go k p false e true f =
        let more = ltb-true k r f in
        let there : true ≡ not (eqb (byte (r - 1)) 0) = x.last (r - 1) (omega arith) in
        absurd (true≢false (there ∙ ap (λ (c : ℕ). not (eqb c 0)) (p.free (r - 1) (omega arith) (omega (arith, x.fits)))))
    go k p false e false f = omega (arith, ltb-false r k e, ltb-false k r f)
