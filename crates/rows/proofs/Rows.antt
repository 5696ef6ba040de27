-- Laws of rows, over any width. Assumes nothing.
use Rattle.std.proofs.Common.{◌≡◌, ℕ, zero, suc, ◌+◌, ◌-◌, ◌*◌, ◌<◌, ◌≤◌, Bool, true, false, cond, List, [], ◌∷◌, ◌++◌, length, get_or}
use Rattle.std.proofs.Common.{take, drop, replicate, sym, refl, ap, ◌∙◌, ⊎_elim, append_assoc, suc-mul, zero-mul, arith, length-drop}
use Rattle.std.proofs.Common.{take-append-drop, get_or-drop, get_or-take, take-take, drop-drop, take_at, drop_at}
use Rattle.std.specs.Simd.{first_chunks}
use mathlib.Core.List.Memᴰ
use lib.ListN.{replicate-append-replicate}
use lib.Seq.{take-append-le, drop-append-le, take-nil}
use Rattle.rules.specs.01-Lists.{◌∈◌, same_bytes}
use Rattle.rules.specs.07-Picture.{table}
use Rattle.rules.proofs.01-Lists.{same_bytes_is, same_bytes_refl}
use Rattle.rules.proofs.07-Picture.{zeros_long}
use Rattle.rows.specs.Rows.{part, rows, filled}

-- a byte of a part
pub part_byte : (b : List ℕ) (at w f : ℕ) → f < w → get_or (part b at w) f 0 ≡ get_or b (at + f) 0
part_byte b at w f h = get_or-take w (drop at b) f 0 h ∙ get_or-drop at b f 0

-- a slice from `at` to w further on
pub slice_part : (b : List ℕ) (at w : ℕ) → take ((at + w) - at) (drop at b) ≡ part b at w
slice_part b at w = let e : (at + w) - at ≡ w = omega arith in rw e

drop_take : (j n : ℕ) (l : List ℕ) → drop j (take n l) ≡ take (n - j) (drop j l)
drop_take zero n l = let e : n - 0 ≡ n = omega arith in rw e
drop_take (suc j) zero l = let e : 0 - suc j ≡ 0 = omega arith in rw e
drop_take (suc j) (suc n) [] = sym (take-nil (suc n - suc j))
drop_take (suc j) (suc n) (x ∷ l) = let e : suc n - suc j ≡ n - j = omega arith in rw e (drop_take j n l)

-- a part of a part
pub part_part : (b : List ℕ) (at n j v : ℕ) → j + v ≤ n → part (part b at n) j v ≡ part b (at + j) v
part_part b at n j v h =
    ap (take v) (drop_take j n (drop at b)) ∙ take-take v (n - j) (drop j (drop at b)) (omega arith) ∙ ap (take v) (drop-drop j at b)

-- what stands from the next row on
row_suc : (w : ℕ) (l : List ℕ) (k : ℕ) → drop (suc k * w) l ≡ drop (k * w) (drop w l)
row_suc w l k = let e : suc k * w ≡ w + k * w = suc-mul k w ∙ omega arith in rw e (sym (drop-drop (k * w) w l))

-- chunk k of those that a slice is cut into
pub chunk_at : (w n : ℕ) (l : List ℕ) (k : ℕ) (d : List ℕ) → k < n → get_or (first_chunks w n l) k d ≡ part l (k * w) w
chunk_at w zero l k d h = absurd (omega arith)
chunk_at w (suc n) l zero d h = rw (zero-mul w)
chunk_at w (suc n) l (suc k) d h = chunk_at w n (drop w l) k d (omega arith) ∙ ap (take w) (sym (row_suc w l k))

module _ {A : Type 0} (w : ℕ) (read : List ℕ → A) where
  pub length_rows : (n : ℕ) (l : List ℕ) → length (rows w read n l) ≡ n
  unfolding rows
  length_rows zero l = refl
  length_rows (suc n) l = ap suc (length_rows n (drop w l))

  -- the row k
  pub rows_at : (n : ℕ) (l : List ℕ) (k : ℕ) (d : A) → k < n → get_or (rows w read n l) k d ≡ read (part l (k * w) w)
  unfolding rows
  rows_at zero l k d h = absurd (omega arith)
  rows_at (suc n) l zero d h = rw (zero-mul w)
  rows_at (suc n) l (suc k) d h = rows_at n (drop w l) k d (omega arith) ∙ ap (λ (x : List ℕ). read (take w x)) (sym (row_suc w l k))

  -- each row is a member, and a member is some row
  pub rows_there : (n : ℕ) (l : List ℕ) (k : ℕ) → k < n → read (part l (k * w) w) ∈ rows w read n l
  unfolding rows
  rows_there zero l k h = absurd (omega arith)
  rows_there (suc n) l zero h = Memᴰ.head (ap (λ (j : ℕ). read (part l j w)) (zero-mul w))
  rows_there (suc n) l (suc k) h =
      let there : read (part l (suc k * w) w) ∈ rows w read n (drop w l) = rw (row_suc w l k) (rows_there n (drop w l) k (omega arith)) in
      Memᴰ.tail there

  pub rows_in : (n : ℕ) (l : List ℕ) (x : A) → x ∈ rows w read n l → (k : ℕ) × (k < n) × (x ≡ read (part l (k * w) w))
  unfolding rows
  rows_in zero l x i = absurd (Memᴰ.not-nil i)
  rows_in (suc n) l x i =
      ⊎_elim (λ e. (0, omega arith, e ∙ ap (λ (j : ℕ). read (part l j w)) (sym (zero-mul w))))
      (λ m. let (k, h, e) = rows_in n (drop w l) x m in (suc k, omega arith, e ∙ ap (λ (r : List ℕ). read (take w r)) (sym (row_suc w l k))))
      (Memᴰ.cases_cons i)

  module _ (row : A → List ℕ) (wide : (a : A) → length (row a) ≡ w) where
    -- a table's rows are read back
    pub rows_table : (n : ℕ) (rs : List A) → length rs ≤ n → ((a : A) → a ∈ rs → read (row a) ≡ a) → rows w read (length rs) (table w row n rs) ≡ rs
    unfolding rows table
    rows_table n [] l f = refl
    rows_table zero (r ∷ rs) l f = absurd (omega arith)
    rows_table (suc n) (r ∷ rs) l f =
        let here : read (take w (row r ++ table w row n rs)) ≡ r = ap read (take_at (row r) (table w row n rs) w (wide r)) ∙ f r (Memᴰ.head refl) in
        let rest : rows w read (length rs) (drop w (row r ++ table w row n rs)) ≡ rs
        = ap (rows w read (length rs)) (drop_at (row r) (table w row n rs) w (wide r)) ∙ rows_table n rs (omega arith) (λ a i. f a (Memᴰ.tail i)) in
        λ i. here i ∷ rest i

    zero_table : (n : ℕ) → table w row n [] ≡ replicate (n * w) 0
    unfolding table
    zero_table zero = rw (zero-mul w)
    zero_table (suc n) =
        let sum : w + n * w ≡ suc n * w = omega (arith, suc-mul n w) in
        ap (λ (x : List ℕ). replicate w 0 ++ x) (zero_table n) ∙ replicate-append-replicate w (n * w) 0 ∙ ap (λ (k : ℕ). replicate {A = ℕ} k 0) sum

    -- rows that are written back as they stand, and zeros behind them, are a table
    pub table_rows : (n m : ℕ) (l : List ℕ) → m ≤ n → length l ≡ n * w
        → ((k : ℕ) → k < m → row (read (part l (k * w) w)) ≡ part l (k * w) w)
        → drop (m * w) l ≡ replicate ((n - m) * w) 0 → table w row n (rows w read m l) ≡ l
    unfolding rows table
    table_rows n zero l h e f z =
        let all : n - 0 ≡ n = omega arith in
        zero_table n ∙ sym (rw (zero-mul w, all) at z)
    table_rows zero (suc m) l h e f z = absurd (omega arith)
    table_rows (suc n) (suc m) l h e f z = one_more (table_rows n m (drop w l) (omega arith)
        (length-drop w l ∙ omega (arith, suc-mul n w))
        (λ k q. rw (row_suc w l k) at (f (suc k) (omega arith)))
        (sym (row_suc w l m) ∙ z ∙ ap (λ (k : ℕ). replicate {A = ℕ} (k * w) 0) same))
      where
        same : suc n - suc m ≡ n - m
        same = omega arith

        first : row (read (take w l)) ≡ take w l
        first = rw (zero-mul w) at (f 0 (omega arith))

        one_more : table w row n (rows w read m (drop w l)) ≡ drop w l → table w row (suc n) (read (take w l) ∷ rows w read m (drop w l)) ≡ l
        one_more ih = ap (λ (x : List ℕ). x ++ table w row n (rows w read m (drop w l))) first ∙ ap (λ (x : List ℕ). take w l ++ x) ih ∙ take-append-drop w l

    -- a row of a table, and the zeros behind its rows
    pub table_part : (n : ℕ) (rs : List A) (r : List ℕ) (k : ℕ) (d : A) → k < length rs → length rs ≤ n
        → part (table w row n rs ++ r) (k * w) w ≡ row (get_or rs k d)
    unfolding table
    table_part n [] r k d h l = absurd (omega arith)
    table_part zero (x ∷ rs) r k d h l = absurd (omega arith)
    table_part (suc n) (x ∷ rs) r zero d h l =
        rw (zero-mul w, append_assoc (row x) (table w row n rs) r) (take_at (row x) (table w row n rs ++ r) w (wide x))
    table_part (suc n) (x ∷ rs) r (suc k) d h l =
        ap (take w) (row_suc w ((row x ++ table w row n rs) ++ r) k
        ∙ ap (drop (k * w)) (ap (drop w) (append_assoc (row x) (table w row n rs) r) ∙ drop_at (row x) (table w row n rs ++ r) w (wide x)))
        ∙ table_part n rs r k d (omega arith) (omega arith)

    pub table_rest : (n : ℕ) (rs : List A) → length rs ≤ n → drop (length rs * w) (table w row n rs) ≡ replicate ((n - length rs) * w) 0
    unfolding table
    table_rest n [] l = let all : n - 0 ≡ n = omega arith in rw (zero-mul w, all) (zero_table n)
    table_rest zero (x ∷ rs) l = absurd (omega arith)
    table_rest (suc n) (x ∷ rs) l =
        let same : suc n - suc (length rs) ≡ n - length rs = omega arith in
        rw same (row_suc w (row x ++ table w row n rs) (length rs) ∙ ap (drop (length rs * w)) (drop_at (row x) (table w row n rs) w (wide x))
        ∙ table_rest n rs (omega arith))

  -- the first rows look no further than their bytes
  pub rows_append : (m : ℕ) (l r : List ℕ) → m * w ≤ length l → rows w read m (l ++ r) ≡ rows w read m l
  unfolding rows
  rows_append zero l r h = refl
  rows_append (suc m) l r h =
      let fits : w ≤ length l = omega (arith, suc-mul m w) in
      let more : m * w ≤ length (drop w l) = rw (length-drop w l) (omega (arith, suc-mul m w)) in
      let here : read (take w (l ++ r)) ≡ read (take w l) = ap read (take-append-le w l r fits) in
      let rest : rows w read m (drop w (l ++ r)) ≡ rows w read m (drop w l) = ap (rows w read m) (drop-append-le w l r fits)
      ∙ rows_append m (drop w l) r more in
      λ i. here i ∷ rest i

-- ---- how many rows are used

module _ (w : ℕ) where
  -- row k is all 0
  abbrev Blank : List ℕ → ℕ → Type 0
  Blank l k = part l (k * w) w ≡ replicate w 0

  blank_yes : (l : List ℕ) → Blank l 0 → same_bytes (replicate w 0) (take w l) ≡ true
  blank_yes l e = ap (same_bytes (replicate w 0)) (rw (zero-mul w) at e) ∙ same_bytes_refl (replicate w 0)

  blank_not : (l : List ℕ) → (Blank l 0 → ⊥) → same_bytes (replicate w 0) (take w l) ≡ false
  blank_not l n = go (same_bytes (replicate w 0) (take w l)) refl
    where
      go : (x : Bool) → same_bytes (replicate w 0) (take w l) ≡ x → x ≡ false
      go true q = absurd (n (rw (zero-mul w) (sym (same_bytes_is (replicate w 0) (take w l) q))))
      go false q = refl

  blank_suc : (l : List ℕ) (k : ℕ) → part l (suc k * w) w ≡ part (drop w l) (k * w) w
  blank_suc l k = ap (take w) (row_suc w l k)

  pub filled_most : (n : ℕ) (l : List ℕ) → filled w n l ≤ n
  unfolding filled
  filled_most zero l = omega arith
  filled_most (suc n) l = go (same_bytes (replicate w 0) (take w l)) (filled_most n (drop w l))
    where
      go : (b : Bool) → filled w n (drop w l) ≤ n → cond b 0 (suc (filled w n (drop w l))) ≤ suc n
      go true h = omega arith
      go false h = omega arith

  -- r is the count, if each row before it is used and the row at it is not
  pub filled_is : (n : ℕ) (l : List ℕ) (r : ℕ) → r ≤ n → ((k : ℕ) → k < r → Blank l k → ⊥) → (r < n → Blank l r) → r ≡ filled w n l
  unfolding filled
  filled_is zero l r h u z = omega arith
  filled_is (suc n) l zero h u z = rw (blank_yes l (z (omega arith)))
  filled_is (suc n) l (suc r) h u z =
      rw (blank_not l (u 0 (omega arith)))
      (ap suc (filled_is n (drop w l) r (omega arith) (λ k q e. u (suc k) (omega arith) (blank_suc l k ∙ e)) (λ q. sym (blank_suc l r) ∙ z (omega arith))))

  -- a table of rows that are never all 0 has as many used rows
  pub filled_table : {A : Type 0} (row : A → List ℕ) (wide : (a : A) → length (row a) ≡ w) (n : ℕ) (rs : List A) (r : List ℕ)
      → length rs ≤ n → ((a : A) → a ∈ rs → row a ≡ replicate w 0 → ⊥) → filled w n (table w row n rs ++ r) ≡ length rs
  unfolding filled table
  filled_table row wide zero [] r l u = refl
  filled_table row wide zero (x ∷ rs) r l u = absurd (omega arith)
  filled_table row wide (suc n) [] r l u =
      let e : take w ((replicate w 0 ++ table w row n []) ++ r) ≡ replicate w 0
      = ap (take w) (append_assoc (replicate w 0) (table w row n []) r) ∙ take_at (replicate w 0) (table w row n [] ++ r) w (zeros_long w) in
      rw (e, same_bytes_refl (replicate w 0))
  filled_table row wide (suc n) (x ∷ rs) r l u =
      let e : (row x ++ table w row n rs) ++ r ≡ row x ++ (table w row n rs ++ r) = append_assoc (row x) (table w row n rs) r in
      let first : part (row x ++ (table w row n rs ++ r)) (0 * w) w ≡ row x = rw (zero-mul w) (take_at (row x) (table w row n rs ++ r) w (wide x)) in
      rw (e, blank_not (row x ++ (table w row n rs ++ r)) (λ q. u x (Memᴰ.head refl) (sym first ∙ q)), drop_at (row x) (table w row n rs ++ r) w (wide x))
      (ap suc (filled_table row wide n rs r (omega arith) (λ a i. u a (Memᴰ.tail i))))
