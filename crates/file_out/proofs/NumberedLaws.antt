-- The rows of SDSs and types as the entries of the file. Assumes nothing.
use Prim.Native.Nat.{ℕ, ◌+◌, ◌*◌, ◌≤◌, ◌<◌}
use native.Mathlib.Omega.{arith}
use mathlib.Core.Path.{◌≡◌, refl, sym, ap, ◌∙◌}
use mathlib.Core.List.{List, [], ◌∷◌, ◌++◌, map}
use mathlib.Core.Bool.{Bool, true, false, not, cond}
use lib.Dec.{eqb}
use lib.ListN.{length, get_or, take, drop, set, length-map}
use lib.Seq.{take-take}
use borrow.Author.Tests.{eq-eqb, ne_eqb}
use Rattle.rules.specs.01-Lists.{numbers, joined}
use Rattle.rules.specs.02-Limits.{limits}
use Rattle.rules.specs.04-Schema.{used_sds, kind_of, is_used}
use Rattle.rules.specs.05-Descent.{members}
use Rattle.rules.specs.07-Picture.{Sound, sds_width, sds_row, type_width, type_row}
use Rattle.rules.specs.11-File.{sds_entry, type_entry, sds_entries, type_entries}
use Rattle.rules.proofs.01-Lists.{map_same, numbers_alike, numbers_in}
use Rattle.rows.specs.Rows.{part}
use Rattle.rows.specs.Table.{written}
use Rattle.rows.proofs.Rows.{part_byte}
use Rattle.base.specs.Tables.{sdss, types}
use Rattle.base.specs.Rows.{sds_at, type_at}
use Rattle.base.specs.Back.{schema_of}
use Rattle.base.proofs.Back.{sound_canonical}
use Rattle.base.proofs.Kept.{sound_long}
use Rattle.base.proofs.Shown.{sds_is, kind_is}
use Rattle.lookup.proofs.SdsShown.{used_first}
use Rattle.lookup.proofs.KindBytes.{used_byte}
use Rattle.file_out_presences.proofs.SpanLaws.{span, span_passed}
use Rattle.file_out.specs.Put.{PutOn, begun, row_entry, row_bytes, begun_rows, row_entries}
use Rattle.file_out.proofs.SpanLaws.{numbers_span, Counting, counting_more, counting_done}
use Rattle.file_out.proofs.PutLaws.{put_none, put_one, put_behind}

-- ---- one row

module _ (b : List ℕ) (row : ℕ) where
  begun_yes : (get_or b row 0 ≡ 0 → ⊥) → begun b row ≡ true
  unfolding begun
  begun_yes n = ap not (ne_eqb (get_or b row 0) 0 n)

  begun_no : get_or b row 0 ≡ 0 → begun b row ≡ false
  unfolding begun
  begun_no e = ap not (eq-eqb (get_or b row 0) 0 e)

  module _ (kept k : ℕ) where
    bytes_none : get_or b row 0 ≡ 0 → row_bytes b row kept k ≡ []
    unfolding row_bytes
    bytes_none e = rw (begun_no e)

    bytes_some : (get_or b row 0 ≡ 0 → ⊥) → row_bytes b row kept k ≡ (k ∷ []) ++ part b row kept
    unfolding row_bytes
    bytes_some n = rw (begun_yes n)

    module _ (o : List ℕ) (at : ℕ) where
      pub row_none : get_or b row 0 ≡ 0 → PutOn (row_bytes b row kept k) o at o at
      row_none e = rw (bytes_none e) (put_none o at)

      module _ (n : get_or b row 0 ≡ 0 → ⊥) (h : at + length (row_bytes b row kept k) ≤ length o) where
        pub row_room : at + 1 + length (part b row kept) ≤ length o
        row_room = omega (arith, ap length (bytes_some n))

        pub row_put : {o' l : List ℕ} → l ≡ part b row kept → length l ≡ kept → o' ≡ written (set o at k) (at + 1) l
            → PutOn (row_bytes b row kept k) o at o' (at + 1 + kept)
        row_put {l = l} e long w =
            let room = row_room in
            rw (bytes_some n, ← e)
            (put_behind (put_one o at k (omega arith)) (omega arith) (record { long = ap (λ (m : ℕ). at + 1 + m) (sym long); is = w }))

-- ---- n rows: how many are begun, and their entries one behind another

module _ (b : List ℕ) (start w : ℕ) where
  abbrev pub mark : ℕ → List ℕ
  mark k = cond (begun b (start + k * w)) (k ∷ []) []

  module _ {n k r : ℕ} (c : Counting mark n k r) where
    pub row_counted : k < n → (get_or b (start + k * w) 0 ≡ 0 → ⊥) → Counting mark n (k + 1) (r + 1)
    row_counted h x = counting_more c h (let one : length (mark k) ≡ 1 = rw (begun_yes b (start + k * w) x) in omega arith)

    pub row_passed : k < n → get_or b (start + k * w) 0 ≡ 0 → Counting mark n (k + 1) r
    row_passed h x = counting_more c h (let none : length (mark k) ≡ 0 = rw (begun_no b (start + k * w) x) in omega arith)

    pub rows_counted : n ≤ k → r ≡ length (begun_rows b start w n)
    rows_counted h = counting_done c h ∙ ap length (sym (numbers_span (λ k. begun b (start + k * w)) 0 n))

  abbrev pub bytes_at : ℕ → ℕ → List ℕ
  bytes_at kept k = row_bytes b (start + k * w) kept k

  module _ (kept n : ℕ) where
    pub entries_long : length (row_entries b start w kept n) ≡ length (begun_rows b start w n)
    unfolding row_entries
    entries_long = length-map (begun_rows b start w n) (λ k. row_entry b (start + k * w) kept k)

    pub rows_span : joined (row_entries b start w kept n) ≡ span (bytes_at kept) 0 n
    unfolding row_entries row_bytes
    rows_span = span_passed (λ k. row_entry b (start + k * w) kept k) (λ k. begun b (start + k * w)) 0 n

-- ---- those of a sound base

-- entries of the numbers that pass
entries_alike : (f g : ℕ → List ℕ) (p q : ℕ → Bool) (m : ℕ) → ((k : ℕ) → k < m → p k ≡ q k) → ((k : ℕ) → k < m → f k ≡ g k)
    → map f (numbers 0 m p) ≡ map g (numbers 0 m q)
entries_alike f g p q m t e =
    ap (map f) (numbers_alike p q 0 m (λ k l u. t k (omega arith)))
    ∙ map_same (numbers 0 m q) (λ k i. e k (omega (arith, (numbers_in q 0 m k i).1)))

module _ {b : List ℕ} (s : Sound b) where
  sds_begun : (d : ℕ) → d < limits.sdss → begun b (sds_at d) ≡ used_sds (schema_of b) d
  unfolding begun
  sds_begun d h =
      ap (λ (x : ℕ). not (eqb x 0)) (ap (λ (n : ℕ). get_or b n 0) (omega arith) ∙ sym (part_byte b (sds_at d) limits.name 0 (omega arith)))
      ∙ used_first b (sound_long s) d h (part b (sds_at d) limits.name) refl

  pub sdss_rows : row_entries b sdss.start sdss.width sds_width sdss.room ≡ sds_entries (schema_of b)
  unfolding row_entries sds_entries
  sdss_rows =
      entries_alike _ (sds_entry (schema_of b)) _ (used_sds (schema_of b)) limits.sdss sds_begun
      (λ d h. ap (λ (r : List ℕ). d ∷ r) (sym (ap sds_row (sds_is b d h) ∙ (sound_canonical s).sds_fields d h)))

  type_begun : (t : ℕ) → t < limits.types → begun b (type_at t) ≡ is_used (kind_of (schema_of b) t)
  unfolding begun
  type_begun t h = used_byte s t (get_or b (type_at t) 0) h refl

  pub types_rows : row_entries b types.start types.width 3 types.room ≡ type_entries (schema_of b)
  unfolding row_entries type_entries members
  types_rows =
      entries_alike _ (type_entry (schema_of b)) _ (λ t. is_used (kind_of (schema_of b) t)) limits.types type_begun
      (λ t h. ap (λ (r : List ℕ). t ∷ r)
      (sym (ap (take 3) (ap type_row (kind_is b t h) ∙ (sound_canonical s).type_rows t h) ∙ take-take 3 type_width (drop (type_at t) b) (omega arith))))
