-- Rows written over the start of an empty table: the picture of the schema that holds them. Assumes nothing.
use Prim.Native.Nat.{ℕ, zero, suc, ◌*◌, ◌≤◌}
use native.Mathlib.Nat.{mul-le-mul_right}
use native.Mathlib.Omega.{arith}
use mathlib.Core.Path.{◌≡◌, sym, ap, ◌∙◌}
use mathlib.Core.List.{List, [], ◌∷◌, ◌++◌, map, append_assoc}
use lib.ListN.{length, drop, replicate, length-append, length-map}
use lib.Seq.{drop_at, drop-drop}
use Rattle.rules.specs.01-Lists.{joined}
use Rattle.rules.specs.04-Schema.{Schema}
use Rattle.rules.specs.07-Picture.{table, picture}
use Rattle.rules.proofs.07-Picture.{zeros_long, length_table}
use Rattle.rules.proofs.Sections.{wide_mapped, joined_wide}
use Rattle.rows.specs.Table.{written}
use Rattle.rows.proofs.Written.{written_first, written_past, written_before}
use Rattle.base.specs.Tables.{Table, bytes_of}
use Rattle.base.proofs.Tables.{Stands}

module _ {A : Type 0} (w : ℕ) (row : A → List ℕ) (wide : (a : A) → length (row a) ≡ w) where
  rows_filled : (n : ℕ) (rs : List A) → length rs ≤ n → written (table w row n []) 0 (joined (map row rs)) ≡ table w row n rs
  unfolding table joined
  rows_filled zero [] h = written_first [] []
  rows_filled (suc n) [] h = written_first (table w row (suc n) []) []
  rows_filled zero (r ∷ rs) h = absurd (omega arith)
  rows_filled (suc n) (r ∷ rs) h =
      let bytes = joined (map row rs) in
      let blank = replicate {A = ℕ} w 0 in
      let rest = table w row n [] in
      let behind : drop (length (row r ++ bytes)) (blank ++ rest) ≡ drop (length bytes) rest
      = ap (λ (k : ℕ). drop k (blank ++ rest)) (length-append (row r) bytes)
      ∙ sym (drop-drop (length bytes) (length (row r)) (blank ++ rest))
      ∙ ap (drop (length bytes)) (drop_at blank rest (length (row r)) (zeros_long w ∙ sym (wide r))) in
      written_first (blank ++ rest) (row r ++ bytes)
      ∙ ap (λ (l : List ℕ). (row r ++ bytes) ++ l) behind ∙ append_assoc (row r) bytes (drop (length bytes) rest)
      ∙ ap (λ (l : List ℕ). row r ++ l) (sym (written_first rest bytes) ∙ rows_filled n rs (omega arith))

module _ {A : Type 0} {t : Table A} {of : Schema → List A} {with_rows : Schema → List A → Schema} (x : Stands t of with_rows) where
  pub table_filled : (s : Schema) → of s ≡ [] → (rs : List A) → length rs ≤ t.room
      → written (picture s) t.start (joined (map t.row rs)) ≡ picture (with_rows s rs)
  table_filled s e rs room =
      let p = x.placed in
      let w = t.width in
      let bytes = joined (map t.row rs) in
      let none = bytes_of t [] in
      let long = joined_wide w (map t.row rs) (wide_mapped w t.row rs p.wide) ∙ ap (λ (k : ℕ). k * w) (length-map rs t.row) in
      ap (λ (b : List ℕ). written b t.start bytes) (p.whole s ∙ ap (λ (l : List A). p.ahead s ++ (bytes_of t l ++ p.behind s)) e)
      ∙ written_past (p.ahead s) (none ++ p.behind s) bytes t.start 0 (omega (arith, p.long s))
      ∙ ap (λ (r : List ℕ). p.ahead s ++ r)
      (written_before none (p.behind s) bytes 0 (omega (arith, long, mul-le-mul_right w room, length_table w t.row p.wide t.room []))
      ∙ ap (λ (r : List ℕ). r ++ p.behind s) (rows_filled w t.row p.wide t.room rs room))
      ∙ sym (x.other s rs)
