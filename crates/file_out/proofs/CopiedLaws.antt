-- Applications and ends: their count, found by halving, and their rows as the entries of the file. Assumes nothing.
use Prim.Native.Nat.{ℕ, zero, suc, ◌+◌, ◌*◌, ◌≤◌}
use native.Mathlib.Nat.{suc-mul, zero-mul}
use native.Mathlib.Omega.{arith}
use mathlib.Core.Path.{◌≡◌, sym, ap, ◌∙◌}
use mathlib.Core.List.{List, [], ◌∷◌, ◌++◌, map, append_assoc}
use lib.ListN.{length, get_or, take, drop, length-map}
use lib.Seq.{drop_at, take-append-add}
use Rattle.rules.specs.01-Lists.{joined}
use Rattle.rules.specs.02-Limits.{limits}
use Rattle.rules.specs.04-Schema.{Schema}
use Rattle.rules.specs.07-Picture.{Sound, table, picture}
use Rattle.rules.specs.11-File.{section, application_entries, end_entries}
use Rattle.rows.specs.Rows.{part, Halved, Counted}
use Rattle.base.specs.Tables.{Table, bytes_of, applications, ends}
use Rattle.base.specs.Back.{schema_of, application_shown, end_shown}
use Rattle.base.proofs.Tables.{Placed, applications_placed, ends_placed}
use Rattle.base.proofs.Back.{sound_canonical, sound_good}
use Rattle.base.proofs.StoredLaws.{sound_stored}
use Rattle.base.proofs.Halved.{halved_right}
use Rattle.base.proofs.Shown.{applications_long, application_there, ends_long, end_there}
use Rattle.file_out.specs.Parts.{count_bytes}

-- ---- the rows of a table, as it starts

table_front : {A : Type 0} (w : ℕ) (row : A → List ℕ) → ((a : A) → length (row a) ≡ w) → (n : ℕ) (rs : List A) (rest : List ℕ) → length rs ≤ n
    → take (length rs * w) (table w row n rs ++ rest) ≡ joined (map row rs)
unfolding table joined
table_front w row wide n [] rest h = ap (λ (k : ℕ). take k (table w row n [] ++ rest)) (zero-mul w)
table_front w row wide zero (r ∷ rs) rest h = absurd (omega arith)
table_front w row wide (suc n) (r ∷ rs) rest h =
    let far : suc (length rs) * w ≡ length (row r) + length rs * w = suc-mul (length rs) w ∙ omega (arith, wide r) in
    rw (far, append_assoc (row r) (table w row n rs) rest)
    (take-append-add (row r) (table w row n rs ++ rest) (length rs * w) ∙ ap (λ (l : List ℕ). row r ++ l) (table_front w row wide n rs rest (omega arith)))

placed_front : {A : Type 0} {t : Table A} {of : Schema → List A} → Placed t of → (s : Schema) → length (of s) ≤ t.room
    → part (picture s) t.start (length (of s) * t.width) ≡ joined (map t.row (of s))
placed_front {t = t} {of} p s h =
    ap (take (length (of s) * t.width)) (ap (drop t.start) (p.whole s)
    ∙ drop_at (p.ahead s) (bytes_of t (of s) ++ p.behind s) t.start (sym (p.long s)))
    ∙ table_front t.width t.row p.wide t.room (of s) (p.behind s) h

-- ---- those of a sound base

module _ {b : List ℕ} (s : Sound b) where
  copied : {A : Type 0} {t : Table A} {of : Schema → List A} → Placed t of → length (of (schema_of b)) ≤ t.room → {n : ℕ}
      → n ≡ length (of (schema_of b)) → count_bytes n ++ part b t.start (n * t.width) ≡ section (map t.row (of (schema_of b)))
  unfolding count_bytes section
  copied {t = t} {of} p h {n} e =
      let same : part b t.start (n * t.width) ≡ joined (map t.row (of (schema_of b)))
      = ap (λ (l : List ℕ). part l t.start (n * t.width)) (sound_stored s).shown
      ∙ ap (λ (m : ℕ). part (picture (schema_of b)) t.start (m * t.width)) e ∙ placed_front p (schema_of b) h in
      let count : n ≡ length (map t.row (of (schema_of b))) = e ∙ sym (length-map (of (schema_of b)) t.row) in
      λ i. count_bytes (count i) ++ same i

  pub applications_copied : {n : ℕ} → n ≡ length (schema_of b).applications
      → count_bytes n ++ part b applications.start (n * applications.width) ≡ section (application_entries (schema_of b))
  unfolding application_entries
  applications_copied = copied applications_placed (sound_good s).application_room

  pub ends_copied : {n : ℕ} → n ≡ length (schema_of b).ends
      → count_bytes n ++ part b ends.start (n * ends.width) ≡ section (end_entries (schema_of b))
  unfolding end_entries
  ends_copied = copied ends_placed (sound_good s).end_room

  -- none is in SDS 0, so that the first byte of a used row is not 0
  pub applications_counted : {n : ℕ} → Halved b applications.start applications.width limits.applications n
      → Counted (length (schema_of b).applications) limits.applications n
  applications_counted {n} half =
      let right = halved_right applications b 0 n (omega arith) half
      (λ i h e. (sound_good s).system_no_application (application_shown b i) (application_there b i h) (ap (λ (m : ℕ). get_or b m 0) (omega arith) ∙ e))
      (sound_canonical s).application_rest in
      record { is = right.is ∙ sym (applications_long b); fits = right.fits }

  pub ends_counted : {n : ℕ} → Halved b ends.start ends.width limits.ends n → Counted (length (schema_of b).ends) limits.ends n
  ends_counted {n} half =
      let right = halved_right ends b 0 n (omega arith) half
      (λ i h e. (sound_good s).system_no_end (end_shown b i) (end_there b i h) (ap (λ (m : ℕ). get_or b m 0) (omega arith) ∙ e))
      (sound_canonical s).end_rest in
      record { is = right.is ∙ sym (ends_long b); fits = right.fits }
