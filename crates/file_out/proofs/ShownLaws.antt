-- What the functions put down and count, over the bytes of a sound base, are the parts and the length of its file. Assumes nothing.
use Prim.Native.Nat.{ℕ, ◌+◌, ◌*◌, ◌-◌, ◌≤◌, ◌<◌}
use native.Mathlib.Omega.{arith}
use mathlib.Core.Path.{◌≡◌, refl, sym, ap, ◌∙◌}
use mathlib.Core.List.{List, ◌++◌}
use lib.ListN.{length}
use Rattle.rules.specs.01-Lists.{numbers, joined}
use Rattle.rules.specs.07-Picture.{Sound, sds_width}
use Rattle.rules.specs.11-File.{section, parent_entries, entries_in, file_of}
use Rattle.rules.proofs.11-File.{file_long}
use Rattle.rows.specs.Rows.{part}
use Rattle.base.specs.Tables.{sdss, types, applications, ends}
use Rattle.base.specs.Back.{schema_of, presence_count}
use Rattle.base.proofs.Back.{sound_good}
use Rattle.base.proofs.Shown.{presences_long}
use Rattle.file_out.specs.Parts.{count_bytes, file_parts, part_of}
use Rattle.file_out.specs.Put.{begun_rows, row_entries}
use Rattle.file_out.proofs.NumberedLaws.{entries_long, sdss_rows, types_rows}
use Rattle.file_out.proofs.CopiedLaws.{applications_copied, ends_copied}
use Rattle.file_out.proofs.PartLaws.{part_presences}

module _ {b : List ℕ} (s : Sound b) where
  -- part j, by its number
  module _ (j : ℕ) where
    -- what is part k
    numbered : {l : List ℕ} (k : ℕ) → l ≡ part_of (schema_of b) k → j ≡ k → l ≡ part_of (schema_of b) j
    numbered k e q = e ∙ ap (part_of (schema_of b)) (sym q)

    pub is_sdss : j ≡ 0 → section (row_entries b sdss.start sdss.width sds_width sdss.room) ≡ part_of (schema_of b) j
    unfolding file_parts
    is_sdss = numbered 0 (ap section (sdss_rows s))

    pub is_types : j ≡ 1 → section (row_entries b types.start types.width 3 types.room) ≡ part_of (schema_of b) j
    unfolding file_parts
    is_types = numbered 1 (ap section (types_rows s))

    pub is_parents : j ≡ 2 → section (parent_entries (schema_of b)) ≡ part_of (schema_of b) j
    unfolding file_parts
    is_parents = numbered 2 refl

    pub is_count : {n : ℕ} → n ≡ presence_count b → j ≡ 3 → count_bytes n ≡ part_of (schema_of b) j
    unfolding file_parts
    is_count e = numbered 3 (ap count_bytes (e ∙ sym (presences_long b)))

    pub is_presences : 4 ≤ j → j < 20 → joined (entries_in (schema_of b) (j - 4)) ≡ part_of (schema_of b) j
    is_presences l u = sym (part_presences (schema_of b) j l u)

    pub is_applications : {n : ℕ} → n ≡ length (schema_of b).applications → j ≡ 20
        → count_bytes n ++ part b applications.start (n * applications.width) ≡ part_of (schema_of b) j
    unfolding file_parts numbers
    is_applications e = numbered 20 (applications_copied s e)

    pub is_ends : {n : ℕ} → n ≡ length (schema_of b).ends → j ≡ 21
        → count_bytes n ++ part b ends.start (n * ends.width) ≡ part_of (schema_of b) j
    unfolding file_parts numbers
    is_ends e = numbered 21 (ends_copied s e)

  -- the length, by the counts
  pub is_length : {a t p n x e : ℕ} → a ≡ length (begun_rows b sdss.start sdss.width sdss.room)
      → t ≡ length (begun_rows b types.start types.width types.room) → p ≡ length (parent_entries (schema_of b)) → n ≡ presence_count b
      → x ≡ length (schema_of b).applications → e ≡ length (schema_of b).ends
      → 12 + a * 17 + t * 4 + p * 2 + n * 20 + x * 3 + e * 4 ≡ length (file_of (schema_of b))
  is_length f g h k l m =
      omega (
        arith,
        file_long (sound_good s),
        entries_long b sdss.start sdss.width sds_width sdss.room,
        ap length (sdss_rows s),
        entries_long b types.start types.width 3 types.room,
        ap length (types_rows s),
        presences_long b,
      )
