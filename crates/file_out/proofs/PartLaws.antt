-- The parts of a file: those of the presences by number, all one behind another, and how long one is at most. Assumes nothing.
use Prim.Native.Nat.{ℕ, zero, suc, ◌+◌, ◌-◌, ◌≤◌, ◌<◌}
use native.Mathlib.Nat.{add-zero}
use native.Mathlib.Omega.{arith}
use mathlib.Core.Path.{◌≡◌, refl, sym, ap, ◌∙◌}
use mathlib.Core.List.{List, [], ◌∷◌, ◌++◌, map, append-nil}
use mathlib.Core.Bool.{true}
use lib.ListN.{length, get_or, length-map}
use Rattle.rules.specs.01-Lists.{numbers, joined}
use Rattle.rules.specs.02-Limits.{limits}
use Rattle.rules.specs.04-Schema.{Schema, used_sds, present, type_presence}
use Rattle.rules.specs.06-Good.{Good}
use Rattle.rules.specs.07-Picture.{presence_width, application_width, application_row, end_width, end_row}
use Rattle.rules.specs.09-Refusals.{types_in}
use Rattle.rules.specs.11-File.{section, sds_entries, type_entries, parent_entries, presence_entry, entries_in, presence_entries, application_entries}
use Rattle.rules.specs.11-File.{end_entries, file_of}
use Rattle.rules.proofs.05-Descent.{members_most}
use Rattle.rules.proofs.Sections.{joined_append, wide_mapped, joined_wide, section_long}
use Rattle.rules.proofs.11-File.{wide_presence_entry, wide_sdss, wide_types, wide_parents, wide_applications, wide_ends, sds_count, type_count, parent_count}
use Rattle.rules.proofs.11-File.{presence_count}
use Rattle.file_out_presences.proofs.SpanLaws.{span_joined, span_passed}
use Rattle.file_out_presences.proofs.DownLaws.{none_in}
use Rattle.file_out.specs.Parts.{count_bytes, file_parts, part_of}
use Rattle.file_out.proofs.SpanLaws.{joined_span}

-- ---- by number

-- all numbers of a stretch
abbrev all : ℕ → ℕ → List ℕ
all a m = numbers a m (λ k. true)

mapped_at : (f : ℕ → List ℕ) (a m d : ℕ) (rest : List (List ℕ)) → d < m → get_or (map f (all a m) ++ rest) d [] ≡ f (a + d)
unfolding numbers
mapped_at f a zero d rest h = absurd (omega arith)
mapped_at f a (suc m) zero rest h = ap f (sym (add-zero a))
mapped_at f a (suc m) (suc d) rest h = mapped_at f (suc a) m d rest (omega arith) ∙ ap f (omega arith)

pub part_presences : (s : Schema) (j : ℕ) → 4 ≤ j → j < 20 → part_of s j ≡ joined (entries_in s (j - 4))
unfolding file_parts
part_presences s j l u =
    let far : j ≡ suc (suc (suc (suc (j - 4)))) = omega arith in
    let same : 0 + (j - 4) ≡ j - 4 = omega arith in
    ap (part_of s) far
    ∙ mapped_at (λ d. joined (entries_in s d)) 0 limits.sdss (j - 4) (section (application_entries s) ∷ section (end_entries s) ∷ []) (omega arith)
    ∙ ap (λ (d : ℕ). joined (entries_in s d)) same

-- ---- at most

-- no list of these is longer than n
record Most (n : ℕ) (ls : List (List ℕ)) : Type 0 where
  each : (j : ℕ) → length (get_or ls j []) ≤ n

most_none : (n : ℕ) → Most n []
most_none n = record { each = λ j. omega arith }

most_more : {n : ℕ} {l : List ℕ} {ls : List (List ℕ)} → length l ≤ n → Most n ls → Most n (l ∷ ls)
most_more {n} {l} {ls} h k = record { each = go }
  where
    go : (j : ℕ) → length (get_or (l ∷ ls) j []) ≤ n
    go zero = h
    go (suc j) = k.each j

most_map : {n : ℕ} (f : ℕ → List ℕ) → ((x : ℕ) → length (f x) ≤ n) → (l : List ℕ) {ls : List (List ℕ)} → Most n ls → Most n (map f l ++ ls)
most_map f h [] k = k
most_map f h (x ∷ l) k = most_more (h x) (most_map f h l k)

-- an SDS that holds every type
in_most : (s : Schema) (d : ℕ) → length (joined (entries_in s d)) ≤ 2560
unfolding entries_in types_in
in_most s d =
    let entry : ℕ → List ℕ = λ t. presence_entry (type_presence s d t) in
    omega (
      arith,
      joined_wide presence_width (entries_in s d) (wide_mapped presence_width entry (types_in s d) (λ t. wide_presence_entry (type_presence s d t))),
      length-map (types_in s d) entry,
      members_most (present s d),
    )

module _ {s : Schema} (good : Good s) where
  parts_most : Most 2562 (file_parts s)
  unfolding file_parts count_bytes application_entries end_entries
  parts_most =
      most_more (omega (arith, section_long 17 (sds_entries s) (wide_sdss s), sds_count good))
      (most_more (omega (arith, section_long 4 (type_entries s) (wide_types s), type_count good))
      (most_more (omega (arith, section_long 2 (parent_entries s) (wide_parents s), parent_count good))
      (most_more (omega arith) (most_map (λ d. joined (entries_in s d)) (λ d. omega (arith, in_most s d)) (all 0 limits.sdss)
      (most_more (omega (arith, section_long application_width (application_entries s) (wide_applications s), length-map s.applications application_row, good.application_room))
      (most_more (omega (arith, section_long end_width (end_entries s) (wide_ends s), length-map s.ends end_row, good.end_room)) (most_none 2562)))))))

  -- the room that a part needs at most
  pub part_most : (j : ℕ) → length (part_of s j) ≤ 2562
  part_most = parts_most.each

  -- ---- one behind another

  -- the presences: their count, and those of each SDS
  presences_whole : (rest : List ℕ) → count_bytes (length s.presences) ++ (joined (map (λ d. joined (entries_in s d)) (all 0 limits.sdss)) ++ rest)
      ≡ section (presence_entries s) ++ rest
  unfolding section count_bytes presence_entries
  presences_whole rest =
      let count = sym (presence_count good) in
      let bytes = span_passed (λ d. joined (entries_in s d)) (λ d. true) 0 limits.sdss
      ∙ sym (ap joined (span_joined (entries_in s) (entries_in s) (used_sds s) (λ d e. refl) (λ d. none_in s d good) 0 limits.sdss)
      ∙ joined_span (entries_in s) 0 limits.sdss) in
      λ i. count_bytes (count i) ++ (bytes i ++ rest)

  pub parts_whole : joined (file_parts s) ≡ file_of s
  unfolding file_parts file_of joined
  parts_whole =
      let e = section (application_entries s) in
      let f = section (end_entries s) in
      let ins = map (λ d. joined (entries_in s d)) (all 0 limits.sdss) in
      let last : joined (ins ++ (e ∷ f ∷ [])) ≡ joined ins ++ (e ++ f)
      = joined_append ins (e ∷ f ∷ []) ∙ ap (λ (x : List ℕ). joined ins ++ (e ++ x)) (append-nil f) in
      let back = ap (λ (x : List ℕ). count_bytes (length s.presences) ++ x) last ∙ presences_whole (e ++ f) in
      λ i. section (sds_entries s) ++ (section (type_entries s) ++ (section (parent_entries s) ++ back i))
