-- The first three sections of the file of a good schema, and so what loading makes of them. Assumes nothing.
use Prim.Native.Nat.{ℕ}
use mathlib.Core.Path.{◌≡◌, refl, ap, ◌∙◌}
use mathlib.Core.List.{List, ◌++◌}
use lib.ListN.{replicate}
use Rattle.rules.specs.04-Schema.{Schema}
use Rattle.rules.specs.07-Picture.{base_length}
use Rattle.rules.specs.11-File.{section, sds_entries, type_entries, parent_entries, presence_entries, application_entries, end_entries, file_of}
use Rattle.rules.proofs.11-File.{wide_sdss, wide_types, wide_parents, sds_count, type_count, parent_count}
use Rattle.file_in_types.specs.declared.Section.TheVariants.{Sdss, Types, Parents}
use Rattle.file_in_types.specs.Steps.{width_of, limit_of, step_of, sds_in, type_in, parent_in, all_in}
use Rattle.file_in_types.specs.Loaded.{SectionIn, TypesLoaded}
use Rattle.file_in_types.proofs.TypesLaws.{types_shown}

module _ (s : Schema) where
  -- what stands from the parents on, and from the presences on
  abbrev from_presences : List ℕ
  from_presences = section (presence_entries s) ++ (section (application_entries s) ++ section (end_entries s))

  abbrev from_parents : List ℕ
  from_parents = section (parent_entries s) ++ from_presences

  file_is : file_of s ≡ section (sds_entries s) ++ (section (type_entries s) ++ from_parents)
  unfolding file_of
  file_is = refl

pub types_loaded : {file : List ℕ} {n : ℕ} {empty named typed whole : List ℕ} {a b r : ℕ} → n ≡ base_length → empty ≡ replicate n 0
    → SectionIn (width_of Sdss) (step_of Sdss) (limit_of Sdss) file 0 empty named a
    → SectionIn (width_of Types) (step_of Types) (limit_of Types) file a named typed b
    → SectionIn (width_of Parents) (step_of Parents) (limit_of Parents) file b typed whole r → TypesLoaded file whole r
types_loaded {file} {n} {empty} {named} {typed} {whole} {a} {b} {r} long zero x y z = record {
  long = z.long;
  shows = λ s w.
      let (e, f) = x.is (sds_entries s) (section (type_entries s) ++ from_parents s) (sds_count w.good) (wide_sdss s) (w.is ∙ file_is s) in
      let (g, h) = y.is (type_entries s) (from_parents s) (type_count w.good) (wide_types s) f in
      let (i, j) = z.is (parent_entries s) (from_presences s) (parent_count w.good) (wide_parents s) h in (
        i ∙ ap (all_in parent_in (parent_entries s))
            (g ∙ ap (all_in type_in (type_entries s)) (e ∙ ap (all_in sds_in (sds_entries s)) (zero ∙ ap (λ (k : ℕ). replicate k 0) long)))
            ∙ types_shown w.good,
        j,
      );
}
