-- What the rules of the changing calls say, test by test. Assumes nothing.
use Prim.Native.Nat.{ℕ}
use mathlib.Core.Path.{◌≡◌, refl}
use mathlib.Core.List.{List, [], ◌∷◌}
use mathlib.Core.Bool.{true, false}
use lib.ListN.{set, drop}
use Rattle.rules.specs.01-Lists.{all}
use Rattle.rules.specs.03-Names.{Name, well_formed}
use Rattle.rules.specs.04-Schema.{Schema, with_sdss}
use Rattle.rules.specs.09-Refusals.{Outcome, ◌held_by◌, types_in, sds_name_taken}
use Rattle.rules.specs.09-Refusals.Outcome.{done}
use Rattle.rules.specs.10-Changes.{new_sds, new_sds_refusals, new_sds_number, remove_sds, remove_sds_refusals}
use Rattle.rules.proofs.09-Refusals.{Left, passes}
use Rattle.rules.proofs.NameTests.{formed_passes}
use Rattle.base.specs.Back.{schema_of}
use Rattle.base.specs.Tested.{Tested}
use Rattle.base.proofs.TestedLaws.{begun_passes}
use Rattle.conditions.specs.Aimed.{sds_refusals}

-- SDS d gets the name n
abbrev pub named : ℕ → Name → Schema → Schema
named d n s = with_sdss s (set s.sdss d n)

abbrev pub new_sds_effect : Name → Schema → Outcome Schema
new_sds_effect n s = done (new_sds_number s) 0 0 (named (new_sds_number s) n s)

abbrev pub remove_sds_effect : ℕ → Schema → Outcome Schema
remove_sds_effect d s = done 0 0 0 (named d [] s)

-- before the first test
pub new_sds_left : (n : Name) (s : Schema) → Left (new_sds n s) (new_sds_refusals n s) (new_sds_effect n s)
unfolding new_sds
new_sds_left n s = record { is = refl }

pub remove_sds_left : (d : ℕ) (s : Schema) → Left (remove_sds d s) (remove_sds_refusals d s) (remove_sds_effect d s)
unfolding remove_sds
remove_sds_left d s = record { is = refl }

-- after those of the name, and after that of whether it is taken
module _ (n : Name) (s : Schema) (formed : well_formed n ≡ true) where
  pub formed_left : Left (new_sds n s) (drop 1 (new_sds_refusals n s)) (new_sds_effect n s)
  formed_left = passes (new_sds_left n s) (formed_passes n formed)

  pub untaken_left : sds_name_taken s n ≡ false → Left (new_sds n s) (drop 2 (new_sds_refusals n s)) (new_sds_effect n s)
  untaken_left free = passes formed_left free

-- after those of the SDS
pub types_left : {b : List ℕ} (d : ℕ) → let s = schema_of b in
    Tested b (sds_refusals s d) 0 0 → Left (remove_sds d s) ((12 held_by types_in s d) ∷ []) (remove_sds_effect d s)
unfolding all
types_left d t = begun_passes _ t refl refl (remove_sds_left _ _)
