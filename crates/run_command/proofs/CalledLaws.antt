-- The first SDS that bears a name. Assumes nothing.
use Prim.Native.Nat.{ℕ, ◌<◌}
use native.Mathlib.Omega.{arith}
use mathlib.Core.Path.{◌≡◌, sym, ap}
use mathlib.Core.List.{List}
use mathlib.Core.Bool.{true, false}
use lib.ListN.{get_or}
use Rattle.rules.specs.03-Names.{Name, same_name}
use Rattle.rules.specs.04-Schema.{Schema, sds_name, used_sds}
use Rattle.rules.specs.14-Run.{sds_called}
use Rattle.rules.proofs.01-Lists.{numbers_first, numbers_none}
use Rattle.run_command.specs.Called.{called}

module _ (s : Schema) (n : Name) (d : ℕ) where
  pub called_unused : used_sds s d ≡ false → false ≡ called s n d
  unfolding called
  called_unused e = sym (rw e)

  pub called_used : used_sds s d ≡ true → same_name (sds_name s d) n ≡ called s n d
  unfolding called
  called_used e = sym (rw e)

  module _ (others : (k : ℕ) → k < d → called s n k ≡ false) where
    pub called_first : d < 16 → called s n d ≡ true → d ≡ sds_called s n
    unfolding sds_called called
    called_first h e = sym (ap (λ (l : List ℕ). get_or l 0 16) (numbers_first (called s n) 0 16 d (omega arith) (omega arith) (λ k _ u. others k u) e))

    pub called_none : d ≡ 16 → 16 ≡ sds_called s n
    unfolding sds_called called
    called_none h = sym (ap (λ (l : List ℕ). get_or l 0 16) (numbers_none (called s n) 0 16 (λ k _ u. others k (omega arith))))
