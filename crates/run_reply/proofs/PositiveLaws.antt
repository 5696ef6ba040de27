-- No rule that the run program calls refuses by 0. Assumes nothing.
use Prim.Native.Nat.{ℕ}
use mathlib.Core.Path.{refl}
use mathlib.Core.List.{List}
use Rattle.rules.specs.01-Lists.{all}
use Rattle.rules.specs.03-Names.{Name}
use Rattle.rules.specs.04-Schema.{Schema}
use Rattle.rules.specs.10-Changes.{new_sds, import, new_object, remove_type}
use Rattle.rules.specs.11-Asks.{find, scan_object, depth_of}
use Rattle.rules.proofs.09-Refusals.{Beyond, verdict_beyond}

module _ (s : Schema) where
  pub new_sds_positive : (n : Name) → Beyond 0 (new_sds n s)
  unfolding new_sds all
  new_sds_positive n = verdict_beyond 0 _ _ refl tt

  pub import_positive : (target source : ℕ) (n new new_reverse : Name) → Beyond 0 (import target source n new new_reverse s)
  unfolding import all
  import_positive target source n new new_reverse = verdict_beyond 0 _ _ refl tt

  pub new_object_positive : (d : ℕ) (n : Name) (run : List ℕ) → Beyond 0 (new_object d n run s)
  unfolding new_object all
  new_object_positive d n run = verdict_beyond 0 _ _ refl tt

  pub remove_type_positive : (d : ℕ) (n : Name) → Beyond 0 (remove_type d n s)
  unfolding remove_type all
  remove_type_positive d n = verdict_beyond 0 _ _ refl tt

  pub find_positive : (w : List ℕ) (n : Name) → Beyond 0 (find w n s)
  unfolding find all
  find_positive w n = verdict_beyond 0 _ _ refl tt

  pub scan_object_positive : (w : List ℕ) (t code room : ℕ) → Beyond 0 (scan_object w t code room s)
  unfolding scan_object all
  scan_object_positive w t code room = verdict_beyond 0 _ _ refl tt

  pub depth_positive : (w : List ℕ) (t : ℕ) → Beyond 0 (depth_of w t s)
  unfolding depth_of all
  depth_positive w t = verdict_beyond 0 _ _ refl tt
