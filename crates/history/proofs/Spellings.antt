-- "the spelling given is kept and shown. A rename that alters only the spelling is still done. Uniqueness, find, .. read so from then on"
-- (02, Q-5). That uniqueness does is said by `Good`. Assumes nothing.
use Prim.Native.Nat.{ℕ}
use mathlib.Core.Path.{◌≡◌, refl, sym, ap, ◌∙◌}
use mathlib.Core.List.Memᴰ
use mathlib.Core.List.{List, [], ◌∷◌}
use mathlib.Core.Bool.{true, false, not, and-false}
use borrow.Author.Tests.{eq-eqb}
use Rattle.rules.specs.01-Lists.{any, first, without, put_all, repeated}
use Rattle.rules.specs.03-Names.{Name, same_name}
use Rattle.rules.specs.04-Schema.{Schema, Presence, nowhere, holds_type, bears, type_named, type_presence, local_name}
use Rattle.rules.specs.06-Good.{presence_before}
use Rattle.rules.specs.09-Refusals.{◌when◌, verdict, unknown_sds, system_sds, malformed, no_such_name, no_name_listed, borne_by_another}
use Rattle.rules.specs.09-Refusals.Outcome.{done}
use Rattle.rules.specs.10-Changes as Changes
use Rattle.rules.specs.10-Changes.{rename}
use Rattle.rules.specs.11-Asks.{find}
use Rattle.rules.proofs.01-Lists.{any_none}
use Rattle.rules.proofs.03-Names.{same_bears, same_type, same_borne}
use Rattle.rules.proofs.Edits.{first_put, without_in}

-- two spellings find the same
pub find_any_spelling : (w : List ℕ) (n m : Name) (s : Schema) → malformed n ≡ malformed m → same_name n m ≡ true → find w n s ≡ find w m s
unfolding find no_name_listed
find_any_spelling w n m s f e = λ i.
    verdict
    ((2 when any (unknown_sds s) w) ∷ (4 when f i) ∷ (6 when not (any (λ d. same_bears n m e s d i) w)) ∷ (8 when repeated w) ∷ [])
    (done (same_type n m e s (first (λ d. same_bears n m e s d i) 0 w) i) 0 0 [])

-- the type of SDS d that bears n, and what a rename of it makes
module _ (s : Schema) (d : ℕ) (n new : Name) where
  -- no other type bears a type's own name
  not_another : borne_by_another s d (type_named s d n) n ≡ false
  unfolding borne_by_another
  not_another = rw (eq-eqb (type_named s d n) (type_named s d n) refl) (and-false (bears s d n))

  abbrev renamed : Schema
  renamed = Changes.with_name d new (type_named s d n) s

  -- no number refuses another spelling, unless it would refuse any new name
  pub rename_respells : unknown_sds s d ≡ false → system_sds d ≡ false → malformed n ≡ false → malformed new ≡ false → no_such_name s d n ≡ false
      → same_name n new ≡ true → rename d n new s ≡ done 0 0 0 renamed
  unfolding rename verdict
  rename_respells a b c c' f e = rw (a, b, c, c', f, another) refl
    where
      another : borne_by_another s d (type_named s d n) new ≡ false
      another = sym (same_borne n new e s d (type_named s d n)) ∙ not_another

  -- its presence is the one that was put in
  pub renamed_there : type_presence renamed d (type_named s d n) ≡ Changes.renamed d new (type_named s d n) s
  unfolding put_all any
  renamed_there =
      let t = type_named s d n in
      Memᴰ.eq_of_singleton
      (first_put presence_before (holds_type d t) nowhere (Changes.renamed d new t s ∷ []) (without (holds_type d t) s.presences)
      (rw (eq-eqb d d refl, eq-eqb t t refl))
      (any_none (holds_type d t) (without (holds_type d t) s.presences) (λ q i. (without_in (holds_type d t) s.presences i).1)))

  -- the new name stands there as it was spelled
  pub rename_spells : local_name renamed d (type_named s d n) ≡ new
  unfolding local_name
  rename_spells = ap (λ (p : Presence). p.name) renamed_there
