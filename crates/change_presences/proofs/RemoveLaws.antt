-- A type removed from an SDS, and its reverse with it. Assumes nothing.
use Prim.Native.Nat.{ℕ, ◌<◌}
use native.Mathlib.Omega.{arith}
use mathlib.Core.Path.{◌≡◌, refl, sym, ap, ◌∙◌, subst}
use mathlib.Core.List.{List, [], ◌∷◌, ◌++◌}
use mathlib.Core.Bool.{Bool, true, false, ◌&&◌, ◌||◌, or-false}
use lib.Dec.{eqb}
use Rattle.std.specs.Prelude.{Option, Some}
use Rattle.std.specs.Option.{unwrap_or}
use borrow.Author.Tests.{eqb-true}
use Rattle.rules.specs.01-Lists.{◌∈◌, any, all, among, without}
use Rattle.rules.specs.03-Names.{Name}
use Rattle.rules.specs.04-Schema.{Schema, Presence, holds_type, present, type_named, with_presences}
use Rattle.rules.specs.04-Schema.Kind.{unused}
use Rattle.rules.specs.06-Good.{Good}
use Rattle.rules.specs.07-Picture.{Sound, picture}
use Rattle.rules.specs.09-Refusals.{not_present}
use Rattle.rules.specs.09-Refusals.Outcome.{done}
use Rattle.rules.specs.10-Changes.{less_gone, less_type, obstacles, remove_type, remove_type_refusals, remove_number, remove_number_refusals}
use Rattle.rules.proofs.Bools.{and_both}
use Rattle.rules.proofs.01-Lists.{any_at, any_where}
use Rattle.rules.proofs.Edits.{without_in, without_keeps, without_same, without_twice}
use Rattle.rules.proofs.09-Refusals.{Left}
use Rattle.base.specs.Back.{schema_of}
use Rattle.base.specs.Stored.{Shows, Stored, Becomes}
use Rattle.base.specs.Tested.{Tested}
use Rattle.base.proofs.Back.{sound_good}
use Rattle.base.proofs.StoredLaws.{shows_next, shows_has}
use Rattle.base.proofs.TestedLaws.{begun_passes, tested_passes}
use Rattle.conditions.specs.Aimed.{sds_refusals, type_refusals, named_refusals, TypeOf}
use Rattle.conditions.specs.Reverse.{ReverseOf}
use Rattle.conditions.proofs.ReverseLaws.{one_is, none_is}
use Rattle.change_presences.specs.Remove.{HeldOnce, less_presence, removal}
use Rattle.change_presences.proofs.HeldLaws.{held}

-- ---- the reverse

pub the_reverse : {s : Schema} {t : ℕ} {o : Option ℕ} {r : ℕ} → ReverseOf s t (unwrap_or o 128) → o ≡ Some r → ReverseOf s t r
the_reverse {s} {t} rev e = subst (λ (x : Option ℕ). ReverseOf s t (unwrap_or x 128)) e rev

module _ {s : Schema} (good : Good s) where
  -- its reverse is there too, and still is when it is gone itself
  held_reverse : {d t r : ℕ} → HeldOnce s d t → ReverseOf s t r → r < 128 → HeldOnce (less_presence d t s) d r
  unfolding present
  held_reverse {d} {t} {r} once rev h = record { there = still; once = λ p q i j. both.once p q (was i) (was j) }
    where
      both : HeldOnce s d r
      both = let (c, pair) = rev.pair h in held good d r (good.reverse_present d t c r once.there pair)

      was : {p : Presence} → p ∈ without (holds_type d t) s.presences → p ∈ s.presences
      was i = (without_in (holds_type d t) s.presences i).0

      other : (p : Presence) → holds_type d r p ≡ true → (x : Bool) → holds_type d t p ≡ x → x ≡ false
      other p e false q = refl
      other p e true q =
          let (c, pair) = rev.pair h in
          let (x, y) = and_both (eqb p.sds d) (eqb p.type r) e in
          let (z, w) = and_both (eqb p.sds d) (eqb p.type t) q in
          absurd (good.reverse_different t c r pair (sym (eqb-true p.type r y) ∙ eqb-true p.type t w))

      still : any (holds_type d r) (without (holds_type d t) s.presences) ≡ true
      still =
          let (p, i, e) = any_where (holds_type d r) s.presences both.there in
          any_at (holds_type d r) (without_keeps (holds_type d t) s.presences i (other p e (holds_type d t p) refl)) e

-- ---- a type that is in no SDS any more

module _ (b : List ℕ) (t : ℕ) where
  pub stays : Stored b → any (λ p. eqb p.type t) (schema_of b).presences ≡ true → Shows b (less_gone (t ∷ []) (schema_of b))
  unfolding less_gone
  stays x e = rw e (record { rows = x.rows; shown = x.shown })

  pub gone : {b₁ : List ℕ} → any (λ p. eqb p.type t) (schema_of b).presences ≡ false → Becomes b t unused b₁
      → Shows b₁ (less_gone (t ∷ []) (schema_of b))
  unfolding less_gone
  gone e out = rw e out

-- ---- the rules

-- the types ts gone from SDS d
abbrev cleared : ℕ → List ℕ → Schema → Schema
cleared d ts s = less_gone ts (with_presences s (without (λ p. eqb p.sds d && among ts p.type) s.presences))

pub removal_left : (d t : ℕ) (s : Schema) → Left (removal d t s) (obstacles d t s) (done t 0 0 (less_type d t s))
removal_left d t s = record { is = refl }

pub remove_left : (d : ℕ) (n : Name) (s : Schema)
    → Left (remove_type d n s) (remove_type_refusals d n s) (done (type_named s d n) 0 0 (less_type d (type_named s d n) s))
unfolding remove_type
remove_left d n s = record { is = refl }

pub number_left : (d t : ℕ) (s : Schema) → Left (remove_number d t s) (remove_number_refusals d t s) (done t 0 0 (less_type d t s))
unfolding remove_number
number_left d t s = record { is = refl }

module _ {b : List ℕ} (d : ℕ) where
  -- where nothing stands in the way
  pub unheld : (t : ℕ) → Tested b (obstacles d t (schema_of b)) 0 0 → removal d t (schema_of b) ≡ done t 0 0 (less_type d t (schema_of b))
  unfolding all
  unheld t told = tested_passes told refl refl (removal_left d t (schema_of b))

  -- by its name, and by its number: what is left once the type is found
  pub remove_named : (n : Name) {t : ℕ} → Tested b (named_refusals (schema_of b) d n) 0 0 → TypeOf b d n t
      → remove_type d n (schema_of b) ≡ removal d t (schema_of b)
  unfolding all
  remove_named n told found =
      (begun_passes _ told refl refl (remove_left d n (schema_of b))).is ∙ ap (λ (y : ℕ). removal d y (schema_of b)) (sym found.named)

  pub remove_there : (t : ℕ) → Tested b (sds_refusals (schema_of b) d ++ type_refusals (not_present (schema_of b) d t)) 0 0
      → remove_number d t (schema_of b) ≡ removal d t (schema_of b)
  unfolding all
  remove_there t told = (begun_passes _ told refl refl (number_left d t (schema_of b))).is

one_out : (d t : ℕ) (ps : List Presence) → without (holds_type d t) ps ≡ without (λ p. eqb p.sds d && among (t ∷ []) p.type) ps
unfolding any
one_out d t ps =
    without_same (holds_type d t) (λ p. eqb p.sds d && among (t ∷ []) p.type) ps
    (λ p i. ap (λ (x : Bool). eqb p.sds d && x) (sym (or-false (eqb p.type t))))

two_out : (d t r : ℕ) (ps : List Presence)
    → without (holds_type d r) (without (holds_type d t) ps) ≡ without (λ p. eqb p.sds d && among (t ∷ r ∷ []) p.type) ps
unfolding any
two_out d t r ps =
    without_twice (holds_type d t) (holds_type d r) ps
    ∙ without_same (λ p. holds_type d t p || holds_type d r p) (λ p. eqb p.sds d && among (t ∷ r ∷ []) p.type) ps
    (λ p i. either (eqb p.sds d) (eqb p.type t) (eqb p.type r))
  where
    either : (a x y : Bool) → (a && x) || (a && y) ≡ a && (x || (y || false))
    either true x y = ap (λ (z : Bool). x || z) (sym (or-false y))
    either false x y = refl

-- ---- the bytes

module _ (b : List ℕ) (d : ℕ) {b₁ : List ℕ} {t r : ℕ} (rev : ReverseOf (schema_of b) t r) (out : Shows b₁ (less_presence d t (schema_of b))) where
  pub reverse_held : Sound b → HeldOnce (schema_of b) d t → r < 128 → HeldOnce (schema_of b₁) d r
  reverse_held s once h = shows_has (λ x. HeldOnce x d r) out (held_reverse (sound_good s) once rev h)

  pub removed_one : r ≡ 128 → {b₂ : List ℕ} → Shows b₂ (less_gone (t ∷ []) (schema_of b₁)) → b₂ ≡ picture (less_type d t (schema_of b))
  removed_one e out₂ =
      (shows_next (less_gone (t ∷ [])) out out₂).shown
      ∙ ap (λ (ps : List Presence). picture (less_gone (t ∷ []) (with_presences (schema_of b) ps))) (one_out d t (schema_of b).presences)
      ∙ ap (λ (ts : List ℕ). picture (cleared d (t ∷ ts) (schema_of b))) (sym (rev.is ∙ none_is {r = r} (omega arith)))

  pub removed_two : r < 128 → {b₂ b₃ b₄ : List ℕ} → Shows b₂ (less_presence d r (schema_of b₁)) → Shows b₃ (less_gone (t ∷ []) (schema_of b₂))
      → Shows b₄ (less_gone (r ∷ []) (schema_of b₃)) → b₄ ≡ picture (less_type d t (schema_of b))
  unfolding less_gone
  removed_two h out₂ out₃ out₄ =
      (shows_next (less_gone (r ∷ [])) (shows_next (less_gone (t ∷ [])) (shows_next (less_presence d r) out out₂) out₃) out₄).shown
      ∙ ap (λ (ps : List Presence). picture (less_gone (t ∷ r ∷ []) (with_presences (schema_of b) ps))) (two_out d t r (schema_of b).presences)
      ∙ ap (λ (ts : List ℕ). picture (cleared d (t ∷ ts) (schema_of b))) (sym (rev.is ∙ one_is h))
