-- Presences that get other modes, row by row, are the rule's. Assumes nothing.
use Prim.Native.Nat.{ℕ, zero, suc, ◌+◌, ◌<◌}
use native.Mathlib.Numerals.{add-one}
use native.Mathlib.Omega.{arith}
use mathlib.Core.Path.{◌≡◌, refl, sym, ap, ◌∙◌, subst}
use mathlib.Core.List.{List, [], ◌∷◌, map}
use mathlib.Core.Bool.{Bool, true, false, cond, ◌&&◌}
use lib.Dec.{ltb, eqb}
use lib.ListN.{length, get_or, set}
use lib.Seq.{set-get_or}
use borrow.Author.Tests.{eqb-true, eq-eqb, ne_eqb, ltb-false}
use Rattle.std.specs.Prelude.{Option, IfSome, option_to_list}
use Rattle.std.specs.Option.{unwrap_or}
use Rattle.rules.specs.01-Lists.{all, among, rising}
use Rattle.rules.specs.03-Names.{Name}
use Rattle.rules.specs.04-Schema.{Schema, Modes, all_modes, Presence, nowhere, with_modes, with_reverse, type_named, with_presences}
use Rattle.rules.specs.06-Good.{presence_before, Good}
use Rattle.rules.specs.07-Picture.{Sound}
use Rattle.rules.specs.09-Refusals.{Outcome, unknown_mode}
use Rattle.rules.specs.09-Refusals.Outcome.{done}
use Rattle.rules.specs.10-Changes.{modes_set, set_modes, set_modes_refusals}
use Rattle.rules.proofs.Bools.{and_both, or_neither}
use Rattle.rules.proofs.09-Refusals.{Left}
use Rattle.rules.proofs.Modes.{SameButModes, perhaps_moded, modes_rise}
use Rattle.base.specs.Rows.{presence_at}
use Rattle.base.specs.Back.{schema_of, presence_count, presence_shown}
use Rattle.base.specs.Stored.{modes_row, Stored, Shows}
use Rattle.base.specs.Tested.{Tested}
use Rattle.base.proofs.Back.{sound_good}
use Rattle.base.proofs.Shown.{presences_long, presence_is}
use Rattle.base.proofs.StoredLaws.{sound_stored, shows_schema, shows_next}
use Rattle.base.proofs.TestedLaws.{tested_passes}
use Rattle.conditions.specs.Aimed.{Aimed, TypeOf}
use Rattle.conditions.specs.Reverse.{ReverseOf}
use Rattle.conditions.proofs.AimedLaws.{all_passed, aimed_well}
use Rattle.in_use.proofs.HeldLaws.{listed}
use Rattle.change_presences.specs.Modes.{of_either, reset, changed_at, changed_to}

-- ---- the first rows of a list changed

module _ (f : Presence → Presence) where
  changed_long : (i : ℕ) (ps : List Presence) → length (changed_to f i ps) ≡ length ps
  unfolding changed_to
  changed_long zero ps = refl
  changed_long (suc i) [] = refl
  changed_long (suc i) (p ∷ ps) = ap suc (changed_long i ps)

  -- one more
  pub changed_more : (i : ℕ) (ps : List Presence) → changed_at f i (changed_to f i ps) ≡ changed_to f (suc i) ps
  unfolding changed_to
  changed_more zero [] = refl
  changed_more zero (p ∷ ps) = refl
  changed_more (suc i) [] = refl
  changed_more (suc i) (p ∷ ps) = ap (λ (l : List Presence). f p ∷ l) (changed_more i ps)

  -- all
  pub changed_all : (i : ℕ) (ps : List Presence) → i ≡ length ps → changed_to f i ps ≡ map f ps
  unfolding changed_to
  changed_all zero [] e = refl
  changed_all zero (p ∷ ps) e = absurd (omega arith)
  changed_all (suc i) [] e = refl
  changed_all (suc i) (p ∷ ps) e = ap (λ (l : List Presence). f p ∷ l) (changed_all i ps (omega arith))

  module _ (same : (p : Presence) → SameButModes p (f p)) where
    itself : (p : Presence) → SameButModes p p
    itself p = record { sds = refl; name = refl; type = refl }

    changed_same : (i j : ℕ) (ps : List Presence) → SameButModes (get_or ps j nowhere) (get_or (changed_to f i ps) j nowhere)
    unfolding changed_to
    changed_same zero j ps = itself (get_or ps j nowhere)
    changed_same (suc i) j [] = itself nowhere
    changed_same (suc i) zero (p ∷ ps) = same p
    changed_same (suc i) (suc j) (p ∷ ps) = changed_same i j ps

    -- they still rise
    pub changed_rise : {s : Schema} → Good s → (i : ℕ) → rising presence_before (changed_to f i s.presences) ≡ true
    changed_rise {s} good i =
        modes_rise nowhere s.presences (changed_to f i s.presences) (changed_long i s.presences) (λ j _. changed_same i j s.presences)
        good.one_presence good.presences_rising

-- ---- one row

module _ (d t : ℕ) (reverse : Option ℕ) (usage definition : Modes) where
  pub reset_same : (p : Presence) → SameButModes p (reset d t reverse usage definition p)
  reset_same p = perhaps_moded (of_either d t reverse p) usage definition p

  module _ (b : List ℕ) (i : ℕ) (h : i < presence_count b) where
    abbrev ps : List Presence
    ps = (schema_of b).presences

    here : (x : Bool) → x ≡ of_either d t reverse (presence_shown b i) → changed_at (reset d t reverse usage definition) i ps
        ≡ set ps i (cond x (with_modes usage definition (get_or ps i nowhere)) (get_or ps i nowhere))
    here x e =
        ap (λ (y : Bool). set ps i (cond y (with_modes usage definition (get_or ps i nowhere)) (get_or ps i nowhere)))
        (ap (of_either d t reverse) (presence_is b i nowhere h) ∙ sym e)

    pub row_passed : of_either d t reverse (presence_shown b i) ≡ false → Stored b
        → Shows b (with_presences (schema_of b) (changed_at (reset d t reverse usage definition) i ps))
    row_passed e x =
        subst (λ (l : List Presence). Shows b (with_presences (schema_of b) l)) (sym (here false (sym e) ∙ set-get_or ps i nowhere))
        (record { rows = x.rows; shown = x.shown })

    pub row_reset : of_either d t reverse (presence_shown b i) ≡ true
        → changed_at (reset d t reverse usage definition) i ps ≡ modes_row i usage definition ps
    row_reset e = here true (sym e)

    pub row_aimed : of_either d t reverse (presence_shown b i) ≡ true → (d ≡ 0 → ⊥) → get_or b (presence_at i) 0 ≡ 0 → ⊥
    row_aimed e outside z =
        let p = presence_shown b i in
        outside (sym (eqb-true p.sds d (and_both (eqb p.sds d) (among (t ∷ option_to_list reverse) p.type) e).0) ∙ z)

-- ---- row by row

module _ {b₀ : List ℕ} (sound : Sound b₀) (d t : ℕ) (reverse : Option ℕ) (usage definition : Modes) where
  abbrev f : Presence → Presence
  f = reset d t reverse usage definition

  -- the first i rows have been asked
  abbrev pub after : ℕ → Schema
  after i = with_presences (schema_of b₀) (changed_to f i (schema_of b₀).presences)

  pub asked_none : Shows b₀ (after 0)
  unfolding changed_to
  asked_none = let x = sound_stored sound in record { rows = x.rows; shown = x.shown }

  module _ {b : List ℕ} (i : ℕ) (x : Shows b (after i)) where
    pub asked_count : presence_count b ≡ presence_count b₀
    asked_count =
        sym (presences_long b) ∙ ap (λ (s : Schema). length s.presences) (shows_schema x) ∙ changed_long f i (schema_of b₀).presences ∙ presences_long b₀

    pub asked_rise : rising presence_before (changed_at f i (schema_of b).presences) ≡ true
    asked_rise =
        ap (λ (s : Schema). rising presence_before (changed_at f i s.presences)) (shows_schema x)
        ∙ ap (rising presence_before) (changed_more f i (schema_of b₀).presences)
        ∙ changed_rise f (reset_same d t reverse usage definition) (sound_good sound) (suc i)

    pub asked_more : {b' : List ℕ} → Shows b' (with_presences (schema_of b) (changed_at f i (schema_of b).presences)) → Shows b' (after (i + 1))
    asked_more {b'} y =
        subst (λ (l : List Presence). Shows b' (with_presences (schema_of b₀) l))
        (changed_more f i (schema_of b₀).presences ∙ ap (λ (n : ℕ). changed_to f n (schema_of b₀).presences) (sym (add-one i)))
        (shows_next (λ s. with_presences s (changed_at f i s.presences)) x y)

    pub asked_all : i ≡ presence_count b₀ → Shows b (with_presences (schema_of b₀) (map f (schema_of b₀).presences))
    asked_all e =
        subst (λ (l : List Presence). Shows b (with_presences (schema_of b₀) l))
        (changed_all f i (schema_of b₀).presences (e ∙ sym (presences_long b₀))) x

-- ---- the tests of a row

module _ (d t : ℕ) (reverse : Option ℕ) (p : Presence) where
  pub in_another : (p.sds ≡ d → ⊥) → false ≡ of_either d t reverse p
  in_another n = rw (ne_eqb p.sds d n)

  pub in_it : p.sds ≡ d → among (t ∷ option_to_list reverse) p.type ≡ of_either d t reverse p
  in_it e = rw (eq-eqb p.sds d e)

-- ---- the rule

abbrev pub set_effect : ℕ → Name → Modes → Modes → Schema → Outcome Schema
set_effect d n usage definition s = done 0 0 0 (with_presences s (modes_set d (with_reverse s (type_named s d n)) usage definition s.presences))

pub set_left : (d : ℕ) (n : Name) (usage definition : Modes) (s : Schema)
    → Left (set_modes d n usage definition s) (set_modes_refusals d n usage definition s) (set_effect d n usage definition s)
unfolding set_modes
set_left d n usage definition s = record { is = refl }

-- a type and its reverse by their numbers
pub resets_all : {s : Schema} (d : ℕ) {t : ℕ} (reverse : Option ℕ) (usage definition : Modes) → ReverseOf s t (unwrap_or reverse 128)
    → IfSome reverse (λ r. r < 128)
    → modes_set d (with_reverse s t) usage definition s.presences ≡ map (reset d t reverse usage definition) s.presences
unfolding modes_set
resets_all {s} d {t} reverse usage definition pair below =
    ap (λ (ts : List ℕ). map (λ p. cond (eqb p.sds d && among (t ∷ ts) p.type) (with_modes usage definition p) p) s.presences)
    (pair.is ∙ listed reverse below)

-- what the call goes on with where nothing refuses
pub record Through (b : List ℕ) (d : ℕ) (n : Name) (usage definition : Modes) (t : ℕ) (reverse : Option ℕ) : Type 0 where
  pub aim : Aimed b d
  pub small : (usage < 256) × (definition < 256)
  pub rule : set_modes d n usage definition (schema_of b)
      ≡ done 0 0 0 (with_presences (schema_of b) (map (reset d t reverse usage definition) (schema_of b).presences))

pub goes_through : {b : List ℕ} (d : ℕ) (n : Name) (usage definition : Modes) {t : ℕ} (reverse : Option ℕ)
    → Tested b (set_modes_refusals d n usage definition (schema_of b)) 0 0 → TypeOf b d n t → ReverseOf (schema_of b) t (unwrap_or reverse 128)
    → IfSome reverse (λ r. r < 128) → Through b d n usage definition t reverse
unfolding all unknown_mode
goes_through {b} d n usage definition reverse told found pair below =
    let (u, f) = or_neither (ltb all_modes usage) (ltb all_modes definition) ((all_passed told refl refl).fails 19) in
    record {
      aim = aimed_well _ told refl;
      small = (omega (arith, ltb-false all_modes usage u), omega (arith, ltb-false all_modes definition f));
      rule = tested_passes told refl refl (set_left d n usage definition (schema_of b))
          ∙ ap (λ (y : ℕ). done 0 0 0 (with_presences (schema_of b) (modes_set d (with_reverse (schema_of b) y) usage definition (schema_of b).presences)))
          (sym found.named)
          ∙ ap (λ (ps : List Presence). done 0 0 0 (with_presences (schema_of b) ps)) (resets_all d reverse usage definition pair below);
    }
