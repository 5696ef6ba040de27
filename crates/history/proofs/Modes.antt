-- Set modes keeps a schema good, shows what it set, and alters nothing else; the modes after an import and a rename (02, Q-2).
-- Assumes nothing.
use Prim.Native.Nat.{ℕ, ◌≤◌}
use native.Mathlib.Omega.{arith}
use mathlib.Core.Path.{◌≡◌, refl, sym, ap, ◌∙◌, subst}
use mathlib.Core.Logic.{◌⊎◌, inl, ⊎_elim}
use mathlib.Core.List.{List, [], ◌∷◌, map}
use mathlib.Core.Bool.{Bool, true, false, cond, ◌&&◌}
use lib.Dec.{eqb}
use lib.ListN.{get_or, length-map, get_or-map}
use borrow.Author.Tests.{ltb-false, eqb-true, eq-eqb, ne_eqb}
use Rattle.rules.specs.01-Lists.{◌∈◌, among}
use Rattle.rules.specs.03-Names.{Name, blank, same_name}
use Rattle.rules.specs.04-Schema.{Schema, Modes, Presence, all_modes, system_presence, with_modes, with_presences, kind_of, is_object, with_reverse}
use Rattle.rules.specs.04-Schema.{used_sds, nowhere, holds_type, present, type_named, type_presence}
use Rattle.rules.specs.04-Schema.Kind.{paired}
use Rattle.rules.specs.05-Descent.{Descends}
use Rattle.rules.specs.06-Good.{KnownModes, SameModes, Good}
use Rattle.rules.specs.09-Refusals.{unknown_sds, unknown_mode}
use Rattle.rules.specs.09-Refusals.Outcome.{done}
use Rattle.rules.specs.10-Changes.{import, rename, rename_refusals, set_modes, set_modes_refusals, modes_set}
use Rattle.rules.specs.11-Asks.{modes_of}
use Rattle.rules.specs.13-History.{Ask, ask_rule, next}
use Rattle.rules.specs.Parts.{Alike, PresenceRows}
use Rattle.rules.proofs.Bools.{or_neither, and_both, fails, same_test}
use Rattle.rules.proofs.01-Lists.{map_in, among_in, in_among}
use Rattle.rules.proofs.Edits.{map_of, first_mapped}
use Rattle.rules.proofs.08-Working.{holder}
use Rattle.rules.proofs.09-Refusals.{Passed, verdict_keeps, verdict_done}
use Rattle.rules.proofs.Modes.{SameButModes, perhaps_moded, modes_rise, modes_alone, asks_no_modes, holds_same, present_same, asked_alike}
use Rattle.rules.proofs.Parts.{presence_there, parts_of}
use Rattle.history.proofs.Parts.{Rows, Full, rows_of, full, reverse_each, pair_closed}
use Rattle.history.proofs.Passed.{aimed, named_present}
use Rattle.history.proofs.Rows.{with_presences_good}
use Rattle.history.proofs.Ancestors.{brought_named, brought_once}
use Rattle.history.proofs.Spellings.{renamed_there}

-- ---- each presence with other modes, or as it was

module _ (f : Presence → Presence) (same : (p : Presence) → SameButModes p (f p)) where
  -- what a row was
  was : (ps : List Presence) {p : Presence} → p ∈ map f ps → (x : Presence) × (x ∈ ps) × (p ≡ f x) × SameButModes x p
  was ps i = let (x, j, e) = map_in f ps i in (x, j, e, subst (SameButModes x) (sym e) (same x))

  -- two rows are one where they were
  one : (ps : List Presence) (p q : Presence) → p ∈ map f ps → q ∈ map f ps
      → ((x y : Presence) → x ∈ ps → y ∈ ps → SameButModes x p → SameButModes y q → x ≡ y) → p ≡ q
  one ps p q i j h =
      let (x, k, e, a) = was ps i in
      let (y, l, e', b) = was ps j in
      e ∙ ap f (h x y k l a b) ∙ sym e'

  rows_moded : {ns : List Name} {ps : List Presence} → Rows ns ps → ((p : Presence) → p ∈ ps → KnownModes (f p)) → f system_presence ≡ system_presence
      → Rows ns (map f ps)
  rows_moded {ns} {ps} g known system = record {
    rows = record {
      room = omega (arith, length-map ps f, r.room);
      in_used = λ p i. let (x, j, e, a) = was ps i in rw a.sds at (r.in_used x j);
      named = λ p i. let (x, j, e, a) = was ps i in rw a.name at (r.named x j);
      known = λ p i. let (x, j, e, a) = was ps i in rw e (known x j);
      unique = λ p q i j d n e. one ps p q i j (λ x y k l a b.
          r.unique x y k l (a.sds ∙ d ∙ sym b.sds) (ap blank a.name ∙ n) ((λ z. same_name (a.name z) (b.name z)) ∙ e));
      system = subst (λ (p : Presence). p ∈ map f ps) system (map_of f r.system);
      system_alone = λ p i d. let (x, j, e, a) = was ps i in e ∙ ap f (r.system_alone x j (a.sds ∙ d)) ∙ system;
      rises = modes_rise system_presence ps (map f ps) (length-map ps f) (λ i h. at i) g.once r.rises;
    };
    once = λ p q i j d t. one ps p q i j (λ x y k l a b. g.once x y k l (a.sds ∙ d ∙ sym b.sds) (a.type ∙ t ∙ sym b.type));
  }
    where
      r : PresenceRows ns ps
      r = g.rows

      at : (i : ℕ) → SameButModes (get_or ps i system_presence) (get_or (map f ps) i system_presence)
      at i =
          subst (SameButModes (get_or ps i system_presence))
          (sym (get_or-map f ps i system_presence) ∙ ap (get_or (map f ps) i) system)
          (same (get_or ps i system_presence))

-- ---- set modes

module _ (d : ℕ) (ts : List ℕ) (usage definition : Modes) where
  -- the presence as the call leaves it
  abbrev moded : Presence → Presence
  moded p = cond (eqb p.sds d && among ts p.type) (with_modes usage definition p) p

  moded_same : (p : Presence) → SameButModes p (moded p)
  moded_same p = perhaps_moded (eqb p.sds d && among ts p.type) usage definition p

  moded_known : usage ≤ all_modes → definition ≤ all_modes → (p : Presence) → KnownModes p → KnownModes (moded p)
  moded_known u v p k = go (eqb p.sds d && among ts p.type)
    where
      go : (b : Bool) → KnownModes (cond b (with_modes usage definition p) p)
      go true = record { usage = u; definition = v }
      go false = k

  -- two of one SDS whose types are both among ts or neither
  moded_alike : (p q : Presence) → p.sds ≡ q.sds → among ts p.type ≡ among ts q.type → SameModes p q → SameModes (moded p) (moded q)
  moded_alike p q s t m =
      subst (λ (b : Bool). SameModes (cond b (with_modes usage definition p) p) (moded q)) (sym (λ i. eqb (s i) d && t i))
      (go (eqb q.sds d && among ts q.type))
    where
      go : (b : Bool) → SameModes (cond b (with_modes usage definition p) p) (cond b (with_modes usage definition q) q)
      go true = record { usage = refl; definition = refl }
      go false = m

module _ (s : Schema) (d t : ℕ) (usage definition : Modes) where
  -- the types whose presence in SDS d is set
  abbrev ts : List ℕ
  ts = with_reverse s t

  abbrev given : Presence → Presence
  given = moded d ts usage definition

  abbrev after : Schema
  after = with_presences s (map given s.presences)

  same : (p : Presence) → SameButModes p (given p)
  same = moded_same d ts usage definition

  -- a link type and its reverse are both set, or neither
  set_alike : Good s → Alike s.types (map given s.presences)
  set_alike g p q i j at c k =
      let (x, l, e, a) = was given same s.presences i in
      let (y, m, e', b) = was given same s.presences j in
      let at' : x.sds ≡ y.sds = a.sds ∙ at ∙ sym b.sds in
      let k' : kind_of s x.type ≡ paired c y.type = ap (kind_of s) a.type ∙ k ∙ ap (paired c) (sym b.type) in
      let (c', back) = g.reverse_in_turn x.type c y.type k' in
      rw (e, e')
      (moded_alike d ts usage definition x y at'
      (same_test _ _
      (λ h. in_among (pair_closed g t y.type c' x.type back (among_in ts x.type h)))
      (λ h. in_among (pair_closed g t x.type c y.type k' (among_in ts y.type h))))
      (g.reverse_modes x y l m at' c k'))

  present_after : (e u : ℕ) → present after e u ≡ present s e u
  present_after e u = λ i. present_same s given same i e u

  modes_good : Good s → (d ≡ 0 → ⊥) → usage ≤ all_modes → definition ≤ all_modes → Good after
  unfolding present
  modes_good g outside u v =
      with_presences_good g
      (rows_moded given same (rows_of (parts_of g).presences)
      (λ p i. moded_known d ts usage definition u v p (g.modes_known p i))
      (rw (ne_eqb 0 d (λ z. outside (sym z))) refl))
      (λ p i e.
      let (x, j, _, a) = was given same s.presences i in
      ap (λ (t : ℕ). is_object (kind_of s t)) (sym a.type) ∙ g.nameless_object x j (ap blank a.name ∙ e))
      (set_alike g)
      (λ e u h. present_after e u ∙ h)
      (λ p i. inl (sym (present_after p.sds p.type) ∙ presence_there i))

  -- another presence is as it was
  spared : (e u : ℕ) → (e ≡ d → u ∈ ts → ⊥) → (p : Presence) → holds_type e u p ≡ true → given p ≡ p
  spared e u other p h =
      let (a, b) = and_both (eqb p.sds e) (eqb p.type u) h in
      let out : eqb p.sds d && among ts p.type ≡ false
      = fails (eqb p.sds d && among ts p.type) (λ k.
      let (x, y) = and_both (eqb p.sds d) (among ts p.type) k in
      other (sym (eqb-true p.sds e a) ∙ eqb-true p.sds d x) (rw (eqb-true p.type u b) at (among_in ts p.type y))) in
      rw out

  -- one of the types has the modes that were given
  modes_there : (u : ℕ) → u ∈ ts → present after d u ≡ true → (p : Presence) × (type_presence after d u ≡ with_modes usage definition p)
  modes_there u i there =
      let (j, at, of) = holder after d u there in
      let (p, k, e, a) = was given same s.presences j in
      let one : among ts p.type ≡ true = rw (a.type ∙ of) (in_among i) in
      (p, e ∙ rw (eq-eqb p.sds d (a.sds ∙ at), one))

known_mode : (modes : Modes) → unknown_mode modes ≡ false → modes ≤ all_modes
unfolding unknown_mode
known_mode modes e = ltb-false all_modes modes e

module _ (d : ℕ) (n : Name) (usage definition : Modes) (s : Schema) where
  -- what is made where no condition holds
  passed_good : Good s → Passed (set_modes_refusals d n usage definition s) → Good (after s d (type_named s d n) usage definition)
  passed_good g passed =
      let (u, v) = or_neither (unknown_mode usage) (unknown_mode definition) (passed.fails 19) in
      modes_good s d (type_named s d n) usage definition g (aimed d (passed.fails 3)) (known_mode usage u) (known_mode definition v)

  pub set_modes_keeps : Good s → Good (next s (set_modes d n usage definition s))
  unfolding set_modes modes_set
  set_modes_keeps g = verdict_keeps (λ o. Good (next s o)) (set_modes_refusals d n usage definition s) _ (λ _ _. g) (passed_good g)

  -- "A call sets both sets." (02, Q-2): asked under that SDS, the type and its reverse have them
  pub set_modes_shown : Good s → {a b c : ℕ} {s' : Schema} → set_modes d n usage definition s ≡ done a b c s'
      → (t : ℕ) → t ∈ with_reverse s (type_named s d n) → modes_of (d ∷ []) t s' ≡ done usage definition 0 []
  unfolding set_modes modes_set unknown_sds used_sds
  set_modes_shown g e t i =
      verdict_done (λ s'. modes_of (d ∷ []) t s' ≡ done usage definition 0 []) (set_modes_refusals d n usage definition s) _ _ _ _ e
      (λ passed.
      let u = type_named s d n in
      let here = named_present s d n (passed.fails 6) in
      let there = present_after s d u usage definition d t
      ∙ reverse_each s u (λ t. present s d t ≡ true) here (λ c r k. g.reverse_present d u c r here k) t i in
      let (p, is) = modes_there s d u usage definition t i there in
      modes_alone (passed_good g passed) d t there (passed.fails 2) ∙ (λ j. done (is j).usage (is j).definition 0 []))

  -- every other presence is as it was, on any schema and refused or done
  pub set_modes_spares : (e u : ℕ) → (e ≡ d → u ∈ with_reverse s (type_named s d n) → ⊥)
      → type_presence (next s (set_modes d n usage definition s)) e u ≡ type_presence s e u
  unfolding set_modes modes_set
  set_modes_spares e u other =
      let t = type_named s d n in
      verdict_keeps (λ o. type_presence (next s o) e u ≡ type_presence s e u) (set_modes_refusals d n usage definition s) _
      (λ _ _. refl)
      (λ _. first_mapped (holds_type e u) (given s d t usage definition) (λ p. holds_same (same s d t usage definition p) e u) (λ p. p)
      (spared s d t usage definition e u other) nowhere s.presences)

  -- every question but *modes* is answered as before
  pub modes_alter_no_question : (q : Ask) → asks_no_modes q ≡ true → ask_rule q (next s (set_modes d n usage definition s)) ≡ ask_rule q s
  unfolding set_modes modes_set
  modes_alter_no_question q e =
      let t = type_named s d n in
      verdict_keeps (λ o. ask_rule q (next s o) ≡ ask_rule q s) (set_modes_refusals d n usage definition s) _
      (λ _ _. refl)
      (λ _. asked_alike s (given s d t usage definition) (same s d t usage definition) q e)

-- ---- the modes after an import and a rename

-- "New types, imports .. get all five." (02, Q-2): the type, its reverse, and the ancestors that come (02, Q-8)
pub import_gives_all : (target source : ℕ) (n new new_reverse : Name) (s : Schema) → Good s → {a b c : ℕ} {s' : Schema}
    → import target source n new new_reverse s ≡ done a b c s'
    → (t : ℕ) → (t ∈ with_reverse s (type_named s source n)) ⊎ (Descends s (type_named s source n) t × (present s target t ≡ false))
    → Full (type_presence s' target t)
import_gives_all target source n new new_reverse s g e t =
    ⊎_elim
    (λ i. subst Full (sym (brought_named target source n new new_reverse s e g t i).1) full)
    (λ (above, lacks). subst Full (sym (brought_once target source n new new_reverse s e g t above lacks)) full)

-- a rename keeps the modes that the type had there
pub rename_keeps_modes : (d : ℕ) (n new : Name) (s : Schema) {a b c : ℕ} {s' : Schema} → rename d n new s ≡ done a b c s'
    → SameModes (type_presence s' d (type_named s d n)) (type_presence s d (type_named s d n))
unfolding rename
rename_keeps_modes d n new s e =
    let t = type_named s d n in
    verdict_done (λ s'. SameModes (type_presence s' d t) (type_presence s d t)) (rename_refusals d n new s) _ _ _ _ e
    (λ _. let is = renamed_there s d n new in
    record { usage = ap (λ (p : Presence). p.usage) is; definition = ap (λ (p : Presence). p.definition) is })
