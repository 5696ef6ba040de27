-- Presences that differ in their modes alone: they stand in the same order, and what is not asked about modes is answered alike.
-- Assumes nothing.
use Prim.Native.Nat.{ℕ, suc, ◌≤◌, ◌<◌}
use native.Mathlib.Omega.{arith}
use mathlib.Core.Path.{◌≡◌, refl, sym, ap, ◌∙◌}
use mathlib.Core.Logic.{⊎_elim}
use mathlib.Core.List.{List, [], ◌∷◌, map}
use mathlib.Core.Bool.{Bool, true, false, not, cond, ◌&&◌, ◌||◌, true≢false, false≢true, or-false}
use lib.Dec.{ltb, eqb}
use lib.ListN.{length, get_or}
use borrow.Author.Tests.{ltb-true, le-ltb, eqb-true, eq-eqb}
use Rattle.rules.specs.01-Lists.{◌∈◌, any, rising, repeated}
use Rattle.rules.specs.03-Names.{Name, same_name, name_before}
use Rattle.rules.specs.04-Schema.{Schema, Modes, Presence, all_modes, has_mode, nowhere, system_presence, with_modes, with_presences}
use Rattle.rules.specs.04-Schema.{used_sds, parents, is_parent, holds_type, holds_name, present, bears}
use Rattle.rules.specs.04-Schema.{type_named, type_presence, local_name, applied, has_end}
use Rattle.rules.specs.05-Descent.{descends, members}
use Rattle.rules.specs.06-Good.{by_type, presence_before, KnownModes, Good}
use Rattle.rules.specs.07-Picture.{name_start}
use Rattle.rules.specs.08-Working.{visible, applied_in, end_in, shown, upward, object_scans, link_scans, ancestor, attribute_all, link_origin_all}
use Rattle.rules.specs.09-Refusals.{verdict, unknown_sds, no_name_listed, not_visible, not_present, no_object, no_link}
use Rattle.rules.specs.09-Refusals.Outcome.{done}
use Rattle.rules.specs.11-Asks as Asks
use Rattle.rules.specs.11-Asks.{object_scan_list, link_scan_list, marks, visible_descendant, mode_listed, modes_under}
use Rattle.rules.specs.13-History.{Ask, ask_rule}
use Rattle.rules.specs.13-History.Ask.{scan_object, scan_link, profile, find, depth_of, name, descendant_set, modes_of, write_file}
use Rattle.rules.proofs.Bools.{or_cases, and_both, fails, same_test}
use Rattle.rules.proofs.01-Lists.{any_at, any_where, place_in, rising_at, at_rising}
use Rattle.rules.proofs.05-Descent.{descends_same, depth_same}
use Rattle.rules.proofs.Edits.{any_mapped, place_mapped, first_mapped}
use Rattle.rules.proofs.08-Working.{holder}
use Rattle.rules.proofs.11-Asks.{modes_marked}
use Rattle.rules.proofs.03-Names.{same_name_refl, name_connected, name_irreflexive, apart}

pub record SameButModes (p q : Presence) : Type 0 where
  pub sds : p.sds ≡ q.sds
  pub name : p.name ≡ q.name
  pub type : p.type ≡ q.type

-- one that gets other modes, or stays as it was
pub perhaps_moded : (b : Bool) (usage definition : Modes) (p : Presence) → SameButModes p (cond b (with_modes usage definition p) p)
perhaps_moded true usage definition p = record { sds = refl; name = refl; type = refl }
perhaps_moded false usage definition p = record { sds = refl; name = refl; type = refl }

-- ---- the order

-- by SDS and name, none the same: where names are unique in an SDS nothing else decides
abbrev front : ℕ → Name → ℕ → Name → Bool
front d n e m = ltb d e || (eqb d e && apart n m)

abbrev pub front_before : Presence → Presence → Bool
front_before p q = front p.sds p.name q.sds q.name

pub front_presence : (p q : Presence) → front_before p q ≡ true → presence_before p q ≡ true
unfolding presence_before
front_presence p q e = go (ltb p.sds q.sds) (eqb p.sds q.sds) (name_before p.name q.name) (not (same_name p.name q.name)) e
  where
    rest : Bool
    rest = not (name_before q.name p.name) && by_type p q

    go : (x y z o : Bool) → x || (y && (z && o)) ≡ true → x || (y && (z || rest)) ≡ true
    go true y z o h = refl
    go false true true o h = refl
    go false true false o h = absurd (false≢true h)
    go false false z o h = absurd (false≢true h)

pub presence_front : (p q : Presence) → presence_before p q ≡ true → (p.sds ≡ q.sds → same_name p.name q.name ≡ true → ⊥) → front_before p q ≡ true
unfolding presence_before
presence_front p q e n =
    go (ltb p.sds q.sds) (eqb p.sds q.sds) refl (name_before p.name q.name) refl (name_before q.name p.name) refl e
  where
    go : (x y : Bool) → eqb p.sds q.sds ≡ y → (z : Bool) → name_before p.name q.name ≡ z → (v : Bool) → name_before q.name p.name ≡ v
        → x || (y && (z || (not v && by_type p q))) ≡ true → x || (y && (z && not (same_name p.name q.name))) ≡ true
    go true y f z g v k h = refl
    go false true f true g v k h = ap not (fails (same_name p.name q.name) (n (eqb-true p.sds q.sds f)))
    go false true f false g true k h = absurd (false≢true h)
    go false true f false g false k h =
        absurd (n (eqb-true p.sds q.sds f) (rw (name_connected p.name q.name g k) (same_name_refl q.name)))
    go false false f z g v k h = absurd (false≢true h)

pub presence_irreflexive : (p : Presence) → presence_before p p ≡ false
unfolding presence_before
presence_irreflexive p = rw (
  itself p.sds,
  eq-eqb p.sds p.sds refl,
  name_irreflexive p.name,
  itself p.type,
  eq-eqb p.type p.type refl,
  itself p.usage,
  eq-eqb p.usage p.usage refl,
  itself p.definition,
)
  where
    itself : (n : ℕ) → ltb n n ≡ false
    itself n = le-ltb n n (omega arith)

-- the presence of a fresh base is the first: none behind it is in SDS 0
pub none_behind : (x : Presence) (ps : List Presence) → rising presence_before ps ≡ true → ((p : Presence) → p ∈ ps → p.sds ≡ 0 → p ≡ system_presence)
    → (i : ℕ) → suc i < length ps → (get_or ps (suc i) x).sds ≡ 0 → ⊥
unfolding presence_before
none_behind x ps r alone i h z =
    let p = get_or ps i x in
    let q = get_or ps (suc i) x in
    let before = rising_at presence_before x ps r i h in
    let rest = name_before p.name q.name || (not (name_before q.name p.name) && by_type p q) in
    let first : p.sds ≡ 0
    = ⊎_elim (λ e. absurd (omega (arith, ltb-true p.sds q.sds e))) (λ e. eqb-true p.sds q.sds (and_both (eqb p.sds q.sds) rest e).0 ∙ z)
    (or_cases (ltb p.sds q.sds) (eqb p.sds q.sds && rest) before) in
    let one : p ≡ q = alone p (place_in x ps i (omega arith)) first ∙ sym (alone q (place_in x ps (suc i) h) z) in
    true≢false (sym before ∙ ap (presence_before p) (sym one) ∙ presence_irreflexive p)

-- by SDS, name and type: where a type is in an SDS once the modes decide nothing
abbrev standing : ℕ → Name → ℕ → ℕ → Name → ℕ → Bool
standing d n t e m u = ltb d e || (eqb d e && (name_before n m || (not (name_before m n) && ltb t u)))

standing_presence : (p q : Presence) → standing p.sds p.name p.type q.sds q.name q.type ≡ true → presence_before p q ≡ true
unfolding presence_before
standing_presence p q e =
    go (ltb p.sds q.sds) (eqb p.sds q.sds) (name_before p.name q.name) (name_before q.name p.name) (ltb p.type q.type) e
  where
    rest : Bool
    rest = eqb p.type q.type && (ltb p.usage q.usage || (eqb p.usage q.usage && ltb p.definition q.definition))

    go : (x y z v o : Bool) → x || (y && (z || (not v && o))) ≡ true → x || (y && (z || (not v && (o || rest)))) ≡ true
    go true y z v o h = refl
    go false true true v o h = refl
    go false true false false true h = refl
    go false true false false false h = absurd (false≢true h)
    go false true false true o h = absurd (false≢true h)
    go false false z v o h = absurd (false≢true h)

presence_standing : (p q : Presence) → presence_before p q ≡ true → (p.sds ≡ q.sds → p.type ≡ q.type → ⊥)
    → standing p.sds p.name p.type q.sds q.name q.type ≡ true
unfolding presence_before
presence_standing p q e n =
    go (ltb p.sds q.sds) (eqb p.sds q.sds) refl (name_before p.name q.name) (name_before q.name p.name) (ltb p.type q.type)
    (eqb p.type q.type) refl e
  where
    rest : Bool
    rest = ltb p.usage q.usage || (eqb p.usage q.usage && ltb p.definition q.definition)

    go : (x y : Bool) → eqb p.sds q.sds ≡ y → (z v o k : Bool) → eqb p.type q.type ≡ k
        → x || (y && (z || (not v && (o || (k && rest))))) ≡ true → x || (y && (z || (not v && o))) ≡ true
    go true y f z v o k g h = refl
    go false true f true v o k g h = refl
    go false true f false true o k g h = absurd (false≢true h)
    go false true f false false true k g h = refl
    go false true f false false false true g h = absurd (n (eqb-true p.sds q.sds f) (eqb-true p.type q.type g))
    go false true f false false false false g h = absurd (false≢true h)
    go false false f z v o k g h = absurd (false≢true h)

-- rows that are what they were at each place, their modes apart, rise still where a type is in an SDS once
pub modes_rise : (x : Presence) (ps qs : List Presence) → length qs ≡ length ps
    → ((i : ℕ) → i < length ps → SameButModes (get_or ps i x) (get_or qs i x))
    → ((p q : Presence) → p ∈ ps → q ∈ ps → p.sds ≡ q.sds → p.type ≡ q.type → p ≡ q)
    → rising presence_before ps ≡ true → rising presence_before qs ≡ true
modes_rise x ps qs long same once r = at_rising presence_before x qs (λ i h. at i (omega arith))
  where
    at : (i : ℕ) → suc i < length ps → presence_before (get_or qs i x) (get_or qs (suc i) x) ≡ true
    at i h =
        let p = get_or ps i x in
        let q = get_or ps (suc i) x in
        let s = same i (omega arith) in
        let t = same (suc i) h in
        let before = rising_at presence_before x ps r i h in
        let stands = presence_standing p q before (λ d e.
        let one : p ≡ q = once p q (place_in x ps i (omega arith)) (place_in x ps (suc i) h) d e in
        true≢false (sym before ∙ ap (presence_before p) (sym one) ∙ presence_irreflexive p)) in
        standing_presence (get_or qs i x) (get_or qs (suc i) x)
        (sym (λ j. standing (s.sds j) (s.name j) (s.type j) (t.sds j) (t.name j) (t.type j)) ∙ stands)

-- ---- under one SDS

-- the modes of a type are those of its presence there
module _ {s : Schema} (good : Good s) (d t : ℕ) (there : present s d t ≡ true) where
  abbrev x : Presence
  x = type_presence s d t

  listed_one : (modes : Presence → Modes) (m : ℕ) → mode_listed modes (d ∷ []) t s m ≡ has_mode (modes x) m
  unfolding mode_listed any
  listed_one modes m =
      let (i, at, of) = holder s d t there in
      same_test (mode_listed modes (d ∷ []) t s m) (has_mode (modes x) m)
      (λ e.
      let (p, j, h) = any_where _ s.presences e in
      let (b, c) = and_both (eqb p.sds d || false) (eqb p.type t && has_mode (modes p) m) h in
      let (c, k) = and_both (eqb p.type t) (has_mode (modes p) m) c in
      let one : p ≡ x
      = good.one_presence p x j i (eqb-true p.sds d (sym (or-false (eqb p.sds d)) ∙ b) ∙ sym at) (eqb-true p.type t c ∙ sym of) in
      ap (λ (q : Presence). has_mode (modes q) m) (sym one) ∙ k)
      (λ e. any_at _ i (rw (eq-eqb x.sds d at, eq-eqb x.type t of) e))

  pub modes_alone : unknown_sds s d ≡ false → Asks.modes_of (d ∷ []) t s ≡ done x.usage x.definition 0 []
  unfolding Asks.modes_of verdict any repeated not_visible visible
  modes_alone known = rw (known, there, union_one (λ p. p.usage) k.usage, union_one (λ p. p.definition) k.definition)
    where
      k : KnownModes x
      k = good.modes_known x (holder s d t there).0

      union_one : (modes : Presence → Modes) → modes x ≤ all_modes → modes_under modes (d ∷ []) t s ≡ modes x
      union_one modes h = (λ i. marks 0 5 (λ m. listed_one modes m i)) ∙ modes_marked (modes x) h

-- ---- a schema whose presences have other modes

-- every asking call but *modes*, and the writing of a file, which has them in it
abbrev pub asks_no_modes : Ask → Bool
asks_no_modes (scan_object w t code room) = true
asks_no_modes (scan_link w t code room) = true
asks_no_modes (profile w t room) = true
asks_no_modes (find w n) = true
asks_no_modes (depth_of w t) = true
asks_no_modes (name d t) = true
asks_no_modes (descendant_set w t) = true
asks_no_modes (modes_of w t) = false
asks_no_modes (write_file room) = false

pub holds_same : {p q : Presence} → SameButModes p q → (d t : ℕ) → holds_type d t q ≡ holds_type d t p
holds_same e d t = sym (λ i. eqb (e.sds i) d && eqb (e.type i) t)

module _ (s : Schema) (f : Presence → Presence) (same : (p : Presence) → SameButModes p (f p)) where
  abbrev other : Schema
  other = with_presences s (map f s.presences)

  named_same : (d : ℕ) (n : Name) (p : Presence) → holds_name d n (f p) ≡ holds_name d n p
  named_same d n p = sym (λ i. eqb ((same p).sds i) d && same_name ((same p).name i) n)

  pub present_same : present other ≡ present s
  unfolding present
  present_same = λ i d t. any_mapped (holds_type d t) f (λ p. holds_same (same p) d t) s.presences i

  bears_same : bears other ≡ bears s
  unfolding bears
  bears_same = λ i d n. any_mapped (holds_name d n) f (named_same d n) s.presences i

  type_same : type_named other ≡ type_named s
  unfolding type_named
  type_same = λ i d n. first_mapped (holds_name d n) f (named_same d n) (λ p. p.type) (λ p _. sym (same p).type) nowhere s.presences i

  local_same : local_name other ≡ local_name s
  unfolding local_name
  local_same = λ i d t. first_mapped (holds_type d t) f (λ p. holds_same (same p) d t) (λ p. p.name) (λ p _. sym (same p).name) nowhere s.presences i

  seen : visible other ≡ visible s
  unfolding visible
  seen = λ i w t. any (λ d. present_same i d t) w

  below : descends other ≡ descends s
  below = descends_same other s refl

  object_list : (w : List ℕ) (t code : ℕ) → object_scan_list w t code other ≡ object_scan_list w t code s
  unfolding object_scan_list shown is_parent parents applied_in applied end_in has_end upward
  object_list w t code = λ i. members (λ k. seen i w k && get_or (scans_same i) code (λ k. false) k)
    where
      scans_same : object_scans other w t ≡ object_scans s w t
      scans_same = rw below

  link_list : (w : List ℕ) (t code : ℕ) → link_scan_list w t code other ≡ link_scan_list w t code s
  unfolding link_scan_list shown applied_in applied end_in has_end upward
  link_list w t code = λ i. members (λ k. seen i w k && get_or (scans_same i) code (λ k. false) k)
    where
      scans_same : link_scans other w t ≡ link_scans s w t
      scans_same = rw below

  marked : (w : List ℕ) (t : ℕ) → visible_descendant w t other ≡ visible_descendant w t s
  unfolding visible_descendant
  marked w t = λ i k. seen i w k && below i k t

  -- the whole outcome, refusals included
  pub asked_alike : (q : Ask) → asks_no_modes q ≡ true → ask_rule q other ≡ ask_rule q s
  unfolding
      unknown_sds used_sds not_visible not_present no_name_listed no_object no_link name_start Asks.scan_object Asks.scan_link Asks.profile_list Asks.profile
      Asks.find Asks.depth_of Asks.name Asks.descendant_set
  asked_alike (scan_object w t code room) e = rw (seen, object_list w t code)
  asked_alike (scan_link w t code room) e = rw (seen, link_list w t code)
  asked_alike (profile w t room) e = rw (seen, object_list w t ancestor, object_list w t attribute_all, object_list w t link_origin_all)
  asked_alike (find w n) e = rw (bears_same, type_same)
  asked_alike (depth_of w t) e = rw (seen, depth_same other s refl)
  asked_alike (name d t) e = rw (present_same, local_same, place_mapped (holds_type d t) f (λ p. holds_same (same p) d t) s.presences)
  asked_alike (descendant_set w t) e = rw (seen, marked w t)
  asked_alike (modes_of w t) e = absurd (false≢true e)
  asked_alike (write_file room) e = absurd (false≢true e)
