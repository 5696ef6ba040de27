-- Import: its refusals test by test, the names that it fills in, and the presences that come into the target. Assumes nothing.
use Prim.Native.Nat.{ℕ, ◌+◌, ◌-◌, ◌≤◌, ◌<◌}
use native.Mathlib.Omega.{arith}
use mathlib.Core.Path.{◌≡◌, refl, sym, ap, ◌∙◌, subst}
use mathlib.Core.List.{List, [], ◌∷◌, ◌++◌, map, append-nil}
use mathlib.Core.Bool.{Bool, true, false, not, ◌&&◌, ◌||◌, and-false, true≢false}
use lib.Dec.{leb, eqb}
use lib.ListN.{length, get_or, take, replicate}
use borrow.Author.Tests.{eq-eqb, ne_eqb, lt-ltb, le-ltb, leb-false, not-true}
use Rattle.std.specs.Prelude.{Option, Some, None, IfSome, IsSome, is_some}
use Rattle.std.specs.Option.{unwrap_or}
use Rattle.rules.specs.02-Limits.{limits}
use Rattle.rules.specs.declared.Answer.{Answer}
use Rattle.rules.specs.01-Lists.{all, put, put_all}
use Rattle.rules.specs.03-Names.{Name, well_formed, blank, same_name}
use Rattle.rules.specs.04-Schema.{Schema, Presence, new_presence, used_sds, kind_of, is_object, reverse, holds_type, holds_name, present, bears}
use Rattle.rules.specs.04-Schema.{type_named, local_name, with_presences}
use Rattle.rules.specs.04-Schema.Kind.{paired}
use Rattle.rules.specs.05-Descent.{descends, members}
use Rattle.rules.specs.06-Good.{presence_before, Good}
use Rattle.rules.specs.07-Picture.{Sound, pad, picture, base_length}
use Rattle.rules.specs.09-Refusals.{Outcome, verdict, unknown_sds, malformed, malformed_new, idle_reverse_name, not_present, presences_full}
use Rattle.rules.specs.09-Refusals.Outcome.{done}
use Rattle.rules.specs.10-Changes.{filled, imported, missing, nameless, incoming, import}
use Rattle.rules.specs.12-Contracts.{Kept}
use Rattle.rules.proofs.Bools.{and_rest, and_both, or_neither, fails}
use Rattle.rules.proofs.01-Lists.{numbers_none}
use Rattle.rules.proofs.05-Descent.{descendant_object, descends_sound}
use Rattle.rules.proofs.Edits.{put_long, put_none}
use Rattle.rules.proofs.03-Names.{formed_long, formed_named, formed_fits}
use Rattle.rules.proofs.07-Picture.{strip_pad}
use Rattle.rules.specs.Read.{strip, name_offset}
use Rattle.rules.proofs.09-Refusals.{Left}
use Rattle.rules.proofs.NameTests.{filled_formed}
use Rattle.rows.specs.Rows.{part}
use Rattle.rows.specs.Table.{written}
use Rattle.rows.proofs.Scan.{length_part}
use Rattle.rows.proofs.Written.{written_over, field_written}
use Rattle.base.specs.Rows.{presence_at}
use Rattle.base.specs.Back.{schema_of, presence_count}
use Rattle.lookup.specs.Found.{PresenceRow}
use Rattle.base.specs.Stored.{Shows}
use Rattle.base.proofs.Back.{sound_good}
use Rattle.base.proofs.Kept.{sound_long, kept_like}
use Rattle.lookup.proofs.SdsShown.{known, unknown}
use Rattle.base.proofs.Shown.{presences_long}
use Rattle.base.proofs.StoredLaws.{shows_schema, shows_next, shows_has}
use Rattle.lookup.proofs.Walked.{row_below, row_name}
use Rattle.name_fields.specs.Field.{Stripped}
use Rattle.conditions.specs.Reverse.{one_or_none, ReverseOf}
use Rattle.conditions.specs.Aimed.{WithReverse}
use Rattle.conditions.proofs.ReverseLaws.{one_is, none_is}
use Rattle.base.specs.Tested.{Tested}
use Rattle.base.proofs.TestedLaws.{tested_sound, tested_passes}
use Rattle.conditions.proofs.AimedLaws.{system_not, formed as name-formed, name_borne, all_passed}
use Rattle.rules.proofs.08-Working.{named_present, bearer_named, other_named}
use Rattle.type_set.proofs.Members.{members_alike}
use Rattle.change_imports.specs.Import.{first_refusals, Enters, enter_refusals, enter, nameless_of, brought, Lacking, Missing}

-- ---- the tests of the SDSs, of the names and of the reverse

pub unknown_is : (b : List ℕ) → length b ≡ base_length → (d : ℕ) {r : Bool} → r ≡ used_sds (schema_of b) d → not r ≡ unknown_sds (schema_of b) d
unknown_is b l d {r} e = go r e
  where
    go : (x : Bool) → x ≡ used_sds (schema_of b) d → not x ≡ unknown_sds (schema_of b) d
    go true e = sym (known b l d (sym e))
    go false e = sym (unknown b l d (sym e))

first_below : (s : Schema) (d e : ℕ) → unknown_sds s d || unknown_sds s e ≡ false → d < 16
unfolding unknown_sds
first_below s d e h = leb-false 16 d (or_neither (leb 16 d) (not (used_sds s d)) (or_neither (unknown_sds s d) (unknown_sds s e) h).0).0

pub malformed_is : {r : Bool} (n : Name) → r ≡ well_formed n → not r ≡ malformed n
unfolding malformed
malformed_is n e = ap not e

pub blank_fine : (n : Name) → blank n ≡ true → false ≡ malformed_new n
unfolding malformed_new
blank_fine n e = rw e

pub given_tested : {r : Bool} (n : Name) → blank n ≡ false → r ≡ well_formed n → not r ≡ malformed_new n
unfolding malformed_new
given_tested n h e = rw h (malformed_is n e)

pub blank_idle : (n : Name) (x : Bool) → blank n ≡ true → false ≡ not (blank n) && x
blank_idle n x e = rw e

pub given_idle : (n : Name) {x : Bool} (y : Bool) → blank n ≡ false → y ≡ not x → x ≡ not (blank n) && not y
given_idle n {x} y h e = rw h (go x e)
  where
    go : (x : Bool) → y ≡ not x → x ≡ not y
    go true e = sym (ap not e)
    go false e = sym (ap not e)

none_told : {s : Schema} {t : ℕ} (r : Option ℕ) → ReverseOf s t (unwrap_or r limits.types) → IfSome r (λ x. x < limits.types)
    → eqb (length (reverse s t)) 0 ≡ not (is_some r)
none_told (Some x) rev h = ap (λ (l : List ℕ). eqb (length l) 0) (rev.is ∙ one_is h)
none_told None rev h = ap (λ (l : List ℕ). eqb (length l) 0) (rev.is ∙ none_is {r = 128} (omega arith))

pub idle_is : {s : Schema} {t t' : ℕ} {x : Bool} (n : Name) (r : Option ℕ) → t ≡ t' → ReverseOf s t (unwrap_or r limits.types)
    → IfSome r (λ x. x < limits.types) → x ≡ not (blank n) && not (is_some r) → idle_reverse_name s t' n ≡ x
unfolding idle_reverse_name
idle_is {s} n r e rev h q =
    ap (λ (u : ℕ). not (blank n) && eqb (length (reverse s u)) 0) (sym e) ∙ ap (λ (y : Bool). not (blank n) && y) (none_told r rev h) ∙ sym q

-- ---- what is tested before the names are filled in

-- what was tested of the type that was found
pub of_named : {t t' : ℕ} {x : Bool} (p : ℕ → Bool) → t ≡ t' → x ≡ p t → p t' ≡ x
of_named p e q = ap p (sym e) ∙ sym q

new_formed : (n new new_reverse : Name) → malformed n || (malformed_new new || malformed_new new_reverse) ≡ false
    → (malformed_new new ≡ false) × (malformed_new new_reverse ≡ false)
new_formed n new new_reverse e =
    or_neither (malformed_new new) (malformed_new new_reverse) (or_neither (malformed n) (malformed_new new || malformed_new new_reverse) e).1

-- ---- the names filled in

given_formed : (n : Name) → malformed_new n ≡ false → blank n ≡ false → well_formed n ≡ true
unfolding malformed_new malformed
given_formed n e h = go (well_formed n) (and_rest (not (blank n)) (not (well_formed n)) (ap not h) e)
  where
    go : (x : Bool) → not x ≡ false → x ≡ true
    go true q = refl
    go false q = sym q

pub given_long : (n : Name) → malformed_new n ≡ false → blank n ≡ false → length n ≤ 16
given_long n e h = (formed_long n (given_formed n e h)).1

-- a name written into a field of zeros is the name in it
pub given_filled : (s : Schema) (d t : ℕ) (n field : Name) → malformed_new n ≡ false → blank n ≡ false
    → field ≡ written (replicate 16 0) 0 n → strip field ≡ filled s d t n
given_filled s d t n field e h w =
    ap strip (w ∙ field_written [] [] n limits.name 0 refl (given_long n e h) ∙ append-nil (pad limits.name n))
    ∙ strip_pad (formed_fits n (given_formed n e h)) ∙ rw h

-- what is present has a row
pub row_some : {b : List ℕ} {d t : ℕ} (r : Option ℕ) → PresenceRow b (presence_count b) d t (unwrap_or r (presence_count b))
    → present (schema_of b) d t ≡ true → IsSome r
row_some (Some x) found e = refl
row_some {b} {d} {t} None found e = absurd (omega (arith, row_below b d t found e))

pub row_is : {b : List ℕ} {d t : ℕ} {r : Option ℕ} {x : ℕ} → r ≡ Some x → PresenceRow b (presence_count b) d t (unwrap_or r (presence_count b))
    → PresenceRow b (presence_count b) d t x
row_is {b} {d} {t} e found = subst (λ (y : Option ℕ). PresenceRow b (presence_count b) d t (unwrap_or y (presence_count b))) e found

module _ {b : List ℕ} {d t r : ℕ} (found : PresenceRow b (presence_count b) d t r) (s : Sound b) (e : present (schema_of b) d t ≡ true) where
  pub row_room : r < limits.presences
  row_room = omega (arith, row_below b d t found e, (sound_good s).presence_room, presences_long b)

  pub own_long : {own : Name} → own ≡ part b (presence_at r + name_offset) limits.name → length own ≡ limits.name
  own_long o = ap length o ∙ length_part b (presence_at r + name_offset) limits.name (omega (arith, sound_long s, row_room))

  -- the whole field of its name in the source is
  pub own_filled : (n : Name) {own field : Name} → blank n ≡ true → own ≡ part b (presence_at r + name_offset) limits.name
      → field ≡ written (replicate 16 0) 0 own
      → strip field ≡ filled (schema_of b) d t n
  own_filled n {own} z o w =
      ap strip (w ∙ written_over (replicate 16 0) [] own (sym (own_long o)) ∙ append-nil own ∙ o) ∙ row_name b d t found e ∙ rw z

-- ---- the room for presences

module _ (b : List ℕ) (more : ℕ) where
  pub no_room : 512 < presence_count b + more → presences_full (schema_of b) more ≡ true
  unfolding presences_full
  no_room h = lt-ltb 512 (length (schema_of b).presences + more) (omega (arith, presences_long b))

  pub some_room : presence_count b + more ≤ limits.presences → presences_full (schema_of b) more ≡ false
  unfolding presences_full
  some_room h = le-ltb 512 (length (schema_of b).presences + more) (omega (arith, presences_long b))

-- ---- presences put in

pub enter_left : (d : ℕ) (named others : List Presence) (t r : ℕ) (s : Schema) → Left (enter d named others t r s) (enter_refusals d named others s)
    (done t r 0 (with_presences s (put_all presence_before (named ++ others) s.presences)))
unfolding enter
enter_left d named others t r s = record { is = refl }

module _ (b : List ℕ) (d : ℕ) (n : Name) (t : ℕ) {b₁ : List ℕ}
    (out : Shows b₁ (with_presences (schema_of b) (put presence_before (new_presence d n t) (schema_of b).presences))) where
  -- there is room for its ancestors that are missing, and they still are: it is none of them
  pub lacking : Good (schema_of b) → (types : ℕ → Bool) → Missing d t types (schema_of b)
      → presence_count b + 1 + length (members types) ≤ limits.presences → Lacking d types (schema_of b₁)
  unfolding not_present present
  lacking good types missing h =
      shows_has (Lacking d types) out (record {
        room = omega (arith, put_long presence_before (new_presence d n t) (schema_of b).presences, presences_long b);
        lacked = λ k e.
            let (above, out) = and_both (descends (schema_of b) t k) (not (present (schema_of b) d k)) (sym (missing k) ∙ e) in
            put_none presence_before (holds_type d k) (new_presence d n t) (schema_of b).presences
            (rw (ne_eqb t k (λ same. good.acyclic t (descends_sound good t t (ap (descends (schema_of b) t) same ∙ above)))) (and-false (eqb d d)))
            (not-true (present (schema_of b) d k) out);
      })

  pub entered_one : (types : ℕ → Bool) {b₂ : List ℕ} → Shows b₂ (brought d types (schema_of b₁))
      → b₂ ≡ picture (with_presences (schema_of b) (put_all presence_before (new_presence d n t ∷ nameless_of d types) (schema_of b).presences))
  unfolding put_all brought
  entered_one types out₂ = (shows_next (brought d types) out out₂).shown

  -- there is room for a second, and its name is still free
  pub room_second : presence_count b + 2 ≤ limits.presences → length (schema_of b₁).presences < limits.presences
  room_second h =
      omega (
        arith,
        ap (λ (s : Schema). length s.presences) (shows_schema out),
        put_long presence_before (new_presence d n t) (schema_of b).presences,
        presences_long b,
      )

  pub free_second : (m : Name) → same_name n m ≡ false → bears (schema_of b) d m ≡ false → bears (schema_of b₁) d m ≡ false
  unfolding bears
  free_second m e f =
      ap (λ (s : Schema). bears s d m) (shows_schema out)
      ∙ put_none presence_before (holds_name d m) (new_presence d n t) (schema_of b).presences (rw (eq-eqb d d refl) e) f

  pub entered_both : (m : Name) (r : ℕ) {b₂ : List ℕ}
      → Shows b₂ (with_presences (schema_of b₁) (put presence_before (new_presence d m r) (schema_of b₁).presences))
      → b₂ ≡ picture (with_presences (schema_of b) (put_all presence_before (new_presence d n t ∷ new_presence d m r ∷ []) (schema_of b).presences))
  unfolding put_all
  entered_both m r out₂ = (shows_next (λ s. with_presences s (put presence_before (new_presence d m r) s.presences)) out out₂).shown

-- ---- the rule

-- a link type has no ancestors
none_missing : {s : Schema} → Good s → (target t : ℕ) {c r : ℕ} → kind_of s t ≡ paired c r → missing target t s ≡ []
unfolding missing members
none_missing {s} good target t pair =
    numbers_none (λ a. descends s t a && not_present s target a) 0 128 (λ a l u.
    ap (λ (x : Bool). x && not_present s target a)
    (fails (descends s t a) (λ d. true≢false (sym (descendant_object (descends_sound good t a d)) ∙ ap is_object pair))))

-- what follows the first refusals; rs is the reverse of t, if it has one
abbrev rest_of : ℕ → ℕ → Name → Name → Schema → ℕ → List ℕ → Outcome Schema
rest_of target source new new_reverse s t rs =
    enter target (new_presence target (filled s source t new) t ∷ map (λ r. new_presence target (filled s source r new_reverse) r) rs)
    (map (nameless target) (missing target t s)) t (get_or rs 0 0) s

pub import_left : (target source : ℕ) (n new new_reverse : Name) (s : Schema) → Left (import target source n new new_reverse s)
    (first_refusals target source n new new_reverse s)
    (rest_of target source new new_reverse s (type_named s source n) (reverse s (type_named s source n)))
unfolding import imported incoming enter verdict
import_left target source n new new_reverse s = record { is = refl }

-- what is so where none of the first refusals holds: t is the type that is named, r its reverse, if it has one
pub record Importable (b : List ℕ) (target source : ℕ) (n new new_reverse : Name) (t : ℕ) (r : Option ℕ) : Type 0 where
  pub sound : Sound b
  pub small : target < 16
  pub outside : target ≡ 0 → ⊥
  pub below : t < 128
  pub there : present (schema_of b) source t ≡ true
  pub named : blank (local_name (schema_of b) source t) ≡ false
  pub reversed : ReverseOf (schema_of b) t (unwrap_or r limits.types)
  pub reverse_fits : IfSome r (λ u. u < limits.types)
  pub formed : malformed_new new ≡ false
  pub formed_reverse : malformed_new new_reverse ≡ false
  pub rule : import target source n new new_reverse (schema_of b)
      ≡ rest_of target source new new_reverse (schema_of b) t (one_or_none (unwrap_or r limits.types))

pub importable : {b : List ℕ} (target source : ℕ) (n new new_reverse : Name) {t : ℕ} {r : Option ℕ}
    → Tested b (first_refusals target source n new new_reverse (schema_of b)) 0 0 → WithReverse b source n t r
    → Importable b target source n new new_reverse t r
unfolding all
importable {b} target source n new new_reverse {t} told found =
    let s = schema_of b in
    let sound = tested_sound told refl in
    let passed = all_passed told refl refl in
    let named = found.type.named in
    let (formed, formed_reverse) = new_formed n new new_reverse (passed.fails 4) in
    let borne = name_borne s source n (passed.fails 6) in
    let given : blank n ≡ false = formed_named n (name-formed n (or_neither (malformed n) (malformed_new new || malformed_new new_reverse) (passed.fails 4)).0) in
    record {
      sound = sound;
      small = first_below s target source (passed.fails 2);
      outside = system_not target (passed.fails 3);
      below = found.type.below;
      there = named_present s source n borne named;
      named = ap (λ (u : ℕ). blank (local_name s source u)) named ∙ bearer_named (sound_good sound) source n given borne;
      reversed = found.pair;
      reverse_fits = found.below;
      formed = formed;
      formed_reverse = formed_reverse;
      rule = tested_passes told refl refl (import_left target source n new new_reverse s)
          ∙ (λ j. rest_of target source new new_reverse s (sym named j) (reverse s (sym named j)))
          ∙ ap (rest_of target source new new_reverse s t) found.pair.is;
    }

module _ {b : List ℕ} {target source : ℕ} {n new new_reverse : Name} {t : ℕ} {r : Option ℕ}
    (i : Importable b target source n new new_reverse t r) where
  pub enters_it : {name : Name} → name ≡ filled (schema_of b) source t new → Enters target name t
  enters_it q = record {
    small = i.small;
    outside = i.outside;
    below = i.below;
    formed = ap well_formed q ∙ filled_formed (sound_good i.sound) source t new i.there i.named i.formed;
  }

  -- it has no reverse: its ancestors that are missing come with it
  pub import_one : r ≡ None → {name after : List ℕ} {a : Answer} {types : ℕ → Bool} → name ≡ filled (schema_of b) source t new
      → Missing target t types (schema_of b)
      → Kept b (enter target (new_presence target name t ∷ []) (nameless_of target types) t 0) a after
      → Kept b (import target source n new new_reverse) a after
  unfolding missing
  import_one e {name} {types = types} q are k =
      let s = schema_of b in
      let same = members_alike (λ a. descends s t a && not_present s target a) types (λ k h. sym (are k)) in
      let alone : one_or_none (unwrap_or r limits.types) ≡ []
      = ap (λ (x : Option ℕ). one_or_none (unwrap_or x limits.types)) e ∙ none_is {r = 128} (omega arith) in
      kept_like (i.rule ∙ ap (rest_of target source new new_reverse s t) alone
      ∙ (λ j. enter target (new_presence target (sym q j) t ∷ []) (map (nameless target) (same j)) t 0 s)) k

  module _ {u : ℕ} (e : r ≡ Some u) where
    pub reverse_below : u < 128
    reverse_below = subst (λ (x : Option ℕ). IfSome x (λ y. y < limits.types)) e i.reverse_fits

    reverse_is : ReverseOf (schema_of b) t u
    reverse_is = subst (λ (x : Option ℕ). ReverseOf (schema_of b) t (unwrap_or x limits.types)) e i.reversed

    pub reverse_there : present (schema_of b) source u ≡ true
    reverse_there =
        let (c, pair) = reverse_is.pair reverse_below in
        (sound_good i.sound).reverse_present source t c u i.there pair

    pub reverse_named : blank (local_name (schema_of b) source u) ≡ false
    reverse_named =
        let good = sound_good i.sound in
        let (c, pair) = reverse_is.pair reverse_below in
        let (c', back) = good.reverse_in_turn t c u pair in
        other_named good source u reverse_there (ap is_object back)

    pub enters_reverse : {name : Name} → name ≡ filled (schema_of b) source u new_reverse → Enters target name u
    enters_reverse q = record {
      small = i.small;
      outside = i.outside;
      below = reverse_below;
      formed = ap well_formed q ∙ filled_formed (sound_good i.sound) source u new_reverse reverse_there reverse_named i.formed_reverse;
    }

    -- its reverse comes with it
    pub import_both : {name other after : List ℕ} {a : Answer} → name ≡ filled (schema_of b) source t new
        → other ≡ filled (schema_of b) source u new_reverse
        → Kept b (enter target (new_presence target name t ∷ new_presence target other u ∷ []) [] t u) a after
        → Kept b (import target source n new new_reverse) a after
    import_both {name} {other} q w k =
        let s = schema_of b in
        let (c, pair) = reverse_is.pair reverse_below in
        let none = none_missing (sound_good i.sound) target t pair in
        let one : one_or_none (unwrap_or r limits.types) ≡ u ∷ []
        = ap (λ (x : Option ℕ). one_or_none (unwrap_or x limits.types)) e ∙ one_is reverse_below in
        kept_like (i.rule ∙ ap (rest_of target source new new_reverse s t) one
        ∙ (λ j. enter target (new_presence target (sym q j) t ∷ new_presence target (sym w j) u ∷ []) (map (nameless target) (none j)) t u s)) k

-- the part of a field before its first zero
pub cut_is : {field : List ℕ} {k : ℕ} → Stripped field k → take (k - 0) field ≡ strip field
cut_is {field} {k} s = let whole : k - 0 ≡ k = omega arith in ap (λ (i : ℕ). take i field) whole ∙ s.name
