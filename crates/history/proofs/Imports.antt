-- An import keeps a schema good: the type comes with its reverse and with the ancestors that the target lacks, each once, and no name is
-- borne twice. Assumes nothing.
use Prim.Native.Nat.{ℕ}
use mathlib.Core.Path.{◌≡◌, refl, sym, ap, ◌∙◌, subst}
use mathlib.Core.Logic.{inl, inr, ⊎_elim}
use mathlib.Core.List.Memᴰ
use mathlib.Core.List.{List, [], ◌∷◌, map}
use mathlib.Core.Bool.{Bool, true, false, not, ◌||◌, true≢false, false≢true}
use lib.ListN.{length, get_or}
use borrow.Author.Tests.{not-true, not-false}
use Rattle.rules.specs.01-Lists.{◌∈◌, put_all}
use Rattle.rules.specs.03-Names.{Name, well_formed, blank}
use Rattle.rules.specs.04-Schema.{Schema, Presence, kind_of, is_used, is_object, reverse_in, reverse, with_reverse, present, bears, type_named, local_name}
use Rattle.rules.specs.04-Schema.{new_presence, with_presences}
use Rattle.rules.specs.06-Good.{presence_before, Good}
use Rattle.rules.specs.04-Schema.Kind.{paired}
use Rattle.rules.specs.05-Descent.{Parent, Descends, descends}
use Rattle.rules.specs.05-Descent.Descends.{by_parent}
use Rattle.rules.specs.09-Refusals.{unknown_sds, system_sds, malformed, malformed_new, not_present, no_such_name, names_taken, presences_full}
use Rattle.rules.specs.09-Refusals.Outcome.{done}
use Rattle.rules.specs.10-Changes.{filled, imported, missing, nameless, incoming, import, import_refusals}
use Rattle.rules.specs.13-History.{next}
use Rattle.rules.specs.Parts.{of_presences}
use Rattle.rules.proofs.Bools.{or_neither, and_both, and_of, fails}
use Rattle.rules.proofs.01-Lists.{Different, map_in}
use Rattle.rules.proofs.03-Names.{formed_named, formed_allowed}
use Rattle.rules.proofs.Orders.{number_order, rising_different}
use Rattle.rules.proofs.05-Descent.{members_in, members_of, members_rising, object_used, object_below, past, child_object, descendant_object}
use Rattle.rules.proofs.05-Descent.{ancestor_object, descends_sound, descends_full}
use Rattle.rules.proofs.Edits.{map_of, put_all_in, put_all_old, put_all_new}
use Rattle.rules.proofs.08-Working.{bearer_named, other_named, present_used}
use Rattle.rules.proofs.NameTests.{filled_formed}
use Rattle.rules.proofs.09-Refusals.{verdict_keeps}
use Rattle.rules.proofs.Parts.{presence_there, parent_of, parts_of}
use Rattle.history.proofs.KindLaws.{alone_or_pair, one_reverse, is_reverse, has_reverse}
use Rattle.history.proofs.Parts.{Placed, Came, rows_of, full, stayed, reverse_each}
use Rattle.history.proofs.Passed.{formed, named_present, names_free, both_free, presences_room}
use Rattle.history.proofs.Rows.{present_over, RowFits, row_fits, Other, others, Apart, rows_all, with_more_good}

module _ (s : Schema) (g : Good s) where
  -- an SDS that lacks a type lacks its reverse
  pair_lacks : (d t c r : ℕ) → kind_of s t ≡ paired c r → present s d t ≡ false → present s d r ≡ false
  pair_lacks d t c r k lacks =
      let (c', back) = g.reverse_in_turn t c r k in
      fails (present s d r) (λ e. true≢false (sym (g.reverse_present d r c' t e back) ∙ lacks))

-- ---- the presences that come

-- in the two cases those that have a name
imported_alone : (target source t : ℕ) (new new_reverse : Name) (s : Schema) → reverse_in (kind_of s t) ≡ []
    → imported target source t new new_reverse s ≡ new_presence target (filled s source t new) t ∷ []
unfolding imported reverse
imported_alone target source t new new_reverse s e = rw e

imported_pair : (target source t : ℕ) (new new_reverse : Name) (s : Schema) (c r : ℕ) → kind_of s t ≡ paired c r
    → imported target source t new new_reverse s
    ≡ new_presence target (filled s source t new) t ∷ new_presence target (filled s source r new_reverse) r ∷ []
unfolding imported reverse
imported_pair target source t new new_reverse s c r e = rw e

-- nameless ones, of other types
others_nameless : (d u : ℕ) (n : Name) (ts : List ℕ) → (u ∈ ts → ⊥) → (y : Presence) → y ∈ map (nameless d) ts → Other (new_presence d n u) y
others_nameless d u n ts lacks y i =
    let (a, j, e) = map_in (nameless d) ts i in
    subst (Other (new_presence d n u)) (sym e) (others d (λ same. lacks (rw same j)) (λ b. absurd (true≢false b)))

nameless_apart : (d : ℕ) (ts : List ℕ) → Different ts → Apart (map (nameless d) ts)
nameless_apart d [] different = tt
nameless_apart d (t ∷ ts) different = (others_nameless d t [] ts different.0, nameless_apart d ts different.1)

module _ (target source t : ℕ) (new new_reverse : Name) (s : Schema) where
  -- they, and the schema with them
  abbrev coming : List Presence
  coming = incoming target source t new new_reverse s

  abbrev pub after : Schema
  after = with_presences s (put_all presence_before coming s.presences)

  -- what holds of the type, of its reverse and of each ancestor that is missing holds of all that come
  incoming_each : (P : Presence → Type 0) → P (new_presence target (filled s source t new) t)
      → ((c r : ℕ) → kind_of s t ≡ paired c r → P (new_presence target (filled s source r new_reverse) r))
      → ((a : ℕ) → a ∈ missing target t s → P (nameless target a))
      → (p : Presence) → p ∈ coming → P p
  unfolding incoming imported reverse
  incoming_each P one other ancestor p i =
      ⊎_elim
      (λ j. ⊎_elim
      (λ e. subst P (sym e) one)
      (λ k. let (r, l, e) = map_in _ (reverse_in (kind_of s t)) k in
      let (c, pair) = has_reverse (kind_of s t) r l in
      subst P (sym e) (other c r pair))
      (Memᴰ.cases_cons j))
      (λ j. let (a, k, e) = map_in (nameless target) (missing target t s) j in subst P (sym e) (ancestor a k))
      (Memᴰ.append_cases (imported target source t new new_reverse s) i)

  -- the type and its reverse are among them, and so is each ancestor that is missing
  pub type_comes : (u : ℕ) → u ∈ with_reverse s t → (n : Name) × (new_presence target n u ∈ coming)
  unfolding incoming imported
  type_comes u i =
      let (n, j) : (n : Name) × (new_presence target n u ∈ imported target source t new new_reverse s)
      = ⊎_elim
      (λ e. (filled s source t new, Memᴰ.head (ap (new_presence target (filled s source t new)) e)))
      (λ k. (filled s source u new_reverse, Memᴰ.tail (map_of _ k)))
      (Memᴰ.cases_cons i) in
      (n, Memᴰ.append_left (map (nameless target) (missing target t s)) j)

  pub missing_comes : (a : ℕ) → a ∈ missing target t s → nameless target a ∈ coming
  unfolding incoming
  missing_comes a i = Memᴰ.append_right (imported target source t new new_reverse s) (map_of (nameless target) i)

  still : (d u : ℕ) → present (of_presences s.presences) d u ≡ true → present (of_presences after.presences) d u ≡ true
  still = present_over s.presences after.presences (λ p i. presence_there (put_all_old presence_before coming s.presences i))

  there : {p : Presence} → p ∈ coming → present (of_presences after.presences) p.sds p.type ≡ true
  there i = presence_there (put_all_new presence_before coming s.presences i)

  pub type_there : (u : ℕ) → u ∈ with_reverse s t → present after target u ≡ true
  unfolding present
  type_there u i = there (type_comes u i).1

  module _ (g : Good s) where
    -- the missing are the ancestors that the target lacks
    missing_in : (a : ℕ) → a ∈ missing target t s → Descends s t a × (present s target a ≡ false)
    unfolding missing not_present
    missing_in a i =
        let (above, lacks) = and_both (descends s t a) (not (present s target a)) (members_in _ a i).1 in
        (descends_sound g t a above, not-true (present s target a) lacks)

    pub missing_of : (a : ℕ) → Descends s t a → present s target a ≡ false → a ∈ missing target t s
    unfolding missing not_present
    missing_of a above lacks =
        members_of _ a (object_below g a (ancestor_object g above))
        (and_of (descends s t a) (not (present s target a)) (descends_full g t a above) (ap not lacks))

    -- so every ancestor is there
    pub ancestor_there : (a : ℕ) → Descends s t a → present after target a ≡ true
    unfolding present
    ancestor_there a above = go (present s target a) refl
      where
        go : (b : Bool) → present s target a ≡ b → present after target a ≡ true
        go true e = still target a e
        go false e = there (missing_comes a (missing_of a above e))

    -- neither the type nor its reverse is one
    none_missing : (u : ℕ) → u ∈ with_reverse s t → u ∈ missing target t s → ⊥
    none_missing u i j =
        reverse_each s t (λ u. Descends s t u → ⊥) (g.acyclic t) (λ c r k above. false≢true (sym (ap is_object k) ∙ descendant_object above)) u i
        (missing_in u j).0

    -- a type has its parents there if they are among the ancestors, and its reverse if that comes
    placed : (u : ℕ) → is_used (kind_of s u) ≡ true → ((a : ℕ) → Parent s u a → Descends s t a)
        → ((c r : ℕ) → kind_of s u ≡ paired c r → r ∈ with_reverse s t) → Placed s.types after.presences target u
    unfolding present
    placed u used up back = record {
      used = used;
      closed = record { parents = λ a by. ancestor_there a (up a (parent_of u a by)); reverse = λ c r k. type_there r (back c r k) };
    }

    module _ (known : unknown_sds s target ≡ false) (outside : system_sds target ≡ false) (well : malformed_new new ≡ false)
        (well' : malformed_new new_reverse ≡ false) (here : present s source t ≡ true) (named : blank (local_name s source t) ≡ false)
        (lacks : present s target t ≡ false) (names : names_taken s target (map (λ p. p.name) (imported target source t new new_reverse s)) ≡ false) where
      formed_t : well_formed (filled s source t new) ≡ true
      formed_t = filled_formed g source t new here named well

      formed_r : (c r : ℕ) → kind_of s t ≡ paired c r → well_formed (filled s source r new_reverse) ≡ true
      formed_r c r k =
          let here' = g.reverse_present source t c r here k in
          filled_formed g source r new_reverse here' (other_named g source r here' (ap is_object (g.reverse_in_turn t c r k).1)) well'

      -- each may be put in, is other than those before it, and has there what its type asks
      fits : (p : Presence) → p ∈ coming → RowFits s.sdss s.presences p
      unfolding imported reverse
      fits =
          incoming_each (RowFits s.sdss s.presences)
          (row_fits s target t _ known outside (formed_allowed _ formed_t) (λ _. names_free s target _ names (Memᴰ.head refl)) lacks)
          (λ c r k. row_fits s target r _ known outside (formed_allowed _ (formed_r c r k))
          (λ _. names_free s target _ names (Memᴰ.tail (map_of _ (map_of _ (is_reverse (kind_of s t) k)))))
          (pair_lacks s g target t c r k lacks))
          (λ a i. row_fits s target a [] known outside refl (λ b. absurd (true≢false b)) (missing_in a i).1)

      apart : Apart coming
      unfolding incoming missing reverse
      apart =
          let rest = nameless_apart target (missing target t s) (rising_different number_order (missing target t s) (members_rising _)) in
          ⊎_elim
          (λ e. rw (imported_alone target source t new new_reverse s e)
          (others_nameless target t _ _ (none_missing t (Memᴰ.head refl)), rest))
          (λ (c, r, e).
          let names' = rw (imported_pair target source t new new_reverse s c r e) at names in
          let other = others target (λ same. g.reverse_different t c r e (sym same)) (λ _. (both_free s target _ _ names').2) in
          rw (imported_pair target source t new new_reverse s c r e) (
            (λ y i. ⊎_elim (λ same. subst (Other _) (sym same) other) (others_nameless target t _ _ (none_missing t (Memᴰ.head refl)) y)
                (Memᴰ.cases_cons i)),
            (others_nameless target r _ _ (none_missing r (Memᴰ.tail (is_reverse (kind_of s t) e))), rest),
          ))
          (alone_or_pair (kind_of s t))

      each : (p : Presence) → p ∈ coming → Came s.types s.presences p × Placed s.types after.presences p.sds p.type
      unfolding present reverse
      each =
          incoming_each (λ p. Came s.types s.presences p × Placed s.types after.presences p.sds p.type) (
            record { lacked = lacks; nameless = λ b. absurd (true≢false (sym b ∙ formed_named _ formed_t)); modes = full },
            placed t (present_used g source t here) (λ a by. by_parent by) (λ c r k. Memᴰ.tail (is_reverse (kind_of s t) k)),
          )
          (λ c r k.
          let (c', back) = g.reverse_in_turn t c r k in (
            record {
              lacked = pair_lacks s g target t c r k lacks;
              nameless = λ b. absurd (true≢false (sym b ∙ formed_named _ (formed_r c r k)));
              modes = full;
            },
            placed r (ap is_used back) (λ a by. absurd (false≢true (sym (ap is_object back) ∙ child_object by)))
                (λ c'' t' k'. Memᴰ.head (one_reverse k' back)),
          ))
          (λ a i.
          let (above, lacks) = missing_in a i in
          let is = ancestor_object g above in (
            record { lacked = lacks; nameless = λ _. is; modes = full },
            placed a (object_used (kind_of s a) is) (λ b by. past above by) (λ c r k. absurd (false≢true (sym (ap is_object k) ∙ is))),
          ))

      comes : presences_full s (length coming) ≡ false → Good after
      comes room =
          with_more_good g
          (rows_all coming (rows_of (parts_of g).presences) (presences_room s (length coming) room) fits apart)
          still
          (λ p i. ⊎_elim (λ j. inr (each p j)) (λ j. inl (stayed j refl)) (put_all_in presence_before coming s.presences i))

pub import_keeps : (target source : ℕ) (n new new_reverse : Name) (s : Schema) → Good s → Good (next s (import target source n new new_reverse s))
unfolding import no_such_name
import_keeps target source n new new_reverse s g =
    let t = type_named s source n in
    verdict_keeps (λ o. Good (next s o)) (import_refusals target source n new new_reverse s)
    (done t (get_or (reverse s t) 0 0) 0 (after target source t new new_reverse s))
    (λ _ _. g)
    (λ passed.
    let (well, given) = or_neither (malformed n) (malformed_new new || malformed_new new_reverse) (passed.fails 4) in
    let (one, other) = or_neither (malformed_new new) (malformed_new new_reverse) given in
    let named = bearer_named g source n (formed_named n (formed n well)) (not-false (bears s source n) (passed.fails 6)) in
    comes target source t new new_reverse s g (or_neither (unknown_sds s target) (unknown_sds s source) (passed.fails 2)).0 (passed.fails 3) one
    other
    (named_present s source n (passed.fails 6)) named (passed.fails 9) (passed.fails 11) (passed.fails 14))
