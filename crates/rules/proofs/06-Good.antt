-- A fresh schema is good, and in SDS 0 there is nothing but its one presence. Assumes nothing.
use Prim.Native.Nat.{ℕ, zero, suc, ◌≤◌}
use native.Mathlib.Omega.{arith}
use mathlib.Core.Path.{◌≡◌, refl, sym, ap, ◌∙◌}
use mathlib.Core.List.Memᴰ
use mathlib.Core.List.{List, []}
use mathlib.Core.Bool.{Bool, true, false, false≢true}
use lib.Dec.{ltb, eqb, lit≤}
use lib.ListN.{length, get_or, replicate}
use Rattle.rules.specs.01-Lists.{◌∈◌, any, all, rising}
use Rattle.rules.specs.03-Names.{Name, letter, letter_or_digit, well_formed}
use borrow.Author.Tests.{eqb-true}
use Rattle.rules.specs.04-Schema.{Schema, Kind, Presence, fresh, system_presence, used_sds, kind_of, is_used, parents, holds_type, present}
use Rattle.rules.specs.04-Schema.Kind.{unused, object, attribute, paired}
use Rattle.rules.specs.05-Descent.{Parent, Descends}
use Rattle.rules.specs.05-Descent.Descends.{by_parent, by_step}
use Rattle.rules.specs.06-Good.{Good}
use Rattle.rules.proofs.Bools.{and_both}
use Rattle.rules.proofs.01-Lists.{any_where}

rest_alike : {A : Type 0} (a : A) (n i : ℕ) → get_or (replicate n a) i a ≡ a
rest_alike a zero i = refl
rest_alike a (suc n) zero = refl
rest_alike a (suc n) (suc i) = rest_alike a n i

-- every SDS but 0 and every type but 0 is unused
other_sds : (d : ℕ) → used_sds fresh (suc d) ≡ false
unfolding fresh used_sds
other_sds d = rw (rest_alike {A = Name} [] 15 d)

other_type : (t : ℕ) → kind_of fresh (suc t) ≡ unused
unfolding fresh
other_type t = rest_alike unused 127 t

only_sds : (d : ℕ) → used_sds fresh d ≡ true → d ≡ 0
only_sds zero e = refl
only_sds (suc d) e = absurd (false≢true (sym (other_sds d) ∙ e))

only_type : (t : ℕ) → is_used (kind_of fresh t) ≡ true → t ≡ 0
only_type zero e = refl
only_type (suc t) e = absurd (false≢true (sym (ap is_used (other_type t)) ∙ e))

-- type 0 is no attribute type and no link type
first_kind : kind_of fresh 0 ≡ object []
unfolding fresh
first_kind = refl

-- a kind that is neither unused nor that of type 0 has no type
no_type : (t : ℕ) (k : Kind) → kind_of fresh t ≡ k → is_used k ≡ true → k ≡ object []
no_type t k e u = sym e ∙ ap (kind_of fresh) (only_type t (ap is_used e ∙ u)) ∙ first_kind

no_attribute : (t v : ℕ) → kind_of fresh t ≡ attribute v → ⊥
no_attribute t v e = let z : ◌≡◌ {A = ℕ} 0 1 = cc (no_type t (attribute v) e refl) in omega arith

no_paired : (t c r : ℕ) → kind_of fresh t ≡ paired c r → ⊥
no_paired t c r e = let z : ◌≡◌ {A = ℕ} 0 1 = cc (no_type t (paired c r) e refl) in omega arith

no_parent : (t a : ℕ) → Parent fresh t a → ⊥
unfolding parents
no_parent zero a by = Memᴰ.not-nil (rw first_kind at by.listed)
no_parent (suc t) a by = Memᴰ.not-nil (rw (other_type t) at by.listed)

no_descent : (t a : ℕ) → Descends fresh t a → ⊥
no_descent t a (by_parent by) = no_parent t a by
no_descent t a (by_step {p = p} by d) = no_parent t p by

the_presence : (p : Presence) → p ∈ fresh.presences → p ≡ system_presence
unfolding fresh
the_presence p i = Memᴰ.eq_of_singleton i

pub fresh_good : Good fresh
unfolding fresh used_sds well_formed letter letter_or_digit all rising present any
fresh_good = record {
  sds_room = refl;
  type_room = refl;
  presence_room = lit≤ tt;
  application_room = lit≤ tt;
  end_room = lit≤ tt;
  sds_named = λ d e. rw (only_sds d e) refl;
  sds_names_unique = λ d e u v h. only_sds d u ∙ sym (only_sds e v);
  presence_type = λ p i. rw (the_presence p i) refl;
  presence_sds = λ p i. rw (the_presence p i) refl;
  presence_named = λ p i. rw (the_presence p i) refl;
  nameless_object = λ p i. rw (the_presence p i) (λ e. refl);
  modes_known = λ p i. rw (the_presence p i) (record { usage = lit≤ tt; definition = lit≤ tt });
  local_names_unique = λ p q i j d n h. the_presence p i ∙ sym (the_presence q j);
  one_presence = λ p q i j d h. the_presence p i ∙ sym (the_presence q j);
  parents_few = λ t ps e. few t ps e;
  parents_rising = λ t ps e. up t ps e;
  parents_objects = λ t a by. absurd (no_parent t a by);
  root = refl;
  only_root = λ t e. only_type t (ap is_used e);
  value_kinds = λ t v e. absurd (no_attribute t v e);
  categories = λ t c r e. absurd (no_paired t c r e);
  reverse_different = λ t c r e h. no_paired t c r e;
  reverse_in_turn = λ t c r e. absurd (no_paired t c r e);
  not_both_implicit = λ t r e h. no_paired t 3 r e;
  applied_attribute = λ x i. absurd (Memᴰ.not-nil i);
  applied_to = λ x i. absurd (Memᴰ.not-nil i);
  application_present = λ x i. absurd (Memᴰ.not-nil i);
  end_link = λ e i. absurd (Memᴰ.not-nil i);
  end_object = λ e i. absurd (Memᴰ.not-nil i);
  end_present = λ e i. absurd (Memᴰ.not-nil i);
  system_named = refl;
  system_holds = Memᴰ.head refl;
  system_alone = λ p i d. the_presence p i;
  system_no_application = λ x i. absurd (Memᴰ.not-nil i);
  system_no_end = λ e i. absurd (Memᴰ.not-nil i);
  presences_rising = refl;
  applications_rising = refl;
  ends_rising = refl;
  acyclic = λ t d. no_descent t t d;
  somewhere = λ t u. (0, rw (only_type t u) refl);
  parents_present = λ d t a e by. absurd (no_parent t a by);
  reverse_present = λ d t c r e h. absurd (no_paired t c r h);
  reverse_modes = λ p q i j d c h. absurd (no_paired p.type c q.type h);
  mirrored = λ e i. absurd (Memᴰ.not-nil i);
}
  where
    none : (t : ℕ) (ps : List ℕ) → kind_of fresh t ≡ object ps → ps ≡ []
    none t ps e = let same : object ps ≡ object [] = no_type t (object ps) e refl in cc

    few : (t : ℕ) (ps : List ℕ) → kind_of fresh t ≡ object ps → length ps ≤ 4
    few t ps e = rw (none t ps e) (lit≤ tt)

    up : (t : ℕ) (ps : List ℕ) → kind_of fresh t ≡ object ps → rising ltb ps ≡ true
    up t ps e = rw (none t ps e) refl

-- ---- SDS 0

-- SDS 0 holds type 0 alone: no type of a kind that type 0 is not is present there, so it has no application and no end
pub system_lacks : (s : Schema) → kind_of s 0 ≡ object [] → ((p : Presence) → p ∈ s.presences → p.sds ≡ 0 → p ≡ system_presence)
    → (test : Kind → Bool) → test (object []) ≡ false → (d t : ℕ) → test (kind_of s t) ≡ true → present s d t ≡ true → d ≡ 0 → ⊥
unfolding present
system_lacks s root alone test fails d t e held z =
    let (p, i, it) = any_where (holds_type d t) s.presences held in
    let (in-d, of-t) = and_both (eqb p.sds d) (eqb p.type t) it in
    let system : p ≡ system_presence = alone p i (eqb-true p.sds d in-d ∙ z) in
    let first : t ≡ 0 = sym (eqb-true p.type t of-t) ∙ ap (λ (q : Presence). q.type) system in
    false≢true (sym fails ∙ sym (ap test (ap (kind_of s) first ∙ root)) ∙ e)
