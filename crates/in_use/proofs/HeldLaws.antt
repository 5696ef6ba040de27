-- The lowest type that rows tell: of one row, of the rows passed so far, of a table; and that it is the one that an obstacle tells.
-- Assumes nothing.
use Prim.Native.Nat.{ℕ, zero, suc, ◌+◌, ◌<◌}
use native.Mathlib.Numerals.{add-one}
use native.Mathlib.Omega.{arith}
use mathlib.Core.Path.{◌≡◌, refl, sym, ap, ◌∙◌, subst}
use mathlib.Core.Logic.{⊎_elim}
use mathlib.Core.List.{List, ◌∷◌}
use mathlib.Core.Bool.{Bool, true, false, ◌&&◌, ◌||◌, or-false, false≢true}
use lib.Dec.{eqb}
use lib.ListN.{length}
use borrow.Author.Tests.{eqb-true, eqb-false, eq-eqb, ne_eqb}
use Rattle.std.specs.Prelude.{Option, Some, None, IfSome, option_to_list}
use Rattle.std.specs.Option.{unwrap_or, option_eq}
use Rattle.std.specs.Bool.{then_some}
use Rattle.rules.specs.01-Lists.{any, among}
use Rattle.rules.specs.04-Schema.{Schema, Presence, End, Side, is_object, parents, is_parent, with_reverse, holds_type, present, applied, has_end}
use Rattle.rules.specs.04-Schema.{is_end, side_code}
use Rattle.rules.specs.05-Descent.{members}
use Rattle.rules.specs.06-Good.{Good}
use Rattle.rules.specs.09-Refusals.{Refusals, ◌held_by◌, types_in, child_there, applied_there, end_of, end_there, in_the_way}
use Rattle.rules.specs.10-Changes.{obstacles}
use Rattle.rules.proofs.Bools.{and_both, and_of, or_cases, or_left, or_right, or_neither, same_test, fails}
use Rattle.rules.proofs.01-Lists.{any_at, any_where, among_in, in_among}
use Rattle.rules.proofs.09-Refusals.{held, unheld, on_side, of_side}
use Rattle.rules.specs.07-Picture.{Sound, base_length}
use Rattle.base.specs.Tables.{presences, applications, ends}
use Rattle.base.specs.Back.{schema_of, presence_count, application_count, end_count, presence_shown, application_shown, end_shown}
use Rattle.base.specs.Tested.{Tested}
use Rattle.base.proofs.Back.{rows_few, sound_good}
use Rattle.base.proofs.Kept.{sound_long}
use Rattle.base.proofs.TestedLaws.{Come, Past, come_first, come_next, come_stops}
use Rattle.lookup.proofs.Walked.{some_presence, no_presence, some_application, no_application, some_end, no_end}
use Rattle.conditions.specs.Reverse.{one_or_none, ReverseOf}
use Rattle.conditions.proofs.ReverseLaws.{one_is, none_is}
use Rattle.in_use.specs.Held.{LowestOf, any_below, child_told, other_told, application_told, end_told}

-- ---- a row that is used can be read

module _ {b : List ℕ} {i : ℕ} where
  pub presence_reads : Sound b × (i < presence_count b) → (length b ≡ base_length) × (i < 512)
  presence_reads (s, h) = (sound_long s, omega (arith, h, rows_few presences b))

  pub application_reads : Sound b × (i < application_count b) → (length b ≡ base_length) × (i < 256)
  application_reads (s, h) = (sound_long s, omega (arith, h, rows_few applications b))

  pub end_reads : Sound b × (i < end_count b) → (length b ≡ base_length) × (i < 512)
  end_reads (s, h) = (sound_long s, omega (arith, h, rows_few ends b))

-- ---- the lowest that passes

pub lowest_same : {p q : ℕ → Bool} → ((k : ℕ) → p k ≡ q k) → {r : Option ℕ} → LowestOf p r → LowestOf q r
lowest_same e l = record {
  is = record { most = l.is.most; passes = λ h. sym (e _) ∙ l.is.passes h; first = λ k h. sym (e k) ∙ l.is.first k h };
  below = l.below;
}

pub lowest_none : {p : ℕ → Bool} → ((k : ℕ) → p k ≡ false) → LowestOf p None
lowest_none none = record { is = record { most = omega arith; passes = λ h. absurd (omega arith); first = λ k h. none k }; below = tt }

-- type x alone, or none
module _ (x : ℕ) where
  pub only_one : x < 128 → LowestOf (eqb x) (Some x)
  only_one h = record {
    is = record { most = omega arith; passes = λ _. eq-eqb x x refl; first = λ k u. ne_eqb x k (λ q. omega arith) };
    below = h;
  }

  pub only_if : (test : Bool) → x < 128 → (r : Option ℕ) → r ≡ then_some test x → LowestOf (λ k. test && eqb x k) r
  only_if true h r e = subst (λ (o : Option ℕ). LowestOf (eqb x) o) (sym e) (only_one h)
  only_if false h r e = subst (λ (o : Option ℕ). LowestOf (λ k. false) o) (sym e) (lowest_none (λ k. refl))

-- a row of SDS y, asked about SDS d
module _ {x y : ℕ} (d : ℕ) (p : ℕ → Bool) (e : x ≡ y) where
  pub row_here : x ≡ d → {r : Option ℕ} → LowestOf p r → LowestOf (λ k. eqb y d && p k) r
  row_here h l = lowest_same (λ k. sym (rw (eq-eqb y d (sym e ∙ h)) refl)) l

-- ---- a type or its reverse

module _ (x t : ℕ) (reverse : Option ℕ) where
  pub either_first : x ≡ t → eqb x t ≡ among (t ∷ option_to_list reverse) x
  unfolding any
  either_first e = eq-eqb x t e ∙ sym (or_left (eqb x t) (among (option_to_list reverse) x) (eq-eqb x t e))

  pub either_last : (x ≡ t → ⊥) → option_eq eqb (Some x) reverse ≡ among (t ∷ option_to_list reverse) x
  unfolding any
  either_last n = go reverse ∙ sym (ap (λ (b : Bool). b || among (option_to_list reverse) x) (ne_eqb x t n))
    where
      go : (o : Option ℕ) → option_eq eqb (Some x) o ≡ among (option_to_list o) x
      go (Some r) = sym (or-false (eqb x r))
      go None = refl

-- ---- rows

module _ (p : ℕ → Bool) where
  below_where : (n : ℕ) → any_below p n ≡ true → (i : ℕ) × (i < n) × (p i ≡ true)
  unfolding any_below
  below_where zero e = absurd (false≢true e)
  below_where (suc n) e =
      ⊎_elim (λ f. let (i, h, g) = below_where n f in (i, omega arith, g)) (λ f. (n, omega arith, f)) (or_cases (any_below p n) (p n) e)

  below_none : (n : ℕ) → any_below p n ≡ false → (i : ℕ) → i < n → p i ≡ false
  unfolding any_below
  below_none zero e i h = absurd (omega arith)
  below_none (suc n) e i h = let (f, g) = or_neither (any_below p n) (p n) e in go (eqb i n) refl g (below_none n f i)
    where
      go : (b : Bool) → eqb i n ≡ b → p n ≡ false → (i < n → p i ≡ false) → p i ≡ false
      go true q g f = ap p (eqb-true i n q) ∙ g
      go false q g f = let d = eqb-false i n q in f (omega arith)

-- no row, and one more
pub rows_none : (tells : ℕ → ℕ → Bool) → LowestOf (λ k. any_below (λ i. tells i k) 0) None
unfolding any_below
rows_none tells = lowest_none (λ k. refl)

pub rows_more : (tells : ℕ → ℕ → Bool) (n : ℕ) {r : Option ℕ} → LowestOf (λ k. any_below (λ i. tells i k) n || tells n k) r
    → LowestOf (λ k. any_below (λ i. tells i k) (n + 1)) r
unfolding any_below
rows_more tells n {r} l = subst (λ (m : ℕ). LowestOf (λ k. any_below (λ i. tells i k) m) r) (sym (add-one n)) l

-- all n rows of a table: `some` and `none` say that they show the list
module _ {A : Type 0} (l : List A) (row : ℕ → A) (n : ℕ) (some : (test : A → Bool) (i : ℕ) → i < n → test (row i) ≡ true → true ≡ any test l)
    (none : (test : A → Bool) → ((i : ℕ) → i < n → test (row i) ≡ false) → false ≡ any test l) where
  of_rows : (tells : A → ℕ → Bool) {m : ℕ} {r : Option ℕ} → m ≡ n → LowestOf (λ k. any_below (λ i. tells (row i) k) m) r
      → LowestOf (λ k. any (λ a. tells a k) l) r
  of_rows tells z =
      lowest_same (λ k. ap (any_below (λ i. tells (row i) k)) z ∙ go (λ a. tells a k) (any_below (λ i. tells (row i) k) n) refl)
    where
      go : (test : A → Bool) (b : Bool) → any_below (λ i. test (row i)) n ≡ b → any_below (λ i. test (row i)) n ≡ any test l
      go test true e = let (i, h, f) = below_where (λ i. test (row i)) n e in e ∙ some test i h f
      go test false e = e ∙ none test (below_none (λ i. test (row i)) n e)

-- ---- children

child_is : (s : Schema) (d t x : ℕ) → any (λ p. child_told s d t p x) s.presences ≡ child_there s d t x
unfolding child_there present
child_is s d t x = same_test (any (λ p. child_told s d t p x) s.presences) (any (holds_type d x) s.presences && is_parent s x t) there back
  where
    there : any (λ p. child_told s d t p x) s.presences ≡ true → any (holds_type d x) s.presences && is_parent s x t ≡ true
    there e =
        let (p, i, f) = any_where (λ p. child_told s d t p x) s.presences e in
        let (g, h) = and_both (eqb p.sds d) (is_parent s p.type t && eqb p.type x) f in
        let (j, k) = and_both (is_parent s p.type t) (eqb p.type x) h in
        and_of (any (holds_type d x) s.presences) (is_parent s x t)
        (any_at (holds_type d x) i (and_of (eqb p.sds d) (eqb p.type x) g k))
        (ap (λ (y : ℕ). is_parent s y t) (sym (eqb-true p.type x k)) ∙ j)

    back : any (holds_type d x) s.presences && is_parent s x t ≡ true → any (λ p. child_told s d t p x) s.presences ≡ true
    back e =
        let (f, g) = and_both (any (holds_type d x) s.presences) (is_parent s x t) e in
        let (p, i, h) = any_where (holds_type d x) s.presences f in
        let (j, k) = and_both (eqb p.sds d) (eqb p.type x) h in
        any_at (λ p. child_told s d t p x) i
        (and_of (eqb p.sds d) (is_parent s p.type t && eqb p.type x) j
        (and_of (is_parent s p.type t) (eqb p.type x) (ap (λ (y : ℕ). is_parent s y t) (eqb-true p.type x k) ∙ g) k))

-- ---- rows that join two types in an SDS: what they tell of the types ts

module _ {A : Type 0} (l : List A) (sds one two : A → ℕ) (d : ℕ) where
  abbrev joins : ℕ → ℕ → A → Bool
  joins u v a = eqb (sds a) d && (eqb (one a) u && eqb (two a) v)

  abbrev tells : List ℕ → A → ℕ → Bool
  tells ts a x = eqb (sds a) d && other_told ts (one a) (two a) x

  joined_told : (ts : List ℕ) (x : ℕ) → any (λ a. tells ts a x) l ≡ any (λ t. any (joins x t) l || any (joins t x) l) ts
  joined_told ts x = same_test (any (λ a. tells ts a x) l) (any holds ts) there back
    where
      holds : ℕ → Bool
      holds t = any (joins x t) l || any (joins t x) l

      there : any (λ a. tells ts a x) l ≡ true → any holds ts ≡ true
      there e =
          let (a, i, f) = any_where (λ a. tells ts a x) l e in
          let (g, h) = and_both (eqb (sds a) d) (other_told ts (one a) (two a) x) f in
          ⊎_elim
          (λ k.
          let (m, n) = and_both (among ts (one a)) (eqb (two a) x) k in
          any_at holds (among_in ts (one a) m)
          (or_right (any (joins x (one a)) l) (any (joins (one a) x) l)
          (any_at (joins (one a) x) i (and_of (eqb (sds a) d) _ g (and_of (eqb (one a) (one a)) (eqb (two a) x) (eq-eqb (one a) (one a) refl) n)))))
          (λ k.
          let (m, n) = and_both (among ts (two a)) (eqb (one a) x) k in
          any_at holds (among_in ts (two a) m)
          (or_left (any (joins x (two a)) l) (any (joins (two a) x) l)
          (any_at (joins x (two a)) i (and_of (eqb (sds a) d) _ g (and_of (eqb (one a) x) (eqb (two a) (two a)) n (eq-eqb (two a) (two a) refl))))))
          (or_cases (among ts (one a) && eqb (two a) x) (among ts (two a) && eqb (one a) x) h)

      back : any holds ts ≡ true → any (λ a. tells ts a x) l ≡ true
      back e =
          let (t, i, f) = any_where holds ts e in
          ⊎_elim
          (λ g.
          let (a, j, h) = any_where (joins x t) l g in
          let (k, m) = and_both (eqb (sds a) d) (eqb (one a) x && eqb (two a) t) h in
          let (n, o) = and_both (eqb (one a) x) (eqb (two a) t) m in
          any_at (λ a. tells ts a x) j
          (and_of (eqb (sds a) d) _ k
          (or_right (among ts (one a) && eqb (two a) x) (among ts (two a) && eqb (one a) x)
          (and_of (among ts (two a)) (eqb (one a) x) (ap (among ts) (eqb-true (two a) t o) ∙ in_among i) n))))
          (λ g.
          let (a, j, h) = any_where (joins t x) l g in
          let (k, m) = and_both (eqb (sds a) d) (eqb (one a) t && eqb (two a) x) h in
          let (n, o) = and_both (eqb (one a) t) (eqb (two a) x) m in
          any_at (λ a. tells ts a x) j
          (and_of (eqb (sds a) d) _ k
          (or_left (among ts (one a) && eqb (two a) x) (among ts (two a) && eqb (one a) x)
          (and_of (among ts (one a)) (eqb (two a) x) (ap (among ts) (eqb-true (one a) t n) ∙ in_among i) o))))
          (or_cases (any (joins x t) l) (any (joins t x) l) f)

-- an end joins a link type and an object type, on either side
end_is : (s : Schema) (d l o : ℕ) → any (joins s.ends (λ e. e.sds) (λ e. e.link) (λ e. e.object) d l o) s.ends ≡ end_of s d l o
unfolding has_end
end_is s d l o = same_test (any joined s.ends) (end_of s d l o) there (λ e. let (side, f) = of_side s d l o e in back side f)
  where
    joined : End → Bool
    joined e = eqb e.sds d && (eqb e.link l && eqb e.object o)

    at : Side → Side → Bool
    at side side' = eqb (side_code side) (side_code side')

    there : any joined s.ends ≡ true → end_of s d l o ≡ true
    there e =
        let (x, i, f) = any_where joined s.ends e in
        let (g, h) = and_both (eqb x.sds d) (eqb x.link l && eqb x.object o) f in
        let (j, k) = and_both (eqb x.link l) (eqb x.object o) h in
        on_side s d l x.side o
        (any_at (is_end d l x.side o) i
        (and_of (eqb x.sds d) _ g
        (and_of (eqb x.link l) _ j (and_of (at x.side x.side) (eqb x.object o) (eq-eqb (side_code x.side) (side_code x.side) refl) k))))

    back : (side : Side) → any (is_end d l side o) s.ends ≡ true → any joined s.ends ≡ true
    back side e =
        let (x, i, f) = any_where (is_end d l side o) s.ends e in
        let (g, h) = and_both (eqb x.sds d) (eqb x.link l && (at x.side side && eqb x.object o)) f in
        let (j, k) = and_both (eqb x.link l) (at x.side side && eqb x.object o) h in
        let (_, m) = and_both (at x.side side) (eqb x.object o) k in
        any_at joined i (and_of (eqb x.sds d) _ g (and_of (eqb x.link l) (eqb x.object o) j m))

-- ---- the tables of a base

module _ (b : List ℕ) (d : ℕ) {m : ℕ} {r : Option ℕ} where
  presences_told : (tells : Presence → ℕ → Bool) → m ≡ presence_count b → LowestOf (λ k. any_below (λ i. tells (presence_shown b i) k) m) r
      → LowestOf (λ k. any (λ p. tells p k) (schema_of b).presences) r
  presences_told tells z l = of_rows (schema_of b).presences (presence_shown b) (presence_count b) (some_presence b) (no_presence b) tells z l

  pub types_lowest : m ≡ presence_count b → LowestOf (λ k. any_below (λ i. holds_type d k (presence_shown b i)) m) r
      → LowestOf (present (schema_of b) d) r
  unfolding present
  types_lowest z l = presences_told (λ p k. holds_type d k p) z l

  pub children_lowest : (t : ℕ) → m ≡ presence_count b → LowestOf (λ k. any_below (λ i. child_told (schema_of b) d t (presence_shown b i) k) m) r
      → LowestOf (child_there (schema_of b) d t) r
  children_lowest t z l = lowest_same (child_is (schema_of b) d t) (presences_told (child_told (schema_of b) d t) z l)

  pub applied_lowest : (ts : List ℕ) → m ≡ application_count b → LowestOf (λ k. any_below (λ i. application_told d ts (application_shown b i) k) m) r
      → LowestOf (λ k. any (λ t. applied_there (schema_of b) d t k) ts) r
  unfolding applied_there applied
  applied_lowest ts z l =
      let apps = (schema_of b).applications in
      lowest_same (joined_told apps (λ x. x.sds) (λ x. x.to) (λ x. x.attribute) d ts)
      (of_rows apps (application_shown b) (application_count b) (some_application b) (no_application b) (application_told d ts) z l)

  pub ends_lowest : (ts : List ℕ) → m ≡ end_count b → LowestOf (λ k. any_below (λ i. end_told d ts (end_shown b i) k) m) r
      → LowestOf (λ k. any (λ t. end_there (schema_of b) d t k) ts) r
  unfolding end_there
  ends_lowest ts z l =
      let es = (schema_of b).ends in
      lowest_same
      (λ k. joined_told es (λ e. e.sds) (λ e. e.link) (λ e. e.object) d ts k
      ∙ (λ i. any (λ t. end_is (schema_of b) d k t i || end_is (schema_of b) d t k i) ts))
      (of_rows es (end_shown b) (end_count b) (some_end b) (no_end b) (end_told d ts) z l)

-- ---- what an obstacle tells

module _ (n : ℕ) (p : ℕ → Bool) where
  lowest_held : {t : ℕ} → LowestOf p (Some t) → ((n held_by members p).holds ≡ true) × ((n held_by members p).value ≡ t)
  lowest_held l = held n p l.below (l.is.passes l.below) l.is.first

  lowest_unheld : LowestOf p None → (n held_by members p).holds ≡ false
  lowest_unheld l = unheld n p (λ k u. l.is.first k u)

-- of an SDS
module _ (s : Schema) (d : ℕ) where
  pub sds_held : {t : ℕ} → LowestOf (present s d) (Some t) → ((12 held_by types_in s d).holds ≡ true) × ((12 held_by types_in s d).value ≡ t)
  unfolding types_in
  sds_held l = lowest_held 12 (present s d) l

  pub sds_empty : LowestOf (present s d) None → (12 held_by types_in s d).holds ≡ false
  unfolding types_in
  sds_empty l = lowest_unheld 12 (present s d) l

-- of the types ts
module _ {b : List ℕ} {whole rest : Refusals} (n : ℕ) (holds : ℕ → ℕ → Bool) (ts : List ℕ)
    (come : Come b whole ((n held_by in_the_way holds ts) ∷ rest)) where
  pub held_stops : {t : ℕ} → LowestOf (λ x. any (λ t. holds t x) ts) (Some t) → Tested b whole n t
  unfolding in_the_way
  held_stops l =
      let (stands, is) = lowest_held n (λ x. any (λ t. holds t x) ts) l in
      subst (λ (x : ℕ). Tested b whole n x) is (come_stops come stands refl)

  pub held_passes : LowestOf (λ x. any (λ t. holds t x) ts) None → Come b whole rest
  unfolding in_the_way
  held_passes l = come_next come (lowest_unheld n (λ x. any (λ t. holds t x) ts) l)

pub listed : (o : Option ℕ) → IfSome o (λ r. r < 128) → one_or_none (unwrap_or o 128) ≡ option_to_list o
listed (Some r) h = one_is h
listed None h = none_is {r = 128} (omega arith)

module _ {s : Schema} {t : ℕ} where
  -- the reverse is looked for by its number
  pub with_other : (o : Option ℕ) → ReverseOf s t (unwrap_or o 128) → IfSome o (λ r. r < 128) → (holds : ℕ → ℕ → Bool) {x : Option ℕ}
      → LowestOf (λ k. any (λ u. holds u k) (t ∷ option_to_list o)) x → LowestOf (λ k. any (λ u. holds u k) (with_reverse s t)) x
  with_other o rev below holds l = lowest_same (λ k. ap (λ (ts : List ℕ). any (λ u. holds u k) (t ∷ ts)) (sym (rev.is ∙ listed o below))) l

  module _ (good : Good s) (d : ℕ) where
    -- a link type is no parent
    no_child : {r : ℕ} → ReverseOf s t r → r < 128 → (x : ℕ) → child_there s d r x ≡ false
    unfolding child_there is_parent
    no_child {r} rev h x =
        fails (present s d x && among (parents s x) r) (λ e.
        let (_, f) = and_both (present s d x) (among (parents s x) r) e in
        let (c, pair) = rev.pair h in
        let (c', turn) = good.reverse_in_turn t c r pair in
        false≢true (sym (ap is_object turn) ∙ good.parents_objects x r (record { listed = among_in (parents s x) r f })))

    -- so that the children of the type are those of both
    pub child_alone : (o : Option ℕ) → ReverseOf s t (unwrap_or o 128) → IfSome o (λ r. r < 128) → {x : Option ℕ} → LowestOf (child_there s d t) x
        → LowestOf (λ k. any (λ u. child_there s d u k) (with_reverse s t)) x
    unfolding any
    child_alone o rev below l = with_other o rev below (child_there s d) (lowest_same (λ k. sym (go o rev below k)) l)
      where
        go : (o : Option ℕ) → ReverseOf s t (unwrap_or o 128) → IfSome o (λ r. r < 128) → (k : ℕ)
            → any (λ u. child_there s d u k) (t ∷ option_to_list o) ≡ child_there s d t k
        go (Some r) rev h k =
            ap (λ (y : Bool). child_there s d t k || (y || false)) (no_child rev h k) ∙ or-false (child_there s d t k)
        go None rev h k = or-false (child_there s d t k)

-- the obstacles in their order
module _ {b : List ℕ} (sound : Sound b) (d : ℕ) {t : ℕ} (o : Option ℕ) (rev : ReverseOf (schema_of b) t (unwrap_or o 128))
    (below : IfSome o (λ r. r < 128)) where
  pub child_stops : {x : ℕ} → LowestOf (child_there (schema_of b) d t) (Some x) → Tested b (obstacles d t (schema_of b)) 16 x
  child_stops l = held_stops 16 (child_there (schema_of b) d) _ (come_first sound) (child_alone (sound_good sound) d o rev below l)

  pub past_child : LowestOf (child_there (schema_of b) d t) None → Past b (obstacles d t (schema_of b)) 17
  past_child l = held_passes 16 (child_there (schema_of b) d) _ (come_first sound) (child_alone (sound_good sound) d o rev below l)

  pub past_applied : Past b (obstacles d t (schema_of b)) 17
      → LowestOf (λ k. any (λ u. applied_there (schema_of b) d u k) (t ∷ option_to_list o)) None → Past b (obstacles d t (schema_of b)) 18
  past_applied come l = held_passes 17 (applied_there (schema_of b) d) _ come (with_other o rev below (applied_there (schema_of b) d) l)
