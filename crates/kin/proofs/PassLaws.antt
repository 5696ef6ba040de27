-- Laws of a pass over the presences, row by row, from either end. Assumes nothing.
use Prim.Native.Nat.{ℕ, ◌+◌, ◌-◌, ◌≤◌, ◌<◌}
use native.Mathlib.Omega.{arith}
use mathlib.Core.Path.{◌≡◌, refl, sym, ap, ◌∙◌}
use mathlib.Core.Logic.{⊎_elim}
use mathlib.Core.List.{List}
use mathlib.Core.Bool.{Bool, true, false, cond, ◌&&◌, ◌||◌, and-true, and-false, or-false, or_comm, true≢false, false≢true}
use lib.Dec.{eqb, ltb}
use borrow.Author.Count.{below_more}
use borrow.Author.Tests.{eqb-true, eq-eqb, ltb-true, ltb-false}
use Rattle.rules.specs.01-Lists.{any}
use Rattle.rules.specs.04-Schema.{Presence, is_parent}
use Rattle.rules.specs.05-Descent.{members}
use Rattle.rules.specs.06-Good.{Good}
use Rattle.rules.proofs.Bools.{or_cases, or_left, or_right, and_both, and_of}
use Rattle.rules.proofs.01-Lists.{any_at}
use Rattle.rules.proofs.05-Descent.{members_of}
use Rattle.base.specs.Back.{schema_of, presence_count, presence_shown}
use Rattle.base.proofs.Shown.{presence_there, presence_in}
use Rattle.visible.specs.Shown.{held_in}
use Rattle.visible.proofs.Rules.{gathered_where, gathered_at}
use Rattle.kin.specs.Kin.{children_of, child_there, looked_at, Span, Passed}
use Rattle.kin.proofs.KinLaws.{any_member}
use Rattle.kin.proofs.ReachLaws.{Reach, child_in, reached_with}
use Rattle.kin.proofs.ReachLaws.Reach.{at_start, a_step_on}

pub looked_down : (from n : ℕ) (down : Bool) (i : ℕ) → down ≡ true → from + (n - 1 - i) ≡ looked_at from n down i
looked_down from n true i e = refl
looked_down from n false i e = absurd (false≢true e)

pub looked_up : (from n : ℕ) (down : Bool) (i : ℕ) → down ≡ false → from + i ≡ looked_at from n down i
looked_up from n true i e = absurd (true≢false e)
looked_up from n false i e = refl

-- each row is looked at
looked_for : (from n : ℕ) (down : Bool) (j : ℕ) → from ≤ j → j < from + n → (i : ℕ) × (i < n) × (looked_at from n down i ≡ j)
looked_for from n true j l h = (from + n - 1 - j, omega arith, omega arith)
looked_for from n false j l h = (j - from, omega arith, omega arith)

-- all rows
pub span_all : (b : List ℕ) (sdss : ℕ → Bool) (n : ℕ) → n ≡ presence_count b → Span b sdss 0 n
span_all b sdss n e = record { fits = omega arith; all = λ j h l. (omega arith, omega arith) }

-- and the first or the last of them away, which are in none of these SDSs
pub span_trimmed : (b : List ℕ) (sdss : ℕ → Bool) (from n m : ℕ) (down : Bool) → Span b sdss from n → m ≤ n
    → ((i : ℕ) → i < m → sdss (presence_shown b (looked_at from n down i)).sds ≡ false) → Span b sdss (cond down from (from + m)) (n - m)
span_trimmed b sdss from n m true span l none = record {
  fits = omega (arith, span.fits);
  all = λ j h e. let (low, high) = span.all j h e in (low, last j e high (ltb j (from + (n - m))) refl);
}
  where
    last : (j : ℕ) → sdss (presence_shown b j).sds ≡ true → j < from + n → (x : Bool) → ltb j (from + (n - m)) ≡ x → j < from + (n - m)
    last j e h true q = ltb-true j (from + (n - m)) q
    last j e h false q =
        let past = ltb-false j (from + (n - m)) q in
        let same : from + (n - 1 - (from + n - 1 - j)) ≡ j = omega arith in
        absurd (true≢false (sym e ∙ ap (λ (k : ℕ). sdss (presence_shown b k).sds) (sym same) ∙ none (from + n - 1 - j) (omega arith)))
span_trimmed b sdss from n m false span l none = record {
  fits = omega (arith, span.fits);
  all = λ j h e. let (low, high) = span.all j h e in (first j e low (ltb j (from + m)) refl, omega arith);
}
  where
    first : (j : ℕ) → sdss (presence_shown b j).sds ≡ true → from ≤ j → (x : Bool) → ltb j (from + m) ≡ x → from + m ≤ j
    first j e h true q =
        let before = ltb-true j (from + m) q in
        let same : from + (j - from) ≡ j = omega arith in
        absurd (true≢false (sym e ∙ ap (λ (k : ℕ). sdss (presence_shown b k).sds) (sym same) ∙ none (j - from) (omega arith)))
    first j e h false q = ltb-false j (from + m) q

-- ---- one look: the type of a row that is in none of these SDSs, or has no parent in q, is not added; nor is one that is there

module _ (q : ℕ → Bool) (t k : ℕ) where
  pub not_listed : (c z : Bool) → c ≡ false → q k ≡ q k || (eqb k t && (c && z))
  not_listed c z e = rw (e, and-false (eqb k t)) (sym (or-false (q k)))

  pub childless : (c z : Bool) → z ≡ false → q k ≡ q k || (eqb k t && (c && z))
  childless c z e = rw (e, and-false c, and-false (eqb k t)) (sym (or-false (q k)))

  pub there_already : (c z : Bool) → q t ≡ true → q k ≡ q k || (eqb k t && (c && z))
  there_already c z e = go (eqb k t) refl
    where
      go : (y : Bool) → eqb k t ≡ y → q k ≡ q k || (y && (c && z))
      go true same = let here : q k ≡ true = ap q (eqb-true k t same) ∙ e in here ∙ sym (or_left (q k) (c && z) here)
      go false other = sym (or-false (q k))

  pub added : (c z : Bool) {x : Bool} → x ≡ eqb k t || q k → c ≡ true → z ≡ true → x ≡ q k || (eqb k t && (c && z))
  added c z e f g = e ∙ or_comm (eqb k t) (q k) ∙ rw (f, g, and-true (eqb k t))

-- ---- a pass

module _ (b : List ℕ) (sdss p : ℕ → Bool) (from n : ℕ) (down : Bool) where
  abbrev at : ℕ → Presence
  at i = presence_shown b (looked_at from n down i)

  -- what i looks have made of p
  pub record Looked (i : ℕ) (q : ℕ → Bool) : Type 0 where
    pub kept : (k : ℕ) → p k ≡ true → q k ≡ true
    pub only : (k : ℕ) → q k ≡ true → Reach (child_in (schema_of b) sdss) p k
    pub children : (j : ℕ) → j < i → sdss (at j).sds ≡ true → (t : ℕ) → p t ≡ true → is_parent (schema_of b) (at j).type t ≡ true
        → q (at j).type ≡ true

  pub looked_none : Looked 0 p
  looked_none = record { kept = λ k e. e; only = λ k e. at_start e; children = λ j h l t e g. absurd (omega arith) }

  module _ {i : ℕ} {q : ℕ → Bool} (so_far : Looked i q) where
    pub looked_more : (r : ℕ → Bool) → ((k : ℕ) → q k ≡ true → k < 128) → looked_at from n down i < presence_count b
        → ((k : ℕ) → r k ≡ q k || child_there (schema_of b) sdss q (at i) k) → Looked (i + 1) r
    unfolding children_of
    looked_more r below h made = record {
      kept = λ k e. stays k (so_far.kept k e);
      only = λ k e. ⊎_elim (so_far.only k) (new k) (or_cases (q k) (child_there (schema_of b) sdss q (at i) k) (sym (made k) ∙ e));
      children = below_more
          (λ j. sdss (at j).sds ≡ true → (t : ℕ) → p t ≡ true → is_parent (schema_of b) (at j).type t ≡ true → r (at j).type ≡ true) i
          (λ j l held t e by. stays (at j).type (so_far.children j l held t e by))
          (λ held t e by.
          let g = so_far.kept t e in
          made u ∙ or_right (q u) _
          (and_of (eqb u u) _ (eq-eqb u u refl)
          (and_of (sdss (at i).sds) _ held (any_at (λ a. is_parent (schema_of b) u a) (members_of q t (below t g) g) by))));
    }
      where
        u : ℕ
        u = (at i).type

        stays : (k : ℕ) → q k ≡ true → r k ≡ true
        stays k e = made k ∙ or_left (q k) _ e

        new : (k : ℕ) → child_there (schema_of b) sdss q (at i) k ≡ true → Reach (child_in (schema_of b) sdss) p k
        new k e =
            let (same, rest) = and_both (eqb k u) (sdss (at i).sds && any (λ a. is_parent (schema_of b) u a) (members q)) e in
            let (held, child) = and_both (sdss (at i).sds) (any (λ a. is_parent (schema_of b) u a) (members q)) rest in
            let (t, l, g, by) = any_member (λ a. is_parent (schema_of b) u a) q child in
            let is : k ≡ u = eqb-true k u same in
            a_step_on (so_far.only t g)
            (and_of (is_parent (schema_of b) k t) (held_in (schema_of b) sdss k) (ap (λ (x : ℕ). is_parent (schema_of b) x t) is ∙ by)
            (gathered_at (λ x. sdss x.sds) (λ x. x.type) (schema_of b).presences k (presence_there b (looked_at from n down i) h) held is))

    pub looked_all : Good (schema_of b) → Span b sdss from n → i ≡ n → ((k : ℕ) → p k ≡ true → k < 128) → Passed (schema_of b) sdss p q
    looked_all good span e below = record {
      kept = so_far.kept;
      children = λ t k g by held.
          let (x, m, l, same) = gathered_where (λ x. sdss x.sds) (λ x. x.type) (schema_of b).presences k held in
          let (j, h, is) = presence_in b x m in
          let (low, high) = span.all j h (ap (λ (y : Presence). sdss y.sds) (sym is) ∙ l) in
          let (place, below-n, found) = looked_for from n down j low high in
          let there : at place ≡ x = ap (presence_shown b) found ∙ sym is in
          ap q (same ∙ ap (λ (y : Presence). y.type) (sym there))
          ∙ so_far.children place (omega arith) (ap (λ (y : Presence). sdss y.sds) there ∙ l) t g
          (ap (λ (y : Presence). is_parent (schema_of b) y.type t) there ∙ ap (λ (y : ℕ). is_parent (schema_of b) y t) (sym same) ∙ by);
      only = λ k g. reached_with good sdss p below (so_far.only k g);
    }
