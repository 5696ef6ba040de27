-- Laws of what a set reaches, step by step, whichever the step is: up to ancestors, taken one by one, and down to descendants, pass by
-- pass over the presences. Assumes nothing.
use Prim.Native.Nat.{ℕ, ◌≤◌, ◌<◌}
use native.Mathlib.Omega.{arith}
use mathlib.Core.Path.{◌≡◌, refl, sym, ap, ap₂, ◌∙◌}
use mathlib.Core.Logic.{◌⊎◌, inl, inr, ⊎_elim}
use mathlib.Core.Bool.{Bool, true, false, not, ◌&&◌, ◌||◌, false≢true}
use lib.Dec.{eqb}
use lib.ListN.{length}
use borrow.Author.Tests.{eqb-true, eq-eqb, not-true}
use Rattle.rules.specs.04-Schema.{Schema, is_parent}
use Rattle.rules.specs.05-Descent.{Descends, descends, members}
use Rattle.rules.specs.05-Descent.Descends.{by_parent, by_step}
use Rattle.rules.specs.06-Good.{Good}
use Rattle.rules.specs.01-Lists.{any}
use Rattle.rules.proofs.Bools.{same_test, or_cases, or_left, or_right, and_both, and_of}
use Rattle.rules.proofs.01-Lists.{any_at, numbers_none}
use Rattle.rules.proofs.05-Descent.{members_of, past, descends_sound, descends_full}
use Rattle.type_set.proofs.Members.{members_same, members_fewer}
use Rattle.visible.specs.Shown.{held_in}
use Rattle.visible.proofs.Rules.{held_up}
use Rattle.kin.specs.Kin.{parents_of, ancestors_of, descendants_of, with_descendants, Passed}
use Rattle.kin.proofs.KinLaws.{any_member, parent_is, is_parent_of}

-- ---- R t k says that k is one step from t

-- k is in p, or one or more steps from it
pub data Reach (R : ℕ → ℕ → Bool) (p : ℕ → Bool) : ℕ → Type 0 where
  at_start : {k : ℕ} → p k ≡ true → Reach R p k
  a_step_on : {t k : ℕ} → Reach R p t → R t k ≡ true → Reach R p k

-- q has what is one step from p
pub record Stepped (R : ℕ → ℕ → Bool) (p q : ℕ → Bool) : Type 0 where
  pub only : (k : ℕ) → q k ≡ true → (t : ℕ) × (t < 128) × (p t ≡ true) × (R t k ≡ true)
  pub all : (t k : ℕ) → t < 128 → p t ≡ true → R t k ≡ true → q k ≡ true

-- ---- one by one: what is found, and what is left to be taken

-- what p starts with, and what is one step from what is found, is found or left
pub record Taking (R : ℕ → ℕ → Bool) (p left found : ℕ → Bool) : Type 0 where
  pub start : (k : ℕ) → p k ≡ true → found k || left k ≡ true
  pub further : (t k : ℕ) → found t ≡ true → R t k ≡ true → found k || left k ≡ true
  pub only : (k : ℕ) → found k || left k ≡ true → Reach R p k
  pub apart : (k : ℕ) → left k ≡ true → found k ≡ false

pub taking_none : (R : ℕ → ℕ → Bool) (p none : ℕ → Bool) → ((k : ℕ) → none k ≡ false) → Taking R p p none
taking_none R p none empty = record {
  start = λ k e. or_right (none k) (p k) e;
  further = λ t k e h. absurd (false≢true (sym (empty t) ∙ e));
  only = λ k e. ⊎_elim (λ g. absurd (false≢true (sym (empty k) ∙ g))) at_start (or_cases (none k) (p k) e);
  apart = λ k e. empty k;
}

-- what is left besides what is found
besides : (x y : Bool) → x || (y && not x) ≡ x || y
besides true y = refl
besides false true = refl
besides false false = refl

module _ {R : ℕ → ℕ → Bool} {p left found : ℕ → Bool} (so_far : Taking R p left found) where
  -- t is taken, and what is one step from it is left to be taken, but for what is found
  module _ (found₁ : ℕ → Bool) (t : ℕ) (at : left t ≡ true) (took : (k : ℕ) → found₁ k ≡ eqb k t || found k) where
    pub more_found : t < 128 → length (members found) < length (members found₁)
    more_found h =
        members_fewer found found₁ (λ k e. took k ∙ or_right (eqb k t) (found k) e) t h (so_far.apart t at)
        (took t ∙ or_left (eqb t t) (found t) (eq-eqb t t refl))

    module _ (with_next left₁ : ℕ → Bool) (added : (k : ℕ) → with_next k ≡ R t k || left k) (out : (k : ℕ) → left₁ k ≡ with_next k && not (found₁ k)) where
      met : (k : ℕ) → found₁ k || left₁ k ≡ (eqb k t || found k) || (R t k || left k)
      met k = ap (λ (x : Bool). found₁ k || x) (out k) ∙ besides (found₁ k) (with_next k) ∙ ap₂ ◌||◌ (took k) (added k)

      -- what was found or left is so still
      stays : (k : ℕ) → found k || left k ≡ true → found₁ k || left₁ k ≡ true
      stays k e = met k ∙ ⊎_elim
          (λ f. or_left _ (R t k || left k) (or_right (eqb k t) (found k) f))
          (λ l. or_right (eqb k t || found k) _ (or_right (R t k) (left k) l))
          (or_cases (found k) (left k) e)

      one_on : (u k : ℕ) → (eqb u t ≡ true) ⊎ (found u ≡ true) → R u k ≡ true → found₁ k || left₁ k ≡ true
      one_on u k (inl e) h =
          met k ∙ or_right (eqb k t || found k) _ (or_left (R t k) (left k) (ap (λ (x : ℕ). R x k) (sym (eqb-true u t e)) ∙ h))
      one_on u k (inr e) h = stays k (so_far.further u k e h)

      from_left : (k : ℕ) → left k ≡ true → Reach R p k
      from_left k e = so_far.only k (or_right (found k) (left k) e)

      reached : (k : ℕ) → found₁ k || left₁ k ≡ true → Reach R p k
      reached k e = ⊎_elim
          (λ f. ⊎_elim (λ d. rw (eqb-true k t d) (from_left t at)) (λ g. so_far.only k (or_left (found k) (left k) g)) (or_cases (eqb k t) (found k) f))
          (λ l. ⊎_elim (a_step_on (from_left t at)) (from_left k) (or_cases (R t k) (left k) l))
          (or_cases (eqb k t || found k) (R t k || left k) (sym (met k) ∙ e))

      pub taking_more : Taking R p left₁ found₁
      taking_more = record {
        start = λ k e. stays k (so_far.start k e);
        further = λ u k e h. one_on u k (or_cases (eqb u t) (found u) (sym (took u) ∙ e)) h;
        only = reached;
        apart = λ k e. not-true (found₁ k) (and_both (with_next k) (not (found₁ k)) (sym (out k) ∙ e)).1;
      }

  module _ (none : (k : ℕ) → left k ≡ false) where
    all_found : (k : ℕ) → found k || left k ≡ true → found k ≡ true
    all_found k e = ⊎_elim (λ f. f) (λ l. absurd (false≢true (sym (none k) ∙ l))) (or_cases (found k) (left k) e)

    -- with nothing left all that is reached is found
    pub taking_done : {k : ℕ} → Reach R p k → found k ≡ true
    taking_done {k} (at_start e) = all_found k (so_far.start k e)
    taking_done {k} (a_step_on {t = t} way h) = all_found k (so_far.further t k (taking_done way) h)

-- ---- pass by pass, until a pass adds none

-- steps from what steps reach
pub reach_on : {R : ℕ → ℕ → Bool} {p q : ℕ → Bool} → ((k : ℕ) → q k ≡ true → Reach R p k) → {k : ℕ} → Reach R q k → Reach R p k
reach_on from {k} (at_start e) = from k e
reach_on from (a_step_on way h) = a_step_on (reach_on from way) h

-- q grows from p to what p reaches: it has kept the n types that it had a pass before, and has what is one step from these
pub record Growing (R : ℕ → ℕ → Bool) (p : ℕ → Bool) (n : ℕ) (q : ℕ → Bool) : Type 0 where
  pub before : ℕ → Bool
  pub many : n ≡ length (members before)
  pub kept : (k : ℕ) → before k ≡ true → q k ≡ true
  pub start : (k : ℕ) → p k ≡ true → q k ≡ true
  pub further : (t k : ℕ) → before t ≡ true → R t k ≡ true → q k ≡ true
  pub only : (k : ℕ) → q k ≡ true → Reach R p k

pub growing_none : (R : ℕ → ℕ → Bool) (p : ℕ → Bool) → Growing R p 0 p
unfolding members
growing_none R p = record {
  before = λ k. false;
  many = sym (ap length (numbers_none (λ k. false) 0 128 (λ k l u. refl)));
  kept = λ k e. absurd (false≢true e);
  start = λ k e. e;
  further = λ t k e h. absurd (false≢true e);
  only = λ k e. at_start e;
}

module _ {R : ℕ → ℕ → Bool} {p q : ℕ → Bool} {n : ℕ} (so_far : Growing R p n q) where
  pub growing_more : (r : ℕ → Bool) (m : ℕ) → ((k : ℕ) → q k ≡ true → r k ≡ true) → ((t k : ℕ) → q t ≡ true → R t k ≡ true → r k ≡ true)
      → ((k : ℕ) → r k ≡ true → Reach R q k) → m ≡ length (members q) → Growing R p m r
  growing_more r m stays step only e = record {
    before = q;
    many = e;
    kept = stays;
    start = λ k g. stays k (so_far.start k g);
    further = step;
    only = λ k g. reach_on so_far.only (only k g);
  }

  -- with no more types than before it has those that it had, so that it has what is one step from its own
  pub growing_done : length (members q) ≤ n → ((k : ℕ) → q k ≡ true → k < 128) → {k : ℕ} → Reach R p k → q k ≡ true
  growing_done le below {k} (at_start e) = so_far.start k e
  growing_done le below {k} (a_step_on {t = t} way h) =
      let at = growing_done le below way in
      so_far.further t k (members_same so_far.before q so_far.kept (omega (arith, so_far.many)) t (below t at) at) h

-- ---- up

module _ (s : Schema) (p q : ℕ → Bool) where
  pub parents_stepped : ((k : ℕ) → q k ≡ parents_of s p k) → Stepped (is_parent s) p q
  unfolding parents_of
  parents_stepped made = record {
    only = λ k e. any_member (λ t. is_parent s t k) p (sym (made k) ∙ e);
    all = λ t k l e h. made k ∙ any_at (λ t. is_parent s t k) (members_of p t l e) h;
  }

  module _ (step : Stepped (is_parent s) p q) where
    -- what the parents reach is above p
    reach_above : {k : ℕ} → Reach (is_parent s) q k → (t : ℕ) × (t < 128) × (p t ≡ true) × Descends s t k
    reach_above {k} (at_start e) = let (t, l, g, h) = step.only k e in (t, l, g, by_parent (parent_is s t k h))
    reach_above {k} (a_step_on {t = u} way h) = let (t, l, g, d) = reach_above way in (t, l, g, past d (parent_is s u k h))

    -- and the other way
    climb : {u k : ℕ} → Reach (is_parent s) q u → Descends s u k → Reach (is_parent s) q k
    climb {u} {k} way (by_parent by) = a_step_on way (is_parent_of s u k by)
    climb {u} {k} way (by_step {p = v} by d) = climb (a_step_on way (is_parent_of s u v by)) d

    above_reach : {t k : ℕ} → t < 128 → p t ≡ true → Descends s t k → Reach (is_parent s) q k
    above_reach {t} {k} l e (by_parent by) = at_start (step.all t k l e (is_parent_of s t k by))
    above_reach {t} {k} l e (by_step {p = u} by d) = climb (at_start (step.all t u l e (is_parent_of s t u by))) d

-- what is found is all that is above p, once nothing is left
pub ancestors_all : {s : Schema} → Good s → (p q : ℕ → Bool) {left r : ℕ → Bool} → ((k : ℕ) → q k ≡ parents_of s p k) → Taking (is_parent s) q left r
    → ((k : ℕ) → left k ≡ false) → (k : ℕ) → r k ≡ ancestors_of s p k
unfolding ancestors_of
ancestors_all {s} good p q {left} {r} made taken none k =
    let step = parents_stepped s p q made in
    same_test _ _
    (λ e.
    let (t, l, g, d) = reach_above s p q step (taken.only k (or_left (r k) (left k) e)) in
    any_at (λ t. descends s t k) (members_of p t l g) (descends_full good t k d))
    (λ e.
    let (t, l, g, h) = any_member (λ t. descends s t k) p e in
    taking_done taken none (above_reach s p q step l g (descends_sound good t k h)))

-- ---- down

-- k is a child of t, in one of these SDSs
abbrev pub child_in : Schema → (ℕ → Bool) → ℕ → ℕ → Bool
child_in s sdss t k = is_parent s k t && held_in s sdss k

module _ {s : Schema} (good : Good s) (sdss p : ℕ → Bool) where
  reach_below : {k : ℕ} → Reach (child_in s sdss) p k → (p k ≡ true) ⊎ ((held_in s sdss k ≡ true) × (t : ℕ) × (p t ≡ true) × Descends s k t)
  reach_below (at_start e) = inl e
  reach_below {k} (a_step_on {t = u} way h) =
      let (x, held) = and_both (is_parent s k u) (held_in s sdss k) h in
      let by = parent_is s k u x in
      ⊎_elim
      (λ e. inr (held, u, e, by_parent by))
      (λ w. let (there, t, e, d) = w in inr (held, t, e, by_step by d))
      (reach_below way)

  -- an SDS that holds a type holds all above it: every way down to it is there
  below_reach : {t k : ℕ} → p t ≡ true → held_in s sdss k ≡ true → Descends s k t → Reach (child_in s sdss) p k
  below_reach {t} {k} e held (by_parent by) = a_step_on (at_start e) (and_of (is_parent s k t) (held_in s sdss k) (is_parent_of s k t by) held)
  below_reach {t} {k} e held (by_step {p = u} by d) =
      a_step_on (below_reach e (held_up good sdss k u held by) d) (and_of (is_parent s k u) (held_in s sdss k) (is_parent_of s k u by) held)

  module _ (below : (k : ℕ) → p k ≡ true → k < 128) where
    pub reached_with : {k : ℕ} → Reach (child_in s sdss) p k → with_descendants s sdss p k ≡ true
    unfolding with_descendants descendants_of
    reached_with {k} way =
        ⊎_elim
        (λ e. or_left (p k) _ e)
        (λ w.
        let (held, t, e, d) = w in
        or_right (p k) _
        (and_of (held_in s sdss k) _ held (any_at (λ a. descends s k a) (members_of p t (below t e) e) (descends_full good k t d))))
        (reach_below way)

  pub with_reached : (k : ℕ) → with_descendants s sdss p k ≡ true → Reach (child_in s sdss) p k
  unfolding with_descendants descendants_of
  with_reached k e =
      ⊎_elim
      at_start
      (λ w.
      let (held, x) = and_both (held_in s sdss k) (any (λ a. descends s k a) (members p)) w in
      let (t, l, g, h) = any_member (λ a. descends s k a) p x in
      below_reach g held (descends_sound good k t h))
      (or_cases (p k) (held_in s sdss k && any (λ a. descends s k a) (members p)) e)

-- a pass is such a step
module _ {s : Schema} (good : Good s) (sdss : ℕ → Bool) {p q : ℕ → Bool} {n : ℕ} (so_far : Growing (child_in s sdss) p n q) where
  pub passed_more : (r : ℕ → Bool) (m : ℕ) → Passed s sdss q r → m ≡ length (members q) → Growing (child_in s sdss) p m r
  passed_more r m pass e =
      growing_more so_far r m pass.kept
      (λ t k g h. let (x, held) = and_both (is_parent s k t) (held_in s sdss k) h in pass.children t k g x held)
      (λ k g. with_reached good sdss q k (pass.only k g)) e

  pub descendants_all : length (members q) ≤ n → ((k : ℕ) → p k ≡ true → k < 128) → ((k : ℕ) → q k ≡ true → k < 128) → (k : ℕ)
      → q k ≡ with_descendants s sdss p k
  descendants_all le below-p below k =
      same_test _ _
      (λ e. reached_with good sdss p below-p (so_far.only k e))
      (λ e. growing_done so_far le below (with_reached good sdss p k e))
