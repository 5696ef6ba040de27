-- A new pair keeps a schema good: two types at once, since neither is good without the other. Assumes nothing.
use Prim.Native.Nat.{ℕ, ◌+◌, ◌≤◌, ◌<◌}
use native.Mathlib.Omega.{arith}
use mathlib.Core.Path.{◌≡◌, refl, sym, ◌∙◌, subst}
use mathlib.Core.Logic.{◌⊎◌, inl, inr, ⊎_elim}
use mathlib.Core.List.{List}
use mathlib.Core.Bool.{true, false, ◌&&◌, ◌||◌, true≢false}
use lib.Dec.{ltb, eqb}
use lib.ListN.{length, set, length-set}
use lib.Seq.{get_or-set_same, get_or-set_other}
use borrow.Author.Tests.{ltb-false, eq-eqb}
use Rattle.rules.specs.01-Lists.{◌∈◌, put}
use Rattle.rules.specs.02-Limits.{limits}
use Rattle.rules.specs.03-Names.{Name, blank, same_name}
use Rattle.rules.specs.04-Schema.{Schema, Kind, Presence, new_presence, kind_of, is_used, present}
use Rattle.rules.specs.06-Good.{presence_before, Good}
use Rattle.rules.specs.04-Schema.Kind.{unused, paired}
use Rattle.rules.specs.09-Refusals.{malformed, no_pair, free_types}
use Rattle.rules.specs.09-Refusals.Outcome.{done}
use Rattle.rules.specs.10-Changes.{new_type, second_new_type, with_pair, new_pair, new_pair_refusals}
use Rattle.rules.specs.13-History.{next}
use Rattle.rules.specs.Parts.{of_types, of_presences}
use Rattle.rules.proofs.Bools.{or_neither}
use Rattle.rules.proofs.03-Names.{formed_named, formed_allowed}
use Rattle.rules.proofs.Edits.{put_long, put_each, put_old, set_either}
use Rattle.rules.proofs.05-Descent.{members_once}
use Rattle.rules.proofs.09-Refusals.{verdict_keeps}
use Rattle.rules.proofs.Parts.{parts_of}
use Rattle.history.proofs.Parts.{Full, full, rows_of}
use Rattle.history.proofs.Passed.{formed, both_free, types_room}
use Rattle.history.proofs.Rows.{present_still, present_new, RowFits, row_fits, others, fits_still, rows_more}
use Rattle.history.proofs.Grown.{ReverseFits, Fits, New, Grown, grown_good}
use Rattle.history.proofs.NewTypes.{free_number, unused_nowhere}

-- what the refusal leaves of the categories
record Categories (c c' : ℕ) : Type 0 where
  pub one : c ≤ 3
  pub two : c' ≤ 3
  pub not_both : c ≡ 3 → c' ≡ 3 → ⊥

categories : (c c' : ℕ) → no_pair c c' ≡ false → Categories c c'
unfolding no_pair
categories c c' e =
    let (a, rest) = or_neither (ltb 3 c) (ltb 3 c' || (eqb c 3 && eqb c' 3)) e in
    let (b, both) = or_neither (ltb 3 c') (eqb c 3 && eqb c' 3) rest in
    record {
      one = ltb-false 3 c a;
      two = ltb-false 3 c' b;
      not_both = λ p q. true≢false (sym (rw (eq-eqb c 3 p, eq-eqb c' 3 q)) ∙ both);
    }

module _ {s : Schema} (good : Good s) (t r d : ℕ) (n m : Name) (c c' : ℕ) where
  abbrev row : Presence
  row = new_presence d n t

  abbrev reverse_row : Presence
  reverse_row = new_presence d m r

  abbrev ks : List Kind
  ks = set (set s.types t (paired c r)) r (paired c' t)

  abbrev half : List Presence
  half = put presence_before row s.presences

  abbrev ps : List Presence
  ps = put presence_before reverse_row half

  module _ (low : t < 128) (reverse_low : r < 128) (other : r ≡ t → ⊥)
      (free : is_used (kind_of s t) ≡ false) (reverse_free : is_used (kind_of s r) ≡ false) (fit : Categories c c')
      (named : blank n ≡ false) (reverse_named : blank m ≡ false) where
    kind : kind_of (of_types ks) t ≡ paired c r
    kind =
        get_or-set_other (set s.types t (paired c r)) r t (paired c' t) unused (λ e. other (sym e))
        ∙ get_or-set_same s.types t (paired c r) unused (omega (arith, good.type_room))

    reverse_kind : kind_of (of_types ks) r ≡ paired c' t
    reverse_kind = get_or-set_same (set s.types t (paired c r)) r (paired c' t) unused (omega (arith, length-set s.types t (paired c r), good.type_room))

    there : present (of_presences ps) d t ≡ true
    there = present_still reverse_row half d t (present_new row s.presences)

    reverse_there : present (of_presences ps) d r ≡ true
    reverse_there = present_new reverse_row half

    new : New s.types ks s.presences ps d t
    new = record { was = free; fits = subst (Fits s.types ks s.presences ps d t) (sym kind) fits; there = there }
      where
        fits : ReverseFits ks ps d t c r
        fits = record { category = fit.one; different = other; back = c'; in_turn = reverse_kind; not_both = fit.not_both; there = reverse_there }

    reverse_new : New s.types ks s.presences ps d r
    reverse_new = record {
      was = reverse_free;
      fits = subst (Fits s.types ks s.presences ps d r) (sym reverse_kind) fits;
      there = reverse_there;
    }
      where
        fits : ReverseFits ks ps d r c' t
        fits = record {
          category = fit.two;
          different = λ e. other (sym e);
          back = c;
          in_turn = kind;
          not_both = λ p q. fit.not_both q p;
          there = there;
        }

    grown : Grown s.types ks s.presences ps d
    grown = record {
      room = length-set (set s.types t (paired c r)) r (paired c' t) ∙ length-set s.types t (paired c r) ∙ good.type_room;
      each = λ u. ⊎_elim
          (λ p. inr (subst (New s.types ks s.presences ps d) (sym p.0) reverse_new))
          (λ p. ⊎_elim
          (λ q. inr (subst (New s.types ks s.presences ps d) (sym q.0) new))
          (λ q. inl (p.1 ∙ q.1))
          (set_either s.types t (paired c r) unused (omega (arith, good.type_room)) u))
          (set_either (set s.types t (paired c r)) r (paired c' t) unused
          (omega (arith, length-set s.types t (paired c r), good.type_room)) u);
      old_rows = λ p i. put_old presence_before reverse_row half (put_old presence_before row s.presences i);
      rows = λ p i. put_each presence_before i OldOrNew (inr (refl, reverse_new, full, reverse_named))
          (λ j. put_each presence_before j OldOrNew (inr (refl, new, full, named)) inl);
    }
      where
        OldOrNew : Presence → Type 0
        OldOrNew q = (q ∈ s.presences) ⊎ ((q.sds ≡ d) × New s.types ks s.presences ps d q.type × Full q × (blank q.name ≡ false))

    one_pair : length s.presences + 2 ≤ limits.presences → RowFits s.sdss s.presences row → RowFits s.sdss s.presences reverse_row
        → same_name n m ≡ false → Good (with_pair t r d n m c c' s)
    one_pair room Fit-row Fit-reverse differ =
        grown_good good ks ps d grown
        (rows_more (rows_more (rows_of (parts_of good).presences) row (omega arith) Fit-row)
        reverse_row (omega (arith, put_long presence_before row s.presences))
        (fits_still row Fit-reverse (others d (λ e. other (sym e)) (λ _. differ))))

-- the lowest two unused numbers are two
two_numbers : (s : Schema) → 2 ≤ length (free_types s) → second_new_type s ≡ new_type s → ⊥
unfolding free_types
two_numbers s h e = let same : ◌≡◌ {A = ℕ} 1 0 = members_once _ 1 0 h (omega arith) e in omega arith

pub new_pair_keeps : (d : ℕ) (n m : Name) (c c' : ℕ) (s : Schema) → Good s → Good (next s (new_pair d n m c c' s))
unfolding new_pair
new_pair_keeps d n m c c' s g =
    verdict_keeps (λ o. Good (next s o)) (new_pair_refusals d n m c c' s)
    (done (new_type s) (second_new_type s) 0 (with_pair (new_type s) (second_new_type s) d n m c c' s))
    (λ _ _. g)
    (λ passed.
    let (a, b) = or_neither (malformed n) (malformed m) (passed.fails 4) in
    let (free, free', differ) = both_free s d n m (passed.fails 11) in
    let (many, room) = types_room s 2 (passed.fails 14) in
    let (low, unused-t) = free_number s 0 (omega arith) in
    let (reverse_low, unused-r) = free_number s 1 many in
    let well = formed n a in
    let well' = formed m b in
    one_pair g (new_type s) (second_new_type s) d n m c c' low reverse_low (two_numbers s many) unused-t unused-r (categories c c' (passed.fails 5))
    (formed_named n well) (formed_named m well') room
    (row_fits s d (new_type s) n (passed.fails 2) (passed.fails 3) (formed_allowed n well) (λ _. free) (unused_nowhere g d (new_type s) unused-t))
    (row_fits s d (second_new_type s) m (passed.fails 2) (passed.fails 3) (formed_allowed m well') (λ _. free')
    (unused_nowhere g d (second_new_type s) unused-r))
    differ)
