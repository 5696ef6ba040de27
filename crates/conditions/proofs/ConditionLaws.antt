-- What a search of the bytes says of a condition. Assumes nothing.
use Prim.Native.Nat.{ℕ, ◌+◌, ◌<◌}
use native.Mathlib.Omega.{arith}
use mathlib.Core.Path.{◌≡◌, refl, sym, ap, ◌∙◌}
use mathlib.Core.List.{List}
use mathlib.Core.Bool.{Bool, true, false}
use lib.Dec.{ltb, eqb}
use lib.ListN.{get_or}
use borrow.Author.Tests.{ltb-true, ltb-false, eq-eqb, ne_eqb}
use Rattle.rules.specs.01-Lists.{any}
use Rattle.rules.specs.04-Schema.{Side, parents, is_parent, holds_type, present, is_application, applied, is_end, has_end}
use Rattle.rules.specs.07-Picture.{Sound}
use Rattle.rules.specs.Read.{count_offset, parents_offset}
use Rattle.rules.proofs.01-Lists.{any_at, any_there, any_nowhere}
use Rattle.base.specs.Rows.{type_at}
use Rattle.base.specs.Back.{schema_of, presence_count, application_count, end_count, application_shown}
use Rattle.lookup.specs.Found.{PresenceRow, FirstRow, EndPlace}
use Rattle.base.proofs.Shown.{end_there}
use Rattle.lookup.proofs.Walked.{first_presence, first_application, presence_first}
use Rattle.lookup.proofs.Parents.{good_parental, parents_count, parents_place}

-- ---- types

-- the parents of t by the places of its row: n of them
module _ {b : List ℕ} (s : Sound b) {t n : ℕ} (h : t < 128) (count : n ≡ get_or b (type_at t + count_offset) 0) (p : ℕ → Bool) where
  some_parent : (i : ℕ) → i < n → p (get_or b (type_at t + parents_offset + i) 0) ≡ true → true ≡ any p (parents (schema_of b) t)
  some_parent i u e =
      sym (any_there p (parents (schema_of b) t) i (omega (arith, parents_count (good_parental s) t h))
      (ap p (parents_place (good_parental s) t h i (omega arith)) ∙ e))

  no_parent : ((i : ℕ) → i < n → p (get_or b (type_at t + parents_offset + i) 0) ≡ false) → false ≡ any p (parents (schema_of b) t)
  no_parent none =
      sym (any_nowhere p (parents (schema_of b) t) (λ i u.
      let l : i < n = omega (arith, parents_count (good_parental s) t h) in
      ap p (parents_place (good_parental s) t h i (omega arith)) ∙ none i l))

module _ {b : List ℕ} (s : Sound b) {t n : ℕ} (h : t < 128) (count : n ≡ get_or b (type_at t + count_offset) 0) (a : ℕ) where
  pub parent_here : (i x : ℕ) → i < n → x ≡ get_or b (type_at t + parents_offset + i) 0 → x ≡ a → true ≡ is_parent (schema_of b) t a
  unfolding is_parent
  parent_here i x u e q = some_parent s h count (eqb a) i u (eq-eqb a (get_or b (type_at t + parents_offset + i) 0) (sym q ∙ e))

  pub parent_nowhere : ((i : ℕ) → i < n → get_or b (type_at t + parents_offset + i) 0 ≡ a → ⊥) → false ≡ is_parent (schema_of b) t a
  unfolding is_parent
  parent_nowhere none = no_parent s h count (eqb a) (λ i u. ne_eqb a (get_or b (type_at t + parents_offset + i) 0) (λ q. none i u (sym q)))

-- ---- presences

pub present_row : {b : List ℕ} {d t r n : ℕ} → n ≡ presence_count b → PresenceRow b (presence_count b) d t r → ltb r n ≡ present (schema_of b) d t
unfolding present
present_row {b} {d} {t} {r} e p = ap (ltb r) e ∙ first_presence b (holds_type d t) (presence_first b d t p)

-- ---- an application, and an end, by its row

pub applied_row : (b : List ℕ) (d t a : ℕ) {r n : ℕ} → n ≡ application_count b
    → FirstRow (application_count b) (λ i. is_application d t a (application_shown b i)) r → ltb r n ≡ applied (schema_of b) d t a
unfolding applied
applied_row b d t a {r} e f = ap (ltb r) e ∙ first_application b (is_application d t a) f

pub end_place_has : {b : List ℕ} {d l o r n : ℕ} {side : Side} → n ≡ end_count b → EndPlace b d l side o r → ltb r n ≡ has_end (schema_of b) d l side o
unfolding has_end
end_place_has {b} {d} {l} {o} {r} {n} {side} e p = go (ltb r n) refl
  where
    go : (t : Bool) → ltb r n ≡ t → t ≡ any (is_end d l side o) (schema_of b).ends
    go true q = let h = ltb-true r n q in sym (any_at (is_end d l side o) (end_there b r (omega arith)) (p.found (omega arith)))
    go false q = let h = ltb-false r n q in sym (p.none (omega arith))
