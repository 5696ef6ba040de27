-- A type that is in an SDS by one presence, and the row of that presence. Assumes nothing.
use Prim.Native.Nat.{ℕ, ◌<◌}
use native.Mathlib.Omega.{arith}
use mathlib.Core.Path.{◌≡◌, refl, sym, ◌∙◌, subst}
use mathlib.Core.List.{List}
use mathlib.Core.Bool.{true}
use lib.Dec.{eqb}
use lib.ListN.{length}
use borrow.Author.Tests.{eqb-true, ltb-true}
use Rattle.std.specs.Prelude.{Option, Some, None, IsSome, IfSome}
use Rattle.std.specs.Option.{unwrap_or}
use Rattle.rules.specs.04-Schema.{Schema, Presence, holds_type, present, with_presences}
use Rattle.rules.specs.06-Good.{Good}
use Rattle.rules.specs.07-Picture.{Sound, base_length}
use Rattle.rules.proofs.Bools.{and_both}
use Rattle.base.specs.Tables.{presences}
use Rattle.base.proofs.Back.{rows_few}
use Rattle.base.proofs.Kept.{sound_long}
use Rattle.base.specs.Back.{schema_of, presence_count, presence_shown}
use Rattle.lookup.specs.Found.{PresenceRow}
use Rattle.base.specs.Stored.{less_row, Shows, Stored}
use Rattle.base.proofs.Shown.{presence_there}
use Rattle.edit.proofs.TakenLaws.{presence_without}
use Rattle.lookup.proofs.Walked.{some_presence, first_presence, presence_first}
use Rattle.change_presences.specs.Remove.{HeldOnce, less_presence}

-- in a good schema a type that is there is there once
module _ {s : Schema} (good : Good s) where
  pub held : (d t : ℕ) → present s d t ≡ true → HeldOnce s d t
  held d t e = record {
    there = e;
    once = λ p q i j f g.
        let (x, y) = and_both (eqb p.sds d) (eqb p.type t) f in
        let (z, w) = and_both (eqb q.sds d) (eqb q.type t) g in
        good.one_presence p q i j (eqb-true p.sds d x ∙ sym (eqb-true q.sds d z)) (eqb-true p.type t y ∙ sym (eqb-true q.type t w));
  }

pub held_row : {b : List ℕ} → Good (schema_of b) → {d t r : ℕ} → PresenceRow b (presence_count b) d t r → r < presence_count b
    → HeldOnce (schema_of b) d t
unfolding present
held_row {b} good {d} {t} {r} found h = held good d t (sym (some_presence b (holds_type d t) r h ((presence_first b d t found).found h)))

-- its row is found, and taken out
module _ {b : List ℕ} {d t r : ℕ} (once : HeldOnce (schema_of b) d t) (found : PresenceRow b (presence_count b) d t r) where
  pub row_below : r < presence_count b
  unfolding present
  row_below = ltb-true r (presence_count b) (first_presence b (holds_type d t) (presence_first b d t found) ∙ once.there)

  pub row_taken : Stored b → {b₁ : List ℕ} → Shows b₁ (with_presences (schema_of b) (less_row r (schema_of b).presences))
      → Shows b₁ (less_presence d t (schema_of b))
  row_taken x {b₁} out =
      let is = (presence_first b d t found).found row_below in
      subst (λ (ps : List Presence). Shows b₁ (with_presences (schema_of b) ps))
      (sym (presence_without x r row_below (holds_type d t) is (λ p m e. once.once p (presence_shown b r) m (presence_there b r row_below) e is))) out

-- so that it is found
pub some_below : {o : Option ℕ} {n r : ℕ} → IfSome o (λ i. i < n) → o ≡ Some r → r < n
some_below {o} {n} h e = subst (λ (x : Option ℕ). IfSome x (λ i. i < n)) e h

pub row_some : {b : List ℕ} {d t : ℕ} → HeldOnce (schema_of b) d t → (o : Option ℕ)
    → PresenceRow b (presence_count b) d t (unwrap_or o (presence_count b)) → IsSome o
row_some once (Some r) found = refl
row_some once None found = let h = row_below once found in absurd (omega arith)

module _ {b : List ℕ} {o : Option ℕ} where
  pub row_is : {d t r : ℕ} → PresenceRow b (presence_count b) d t (unwrap_or o (presence_count b)) → o ≡ Some r
      → PresenceRow b (presence_count b) d t r
  row_is {d} {t} found e = subst (λ (x : Option ℕ). PresenceRow b (presence_count b) d t (unwrap_or x (presence_count b))) e found

  -- and can be read
  pub row_reads : {r : ℕ} → Sound b → IfSome o (λ i. i < presence_count b) → o ≡ Some r → (length b ≡ base_length) × (r < 512)
  row_reads s h e = (sound_long s, omega (arith, some_below h e, rows_few presences b))
