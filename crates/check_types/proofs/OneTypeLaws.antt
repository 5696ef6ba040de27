-- What the code reads of one type, and what decides whether it is fine. Assumes nothing.
use Prim.Native.Nat.{ℕ, ◌<◌}
use native.Mathlib.Omega.{arith}
use mathlib.Core.Path.{◌≡◌, refl, sym}
use mathlib.Core.List.{List}
use mathlib.Core.Bool.{Bool, true, false, false≢true}
use denote.Enum.Bare.{sameb}
use lib.ListN.{length, replicate}
use Rattle.rules.specs.07-Picture.{base_length, type_width}
use Rattle.rows.specs.Rows.{part}
use Rattle.std.specs.Prelude.{None, Some}
use Rattle.std.specs.Bool.{then_some}
use Rattle.std.proofs.lemmas.Option.{none-some}
use Rattle.rows.specs.Decides.{Decides}
use Rattle.base.specs.Rows.{type_at}
use Rattle.lookup.proofs.KindBytes.{count_byte}
use Rattle.check_types.specs.declared.Numbering.{Numbering}
use Rattle.check_types.specs.contracts.Numbering.{the_type}
use Rattle.check_types.specs.declared.Numbering.TheVariants.{Below, Anywhere}
use Rattle.check_types.specs.OneType.{sdss_of, ParentsBelow, Told, TypeFine, RootFine}
use Rattle.check_types.proofs.RowLaws.{zero_kind, zero_count}

-- ---- what an answer tells

pub else_below : (o : Numbering) → sameb the_type o Anywhere ≡ false → o ≡ Below
else_below Below e = refl
else_below Anywhere e = absurd (false≢true (sym e))

pub told_no : {P : Type 0} {b : List ℕ} {t : ℕ} → (P → ⊥) → Told P b t None
told_no f = record { fine = λ o e. absurd (none-some o e); not = λ _. f; falling = λ e. absurd (none-some Below e) }

pub told_falls : {P : Type 0} {b : List ℕ} {t : ℕ} → P → ParentsBelow b t (count_byte b t) t → Told P b t (Some Below)
told_falls p below = record { fine = λ _ _. p; not = λ e. absurd (none-some Below (sym e)); falling = λ _. below }

pub told_rises : {P : Type 0} {b : List ℕ} {t : ℕ} → P → Told P b t (Some Anywhere)
told_rises p = record { fine = λ _ _. p; not = λ e. absurd (none-some Anywhere (sym e)); falling = λ e. absurd (cc) }

-- a test that decides P, of a type with no parents
told_test : {P Q : Type 0} {b : List ℕ} {t : ℕ} {r : Bool} → (P → Q) → (Q → P) → (P → count_byte b t ≡ 0) → Decides P r
    → Told Q b t (then_some r Below)
told_test {r = true} f g none d = told_falls (f (d.holds refl)) (λ i u. absurd (omega (arith, none (d.holds refl))))
told_test {r = false} f g none d = told_no (λ q. d.fails refl (g q))

-- ---- a type

-- type 0 is fine among the others
pub root_type : {b held : List ℕ} → RootFine b held → TypeFine b held 0
root_type x = record {
  unheld = λ z. absurd (x.somewhere z);
  used = λ n z. omega (arith, x.object);
  known = omega (arith, x.object);
  object = λ k. record {
    row = record {
      value = x.row.value;
      reverse = x.row.reverse;
      parents = record { count = omega (arith, x.row.parents.count); places = x.row.parents.places };
    };
    only_root = λ n. refl;
    rising = λ i u. absurd (omega (arith, x.row.parents.count));
    small = λ i u. absurd (omega (arith, x.row.parents.count));
    each = λ i u. absurd (omega (arith, x.row.parents.count));
  };
  attribute = λ k. absurd (omega (arith, x.object));
  link = λ k. absurd (omega (arith, x.object));
}

-- a type that no SDS holds is as fine as its row is zero
pub unheld_type : {b held : List ℕ} {t : ℕ} {r : Bool} → length b ≡ base_length → t < 128 → sdss_of held t ≡ 0
    → Decides (part b (type_at t) type_width ≡ replicate type_width 0) r → Told (TypeFine b held t) b t (then_some r Below)
unheld_type {b} {held} {t} long h e =
    told_test
    (λ z.
    let k = zero_kind b t long h z in record {
      unheld = λ _. z;
      used = λ n. absurd (n e);
      known = omega arith;
      object = λ q. absurd (omega arith);
      attribute = λ q. absurd (omega arith);
      link = λ q. absurd (omega arith);
    })
    (λ x. x.unheld e)
    (zero_count b t long h)
