-- The reverse of a type, by the bytes of its row. Assumes nothing.
use Prim.Native.Nat.{ℕ, ◌+◌, ◌≤◌, ◌<◌}
use native.Mathlib.Omega.{arith}
use mathlib.Core.Path.{◌≡◌, refl, sym, ap, ◌∙◌}
use mathlib.Core.List.{List, [], ◌∷◌}
use mathlib.Core.Bool.{true, false, true≢false}
use borrow.Author.Tests.{eq-eqb, ne_eqb, lt-ltb, le-ltb}
use Rattle.rules.specs.04-Schema.{Schema, Kind, kind_of, is_link, reverse_in, reverse}
use Rattle.rules.specs.04-Schema.Kind.{unused, object, attribute, designation, paired}
use Rattle.rules.specs.07-Picture.{Sound}
use Rattle.rules.specs.Read.{reverse_offset, value_offset}
use Rattle.rows.specs.Rows.{Reads}
use Rattle.base.specs.Rows.{type_at}
use Rattle.base.specs.Back.{schema_of}
use Rattle.base.proofs.Back.{sound_good}
use Rattle.base.proofs.Shown.{kind_is, shows_designation}
use Rattle.lookup.proofs.KindBytes.{link_byte, link_paired, link_below}
use Rattle.conditions.specs.Reverse.{one_or_none, ReverseOf}

pub one_is : {r : ℕ} → r < 128 → one_or_none r ≡ r ∷ []
one_is {r} h = rw (lt-ltb r 128 h)

pub none_is : {r : ℕ} → 128 ≤ r → one_or_none r ≡ []
none_is {r} h = rw (le-ltb r 128 h)

no_link_none : (k : Kind) → is_link k ≡ false → reverse_in k ≡ []
no_link_none unused e = refl
no_link_none (object ps) e = refl
no_link_none (attribute v) e = refl
no_link_none designation e = refl
no_link_none (paired c r) e = absurd (true≢false e)

none_there : {s : Schema} (l : ℕ) → reverse s l ≡ [] → ReverseOf s l 128
none_there l e = record { fits = omega arith; is = e ∙ sym (none_is {r = 128} (omega arith)); pair = λ k. absurd (omega arith) }

module _ {b : List ℕ} (s : Sound b) {l : ℕ} (h : l < 128) {k : ℕ} (code : Reads b (type_at l) k) where
  pub no_link_no_reverse : (k ≡ 3 → ⊥) → ReverseOf (schema_of b) l 128
  unfolding reverse
  no_link_no_reverse n = none_there l (no_link_none (kind_of (schema_of b) l) (sym (link_byte b l k h code.is) ∙ ne_eqb k 3 n))

  module _ (three : k ≡ 3) where
    pub no_reverse : {x : ℕ} → Reads b (type_at l + value_offset) x → x ≡ 4 → ReverseOf (schema_of b) l 128
    unfolding reverse
    no_reverse r e = none_there l (ap reverse_in (kind_is b l h ∙ shows_designation b l (sym code.is ∙ three) (sym r.is ∙ e)))

    module _ {x r : ℕ} (v : Reads b (type_at l + value_offset) x) (n : x ≡ 4 → ⊥) (w : Reads b (type_at l + reverse_offset) r) where
      link : is_link (kind_of (schema_of b) l) ≡ true
      link = sym (link_byte b l k h code.is) ∙ eq-eqb k 3 three

      paired_so : kind_of (schema_of b) l ≡ paired x r
      paired_so = link_paired b l h link (λ q. n (v.is ∙ q)) ∙ (λ i. paired (sym v.is i) (sym w.is i))

      pub reverse_below : r < 128
      reverse_below = let (c, e) = (sound_good s).reverse_in_turn l x r paired_so in link_below b r (ap is_link e)

      pub its_reverse : ReverseOf (schema_of b) l r
      unfolding reverse
      its_reverse = record {
        fits = omega (arith, reverse_below);
        is = ap reverse_in paired_so ∙ sym (one_is reverse_below);
        pair = λ k. (x, paired_so);
      }
