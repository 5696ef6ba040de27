-- The reverse byte of a type, of whatever kind, is that of a type; and where it is that of a link type, the type is one too, in the same
-- SDSs. Assumes nothing.
use Prim.Native.Nat.{ℕ, ◌<◌}
use native.Mathlib.Omega.{arith}
use mathlib.Core.Path.{◌≡◌, refl, sym, ap, ◌∙◌}
use mathlib.Core.List.{List}
use mathlib.Core.Bool.{Bool, true, false, false≢true}
use lib.Dec.{eqb}
use borrow.Author.Tests.{eqb-true, eqb-false}
use Rattle.rules.specs.04-Schema.{kind_of, is_link, present}
use Rattle.rules.specs.04-Schema.Kind.{paired}
use Rattle.rules.specs.Parts.{of_presences, ClosedUnder}
use Rattle.rules.proofs.Parts.{present_each}
use Rattle.base.specs.Back.{schema_of}
use Rattle.lookup.proofs.KindBytes.{reverse_byte, paired_bytes, reverse_paired}
use Rattle.check_held.specs.Fine.{TypesFine}
use Rattle.check_held.proofs.HeldLaws.{held_there}

module _ {b : List ℕ} (f : TypesFine b) (l : ℕ) (h : l < 128) where
  module _ (some : reverse_byte b l ≡ 0 → ⊥) where
    pair : (c : ℕ) × (kind_of (schema_of b) l ≡ paired c (reverse_byte b l))
    pair = reverse_paired b l h (f.type_rows l h) some

    turned_back : (c : ℕ) × (kind_of (schema_of b) (reverse_byte b l) ≡ paired c l)
    turned_back = let (c, k) = pair in f.reverses.in_turn l c (reverse_byte b l) k

  pub reverse_below : reverse_byte b l < 128
  reverse_below = go (eqb (reverse_byte b l) 0) refl
    where
      go : (x : Bool) → eqb (reverse_byte b l) 0 ≡ x → reverse_byte b l < 128
      go true e = omega (arith, eqb-true (reverse_byte b l) 0 e)
      go false e = let (c, k) = turned_back (eqb-false (reverse_byte b l) 0 e) in (paired_bytes b (reverse_byte b l) c l k).0

  module _ (link : is_link (kind_of (schema_of b) (reverse_byte b l)) ≡ true) where
    -- type 0 is an object type
    some : reverse_byte b l ≡ 0 → ⊥
    some z = false≢true (ap is_link (sym f.parents.root ∙ ap (kind_of (schema_of b)) (sym z)) ∙ link)

    pub reverse_link : is_link (kind_of (schema_of b) l) ≡ true
    reverse_link = let (_, k) = pair some in ap is_link k

    pub reverse_held : (d : ℕ) → present (of_presences (schema_of b).presences) d (reverse_byte b l) ≡ true → present (schema_of b) d l ≡ true
    reverse_held d e =
        let (c, k) = turned_back some in
        let ps = (schema_of b).presences in
        let closed = present_each ps (λ d t. ClosedUnder (schema_of b).types (present (of_presences ps) d) t) f.closed in
        held_there b refl refl ∙ (closed d (reverse_byte b l) e).reverse c l k
