-- What is asked of a row by its group: where no mirror stands behind, of its types; where one does, that it is there, for then they were
-- asked there. Assumes nothing.
use Prim.Native.Nat.{ℕ, ◌+◌, ◌*◌, ◌-◌, ◌/◌, ◌%◌, ◌≤◌, ◌<◌}
use native.Mathlib.Omega.{arith}
use mathlib.Core.Path.{◌≡◌, refl, sym, ap, subst, ◌∙◌}
use mathlib.Core.List.{List}
use mathlib.Core.Bool.{Bool, true, false}
use Rattle.std.specs.Bool.{then_some}
use Rattle.rows.specs.Decides.{Decides}
use Rattle.rules.specs.04-Schema.{kind_of, is_object, is_link, present}
use Rattle.rules.proofs.Bools.{and_of}
use Rattle.rules.proofs.Parts.{ended_held}
use Rattle.base.specs.Back.{schema_of}
use Rattle.lookup.proofs.KindBytes.{value_byte, reverse_byte}
use Rattle.check_held.specs.Fine.{TypesFine}
use Rattle.check_held.proofs.HeldLaws.{held_there}
use Rattle.check_ends.specs.declared.Group.{Group}
use Rattle.check_ends.specs.declared.Mirrors.{Mirrors}
use Rattle.check_ends.specs.declared.Mirrors.TheVariants.{Nowhere, Ahead, Behind}
use Rattle.check_ends.specs.Ends.{sds_byte, link_byte, side_byte, object_byte, row_number, mirror_number, rank, turned}
use Rattle.check_ends.specs.Ends.{RowWith, RowFine, Reached, LinkFine, ObjectFine, GroupFine, Begun, Past, Passed}
use Rattle.check_ends.specs.Ends.{back_of, near_of, rank_of}
use Rattle.check_ends.proofs.RowLaws.{four, Numbered, numbered, tells, rank_none, rank_behind, rank_ahead}
use Rattle.check_ends.proofs.MirrorLaws.{behind_is, turned_behind, turned_own}
use Rattle.check_ends.proofs.ReverseLaws.{reverse_link, reverse_held}

-- ---- what a row that is fine has

module _ {b : List ℕ} {i : ℕ} (y : RowFine b i) where
  pub link_there : present (schema_of b) (sds_byte b i) (link_byte b i) ≡ true
  link_there = held_there b refl refl ∙ (ended_held y.fits).0

  pub object_there : present (schema_of b) (sds_byte b i) (object_byte b i) ≡ true
  object_there = held_there b refl refl ∙ (ended_held y.fits).1

  pub fine_link : LinkFine b i
  fine_link = record { is = y.fits.link; held = link_there }

-- of mirrors that are not behind
pub none_back : (m : Mirrors) → ((back near : ℕ) → m ≡ Behind back near → ⊥) → back_of m ≡ 0
none_back Nowhere f = refl
none_back Ahead f = refl
none_back (Behind back near) f = absurd (f back near refl)

module _ {b : List ℕ} {i : ℕ} (at : Reached b i) where
  pub here : Numbered b i
  here = numbered b at.long at.bytes i at.few

  pub sds_small : sds_byte b i < 16
  sds_small = omega (arith, here.is, here.link, here.side, here.object, at.small.sds)

  pub link_small : link_byte b i < 128
  link_small = omega (arith, here.is, here.link, here.side, here.object, at.small.link)

  pub side_small : side_byte b i ≤ 1
  side_small = omega (arith, here.is, here.link, here.side, here.object, at.small.side)

  pub object_small : object_byte b i < 128
  object_small = omega (arith, here.is, here.link, here.side, here.object, at.small.object)

  row_of : LinkFine b i → ObjectFine b i → RowWith b (i + 1) (mirror_number b i) → RowFine b i
  row_of x o mirror = record {
    side = side_small;
    fits = record {
      link = x.is;
      object = o.is;
      within = and_of _ _ (sym (held_there b refl refl) ∙ x.held) (sym (held_there b refl refl) ∙ o.held);
    };
    mirror = mirror;
  }

  -- ---- where the end stands for its own mirror

  pub own_passed : {g : Group} {r : Bool} → Begun b i g → back_of g.mirrors ≡ 0 → Decides (ObjectFine b i) r → Passed b i (then_some r g)
  own_passed {r = true} x none d =
      let self : RowWith b (i + 1) (mirror_number b i) = record { place = i; below = omega arith; is = omega (arith, x.group.back) } in
      record { near = omega (arith, x.near); holds = row_of (x.group.link none) (d.holds refl) self; group = x.group }
  own_passed {r = false} x none d = λ y. d.fails refl (record { is = y.fits.object; held = object_there y })

  -- ---- where it stands behind

  module _ {g : Group} (x : GroupFine b i g) {back near : ℕ} (e : g.mirrors ≡ Behind back near) where
    stands_behind : rank b (link_byte b i) ≡ 2
    stands_behind = sym x.rank ∙ ap rank_of e

    below : mirror_number b i < row_number b i
    below =
        let turn = turned_behind b (link_byte b i) (sds_byte b i) (side_byte b i) stands_behind in
        omega (arith, turn, behind_is b (link_byte b i) stands_behind, here.is, side_small)

    behind_fine : TypesFine b → RowWith b (i + 1) (mirror_number b i) → RowFine b i
    behind_fine types x =
        let k = x.place in
        let l = link_byte b i in
        let other : k ≡ i → ⊥ = λ e. omega (arith, below, x.is, ap (row_number b) e) in
        let less : k < i = omega (arith, x.below) in
        let y = at.rows k less in
        let is : row_number b k ≡ four (sds_byte b i) (reverse_byte b l) (1 - side_byte b i) (object_byte b i)
        = x.is ∙ ap (λ (t : ℕ). t * 256 + object_byte b i) (turned_behind b l (sds_byte b i) (side_byte b i) stands_behind) in
        let (d, r, _, o) = tells (numbered b at.long at.bytes k (omega (arith, at.few))) (sds_byte b i) (reverse_byte b l) (1 - side_byte b i)
        (object_byte b i) (omega (arith, behind_is b l stands_behind, link_small)) (omega arith) here.object is in
        let link : is_link (kind_of (schema_of b) (reverse_byte b l)) ≡ true
        = ap (λ (t : ℕ). is_link (kind_of (schema_of b) t)) (sym r) ∙ y.fits.link in
        let held = sym (held_there b refl refl) ∙ held_there b (sym d) (sym r) ∙ (ended_held y.fits).0 in
        row_of
        (record { is = reverse_link types l link_small link; held = reverse_held types l link_small link (sds_byte b i) held })
        (record {
          is = ap (λ (t : ℕ). is_object (kind_of (schema_of b) t)) (sym o) ∙ y.fits.object;
          held = held_there b (sym d) (sym o) ∙ (ended_held y.fits).1;
        })
        x

    -- w is its number, and past is past its mirror
    pub behind_past : TypesFine b → {w past : ℕ} → w ≡ row_number b i → (past ≤ i + 1) × RowWith b (i + 1) (w - back)
        → Past b i (record { top = g.top; mirrors = Behind back past })
    behind_past types {w} {past} number (h, f) =
        let the_mirror : w - back ≡ mirror_number b i = omega (arith, number, ap back_of e, x.back) in
        record {
          near = h;
          holds = behind_fine types (subst (RowWith b (i + 1)) the_mirror f);
          group = record {
            link = λ z. x.link (ap back_of e ∙ z);
            top = x.top;
            back = omega (arith, ap back_of e, x.back);
            rank = sym stands_behind;
          };
        }

  -- ---- the next row of a group

  pub group_next : {k : ℕ} {g : Group} → GroupFine b k g → Numbered b k → row_number b k < row_number b i → row_number b i ≤ g.top
      → GroupFine b i g
  group_next {k} g z more most =
      let same : row_number b i / 256 ≡ row_number b k / 256 = omega (arith, g.top) in
      let own : (sds_byte b i * 256 + link_byte b i) * 256 + side_byte b i ≡ row_number b i / 256 = omega (arith, here.is, here.object) in
      let last : (sds_byte b k * 256 + link_byte b k) * 256 + side_byte b k ≡ row_number b k / 256 = omega (arith, z.is, z.object) in
      let is = own ∙ same ∙ sym last in
      let d : sds_byte b i ≡ sds_byte b k = omega (arith, is, here.link, here.side, z.link, z.side) in
      let l : link_byte b i ≡ link_byte b k = omega (arith, is, here.link, here.side, z.link, z.side) in
      let s : side_byte b i ≡ side_byte b k = omega (arith, is, here.link, here.side, z.link, z.side) in
      let t : turned b (sds_byte b i) (link_byte b i) (side_byte b i) ≡ turned b (sds_byte b k) (link_byte b k) (side_byte b k)
      = λ j. turned b (d j) (l j) (s j) in
      record {
        link = λ e. record {
          is = ap (λ (m : ℕ). is_link (kind_of (schema_of b) m)) l ∙ (g.link e).is;
          held = (λ j. present (schema_of b) (d j) (l j)) ∙ (g.link e).held;
        };
        top = omega (arith, g.top);
        back = omega (arith, t, g.back, here.is, z.is, is);
        rank = g.rank ∙ ap (rank b) (sym l);
      }

  -- ---- the first row of a group: w is its number, l its link type

  module _ {w l : ℕ} (number : w ≡ row_number b i) (is : l ≡ link_byte b i) where
    first_of : {m : Mirrors} → near_of m ≤ i → (back_of m ≡ 0 → LinkFine b i) → mirror_number b i + back_of m ≡ row_number b i
        → rank_of m ≡ rank b (link_byte b i) → Begun b i (record { top = w - w % 256 + 255; mirrors = m })
    first_of n fine back r = record { near = n; group = record { link = fine; top = omega arith; back = back; rank = r } }

    -- where no mirrors are behind
    first_own : LinkFine b i → {m : Mirrors} → rank_of m ≡ rank b l → (rank_of m ≡ 2 → ⊥) → back_of m ≡ 0 → near_of m ≡ 0
        → Begun b i (record { top = w - w % 256 + 255; mirrors = m })
    first_own fine e other none far =
        let r = e ∙ ap (rank b) is in
        let self = turned_own b (link_byte b i) (sds_byte b i) (side_byte b i) (λ two. other (r ∙ two)) in
        first_of (omega arith) (λ _. fine) (omega (arith, self, here.is)) r

    pub first_none : LinkFine b i → {v : ℕ} → v ≡ value_byte b l → v ≡ 4 → Begun b i (record { top = w - w % 256 + 255; mirrors = Nowhere })
    first_none fine value e = first_own fine (rank_none b l value e) (λ two. omega arith) refl refl

    module _ (pair : value_byte b l ≡ 4 → ⊥) {q : ℕ} (reverse : q ≡ reverse_byte b l) where
      pub first_ahead : LinkFine b i → l ≤ q → Begun b i (record { top = w - w % 256 + 255; mirrors = Ahead })
      first_ahead fine h = first_own fine (rank_ahead b l refl pair reverse h) (λ two. omega arith) refl refl

      pub first_behind : {s near : ℕ} → s ≡ side_byte b i → q < l → near ≤ i
          → Begun b i (record { top = w - w % 256 + 255; mirrors = Behind ((l - q) * 65536 + s * 512 - 256) near })
      first_behind es h n =
          let r = rank_behind b l refl pair reverse h ∙ ap (rank b) is in
          let turn = turned_behind b (link_byte b i) (sds_byte b i) (side_byte b i) (sym r) in
          let again : q ≡ reverse_byte b (link_byte b i) = reverse ∙ ap (reverse_byte b) is in
          first_of n (λ e. absurd (omega arith)) (omega (arith, turn, again, here.is, side_small)) r
