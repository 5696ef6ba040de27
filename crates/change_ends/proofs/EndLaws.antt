-- The ends of link types: the refusals that the calls share, test by test, and what they do where none holds. Assumes nothing.
use Prim.Native.Nat.{ℕ, zero, suc, ◌+◌, ◌-◌, ◌≤◌, ◌<◌}
use native.Mathlib.Omega.{arith}
use mathlib.Core.Path.{◌≡◌, refl, sym, ap, ◌∙◌, subst}
use mathlib.Core.List.{List, [], ◌∷◌, ◌++◌, map}
use mathlib.Core.Bool.{Bool, true, false, not, cond, ◌||◌, true≢false, or-false}
use lib.Dec.{ltb}
use lib.ListN.{length}
use borrow.Author.Tests.{eq-eqb, ne_eqb, ltb-true, ltb-false, lt-ltb, le-ltb}
use Rattle.std.specs.Prelude.{Option, Some, None, IfSome, IsSome, is_some}
use Rattle.std.specs.Option.{unwrap_or}
use Rattle.rules.specs.01-Lists.{any, all, without, put, put_all}
use Rattle.rules.specs.02-Limits.{limits}
use Rattle.rules.specs.03-Names.{Name}
use Rattle.rules.specs.04-Schema.{Schema, Side, End, kind_of, is_link, is_object, reverse, with_reverse, type_named, other_side, is_end, has_end}
use Rattle.rules.specs.04-Schema.{with_ends}
use Rattle.rules.specs.06-Good.{end_before, Good}
use Rattle.rules.specs.04-Schema.Kind.{paired}
use Rattle.rules.specs.04-Schema.Side.{origin, destination}
use Rattle.rules.specs.07-Picture.{Sound, picture}
use Rattle.rules.specs.09-Refusals.{◌when◌, Outcome, Refusals, verdict, no_link, no_object, ends_full}
use Rattle.rules.specs.09-Refusals.Outcome.{refused, done}
use Rattle.rules.specs.10-Changes.{both_ends, end_refusals, add_end, is_one_of, remove_end}
use Rattle.rules.proofs.Bools.{or_left, or_right}
use Rattle.rules.proofs.01-Lists.{any_at, any_where}
use Rattle.rules.proofs.Edits.{put_long, put_none, without_keeps, without_same, without_twice}
use Rattle.rules.specs.Read.{read_side}
use Rattle.rules.proofs.09-Refusals.{Left, passes, stops, ends}
use Rattle.rows.specs.Rows.{Reads, Counted}
use Rattle.base.specs.Rows.{type_at}
use Rattle.base.specs.Back.{schema_of, end_count}
use Rattle.base.specs.Stored.{Shows, Stored, less_row}
use Rattle.base.proofs.Back.{sound_good}
use Rattle.base.proofs.Shown.{ends_long}
use Rattle.base.proofs.StoredLaws.{sound_stored, shows_schema, shows_stored, shows_next}
use Rattle.edit.proofs.TakenLaws.{one_end, end_without}
use Rattle.lookup.proofs.KindBytes.{object_byte, link_byte}
use Rattle.conditions.proofs.ReverseLaws.{one_is, none_is}
use Rattle.conditions.specs.Aimed.{Both}
use Rattle.conditions.proofs.AimedLaws.{aimed_well, neither}
use Rattle.change_ends.specs.Ends.{AimPassed, kind_refusals}
use Rattle.conditions.specs.Reverse.{ReverseOf}
use Rattle.base.specs.Tested.{Tested}
use Rattle.lookup.specs.Found.{EndPlace}
use Rattle.base.proofs.TestedLaws.{begun_passes}
use Rattle.conditions.proofs.ConditionLaws.{end_place_has}

-- ---- what the tests of the two types say

module _ {b : List ℕ} {t x : ℕ} (h : t < 128) (r : Reads b (type_at t) x) where
  pub link_is : x ≡ 3 → is_link (kind_of (schema_of b) t) ≡ true
  link_is e = sym (link_byte b t x h r.is) ∙ eq-eqb x 3 e

  link_not : (x ≡ 3 → ⊥) → is_link (kind_of (schema_of b) t) ≡ false
  link_not e = sym (link_byte b t x h r.is) ∙ ne_eqb x 3 e

  object_is : x ≡ 1 → is_object (kind_of (schema_of b) t) ≡ true
  object_is e = sym (object_byte b t x h r.is) ∙ eq-eqb x 1 e

  object_not : (x ≡ 1 → ⊥) → is_object (kind_of (schema_of b) t) ≡ false
  object_not e = sym (object_byte b t x h r.is) ∙ ne_eqb x 1 e

-- whether one of the two that are named is of the wrong kind
abbrev Wrong : Schema → ℕ → Name → Name → Bool → Type 0
Wrong s d n m r = no_link s (type_named s d n) || no_object s (type_named s d m) ≡ r

-- l and o are the types that the names stand for
module _ {b : List ℕ} {d : ℕ} {n m : Name} {l o : ℕ} (both : Both b d n m l o) where
  found_so : {r : Bool} → no_link (schema_of b) l || no_object (schema_of b) o ≡ r → Wrong (schema_of b) d n m r
  found_so e = sym (λ i. no_link (schema_of b) (both.one.named i) || no_object (schema_of b) (both.two.named i)) ∙ e

  pub no_link_there : {x : ℕ} → Reads b (type_at l) x → (x ≡ 3 → ⊥) → Wrong (schema_of b) d n m true
  unfolding no_link
  no_link_there r k = found_so (or_left (no_link (schema_of b) l) (no_object (schema_of b) o) (ap not (link_not both.one.below r k)))

  pub no_object_there : {y : ℕ} → Reads b (type_at o) y → (y ≡ 1 → ⊥) → Wrong (schema_of b) d n m true
  unfolding no_object
  no_object_there r k = found_so (or_right (no_link (schema_of b) l) (no_object (schema_of b) o) (ap not (object_not both.two.below r k)))

  pub both_kinds : {x y : ℕ} → Reads b (type_at l) x → x ≡ 3 → Reads b (type_at o) y → y ≡ 1 → Wrong (schema_of b) d n m false
  unfolding no_link no_object
  both_kinds r u q w = found_so (neither (ap not (link_is both.one.below r u)) (ap not (object_is both.two.below q w)))

-- ---- what a call goes on with, said of the types that were found

pub record Through (b : List ℕ) (d l o : ℕ) : Type 0 where
  pub sound : Sound b
  pub outside : d ≡ 0 → ⊥
  pub below : d < 16
  pub link_below : l < 128
  pub object_below : o < 128

module _ {b : List ℕ} (d : ℕ) (n m : Name) (aimed : AimPassed b d n m) where
  -- what is left of a call
  pub past_aimed : {u effect : Outcome Schema} {rest : Refusals} → Left u (end_refusals d n m (schema_of b) ++ rest) effect
      → Left u (kind_refusals (schema_of b) d n m ++ rest) effect
  unfolding all
  past_aimed left = begun_passes _ aimed refl refl left

  module _ {l o : ℕ} (both : Both b d n m l o) where
    pub goes_through : Through b d l o
    goes_through =
        let aim = aimed_well _ aimed refl in
        record { sound = aim.sound; outside = aim.outside; below = aim.below; link_below = both.one.below; object_below = both.two.below }

    -- what it tests besides, and its effect
    kinds_passed : Tested b (kind_refusals (schema_of b) d n m) 0 0 → {u : Outcome Schema} (rest : ℕ → ℕ → Refusals)
        (effect : ℕ → ℕ → Outcome Schema) → let x = type_named (schema_of b) d n in let y = type_named (schema_of b) d m in
        Left u (end_refusals d n m (schema_of b) ++ rest x y) (effect x y) → Left u (rest l o) (effect l o)
    unfolding all
    kinds_passed kinds rest effect left =
        let passed = begun_passes (rest (type_named (schema_of b) d n) (type_named (schema_of b) d m)) kinds refl refl (past_aimed left) in
        record {
          is = passed.is ∙ sym (λ i. verdict (rest (both.one.named i) (both.two.named i)) (effect (both.one.named i) (both.two.named i)));
        }

-- ---- room for the ends of a link type and its reverse

pub full_told : (b : List ℕ) {k : ℕ} → Counted (end_count b) limits.ends k → (r : Option ℕ) {x y : Bool} → x ≡ is_some r → x ≡ y
    → ltb 512 (k + cond y 2 1) ≡ ends_full (schema_of b) (cond (is_some r) 2 1)
unfolding ends_full
full_told b {k} c r {y = y} e q =
    let many : k ≡ length (schema_of b).ends = omega (arith, c.is, ends_long b) in
    ap (λ (j : ℕ). ltb 512 (j + cond y 2 1)) many ∙ ap (λ (z : Bool). ltb 512 (length (schema_of b).ends + cond z 2 1)) (sym q ∙ e)

pub full_is : {s : Schema} {l : ℕ} (r : Option ℕ) → ReverseOf s l (unwrap_or r limits.types) → IfSome r (λ x. x < limits.types)
    → ends_full s (length (with_reverse s l)) ≡ ends_full s (cond (is_some r) 2 1)
full_is {s} (Some x) rev h = ap (λ (ls : List ℕ). ends_full s (suc (length ls))) (rev.is ∙ one_is h)
full_is {s} None rev h = ap (λ (ls : List ℕ). ends_full s (suc (length ls))) (rev.is ∙ none_is {r = 128} (omega arith))

-- ---- an end and its mirror

pub other_is : (x : ℕ) → x < 2 → read_side (1 - x) ≡ other_side (read_side x)
unfolding read_side
other_is zero h = refl
other_is (suc zero) h = refl
other_is (suc (suc x)) h = absurd (omega arith)

turned_twice : (x : Side) → other_side (other_side x) ≡ x
turned_twice origin = refl
turned_twice destination = refl

abbrev end_of : ℕ → ℕ → Side → ℕ → End
end_of d l side o = record { sds = d; link = l; side = side; object = o }

other_link : (d l r o : ℕ) (x y : Side) → (l ≡ r → ⊥) → is_end d r y o (end_of d l x o) ≡ false
other_link d l r o x y n = rw (ne_eqb l r n, eq-eqb d d refl)

-- an end of a link type is one of its reverse, on the other side
mirror_there : {s : Schema} → Good s → (d l c r o : ℕ) (side : Side) → kind_of s l ≡ paired c r → has_end s d l side o ≡ true
    → has_end s d r (other_side side) o ≡ true
unfolding has_end
mirror_there {s} good d l c r o side pair e =
    let (x, i, q) = any_where (is_end d l side o) s.ends e in
    let it = one_end d l side o x q in
    subst (λ (y : End). has_end s y.sds r (other_side y.side) y.object ≡ true) it
    (good.mirrored x i c r (ap (λ (y : End). kind_of s y.link) it ∙ pair))

-- and where it is none, it is none of the reverse
mirror_free : {s : Schema} → Good s → (d l c r o : ℕ) (side : Side) → kind_of s l ≡ paired c r → has_end s d l side o ≡ false
    → has_end s d r (other_side side) o ≡ false
mirror_free {s} good d l c r o side pair e = go (has_end s d r (other_side side) o) refl
  where
    go : (t : Bool) → has_end s d r (other_side side) o ≡ t → t ≡ false
    go true f =
        let (c', back) = good.reverse_in_turn l c r pair in
        let there = mirror_there good d r c' l o (other_side side) back f in
        absurd (true≢false (sym there ∙ ap (λ (x : Side). has_end s d l x o) (turned_twice side) ∙ e))
    go false f = refl

-- ---- an end put in

abbrev pub added : Side → ℕ → ℕ → ℕ → Schema → Schema
added side d l o s = with_ends s (put_all end_before (both_ends d l side o s) s.ends)

abbrev pub add_rest : Side → ℕ → ℕ → ℕ → Schema → Refusals
add_rest side d l o s = (9 when has_end s d l side o) ∷ (14 when ends_full s (length (with_reverse s l))) ∷ []

pub add_left : (side : Side) (d : ℕ) (n m : Name) (s : Schema) → Left (add_end side d n m s)
    (end_refusals d n m s ++ add_rest side d (type_named s d n) (type_named s d m) s) (done 0 0 0 (added side d (type_named s d n) (type_named s d m) s))
unfolding add_end
add_left side d n m s = record { is = refl }

-- what the call goes on with where nothing refuses
pub record Addable (b : List ℕ) (d : ℕ) (n m : Name) (l o : ℕ) (side : Side) : Type 0 where
  pub through : Through b d l o
  pub free : has_end (schema_of b) d l side o ≡ false
  pub room : ends_full (schema_of b) (length (with_reverse (schema_of b) l)) ≡ false
  pub rule : add_end side d n m (schema_of b) ≡ done 0 0 0 (added side d l o (schema_of b))

module _ (side : Side) {b : List ℕ} {d : ℕ} {n m : Name} {l o : ℕ} (aimed : AimPassed b d n m)
    (kinds : Tested b (kind_refusals (schema_of b) d n m) 0 0) (both : Both b d n m l o) where
  -- the tests that are left, of the types that were found
  pub add_tests : Left (add_end side d n m (schema_of b)) (add_rest side d l o (schema_of b)) (done 0 0 0 (added side d l o (schema_of b)))
  add_tests =
      kinds_passed d n m aimed both kinds (λ l o. add_rest side d l o (schema_of b)) (λ l o. done 0 0 0 (added side d l o (schema_of b)))
      (add_left side d n m (schema_of b))

  -- as the call has tested them
  module _ {x y : Bool} (is : x ≡ has_end (schema_of b) d l side o) (free : x ≡ false) (r : Option ℕ)
      (rev : ReverseOf (schema_of b) l (unwrap_or r limits.types)) (below : IfSome r (λ z. z < limits.types)) (full : y ≡ ends_full (schema_of b) (cond (is_some r) 2 1)) where
    pub add_full : y ≡ true → add_end side d n m (schema_of b) ≡ refused 14 0
    add_full e = stops (passes add_tests (sym is ∙ free)) (full_is r rev below ∙ sym full ∙ e)

    pub addable : y ≡ false → Addable b d n m l o side
    addable e =
        let room = full_is r rev below ∙ sym full ∙ e in
        record {
          through = goes_through d n m aimed both;
          free = sym is ∙ free;
          room = room;
          rule = ends (passes (passes add_tests (sym is ∙ free)) room);
        }

module _ (b : List ℕ) (l : ℕ) (room : ends_full (schema_of b) (length (with_reverse (schema_of b) l)) ≡ false) where
  pub room_first : length (schema_of b).ends < limits.ends
  unfolding ends_full
  room_first = let h = ltb-false 512 (length (schema_of b).ends + suc (length (reverse (schema_of b) l))) room in omega arith

module _ (b : List ℕ) {l r : ℕ} (rev : ReverseOf (schema_of b) l r)
    (room : ends_full (schema_of b) (length (with_reverse (schema_of b) l)) ≡ false) where
  room_both : r < 128 → suc (length (schema_of b).ends) < limits.ends
  unfolding ends_full
  room_both k =
      let h = ltb-false 512 (length (schema_of b).ends + suc (length (reverse (schema_of b) l))) room in
      omega (arith, ap length (rev.is ∙ one_is k))

  module _ (d o : ℕ) (side : Side) {b₁ : List ℕ} (out : Shows b₁ (with_ends (schema_of b) (put end_before (end_of d l side o) (schema_of b).ends))) where
    pub added_one : 128 ≤ r → b₁ ≡ picture (added side d l o (schema_of b))
    unfolding put_all both_ends
    added_one h = out.shown ∙ ap (λ (ls : List ℕ). picture (with_ends (schema_of b) (put_all end_before
        (end_of d l side o ∷ map (λ y. end_of d y (other_side side) o) ls) (schema_of b).ends))) (sym (rev.is ∙ none_is h))

    module _ (k : r < 128) where
      pub room_second : length (schema_of b₁).ends < limits.ends
      room_second =
          omega (arith, ap (λ (s : Schema). length s.ends) (shows_schema out), put_long end_before (end_of d l side o) (schema_of b).ends, room_both k)

      second_none : Sound b → has_end (schema_of b) d l side o ≡ false → has_end (schema_of b₁) d r (other_side side) o ≡ false
      unfolding has_end
      second_none sound e =
          let (c, pair) = rev.pair k in
          ap (λ (s : Schema). has_end s d r (other_side side) o) (shows_schema out)
          ∙ put_none end_before (is_end d r (other_side side) o) (end_of d l side o) (schema_of b).ends
          (other_link d l r o side (other_side side) (λ q. (sound_good sound).reverse_different l c r pair (sym q)))
          (mirror_free (sound_good sound) d l c r o side pair e)

      added_two : {b₂ : List ℕ} → Shows b₂ (with_ends (schema_of b₁) (put end_before (end_of d r (other_side side) o) (schema_of b₁).ends))
          → b₂ ≡ picture (added side d l o (schema_of b))
      unfolding put_all both_ends
      added_two out₂ =
          out₂.shown ∙ ap (λ (s : Schema). picture (with_ends s (put end_before (end_of d r (other_side side) o) s.ends))) (shows_schema out)
          ∙ ap (λ (ls : List ℕ). picture (with_ends (schema_of b) (put_all end_before
          (end_of d l side o ∷ map (λ y. end_of d y (other_side side) o) ls) (schema_of b).ends))) (sym (rev.is ∙ one_is k))

  -- by the numbers of the sides
  module _ (d o x : ℕ) (small : x < 2) {b₁ : List ℕ}
      (out : Shows b₁ (with_ends (schema_of b) (put end_before (end_of d l (read_side x) o) (schema_of b).ends))) (k : r < 128) where
    pub second_free : Sound b → has_end (schema_of b) d l (read_side x) o ≡ false → has_end (schema_of b₁) d r (read_side (1 - x)) o ≡ false
    second_free sound e = ap (λ (z : Side). has_end (schema_of b₁) d r z o) (other_is x small) ∙ second_none d o (read_side x) out k sound e

    pub added_both : {b₂ : List ℕ} → Shows b₂ (with_ends (schema_of b₁) (put end_before (end_of d r (read_side (1 - x)) o) (schema_of b₁).ends))
        → b₂ ≡ picture (added (read_side x) d l o (schema_of b))
    added_both {b₂} out₂ =
        added_two d o (read_side x) out k
        (subst (λ (z : Side). Shows b₂ (with_ends (schema_of b₁) (put end_before (end_of d r z o) (schema_of b₁).ends))) (other_is x small) out₂)

-- ---- an end taken out

abbrev pub removed : Side → ℕ → ℕ → ℕ → Schema → Schema
removed side d l o s = with_ends s (without (is_one_of (both_ends d l side o s)) s.ends)

abbrev pub remove_rest : Side → ℕ → ℕ → ℕ → Schema → Refusals
remove_rest side d l o s = (13 when not (has_end s d l side o)) ∷ []

pub remove_left : (side : Side) (d : ℕ) (n m : Name) (s : Schema) → Left (remove_end side d n m s)
    (end_refusals d n m s ++ remove_rest side d (type_named s d n) (type_named s d m) s) (done 0 0 0 (removed side d (type_named s d n) (type_named s d m) s))
unfolding remove_end
remove_left side d n m s = record { is = refl }

-- what the call goes on with where nothing refuses
pub record Removable (b : List ℕ) (d : ℕ) (n m : Name) (l o row : ℕ) (side : Side) : Type 0 where
  pub through : Through b d l o
  pub place : EndPlace b d l side o row
  pub row_below : row < end_count b
  pub there : has_end (schema_of b) d l side o ≡ true
  pub rule : remove_end side d n m (schema_of b) ≡ done 0 0 0 (removed side d l o (schema_of b))

module _ {b : List ℕ} {d : ℕ} {n m : Name} {l o row : ℕ} {side : Side} (aimed : AimPassed b d n m)
    (kinds : Tested b (kind_refusals (schema_of b) d n m) 0 0) (both : Both b d n m l o) (place : EndPlace b d l side o row) where
  -- the test that is left, of the types that were found
  remove_tests : Left (remove_end side d n m (schema_of b)) (remove_rest side d l o (schema_of b)) (done 0 0 0 (removed side d l o (schema_of b)))
  remove_tests =
      kinds_passed d n m aimed both kinds (λ l o. remove_rest side d l o (schema_of b)) (λ l o. done 0 0 0 (removed side d l o (schema_of b)))
      (remove_left side d n m (schema_of b))

  pub remove_none : end_count b ≤ row → remove_end side d n m (schema_of b) ≡ refused 13 0
  remove_none h = stops remove_tests (ap not (sym (end_place_has refl place) ∙ le-ltb row (end_count b) h))

  pub removable : row < end_count b → Removable b d n m l o row side
  removable h =
      let there = sym (end_place_has refl place) ∙ lt-ltb row (end_count b) h in
      record {
        through = goes_through d n m aimed both;
        place = place;
        row_below = h;
        there = there;
        rule = ends (passes remove_tests (ap not there));
      }

-- without one end, or without it and its mirror
module _ (s : Schema) (d l o : ℕ) (side : Side) where
  abbrev less_one : Schema
  less_one = with_ends s (without (is_end d l side o) s.ends)

  removed_alone : reverse s l ≡ [] → less_one ≡ removed side d l o s
  unfolding both_ends any
  removed_alone e =
      ap (with_ends s) (without_same (is_end d l side o) (is_one_of (end_of d l side o ∷ [])) s.ends (λ x i. sym (or-false (is_end d l side o x))))
      ∙ ap (λ (ls : List ℕ). with_ends s (without (is_one_of (end_of d l side o ∷ map (λ y. end_of d y (other_side side) o) ls)) s.ends)) (sym e)

  removed_pair : (r : ℕ) → reverse s l ≡ r ∷ [] → with_ends less_one (without (is_end d r (other_side side) o) less_one.ends) ≡ removed side d l o s
  unfolding both_ends any
  removed_pair r e =
      ap (with_ends s) (without_twice (is_end d l side o) (is_end d r (other_side side) o) s.ends
      ∙ without_same (λ x. is_end d l side o x || is_end d r (other_side side) o x) (is_one_of (end_of d l side o ∷ end_of d r (other_side side) o ∷ []))
      s.ends
      (λ x i. ap (λ (t : Bool). is_end d l side o x || t) (sym (or-false (is_end d r (other_side side) o x)))))
      ∙ ap (λ (ls : List ℕ). with_ends s (without (is_one_of (end_of d l side o ∷ map (λ y. end_of d y (other_side side) o) ls)) s.ends)) (sym e)

  -- an end of another link type stays
  other_stays : (r : ℕ) (x : Side) → (r ≡ l → ⊥) → has_end s d r x o ≡ true → has_end less_one d r x o ≡ true
  unfolding has_end
  other_stays r x n e =
      let (y, i, q) = any_where (is_end d r x o) s.ends e in
      any_at (is_end d r x o) (without_keeps (is_end d l side o) s.ends i (ap (is_end d l side o) (one_end d r x o y q) ∙ other_link d r l o x side n)) q

-- the bytes without the row of an end are without that end
less_end : {b b₁ : List ℕ} {d l o row : ℕ} {side : Side} → Stored b → EndPlace b d l side o row → row < end_count b
    → Shows b₁ (with_ends (schema_of b) (less_row row (schema_of b).ends)) → Shows b₁ (less_one (schema_of b) d l o side)
less_end {b} {b₁} {d} {l} {o} {row} {side} stored place h out =
    subst (λ (es : List End). Shows b₁ (with_ends (schema_of b) es)) (sym (end_without stored row d l side o h (place.found h))) out

module _ {b : List ℕ} (sound : Sound b) (x : ℕ) {d l o row : ℕ} (place : EndPlace b d l (read_side x) o row) (h : row < end_count b) {b₁ : List ℕ}
    (out : Shows b₁ (with_ends (schema_of b) (less_row row (schema_of b).ends))) {r : ℕ} (rev : ReverseOf (schema_of b) l r) where
  first_gone : Shows b₁ (less_one (schema_of b) d l o (read_side x))
  first_gone = less_end (sound_stored sound) place h out

  pub removed_one : 128 ≤ r → b₁ ≡ picture (removed (read_side x) d l o (schema_of b))
  removed_one h = first_gone.shown ∙ ap picture (removed_alone (schema_of b) d l o (read_side x) (rev.is ∙ none_is h))

  module _ (small : x < 2) (k : r < 128) {m : ℕ} (mirror : EndPlace b₁ d r (read_side (1 - x)) o m) where
    mirror_place : EndPlace b₁ d r (other_side (read_side x)) o m
    mirror_place = subst (λ (z : Side). EndPlace b₁ d r z o m) (other_is x small) mirror

    module _ (e : has_end (schema_of b) d l (read_side x) o ≡ true) where
      pub mirror_row : m < end_count b₁
      mirror_row =
          let (c, pair) = rev.pair k in
          let there = mirror_there (sound_good sound) d l c r o (read_side x) pair e in
          let stays = other_stays (schema_of b) d l o (read_side x) r (other_side (read_side x)) ((sound_good sound).reverse_different l c r pair) there in
          ltb-true m (end_count b₁)
          (end_place_has refl mirror_place ∙ ap (λ (s : Schema). has_end s d r (other_side (read_side x)) o) (shows_schema first_gone) ∙ stays)

      pub removed_both : {b₂ : List ℕ} → Shows b₂ (with_ends (schema_of b₁) (less_row m (schema_of b₁).ends))
          → b₂ ≡ picture (removed (read_side x) d l o (schema_of b))
      removed_both out₂ =
          (shows_next (λ s. less_one s d r o (other_side (read_side x))) first_gone (less_end (shows_stored first_gone) mirror_place mirror_row out₂)).shown
          ∙ ap picture (removed_pair (schema_of b) d l o (read_side x) r (rev.is ∙ one_is k))

  -- so it is found, and in its row
  pub mirror_found : x < 2 → r < 128 → (m : Option ℕ) → EndPlace b₁ d r (read_side (1 - x)) o (unwrap_or m (end_count b₁))
      → has_end (schema_of b) d l (read_side x) o ≡ true → IsSome m
  mirror_found small k (Some m) mirror e = refl
  mirror_found small k None mirror e = absurd (omega (arith, mirror_row small k mirror e))

  pub mirror_at : {m : Option ℕ} {i : ℕ} → m ≡ Some i → EndPlace b₁ d r (read_side (1 - x)) o (unwrap_or m (end_count b₁))
      → EndPlace b₁ d r (read_side (1 - x)) o i
  mirror_at e mirror = subst (λ (y : Option ℕ). EndPlace b₁ d r (read_side (1 - x)) o (unwrap_or y (end_count b₁))) e mirror
