-- Ends put in and taken out keep a schema good. Assumes nothing.
use Prim.Native.Nat.{ℕ, ◌+◌, ◌≤◌}
use native.Mathlib.Omega.{arith}
use mathlib.Core.Path.{◌≡◌, refl, sym, ap, subst, ◌∙◌}
use mathlib.Core.Logic.{⊎_elim}
use mathlib.Core.List.Memᴰ
use mathlib.Core.List.{List, [], ◌∷◌, map}
use mathlib.Core.Bool.{true, false, ◌&&◌, ◌||◌, true≢false}
use lib.Dec.{eqb}
use lib.ListN.{length, length-map}
use borrow.Author.Tests.{not-false, ltb-false, eqb-true, eq-eqb}
use Rattle.rules.specs.01-Lists.{◌∈◌, without, put_all}
use Rattle.rules.specs.02-Limits.{limits}
use Rattle.rules.specs.03-Names.{Name}
use Rattle.rules.specs.04-Schema.{Schema, Kind, Presence, Side, End, kind_of, is_object, is_link, reverse_in, reverse, with_reverse, present}
use Rattle.rules.specs.04-Schema.{type_named, has_end, is_end, side_code, other_side, with_ends}
use Rattle.rules.specs.06-Good.{end_before, Good}
use Rattle.rules.specs.04-Schema.Kind.{paired}
use Rattle.rules.specs.04-Schema.Side.{origin, destination}
use Rattle.rules.specs.09-Refusals.{no_such_name, no_object, no_link, ends_full}
use Rattle.rules.specs.09-Refusals.Outcome.{done}
use Rattle.rules.specs.10-Changes.{both_ends, is_one_of, add_end, add_end_refusals, remove_end, remove_end_refusals}
use Rattle.rules.specs.13-History.{next}
use Rattle.rules.specs.Parts.{of_types, of_presences, of_ends, Types, EndFits, Ends}
use Rattle.rules.proofs.Bools.{or_neither, and_both, and_of, fails}
use Rattle.rules.proofs.01-Lists.{any_at, any_where, Different}
use Rattle.rules.proofs.Edits.{put_all_in, put_all_old, put_all_new, without_in, without_keeps}
use Rattle.rules.proofs.09-Refusals.{verdict_keeps}
use Rattle.rules.proofs.Parts.{parts_of, ended_held}
use Rattle.history.proofs.KindLaws.{alone_or_pair, no_pair, one_reverse}
use Rattle.history.proofs.Parts.{with_ends_good, ordered_less, ordered_more}
use Rattle.rules.proofs.Orders.{side_is, end_order}
use Rattle.history.proofs.Passed.{named_present}

-- ---- an end is known by its four parts

end_is : (x e : End) → is_end x.sds x.link x.side x.object e ≡ true → e ≡ x
end_is x e h =
    let k = eqb (side_code e.side) (side_code x.side) in
    let (a, more) = and_both (eqb e.sds x.sds) (eqb e.link x.link && (k && eqb e.object x.object)) h in
    let (b, rest) = and_both (eqb e.link x.link) (k && eqb e.object x.object) more in
    let (c, f) = and_both k (eqb e.object x.object) rest in
    λ i. record {
      sds = eqb-true e.sds x.sds a i;
      link = eqb-true e.link x.link b i;
      side = side_is e.side x.side (eqb-true (side_code e.side) (side_code x.side) c) i;
      object = eqb-true e.object x.object f i;
    }

itself : (x : End) → is_end x.sds x.link x.side x.object x ≡ true
itself x = rw (
  eq-eqb x.sds x.sds refl,
  eq-eqb x.link x.link refl,
  eq-eqb (side_code x.side) (side_code x.side) refl,
  eq-eqb x.object x.object refl,
)

pub has_in : (es : List End) (x : End) → has_end (of_ends es) x.sds x.link x.side x.object ≡ true → x ∈ es
unfolding has_end
has_in es x h =
    let (e, i, f) = any_where (is_end x.sds x.link x.side x.object) es h in
    subst (λ (y : End). y ∈ es) (end_is x e f) i

pub in_has : (es : List End) (x : End) → x ∈ es → has_end (of_ends es) x.sds x.link x.side x.object ≡ true
unfolding has_end
in_has es x i = any_at (is_end x.sds x.link x.side x.object) i (itself x)

one_in : (es : List End) (x : End) → is_one_of es x ≡ true → x ∈ es
one_in es x h =
    let (e, i, f) = any_where (λ e. is_end e.sds e.link e.side e.object x) es h in
    subst (λ (y : End). y ∈ es) (sym (end_is e x f)) i

in_one : (es : List End) (x : End) → x ∈ es → is_one_of es x ≡ true
in_one es x i = any_at (λ e. is_end e.sds e.link e.side e.object x) i (itself x)

-- ---- the mirror of an end: that of the reverse, on the other side

abbrev mirror : ℕ → End → End
mirror r e = record { sds = e.sds; link = r; side = other_side e.side; object = e.object }

other_twice : (x : Side) → other_side (other_side x) ≡ x
other_twice origin = refl
other_twice destination = refl

mirror_twice : (r : ℕ) (e : End) → mirror e.link (mirror r e) ≡ e
mirror_twice r e = λ i. record { sds = e.sds; link = e.link; side = other_twice e.side i; object = e.object }

-- with an end of a paired link its mirror
abbrev Mirrored : List Kind → List End → Type 0
Mirrored ks es = (e : End) → e ∈ es → (c r : ℕ) → kind_of (of_types ks) e.link ≡ paired c r → mirror r e ∈ es

-- what is asked of an end alone
abbrev Fit : List Kind → List Presence → End → Type 0
Fit ks ps e = EndFits ks (present (of_presences ps) e.sds) e

module _ {ks : List Kind} {ps : List Presence} {es : List End} (ty : Types ks) (g : Ends ks ps es) where
  mirrors : Mirrored ks es
  mirrors e i c r k = has_in es (mirror r e) (g.mirrored e i c r k)

  -- the mirror of an end's mirror is the end
  back : (some : List End) → Mirrored ks some → (e : End) (c r : ℕ) → kind_of (of_types ks) e.link ≡ paired c r → mirror r e ∈ some → e ∈ some
  back some f e c r k i =
      let (c', h) = ty.reverses.in_turn e.link c r k in
      subst (λ (y : End). y ∈ some) (mirror_twice r e) (f (mirror r e) i c' e.link h)

  more_ends : (new : List End) → length es + length new ≤ limits.ends → ((e : End) → e ∈ new → Fit ks ps e) → Different new
      → ((e : End) → e ∈ new → e ∈ es → ⊥) → Mirrored ks new → Ends ks ps (put_all end_before new es)
  more_ends new room fit apart none f = record {
    rows = ordered_more end_order g.rows new room apart none;
    each = λ e i. ⊎_elim (fit e) (g.each e) (put_all_in end_before new es i);
    mirrored = λ e i c r k. in_has (put_all end_before new es) (mirror r e)
        (⊎_elim (λ j. put_all_new end_before new es (f e j c r k)) (λ j. put_all_old end_before new es (mirrors e j c r k)) (put_all_in end_before new es i));
  }

  fewer_ends : (gone : List End) → Mirrored ks gone → Ends ks ps (without (is_one_of gone) es)
  fewer_ends gone f = record {
    rows = ordered_less end_order g.rows (is_one_of gone);
    each = λ e i. g.each e (was i);
    mirrored = λ e i c r k. in_has (without (is_one_of gone) es) (mirror r e)
        (without_keeps (is_one_of gone) es (mirrors e (was i) c r k) (fails (is_one_of gone (mirror r e)) (stays e i c r k)));
  }
    where
      was : {e : End} → e ∈ without (is_one_of gone) es → e ∈ es
      was i = (without_in (is_one_of gone) es i).0

      stays : (e : End) → e ∈ without (is_one_of gone) es → (c r : ℕ) → kind_of (of_types ks) e.link ≡ paired c r
          → is_one_of gone (mirror r e) ≡ true → ⊥
      stays e i c r k h = true≢false (sym (in_one gone e (back gone f e c r k (one_in gone (mirror r e) h))) ∙ (without_in (is_one_of gone) es i).1)

-- ---- the two ends that a call is about: the end alone, or with its mirror

data Both (s : Schema) (a : End) : List End → Type 0 where
  alone : ((c r : ℕ) → kind_of s a.link ≡ paired c r → ⊥) → Both s a (a ∷ [])
  together : (c r : ℕ) → kind_of s a.link ≡ paired c r → Both s a (a ∷ mirror r a ∷ [])

both : (s : Schema) (a : End) → Both s a (both_ends a.sds a.link a.side a.object s)
unfolding both_ends reverse
both s a =
    ⊎_elim
    (λ e. subst (λ (rs : List ℕ). Both s a (a ∷ map (λ r. mirror r a) rs)) (sym e) (alone (no_pair (kind_of s a.link) e)))
    (λ (c, r, e). subst (λ (k : Kind). Both s a (a ∷ map (λ r. mirror r a) (reverse_in k))) (sym e) (together c r e))
    (alone_or_pair (kind_of s a.link))

module _ {s : Schema} (g : Good s) {a : End} where
  both_mirrored : {new : List End} → Both s a new → Mirrored s.types new
  both_mirrored (alone single) e i c r k = absurd (single c r (ap (λ (x : End). kind_of s x.link) (sym (Memᴰ.eq_of_singleton i)) ∙ k))
  both_mirrored (together c' r' k') e i c r k =
      ⊎_elim
      (λ p. let same : r ≡ r' = one_reverse (ap (λ (x : End). kind_of s x.link) (sym p) ∙ k) k' in
      Memᴰ.tail (Memᴰ.head (λ j. mirror (same j) (p j))))
      (λ m. let p : e ≡ mirror r' a = Memᴰ.eq_of_singleton m in
      let same : r ≡ a.link = one_reverse (ap (λ (x : End). kind_of s x.link) (sym p) ∙ k) (g.reverse_in_turn a.link c' r' k').1 in
      Memᴰ.head ((λ j. mirror (same j) (p j)) ∙ mirror_twice r' a))
      (Memᴰ.cases_cons i)

  both_fit : {new : List End} → Both s a new → Fit s.types s.presences a → (e : End) → e ∈ new → Fit s.types s.presences e
  unfolding present
  both_fit (alone single) f e i = subst (λ (x : End). Fit s.types s.presences x) (sym (Memᴰ.eq_of_singleton i)) f
  both_fit (together c r k) f e i =
      ⊎_elim
      (λ p. subst (λ (x : End). Fit s.types s.presences x) (sym p) f)
      (λ m. subst (λ (x : End). Fit s.types s.presences x) (sym (Memᴰ.eq_of_singleton m)) other)
      (Memᴰ.cases_cons i)
    where
      other : Fit s.types s.presences (mirror r a)
      other =
          let (l, o) = ended_held f in
          record {
            link = ap is_link (g.reverse_in_turn a.link c r k).1;
            object = f.object;
            within = and_of (present s a.sds r) (present s a.sds a.object) (g.reverse_present a.sds a.link c r l k) o;
          }

  both_different : {new : List End} → Both s a new → Different new
  both_different (alone single) = (Memᴰ.not-nil, tt)
  both_different (together c r k) =
      ((λ i. g.reverse_different a.link c r k (sym (ap (λ (x : End). x.link) (Memᴰ.eq_of_singleton i)))), (Memᴰ.not-nil, tt))

  both_new : {new : List End} → Both s a new → (a ∈ s.ends → ⊥) → (e : End) → e ∈ new → e ∈ s.ends → ⊥
  both_new (alone single) n e i j = n (subst (λ (x : End). x ∈ s.ends) (Memᴰ.eq_of_singleton i) j)
  both_new (together c r k) n e i j =
      ⊎_elim
      (λ p. n (subst (λ (x : End). x ∈ s.ends) p j))
      (λ m. n (back ty old s.ends (mirrors ty old) a c r k (subst (λ (x : End). x ∈ s.ends) (Memᴰ.eq_of_singleton m) j)))
      (Memᴰ.cases_cons i)
    where
      ty : Types s.types
      ty = (parts_of g).types

      old : Ends s.types s.presences s.ends
      old = (parts_of g).ends

-- ---- the calls

pub remove_end_keeps : (side : Side) (d : ℕ) (n m : Name) (s : Schema) → Good s → Good (next s (remove_end side d n m s))
unfolding remove_end
remove_end_keeps side d n m s g =
    verdict_keeps (λ o. Good (next s o)) (remove_end_refusals side d n m s)
    (done 0 0 0 (with_ends s (without (is_one_of (both_ends d (type_named s d n) side (type_named s d m) s)) s.ends)))
    (λ _ _. g)
    (λ _. with_ends_good g
    (fewer_ends (parts_of g).types (parts_of g).ends (both_ends d (type_named s d n) side (type_named s d m) s)
    (both_mirrored g (both s (record { sds = d; link = type_named s d n; side = side; object = type_named s d m })))))

pub add_end_keeps : (side : Side) (d : ℕ) (n m : Name) (s : Schema) → Good s → Good (next s (add_end side d n m s))
unfolding add_end both_ends present has_end ends_full no_object no_link
add_end_keeps side d n m s g =
    verdict_keeps (λ o. Good (next s o)) (add_end_refusals side d n m s)
    (done 0 0 0 (with_ends s (put_all end_before new s.ends)))
    (λ _ _. g)
    (λ passed.
    let kinds = passed.fails 7 in
    let fit : Fit s.types s.presences a
    = record { link = link kinds; object = object_type kinds; within = there (passed.fails 6) } in
    with_ends_good g
    (more_ends (parts_of g).types (parts_of g).ends new (room (passed.fails 14)) (both_fit g (both s a) fit) (both_different g (both s a))
    (both_new g (both s a) (λ i. true≢false (sym (in_has s.ends a i) ∙ passed.fails 9))) (both_mirrored g (both s a))))
  where
    a : End
    a = record { sds = d; link = type_named s d n; side = side; object = type_named s d m }

    new : List End
    new = both_ends d (type_named s d n) side (type_named s d m) s

    room : ends_full s (length (with_reverse s (type_named s d n))) ≡ false → length s.ends + length new ≤ limits.ends
    room e = omega (
      arith,
      ltb-false limits.ends (length s.ends + length (with_reverse s (type_named s d n))) e,
      length-map (reverse s (type_named s d n)) (λ r. mirror r a),
    )

    there : no_such_name s d n || no_such_name s d m ≡ false → present s d (type_named s d n) && present s d (type_named s d m) ≡ true
    there e =
        let (p, q) = or_neither (no_such_name s d n) (no_such_name s d m) e in
        and_of (present s d (type_named s d n)) (present s d (type_named s d m)) (named_present s d n p) (named_present s d m q)

    link : no_link s (type_named s d n) || no_object s (type_named s d m) ≡ false → is_link (kind_of s (type_named s d n)) ≡ true
    link e = not-false (is_link (kind_of s (type_named s d n))) (or_neither (no_link s (type_named s d n)) (no_object s (type_named s d m)) e).0

    object_type : no_link s (type_named s d n) || no_object s (type_named s d m) ≡ false → is_object (kind_of s (type_named s d m)) ≡ true
    object_type e = not-false (is_object (kind_of s (type_named s d m))) (or_neither (no_link s (type_named s d n)) (no_object s (type_named s d m)) e).1
