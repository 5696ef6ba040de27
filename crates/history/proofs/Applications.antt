-- Apply and unapply keep a schema good. Assumes nothing.
use Prim.Native.Nat.{ℕ, ◌+◌, ◌≤◌}
use mathlib.Core.Path.{◌≡◌, refl, sym, subst, ◌∙◌}
use mathlib.Core.List.Memᴰ
use mathlib.Core.List.{List, [], ◌∷◌}
use mathlib.Core.Bool.{Bool, true, false, not, ◌&&◌, ◌||◌, true≢false}
use lib.ListN.{length}
use borrow.Author.Tests.{not-false, ltb-false, eq-eqb}
use Rattle.rules.specs.01-Lists.{◌∈◌, any, without, put, put_all}
use Rattle.rules.specs.02-Limits.{limits}
use Rattle.rules.specs.03-Names.{Name}
use Rattle.rules.specs.04-Schema.{Schema, Kind, Presence, Application, kind_of, is_object, is_attribute, is_link, present, type_named, applied}
use Rattle.rules.specs.04-Schema.{is_application, with_applications}
use Rattle.rules.specs.06-Good.{application_before, Good}
use Rattle.rules.specs.09-Refusals.{no_such_name, no_object, no_attribute, no_link, applications_full}
use Rattle.rules.specs.09-Refusals.Outcome.{done}
use Rattle.rules.specs.10-Changes.{apply, apply_refusals, unapply, unapply_refusals}
use Rattle.rules.specs.13-History.{next}
use Rattle.rules.specs.Parts.{of_presences, ApplicationFits, Applications}
use Rattle.rules.proofs.Bools.{or_neither, and_of}
use Rattle.rules.proofs.01-Lists.{any_at}
use Rattle.rules.proofs.Edits.{put_each, without_in}
use Rattle.rules.proofs.09-Refusals.{verdict_keeps}
use Rattle.rules.proofs.Parts.{parts_of}
use Rattle.history.proofs.Parts.{with_applications_good, ordered_less, ordered_more}
use Rattle.rules.proofs.Orders.{application_order}
use Rattle.history.proofs.Passed.{named_present}

module _ {ks : List Kind} {ps : List Presence} {xs : List Application} (g : Applications ks ps xs) where
  fewer : (p : Application → Bool) → Applications ks ps (without p xs)
  fewer p = record { rows = ordered_less application_order g.rows p; each = λ x i. g.each x (without_in p xs i).0 }

  one_more : (x : Application) → length xs + 1 ≤ limits.applications → ApplicationFits ks (present (of_presences ps) x.sds) x
      → any (is_application x.sds x.to x.attribute) xs ≡ false → Applications ks ps (put application_before x xs)
  unfolding put_all
  one_more x room fits new = record {
    rows = ordered_more application_order g.rows (x ∷ []) room (Memᴰ.not-nil, tt)
        (λ y m i. true≢false (sym (any_at test (subst (λ (z : Application). z ∈ xs) (Memᴰ.eq_of_singleton m) i) itself) ∙ new));
    each = λ y i. put_each application_before i (λ z. ApplicationFits ks (present (of_presences ps) z.sds) z) fits (g.each y);
  }
    where
      test : Application → Bool
      test = is_application x.sds x.to x.attribute

      itself : test x ≡ true
      itself = rw (eq-eqb x.sds x.sds refl, eq-eqb x.to x.to refl, eq-eqb x.attribute x.attribute refl)

pub unapply_keeps : (d : ℕ) (a n : Name) (s : Schema) → Good s → Good (next s (unapply d a n s))
unfolding unapply
unapply_keeps d a n s g =
    verdict_keeps (λ o. Good (next s o)) (unapply_refusals d a n s)
    (done 0 0 0 (with_applications s (without (is_application d (type_named s d n) (type_named s d a)) s.applications)))
    (λ _ _. g)
    (λ _. with_applications_good g (fewer (parts_of g).applications (is_application d (type_named s d n) (type_named s d a))))

pub apply_keeps : (d : ℕ) (a n : Name) (s : Schema) → Good s → Good (next s (apply d a n s))
unfolding apply present applied applications_full no_attribute no_object no_link
apply_keeps d a n s g =
    verdict_keeps (λ o. Good (next s o)) (apply_refusals d a n s)
    (done 0 0 0 (with_applications s (put application_before x s.applications)))
    (λ _ _. g)
    (λ passed.
    let kinds = passed.fails 7 in
    with_applications_good g
    (one_more (parts_of g).applications x (room (passed.fails 14))
    (record { attribute = attribute kinds; to = to kinds; within = there (passed.fails 6) }) (passed.fails 9)))
  where
    x : Application
    x = record { sds = d; to = type_named s d n; attribute = type_named s d a }

    room : applications_full s 1 ≡ false → length s.applications + 1 ≤ limits.applications
    room e = ltb-false limits.applications (length s.applications + 1) e

    there : no_such_name s d a || no_such_name s d n ≡ false → present s d (type_named s d n) && present s d (type_named s d a) ≡ true
    there e =
        let (p, q) = or_neither (no_such_name s d a) (no_such_name s d n) e in
        and_of (present s d (type_named s d n)) (present s d (type_named s d a)) (named_present s d n q) (named_present s d a p)

    attribute : no_attribute s (type_named s d a) || (no_object s (type_named s d n) && no_link s (type_named s d n)) ≡ false
        → is_attribute (kind_of s (type_named s d a)) ≡ true
    attribute e = not-false (is_attribute (kind_of s (type_named s d a)))
        (or_neither (no_attribute s (type_named s d a)) (no_object s (type_named s d n) && no_link s (type_named s d n)) e).0

    to : no_attribute s (type_named s d a) || (no_object s (type_named s d n) && no_link s (type_named s d n)) ≡ false
        → is_object (kind_of s (type_named s d n)) || is_link (kind_of s (type_named s d n)) ≡ true
    to e = go (is_object (kind_of s (type_named s d n))) (is_link (kind_of s (type_named s d n)))
        (or_neither (no_attribute s (type_named s d a)) (no_object s (type_named s d n) && no_link s (type_named s d n)) e).1
      where
        go : (p q : Bool) → not p && not q ≡ false → p || q ≡ true
        go true q h = refl
        go false true h = refl
        go false false h = absurd (true≢false h)
