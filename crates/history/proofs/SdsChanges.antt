-- New SDS and remove SDS keep a schema good. Assumes nothing.
use Prim.Native.Nat.{ℕ, ◌<◌}
use native.Mathlib.Omega.{arith}
use mathlib.Core.Path.{◌≡◌, refl, sym, ap, subst, ◌∙◌}
use mathlib.Core.Logic.{⊎_elim}
use mathlib.Core.List.{List, []}
use mathlib.Core.Bool.{Bool, true, false, not, ◌&&◌, true≢false, false≢true}
use lib.Dec.{leb, ltb}
use lib.ListN.{length, get_or, set, length-set, get_or-eq_default}
use lib.Seq.{get_or-set_other}
use borrow.Author.Tests.{not-true, leb-false, ltb-true, ltb-false}
use Rattle.rules.specs.01-Lists.{◌∈◌, any}
use Rattle.rules.specs.02-Limits.{limits}
use Rattle.rules.specs.03-Names.{Name, well_formed, blank, same_name}
use Rattle.rules.specs.04-Schema.{Schema, Presence, used_sds, present, with_sdss}
use Rattle.rules.specs.06-Good.{Good}
use Rattle.rules.specs.09-Refusals.{◌held_by◌, unknown_sds, sds_name_taken, types_in, free_sdss, no_free_sds}
use Rattle.rules.specs.09-Refusals.Outcome.{done}
use Rattle.rules.specs.10-Changes.{new_sds, new_sds_number, new_sds_refusals, remove_sds, remove_sds_refusals}
use Rattle.rules.specs.13-History.{next}
use Rattle.rules.specs.Parts.{of_sdss, Sdss}
use Rattle.rules.proofs.Bools.{or_neither, and_of}
use Rattle.rules.proofs.01-Lists.{any_at, place_in, numbers_in}
use Rattle.rules.proofs.03-Names.{same_turned}
use Rattle.rules.proofs.Edits.{set_either}
use Rattle.rules.proofs.05-Descent.{used_below}
use Rattle.rules.proofs.09-Refusals.{verdict_keeps, none_passes}
use Rattle.rules.proofs.Parts.{presence_there, parts_of}
use Rattle.history.proofs.Parts.{with_sdss_good}
use Rattle.history.proofs.Passed.{aimed, formed}

-- ---- one name written

-- an SDS is used where its name is not blank, so alike where the names are the same
used_alike : (ns ms : List Name) (e : ℕ) → get_or ns e [] ≡ get_or ms e [] → used_sds (of_sdss ns) e ≡ used_sds (of_sdss ms) e
unfolding used_sds
used_alike ns ms e q = ap (λ (m : Name). not (blank m)) q

name_used : (ns : List Name) (e : ℕ) (m : Name) → get_or ns e [] ≡ m → used_sds (of_sdss ns) e ≡ not (blank m)
unfolding used_sds
name_used ns e m q = ap (λ (m : Name). not (blank m)) q

used_inside : (ns : List Name) (e : ℕ) → used_sds (of_sdss ns) e ≡ true → e < length ns
used_inside ns e u = go (ltb e (length ns)) refl
  where
    go : (t : Bool) → ltb e (length ns) ≡ t → e < length ns
    go true q = ltb-true e (length ns) q
    go false q = absurd (false≢true (sym (name_used ns e [] (get_or-eq_default ns [] {n = e} (ltb-false e (length ns) q))) ∙ u))

module _ {ns : List Name} (g : Sdss ns) (d : ℕ) (h : d < length ns) where
  system_used : used_sds (of_sdss ns) 0 ≡ true
  system_used = name_used ns 0 _ g.system

  -- an SDS that goes
  less_sds : (d ≡ 0 → ⊥) → Sdss (set ns d [])
  less_sds other = record {
    room = length-set ns d [] ∙ g.room;
    named = λ e u. subst (λ (m : Name). well_formed m ≡ true) (sym (was e u)) (g.named e (sym (used_alike (set ns d []) ns e (was e u)) ∙ u));
    unique = λ e f u v q. g.unique e f (sym (used_alike (set ns d []) ns e (was e u)) ∙ u) (sym (used_alike (set ns d []) ns f (was f v)) ∙ v)
        (rw (was e u, was f v) at q);
    system = was 0 (used_alike (set ns d []) ns 0 (get_or-set_other ns d 0 [] [] (λ e. other (sym e))) ∙ system_used) ∙ g.system;
  }
    where
      was : (e : ℕ) → used_sds (of_sdss (set ns d [])) e ≡ true → get_or (set ns d []) e [] ≡ get_or ns e []
      was e u = ⊎_elim (λ p. absurd (false≢true (sym (name_used (set ns d []) e [] p.1) ∙ u))) (λ p. p.1) (set_either ns d [] [] h e)

  -- an SDS more, under a name that none bears
  more_sds : (n : Name) → used_sds (of_sdss ns) d ≡ false → well_formed n ≡ true → any (λ m. not (blank m) && same_name m n) ns ≡ false → Sdss (set ns d n)
  more_sds n free formed new = record {
    room = length-set ns d n ∙ g.room;
    named = λ e u.
        ⊎_elim
        (λ p. subst (λ (m : Name). well_formed m ≡ true) (sym p.1) formed)
        (λ p. subst (λ (m : Name). well_formed m ≡ true) (sym p.1) (g.named e (sym (used_alike (set ns d n) ns e p.1) ∙ u)))
        (set_either ns d n [] h e);
    unique = λ e f u v q.
        ⊎_elim
        (λ p. ⊎_elim
        (λ r. p.0 ∙ sym r.0)
        (λ r. absurd (clash f (sym (used_alike (set ns d n) ns f r.1) ∙ v) (same_turned (get_or ns f []) n ∙ (rw (p.1, r.1) at q))))
        (set_either ns d n [] h f))
        (λ p. ⊎_elim
        (λ r. absurd (clash e (sym (used_alike (set ns d n) ns e p.1) ∙ u) (rw (p.1, r.1) at q)))
        (λ r. g.unique e f (sym (used_alike (set ns d n) ns e p.1) ∙ u) (sym (used_alike (set ns d n) ns f r.1) ∙ v) (rw (p.1, r.1) at q))
        (set_either ns d n [] h f))
        (set_either ns d n [] h e);
    system = ⊎_elim
        (λ p. absurd (true≢false (sym system_used ∙ ap (used_sds (of_sdss ns)) p.0 ∙ free)))
        (λ p. p.1 ∙ g.system)
        (set_either ns d n [] h 0);
  }
    where
      clash : (e : ℕ) → used_sds (of_sdss ns) e ≡ true → same_name (get_or ns e []) n ≡ true → ⊥
      clash e u q =
          true≢false (sym (any_at (λ m. not (blank m) && same_name m n) (place_in [] ns e (used_inside ns e u))
          (and_of (not (blank (get_or ns e []))) (same_name (get_or ns e []) n) (sym (name_used ns e (get_or ns e []) refl) ∙ u) q)) ∙ new)

-- ---- the calls

pub remove_sds_keeps : (d : ℕ) (s : Schema) → Good s → Good (next s (remove_sds d s))
unfolding remove_sds unknown_sds types_in present
remove_sds_keeps d s g =
    verdict_keeps (λ o. Good (next s o)) (remove_sds_refusals d s) (done 0 0 0 (with_sdss s (set s.sdss d [])))
    (λ _ _. g)
    (λ passed. with_sdss_good g (less_sds (parts_of g).sdss d (inside (passed.fails 2)) (aimed d (passed.fails 3))) (still (passed.fails 12)))
  where
    inside : unknown_sds s d ≡ false → d < length s.sdss
    inside e = omega (arith, leb-false limits.sdss d (or_neither (leb limits.sdss d) (not (used_sds s d)) e).0, g.sds_room)

    still : (12 held_by types_in s d).holds ≡ false → (p : Presence) → p ∈ s.presences → used_sds (of_sdss (set s.sdss d [])) p.sds ≡ true
    still e p i =
        used_alike (set s.sdss d []) s.sdss p.sds
        (get_or-set_other s.sdss d p.sds [] []
        (λ q. true≢false
        (sym (subst (λ (x : ℕ). present s x p.type ≡ true) q (presence_there i))
        ∙ none_passes 12 (present s d) e p.type (used_below g p.type (g.presence_type p i)))))
        ∙ (parts_of g).presences.rows.in_used p i

pub new_sds_keeps : (n : Name) (s : Schema) → Good s → Good (next s (new_sds n s))
unfolding new_sds sds_name_taken no_free_sds free_sdss used_sds
new_sds_keeps n s g =
    verdict_keeps (λ o. Good (next s o)) (new_sds_refusals n s) (done (new_sds_number s) 0 0 (with_sdss s (set s.sdss (new_sds_number s) n)))
    (λ _ _. g)
    (λ passed.
    let (inside, free) = lowest (passed.fails 14) in
    with_sdss_good g (more_sds (parts_of g).sdss (new_sds_number s) inside n free (formed n (passed.fails 4)) (passed.fails 11)) (still inside free))
  where
    lowest : no_free_sds s ≡ false → (new_sds_number s < length s.sdss) × (used_sds (of_sdss s.sdss) (new_sds_number s) ≡ false)
    lowest e =
        let some = ltb-false (length (free_sdss s)) 1 e in
        let (a, b, c) = numbers_in (λ d. not (used_sds s d)) 0 limits.sdss (new_sds_number s) (place_in 0 (free_sdss s) 0 (omega arith)) in
        (omega (arith, g.sds_room), not-true (used_sds s (new_sds_number s)) c)

    still : new_sds_number s < length s.sdss → used_sds (of_sdss s.sdss) (new_sds_number s) ≡ false
        → (p : Presence) → p ∈ s.presences → used_sds (of_sdss (set s.sdss (new_sds_number s) n)) p.sds ≡ true
    still inside free p i =
        let u = (parts_of g).presences.rows.in_used p i in
        ⊎_elim
        (λ w. absurd (true≢false (sym u ∙ ap (used_sds (of_sdss s.sdss)) w.0 ∙ free)))
        (λ w. used_alike (set s.sdss (new_sds_number s) n) s.sdss p.sds w.1 ∙ u)
        (set_either s.sdss (new_sds_number s) n [] inside p.sds)
