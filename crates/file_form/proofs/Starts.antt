-- Longest starts of what stands one behind the other. Assumes nothing.
use Prim.Native.Nat.{ℕ, suc, ◌+◌, ◌≤◌, ◌<◌}
use native.Mathlib.Omega.{arith}
use mathlib.Core.Path.{◌≡◌, refl, sym, ap, subst, ◌∙◌}
use mathlib.Core.List.{List, [], ◌∷◌, ◌++◌}
use mathlib.Core.Bool.{Bool, true, false, true≢false, false≢true}
use lib.Dec.{ltb, eqb}
use lib.ListN.{length, take, drop, length-append}
use borrow.Author.Tests.{ltb-true, ltb-false, eq-eqb, ne_eqb, eqb-true}
use Rattle.rules.specs.11-File.{Followed, shared, Longest}
use Rattle.file_form.specs.Walk.{Start}

-- ---- shared bytes

pub shared_same : (x : ℕ) (l o : List ℕ) → shared (x ∷ l) (x ∷ o) ≡ suc (shared l o)
unfolding shared
shared_same x l o = rw (eq-eqb x x refl)

pub shared_apart : (x y : ℕ) (l o : List ℕ) → (x ≡ y → ⊥) → shared (x ∷ l) (y ∷ o) ≡ 0
unfolding shared
shared_apart x y l o n = rw (ne_eqb x y n)

pub shared_most : (l o : List ℕ) → (shared l o ≤ length l) × (shared l o ≤ length o)
unfolding shared
shared_most [] o = (omega arith, omega arith)
shared_most (x ∷ l) [] = (omega arith, omega arith)
shared_most (x ∷ l) (y ∷ o) = go (eqb x y) refl (shared_most l o)
  where
    go : (t : Bool) → eqb x y ≡ t → (shared l o ≤ length l) × (shared l o ≤ length o)
        → (shared (x ∷ l) (y ∷ o) ≤ suc (length l)) × (shared (x ∷ l) (y ∷ o) ≤ suc (length o))
    go true e (h, k) = rw e (omega arith, omega arith)
    go false e (h, k) = rw e (omega arith, omega arith)

pub shared_self : (l : List ℕ) → shared l l ≡ length l
unfolding shared
shared_self [] = refl
shared_self (x ∷ l) = shared_same x l l ∙ ap suc (shared_self l)

-- what stands behind counts only where all before it is shared
shared_short : (l a b : List ℕ) → shared l a < length a → shared l (a ++ b) ≡ shared l a
unfolding shared
shared_short [] a b h = refl
shared_short (x ∷ l) [] b h = absurd (omega arith)
shared_short (x ∷ l) (y ∷ a) b h = go (eqb x y) refl (shared_short l a b)
  where
    go : (t : Bool) → eqb x y ≡ t → (shared l a < length a → shared l (a ++ b) ≡ shared l a)
        → shared (x ∷ l) (y ∷ (a ++ b)) ≡ shared (x ∷ l) (y ∷ a)
    go true e ih =
        let more : suc (shared l a) < suc (length a) = rw e at h in
        rw (e, ih (omega arith))
    go false e ih = rw e

shared_long : (l a b : List ℕ) → shared l a ≡ length a → shared l (a ++ b) ≡ length a + shared (drop (length a) l) b
unfolding shared
shared_long l [] b h = omega arith
shared_long [] (y ∷ a) b h = absurd (omega arith)
shared_long (x ∷ l) (y ∷ a) b h = go (eqb x y) refl (shared_long l a b)
  where
    go : (t : Bool) → eqb x y ≡ t → (shared l a ≡ length a → shared l (a ++ b) ≡ length a + shared (drop (length a) l) b)
        → shared (x ∷ l) (y ∷ (a ++ b)) ≡ suc (length a) + shared (drop (length a) l) b
    go true e ih =
        let more : suc (shared l a) ≡ suc (length a) = rw e at h in
        rw e (omega (arith, ih (omega arith)))
    go false e ih =
        let none : 0 ≡ suc (length a) = rw e at h in
        absurd (omega arith)

-- all of a is shared: l begins with it
pub shared_start : (l a : List ℕ) → shared l a ≡ length a → take (length a) l ≡ a
unfolding shared
shared_start l [] h = refl
shared_start [] (y ∷ a) h = absurd (omega arith)
shared_start (x ∷ l) (y ∷ a) h = go (eqb x y) refl (shared_start l a)
  where
    go : (t : Bool) → eqb x y ≡ t → (shared l a ≡ length a → take (length a) l ≡ a) → x ∷ take (length a) l ≡ y ∷ a
    go true e ih =
        let more : suc (shared l a) ≡ suc (length a) = rw e at h in
        rw (eqb-true x y e, ih (omega arith))
    go false e ih =
        let none : 0 ≡ suc (length a) = rw e at h in
        absurd (omega arith)

-- ---- another word for the same

module _ {L M : List ℕ → Type 0} (there : (o : List ℕ) → L o → M o) (back : (o : List ℕ) → M o → L o) where
  pub start_as : {l : List ℕ} {k : ℕ} {whole : Bool} → Start L l k whole → Start M l k whole
  start_as s =
      record {
        longest = record {
          some = s.longest.some;
          is = there s.longest.some s.longest.is;
          reached = s.longest.reached;
          most = λ o m. s.longest.most o (back o m);
        };
        passed = s.passed;
        stopped = λ e o m. s.stopped e o (back o m);
      }

-- ---- all of one width: the number tells whether it is whole

module _ {L : List ℕ → Type 0} (w : ℕ) (wide : (o : List ℕ) → L o → length o ≡ w) {l : List ℕ} where
  pub start_wide : Longest L l w → Start L l w true
  start_wide s =
      record {
        longest = s;
        passed = λ e. wide s.some s.is;
        stopped = λ e. absurd (true≢false e);
      }

  pub start_short : {k : ℕ} → k < w → Longest L l k → Start L l k false
  start_short h s =
      record {
        longest = s;
        passed = λ e. absurd (false≢true e);
        stopped = λ e o m. omega (arith, wide o m, s.most o m);
      }

-- nothing more
pub start_none : (l : List ℕ) → Start (λ o. o ≡ []) l 0 true
start_none l =
    start_wide 0 (λ o e. ap length e) (record {
      some = [];
      is = refl;
      reached = omega (arith, shared_most l []);
      most = λ o e. omega (arith, (shared_most l o).1, ap length e);
    })

-- ---- one behind the other

-- l in two parts; what may stand behind can hang on what stands in front
pub record Then (A : List ℕ → Type 0) (B : List ℕ → List ℕ → Type 0) (l : List ℕ) : Type 0 where
  pub front : List ℕ
  pub back : List ℕ
  pub is : l ≡ front ++ back
  pub first : A front
  pub second : B front back

-- where it does not, that is `Followed`
module _ {A B : List ℕ → Type 0} {l : List ℕ} where
  pub then_followed : Then A (λ a. B) l → Followed A B l
  then_followed t = record { front = t.front; back = t.back; is = t.is; first = t.first; second = t.second }

  pub followed_then : Followed A B l → Then A (λ a. B) l
  followed_then t = record { front = t.front; back = t.back; is = t.is; first = t.first; second = t.second }

-- there is one that is L
pub record Some (L : List ℕ → Type 0) : Type 0 where
  pub it : List ℕ
  pub is : L it

module _ {A : List ℕ → Type 0} {B : List ℕ → List ℕ → Type 0} {l : List ℕ} {k : ℕ} where
  -- the front is not whole, and behind every front something can stand
  pub then_stop : ((a : List ℕ) → A a → Some (B a)) → Start A l k false → Start (Then A B) l k false
  then_stop live s =
      let a = s.longest.some in
      let b = live a s.longest.is in
      record {
        longest = record {
          some = a ++ b.it;
          is = record { front = a; back = b.it; is = refl; first = s.longest.is; second = b.is };
          reached = shared_short l a b.it (s.stopped refl a s.longest.is) ∙ s.longest.reached;
          most = λ o m. rw m.is (omega (arith, shared_short l m.front m.back (s.stopped refl m.front m.first), s.longest.most m.front m.first));
        };
        passed = λ e. absurd (false≢true e);
        stopped = λ e o m.
            let short = s.stopped refl m.front m.first in
            rw (m.is, length-append) (omega (arith, shared_short l m.front m.back short));
      }

  -- the front is whole, and no other front begins l: what stands behind decides
  pub then_pass : ((a : List ℕ) → A a → shared l a ≡ length a → length a ≡ k) → Start A l k true → {j : ℕ} {whole : Bool}
      → Start (B (take k l)) (drop k l) j whole → Start (Then A B) l (k + j) whole
  then_pass alone s {j} {whole} behind-it =
      record {
        longest = record {
          some = a ++ b;
          is = record { front = a; back = b; is = refl; first = s.longest.is; second = t.longest.is };
          reached = behind b ∙ ap (λ n. k + n) t.longest.reached;
          most = λ o m. rw m.is (one m.front m.back m.first m.second (ltb (shared l m.front) (length m.front)) refl);
        };
        passed = λ e. length-append a b ∙ omega (arith, long, t.passed e);
        stopped = λ e o m. rw (m.is, length-append) (less e m.front m.back m.first m.second (ltb (shared l m.front) (length m.front)) refl);
      }
    where
      a : List ℕ
      a = s.longest.some

      long : length a ≡ k
      long = s.passed refl

      front : take k l ≡ a
      front = ap (λ n. take n l) (sym long) ∙ shared_start l a (s.longest.reached ∙ sym long)

      t : Start (B a) (drop k l) j whole
      t = subst (λ (x : List ℕ). Start (B x) (drop k l) j whole) front behind-it

      b : List ℕ
      b = t.longest.some

      behind : (c : List ℕ) → shared l (a ++ c) ≡ k + shared (drop k l) c
      behind c = shared_long l a c (s.longest.reached ∙ sym long) ∙ rw long

      -- another front that begins l is this one
      same : (f : List ℕ) → A f → length f ≤ shared l f → f ≡ a
      same f m h =
          let all : shared l f ≡ length f = omega (arith, shared_most l f) in
          sym (shared_start l f all) ∙ ap (λ n. take n l) (alone f m all) ∙ front

      one : (f c : List ℕ) → A f → B f c → (t : Bool) → ltb (shared l f) (length f) ≡ t → shared l (f ++ c) ≤ k + j
      one f c m n true e = omega (arith, shared_short l f c (ltb-true (shared l f) (length f) e), s.longest.most f m)
      one f c m n false e =
          let is = same f m (ltb-false (shared l f) (length f) e) in
          rw is (omega (arith, behind c, t.longest.most c (subst (λ (x : List ℕ). B x c) is n)))

      less : whole ≡ false → (f c : List ℕ) → A f → B f c → (t : Bool) → ltb (shared l f) (length f) ≡ t → shared l (f ++ c) < length f + length c
      less w f c m n true e = omega (arith, shared_short l f c (ltb-true (shared l f) (length f) e), ltb-true (shared l f) (length f) e)
      less w f c m n false e =
          let is = same f m (ltb-false (shared l f) (length f) e) in
          rw is (omega (arith, behind c, long, t.stopped w c (subst (λ (x : List ℕ). B x c) is n)))
