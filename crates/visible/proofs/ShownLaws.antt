-- A set that is gathered row by row, and the numbers that the rows of a sound base hold. Assumes nothing.
use Prim.Native.Nat.{ℕ, zero, suc, ◌+◌, ◌≤◌, ◌<◌}
use native.Mathlib.Omega.{arith}
use mathlib.Core.Path.{◌≡◌, refl, sym, ap, ◌∙◌}
use mathlib.Core.Logic.{⊎_elim}
use mathlib.Core.List.{List}
use mathlib.Core.Bool.{Bool, true, false, ◌&&◌, ◌||◌, true≢false, false≢true}
use lib.Dec.{eqb}
use borrow.Author.Count.{below_more}
use borrow.Author.Tests.{eqb-true, eqb-false, eq-eqb}
use Rattle.std.specs.List.{list_any, range_with_len}
use Rattle.rules.specs.01-Lists.{◌∈◌, any}
use Rattle.rules.specs.04-Schema.{Presence, Application, End}
use Rattle.rules.proofs.Bools.{same_test, or_cases, or_left, or_right, and_both, and_of}
use Rattle.rules.proofs.01-Lists.{any_at, any_where}
use Rattle.base.specs.Back.{schema_of, presence_count, application_count, end_count, presence_shown, application_shown, end_shown}
use Rattle.base.proofs.Shown.{presence_there, presence_in, application_there, application_in, end_there, end_in}
use Rattle.visible.specs.Shown.{gathered, Gathers}

-- ---- a set gathered from the first n rows

module _ (passes : ℕ → Bool → Type 0) (value : ℕ → ℕ → Type 0) where
  pub gathers_none : (p : ℕ → Bool) → ((k : ℕ) → p k ≡ false) → Gathers 0 passes value p
  gathers_none p none = record {
    marked = λ i h. absurd (omega arith);
    marks = λ k e. absurd (true≢false (sym e ∙ none k));
  }

  module _ (n : ℕ) (p : ℕ → Bool) (so_far : Gathers n passes value p) where
    pub gathers_more : (t : ℕ) (q : ℕ → Bool) → passes n true → value n t → ((k : ℕ) → q k ≡ eqb k t || p k) → Gathers (n + 1) passes value q
    gathers_more t q x v made = record {
      marked = below_more (λ i. (x : Bool) × passes i x × (x ≡ true → (t : ℕ) × value i t × (q t ≡ true))) n
          (λ i h. let (y, a, f) = so_far.marked i h in (y, a, λ e. let (u, w, g) = f e in (u, w, made u ∙ or_right (eqb u t) (p u) g)))
          (true, x, λ e. (t, v, made t ∙ or_left (eqb t t) (p t) (eq-eqb t t refl)));
      marks = λ k e.
          ⊎_elim
          (λ h. (n, omega arith, x, rw (eqb-true k t h) v))
          (λ h. let (i, l, u, w) = so_far.marks k h in (i, omega arith, u, w))
          (or_cases (eqb k t) (p k) (sym (made k) ∙ e));
    }

    pub gathers_skip : passes n false → Gathers (n + 1) passes value p
    gathers_skip x = record {
      marked = below_more (λ i. (x : Bool) × passes i x × (x ≡ true → (t : ℕ) × value i t × (p t ≡ true))) n so_far.marked
          (false, x, λ e. absurd (false≢true e));
      marks = λ k e. let (i, l, u, w) = so_far.marks k e in (i, omega arith, u, w);
    }

module _ {A : Type 0} (test : A → Bool) (type : A → ℕ) (l : List A) (row : ℕ → A) (n : ℕ)
    (there : (i : ℕ) → i < n → row i ∈ l) (only : (x : A) → x ∈ l → (i : ℕ) × (i < n) × (x ≡ row i)) where
  -- from all rows of a table
  gathers_all : {passes : ℕ → Bool → Type 0} {value : ℕ → ℕ → Type 0} {m : ℕ} (p : ℕ → Bool) → Gathers m passes value p → m ≡ n
      → ((i : ℕ) (x : Bool) → i < n → passes i x → x ≡ test (row i)) → ((i t : ℕ) → i < n → value i t → t ≡ type (row i))
      → (k : ℕ) → p k ≡ gathered test type l k
  unfolding gathered
  gathers_all p all same passed has k =
      same_test (p k) (any (λ x. test x && eqb k (type x)) l)
      (λ e.
      let (i, h, x, v) = all.marks k e in
      let u : i < n = omega arith in
      any_at (λ x. test x && eqb k (type x)) (there i u)
      (and_of (test (row i)) (eqb k (type (row i))) (sym (passed i true u x)) (eq-eqb k (type (row i)) (has i k u v))))
      (λ e.
      let (y, m, t) = any_where (λ x. test x && eqb k (type x)) l e in
      let (i, h, w) = only y m in
      let (u, v) = and_both (test y) (eqb k (type y)) t in
      let (x, a, f) = all.marked i (omega arith) in
      let (z, b, g) = f (passed i x h a ∙ ap test (sym w) ∙ u) in
      ap p (eqb-true k (type y) v ∙ ap type w ∙ sym (has i z h b)) ∙ g)

module _ (b : List ℕ) {passes : ℕ → Bool → Type 0} {value : ℕ → ℕ → Type 0} {n : ℕ} (p : ℕ → Bool) (all : Gathers n passes value p) where
  pub all_presences : (test : Presence → Bool) (type : Presence → ℕ) → n ≡ presence_count b
      → ((i : ℕ) (x : Bool) → i < presence_count b → passes i x → x ≡ test (presence_shown b i))
      → ((i t : ℕ) → i < presence_count b → value i t → t ≡ type (presence_shown b i)) → (k : ℕ) → p k ≡ gathered test type (schema_of b).presences k
  all_presences test type =
      gathers_all test type (schema_of b).presences (presence_shown b) (presence_count b) (presence_there b) (presence_in b) p all

  pub all_applications : (test : Application → Bool) (type : Application → ℕ) → n ≡ application_count b
      → ((i : ℕ) (x : Bool) → i < application_count b → passes i x → x ≡ test (application_shown b i))
      → ((i t : ℕ) → i < application_count b → value i t → t ≡ type (application_shown b i))
      → (k : ℕ) → p k ≡ gathered test type (schema_of b).applications k
  all_applications test type =
      gathers_all test type (schema_of b).applications (application_shown b) (application_count b) (application_there b) (application_in b) p all

  pub all_ends : (test : End → Bool) (type : End → ℕ) → n ≡ end_count b
      → ((i : ℕ) (x : Bool) → i < end_count b → passes i x → x ≡ test (end_shown b i))
      → ((i t : ℕ) → i < end_count b → value i t → t ≡ type (end_shown b i)) → (k : ℕ) → p k ≡ gathered test type (schema_of b).ends k
  all_ends test type = gathers_all test type (schema_of b).ends (end_shown b) (end_count b) (end_there b) (end_in b) p all

-- ---- a row that passes, of all

-- a number of the n from a on passes
range_where : (g : ℕ → Bool) (a n : ℕ) → list_any g (range_with_len a n) ≡ true → (i : ℕ) × (i < a + n) × (g i ≡ true)
range_where g a zero e = absurd (false≢true e)
range_where g a (suc n) e =
    ⊎_elim
    (λ h. (a, omega arith, h))
    (λ h. let (i, l, t) = range_where g (a + 1) n h in (i, omega arith, t))
    (or_cases (g a) (list_any g (range_with_len (a + 1) n)) e)

range_at : (g : ℕ → Bool) (a n i : ℕ) → a ≤ i → i < a + n → g i ≡ true → list_any g (range_with_len a n) ≡ true
range_at g a zero i l h t = absurd (omega arith)
range_at g a (suc n) i l h t = go (eqb i a) refl (λ u. range_at g (a + 1) n i u (omega arith) t)
  where
    go : (x : Bool) → eqb i a ≡ x → (a + 1 ≤ i → list_any g (range_with_len (a + 1) n) ≡ true) → g a || list_any g (range_with_len (a + 1) n) ≡ true
    go true e ih = or_left (g a) _ (ap g (sym (eqb-true i a e)) ∙ t)
    go false e ih = let other = eqb-false i a e in or_right (g a) _ (ih (omega arith))

pub any_presence : (b : List ℕ) (test : Presence → Bool) {n : ℕ} → n ≡ presence_count b
    → list_any (λ i. test (presence_shown b i)) (range_with_len 0 n) ≡ any test (schema_of b).presences
any_presence b test {n} all =
    same_test _ _
    (λ e.
    let (i, h, t) = range_where (λ i. test (presence_shown b i)) 0 n e in
    any_at test (presence_there b i (omega arith)) t)
    (λ e.
    let (x, m, t) = any_where test (schema_of b).presences e in
    let (i, h, w) = presence_in b x m in
    range_at (λ i. test (presence_shown b i)) 0 n i (omega arith) (omega arith) (ap test (sym w) ∙ t))
