-- Laws of depth, level by level: the parents of what is n steps above a type are what is n + 1 steps above it. The longest way up begins
-- with a way of each lesser length, so the first level that has no type is just above its end. Assumes nothing.
use Prim.Native.Nat.{ℕ, zero, suc, ◌+◌, ◌≤◌, ◌<◌}
use native.Mathlib.Numerals.{add-one}
use native.Mathlib.Nat.{zero-add}
use native.Mathlib.Omega.{arith}
use mathlib.Core.Path.{◌≡◌, refl, sym, ◌∙◌, subst}
use mathlib.Core.Bool.{Bool, true, false, false≢true}
use lib.Dec.{eqb, ltb}
use borrow.Author.Tests.{eqb-true, eq-eqb, ltb-true, ltb-false}
use Rattle.rules.specs.04-Schema.{Schema, kind_of, is_object, is_parent}
use Rattle.rules.specs.05-Descent.{Parent, Chain, depth}
use Rattle.rules.specs.05-Descent.Chain.{at_root, up}
use Rattle.rules.specs.06-Good.{Good}
use Rattle.rules.proofs.05-Descent.{members_most, objects, chain_short, depth_greatest, depth_reached}
use Rattle.kin.specs.Kin.{parents_of}
use Rattle.kin.proofs.KinLaws.{parent_is, is_parent_of}
use Rattle.kin.proofs.ReachLaws.{Stepped, parents_stepped}

-- k is n parent steps above t
pub data Above (s : Schema) (t : ℕ) : ℕ → ℕ → Type 0 where
  no_step : Above s t 0 t
  one_more : {n u k : ℕ} → Above s t n u → Parent s u k → Above s t (suc n) k

-- p has what is n steps above t
pub record Level (s : Schema) (t n : ℕ) (p : ℕ → Bool) : Type 0 where
  pub only : (k : ℕ) → p k ≡ true → Above s t n k
  pub all : (k : ℕ) → Above s t n k → p k ≡ true

module _ (s : Schema) (t : ℕ) where
  pub level_none : (p : ℕ → Bool) → ((k : ℕ) → p k ≡ eqb k t) → Level s t 0 p
  level_none p made = record {
    only = λ k e. rw (eqb-true k t (sym (made k) ∙ e)) no_step;
    all = λ k way. alone way;
  }
    where
      alone : {k : ℕ} → Above s t 0 k → p k ≡ true
      alone no_step = made t ∙ eq-eqb t t refl

module _ {s : Schema} {t : ℕ} where
  pub level_more : {n : ℕ} {p : ℕ → Bool} (q : ℕ → Bool) → Level s t n p → ((k : ℕ) → p k ≡ true → k < 128) → ((k : ℕ) → q k ≡ parents_of s p k)
      → Level s t (n + 1) q
  level_more {n} {p} q level below made = rw (add-one n) (record {
    only = λ k e. let (u, l, g, h) = step.only k e in one_more (level.only u g) (parent_is s u k h);
    all = λ k way. within way;
  })
    where
      step : Stepped (is_parent s) p q
      step = parents_stepped s p q made

      within : {k : ℕ} → Above s t (suc n) k → q k ≡ true
      within {k} (one_more {u = u} way by) =
          let at = level.all u way in
          step.all u k (below u at) at (is_parent_of s u k by)

  -- a way up, and then a chain
  chained : {n k m : ℕ} → Above s t n k → Chain s k m → Chain s t (n + m)
  chained {m = m} no_step c = rw (zero-add m) c
  chained {m = m} (one_more {n = n} way by) c = let e : n + suc m ≡ suc n + m = omega arith in subst (Chain s t) e (chained way (up by c))

  -- every chain begins with a way up of each lesser length
  begun : (n : ℕ) {m : ℕ} → n ≤ m → Chain s t m → (k : ℕ) × (j : ℕ) × Above s t n k × Chain s k j × (n + j ≡ m)
  begun zero {m} h c = (t, m, no_step, c, omega arith)
  begun (suc n) {m} h c = let (u, j, way, rest, e) = begun n (omega arith) c in go way rest e
    where
      go : {u j : ℕ} → Above s t n u → Chain s u j → n + j ≡ m → (k : ℕ) × (j : ℕ) × Above s t (suc n) k × Chain s k j × (suc n + j ≡ m)
      go way at_root e = absurd (omega arith)
      go way (up {p = k} {n = j} by rest) e = (k, j, one_more way by, rest, omega arith)

module _ {s : Schema} (good : Good s) (t : ℕ) (o : is_object (kind_of s t) ≡ true) where
  above_object : {n k : ℕ} → Above s t n k → is_object (kind_of s k) ≡ true
  above_object no_step = o
  above_object (one_more {u = u} {k = k} way by) = good.parents_objects u k by

  pub depth_small : depth s t < 128
  depth_small = omega (arith, chain_short good t (depth s t) (depth_reached good t o), members_most (objects good))

  -- a level that has a type is no higher than the depth, and the first that has none is just above it
  pub level_some : {n : ℕ} {p : ℕ → Bool} → Level s t n p → (k : ℕ) → p k ≡ true → n ≤ depth s t
  level_some {n} level k e =
      let way = level.only k e in
      omega (arith, depth_greatest good t (n + depth s k) (chained way (depth_reached good k (above_object way))))

  pub level_last : {n : ℕ} {p : ℕ → Bool} → Level s t n p → ((k : ℕ) → p k ≡ false) → depth s t < n
  level_last {n} level none = go (ltb (depth s t) n) refl
    where
      go : (x : Bool) → ltb (depth s t) n ≡ x → depth s t < n
      go true e = ltb-true (depth s t) n e
      go false e =
          let (k, j, way, rest, e) = begun n (ltb-false (depth s t) n e) (depth_reached good t o) in
          absurd (false≢true (sym (none k) ∙ level.all k way))
