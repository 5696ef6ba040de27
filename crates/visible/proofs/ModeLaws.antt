-- Modes that are joined row by row. Assumes nothing.
use Prim.Native.Nat.{ℕ, ◌+◌, ◌≤◌, ◌<◌}
use native.Mathlib.Numerals.{add-one}
use native.Mathlib.Omega.{arith}
use mathlib.Core.Path.{◌≡◌, refl, sym, ap, ◌∙◌}
use mathlib.Core.List.{List, [], ◌∷◌, ◌++◌}
use mathlib.Core.Bool.{Bool, true, false, cond, ◌&&◌, or-false}
use lib.Bits.{bit_or, or_zero_r}
use lib.Dec.{eqb}
use lib.ListN.{take}
use lib.Seq.{take-suc, take_all}
use Rattle.rules.specs.01-Lists.{any}
use Rattle.rules.specs.04-Schema.{Presence, Modes, all_modes, nowhere, has_mode}
use Rattle.rules.specs.11-Asks.{marks}
use Rattle.rules.proofs.Bools.{eqb_turned}
use Rattle.rules.proofs.01-Lists.{any_joined}
use Rattle.rules.proofs.11-Asks.{marks_or, modes_marked}
use Rattle.base.specs.Back.{schema_of, presence_count, presence_shown}
use Rattle.base.proofs.Shown.{presences_long, presence_is}
use Rattle.visible.specs.Shown.{joined}

module _ (sdss : ℕ → Bool) (t : ℕ) (modes : Presence → Modes) where
  -- one presence more
  joined_more : (ps : List Presence) (p : Presence) → modes p ≤ all_modes → (x : Bool) → x ≡ sdss p.sds && eqb t p.type
      → joined sdss t modes (ps ++ (p ∷ [])) ≡ bit_or (joined sdss t modes ps) (cond x (modes p) 0)
  unfolding any marks
  joined_more ps p k x e =
      ap (marks 0 5) (λ i m. (any_joined (has m) ps (p ∷ []) i))
      ∙ marks_or (λ m. any (has m) ps) (λ m. any (has m) (p ∷ [])) 0 5
      ∙ ap (bit_or (joined sdss t modes ps)) (ap (marks 0 5) (λ i m. or-false (has m p) i) ∙ go (sdss p.sds) (eqb p.type t)
      ∙ ap (λ (y : Bool). cond y (modes p) 0) (sym (e ∙ ap (λ (y : Bool). sdss p.sds && y) (eqb_turned t p.type))))
    where
      has : ℕ → Presence → Bool
      has m q = sdss q.sds && (eqb q.type t && has_mode (modes q) m)

      go : (a b : Bool) → marks 0 5 (λ m. a && (b && has_mode (modes p) m)) ≡ cond (a && b) (modes p) 0
      go true true = modes_marked (modes p) k
      go true false = refl
      go false b = refl

  module _ (b : List ℕ) where
    abbrev ps : List Presence
    ps = (schema_of b).presences

    -- no row is passed yet
    pub joined_none : 0 ≡ joined sdss t modes (take 0 ps)
    unfolding any marks
    joined_none = refl

    module _ (i : ℕ) (h : i < presence_count b) (k : modes (presence_shown b i) ≤ all_modes) where
      next : (x : Bool) → x ≡ sdss (presence_shown b i).sds && eqb t (presence_shown b i).type
          → joined sdss t modes (take (i + 1) ps) ≡ bit_or (joined sdss t modes (take i ps)) (cond x (modes (presence_shown b i)) 0)
      next x e =
          let is = presence_is b i nowhere h in
          ap (joined sdss t modes) (ap (λ (n : ℕ). take n ps) (add-one i) ∙ take-suc ps i nowhere (omega (arith, presences_long b)))
          ∙ ap (λ (p : Presence). joined sdss t modes (take i ps ++ (p ∷ []))) is
          ∙ joined_more (take i ps) (presence_shown b i) k x e

      pub joined_shown : {u : ℕ} → u ≡ joined sdss t modes (take i ps) → true ≡ sdss (presence_shown b i).sds && eqb t (presence_shown b i).type
          → bit_or u (modes (presence_shown b i)) ≡ joined sdss t modes (take (i + 1) ps)
      joined_shown e q = ap (λ (u : ℕ). bit_or u (modes (presence_shown b i))) e ∙ sym (next true q)

      pub joined_passed : {u : ℕ} → u ≡ joined sdss t modes (take i ps) → false ≡ sdss (presence_shown b i).sds && eqb t (presence_shown b i).type
          → u ≡ joined sdss t modes (take (i + 1) ps)
      joined_passed e q = e ∙ sym (or_zero_r (joined sdss t modes (take i ps))) ∙ sym (next false q)

    pub joined_all : {u n : ℕ} → u ≡ joined sdss t modes (take n ps) → n ≡ presence_count b → u ≡ joined sdss t modes ps
    joined_all {n = n} e q = e ∙ ap (joined sdss t modes) (take_all n ps (omega (arith, presences_long b)))
