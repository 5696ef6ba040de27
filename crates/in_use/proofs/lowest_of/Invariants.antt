-- The lowest that the rows passed tell.
use Rattle.std.proofs.Common.{ℕ, Bool, ◌≤◌, ◌<◌, Option}
use Rattle.in_use.specs.Held.{LowestOf, any_below}
use Rattle.in_use.proofs.lowest_of.Given as goal

abbrev pub invariant-loop-i : goal.invariant-loop-i
invariant-loop-i g l = (l.i ≤ l.n)
    × ((tells : ℕ → ℕ → Bool) → ((i : ℕ) (r : Option ℕ) → i < l.n → goal.F-post g l.told i r → LowestOf (tells i) r)
    → LowestOf (λ k. any_below (λ i. tells i k) l.i) l.lowest)
