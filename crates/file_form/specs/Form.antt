-- What is told of a file.
use Rattle.std.specs.Prelude.{ℕ, List, Result, IfOk, IfErr}
use Rattle.rules.specs.11-File.{WellFormed, Longest}

pub record Told (file : List ℕ) (r : Result Unit ℕ) : Type 0 where
  pub formed : IfOk r (λ _. WellFormed file)
  pub malformed : IfErr r (λ start. (WellFormed file → ⊥) × Longest WellFormed file start)
