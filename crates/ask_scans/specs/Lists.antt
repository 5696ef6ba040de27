-- What is left of a call when its lists are known.
use Rattle.std.specs.Prelude.{ℕ, ◌≡◌, List, [], ◌∷◌, ◌++◌, length}
use Rattle.rules.specs.declared.Answer.{Answer}
use Rattle.rules.specs.09-Refusals.{◌when◌, Outcome, verdict, answer_of, short_output}
use Rattle.rules.specs.09-Refusals.Outcome.{done}
use Rattle.rules.specs.12-Contracts.{room, output_after}

-- 15, or the list put down
unfoldable pub listing : List ℕ → ℕ → Outcome (List ℕ)
listing l room = verdict ((15 when short_output room (length l)) ∷ []) (done (length l) 0 0 l)

-- 15, or three lists, each straight after the last
unfoldable pub three_listing : List ℕ → List ℕ → List ℕ → ℕ → Outcome (List ℕ)
three_listing l m n room =
    verdict ((15 when short_output room (length (l ++ (m ++ n)))) ∷ []) (done (length l) (length m) (length n) (l ++ (m ++ n)))

-- the answer, and the output after it
pub record Puts (o : Outcome (List ℕ)) (answer : Answer) (before after : List ℕ) : Type 0 where
  pub answers : answer ≡ answer_of o
  pub outputs : after ≡ output_after before o
