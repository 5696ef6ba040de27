-- A type by its name: what the first SDS that has it says of the list. Assumes nothing.
use Prim.Native.Nat.{ℕ, ◌<◌}
use mathlib.Core.Path.{◌≡◌, refl, sym, ap, ◌∙◌}
use mathlib.Core.List.{List}
use mathlib.Core.Bool.{Bool, true, false, not, true≢false}
use lib.ListN.{length, get_or}
use borrow.Author.Tests.{not-true}
use Rattle.rules.specs.01-Lists.{any, first}
use Rattle.rules.specs.03-Names.{Name}
use Rattle.rules.specs.04-Schema.{Schema, bears, type_named}
use Rattle.rules.specs.09-Refusals.{no_name_listed}
use Rattle.rules.proofs.01-Lists.{any_there, any_nowhere}
use Rattle.rules.proofs.11-Asks.{place_is, first_at}
use Rattle.working.specs.Listed.{NamedFirst}

module _ (s : Schema) (w : List ℕ) (n : Name) where
  bearing : ℕ → Bool
  bearing d = bears s d n

  -- the SDS in place i is the first that has the name
  pub named_first : (i r : ℕ) → i < length w → ((k : ℕ) → k < i → bears s (get_or w k 0) n ≡ false) → bears s (get_or w i 0) n ≡ true → r < 128
      → r ≡ type_named s (get_or w i 0) n → NamedFirst s w n r
  unfolding bearing no_name_listed
  named_first i r h others here small is =
      let some : any bearing w ≡ true = any_there bearing w i h here in
      let one : first bearing 0 w ≡ get_or w i 0
      = (first_at bearing 0 0 w some).1 ∙ ap (λ (k : ℕ). get_or w k 0) (place_is bearing 0 w i h others here) in
      record {
        found = λ e. (small, is ∙ ap (λ (d : ℕ). type_named s d n) (sym one));
        none = λ e. absurd (true≢false (sym some ∙ not-true _ e));
      }

  -- no SDS has it
  pub named_nowhere : ((k : ℕ) → k < length w → bears s (get_or w k 0) n ≡ false) → NamedFirst s w n 128
  unfolding bearing no_name_listed
  named_nowhere others = record {
    found = λ e. absurd (true≢false (sym (ap not (any_nowhere bearing w others)) ∙ e));
    none = λ e. refl;
  }
