-- Lists put down, or refused for want of room. Assumes nothing.
use Prim.Native.Nat.{ℕ, ◌+◌, ◌≤◌, ◌<◌}
use native.Mathlib.Omega.{arith}
use mathlib.Core.Path.{◌≡◌, refl, sym, ap, ◌∙◌}
use mathlib.Core.List.{List, [], ◌∷◌, ◌++◌, append_assoc}
use borrow.Author.Tests.{lt-ltb, le-ltb}
use lib.ListN.{length, drop, length-append}
use Rattle.rules.specs.declared.Answer.{Answer}
use Rattle.rules.specs.09-Refusals.{◌when◌, Outcome, verdict, refusal, success, answer_of, short_output}
use Rattle.rules.specs.09-Refusals.Outcome.{refused}
use Rattle.rules.specs.12-Contracts.{entries, room, output_after}
use Rattle.type_set.specs.Put.{put_down}
use Rattle.ask_scans.specs.Lists.{listing, three_listing, Puts}

puts_as : {o o' : Outcome (List ℕ)} {a : Answer} {before after : List ℕ} → o ≡ o' → a ≡ answer_of o' → after ≡ output_after before o' → Puts o a before after
puts_as {before = before} e f g = record { answers = f ∙ ap answer_of (sym e); outputs = g ∙ ap (output_after before) (sym e) }

module _ (effect : Outcome (List ℕ)) (r n : ℕ) where
  no_room : r < n → verdict ((15 when short_output r n) ∷ []) effect ≡ refused 15 0
  unfolding verdict short_output
  no_room h = rw (lt-ltb r n h)

  some_room : n ≤ r → verdict ((15 when short_output r n) ∷ []) effect ≡ effect
  unfolding verdict short_output
  some_room h = rw (le-ltb r n h)

put_output : (l before : List ℕ) → put_down l before ≡ entries l ++ drop (length (entries l)) before
unfolding put_down
put_output l before = refl

module _ (l : List ℕ) {a : Answer} (before : List ℕ) where
  pub list_short : room before < length l → a ≡ refusal 15 → Puts (listing l (room before)) a before before
  unfolding listing
  list_short h e = puts_as (no_room _ (room before) (length l) h) e refl

  pub list_put : {after : List ℕ} → length l ≤ room before → a ≡ success (length l) 0 0 → after ≡ put_down l before
      → Puts (listing l (room before)) a before after
  unfolding listing
  list_put h e f = puts_as (some_room _ (room before) (length l) h) e (f ∙ put_output l before)

module _ (l m n : List ℕ) where
  three_long : length (l ++ (m ++ n)) ≡ length l + length m + length n
  three_long = omega (arith, length-append l (m ++ n), length-append m n)

  module _ {a : Answer} (before : List ℕ) where
    pub three_short : room before < length l + length m + length n → a ≡ refusal 15 → Puts (three_listing l m n (room before)) a before before
    unfolding three_listing
    three_short h e = puts_as (no_room _ (room before) (length (l ++ (m ++ n))) (omega (arith, three_long))) e refl

    pub three_put : {after : List ℕ} → length l + length m + length n ≤ room before → a ≡ success (length l) (length m) (length n)
        → after ≡ put_down ((l ++ m) ++ n) before → Puts (three_listing l m n (room before)) a before after
    unfolding three_listing
    three_put h e f =
        puts_as (some_room _ (room before) (length (l ++ (m ++ n))) (omega (arith, three_long))) e
        (f ∙ ap (λ (x : List ℕ). put_down x before) (append_assoc l m n) ∙ put_output (l ++ (m ++ n)) before)
