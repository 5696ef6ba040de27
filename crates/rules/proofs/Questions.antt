-- The calls that ask under a working schema, as one, and what holds of all of them. Assumes nothing.
use Prim.Native.Nat.{ℕ}
use mathlib.Core.Path.{◌≡◌, refl}
use mathlib.Core.List.{List, []}
use mathlib.Core.Bool.{Bool, true, false, cond}
use Rattle.rules.specs.01-Lists.{any}
use Rattle.rules.specs.03-Names.{Name}
use Rattle.rules.specs.04-Schema.{Schema}
use Rattle.rules.specs.08-Working.{visible}
use Rattle.rules.specs.09-Refusals.{Outcome, verdict, malformed, unknown_object_scan, unknown_link_scan, no_name_listed, not_visible}
use Rattle.rules.specs.09-Refusals.Outcome.{refused}
use Rattle.rules.specs.11-Asks as Asks
use Rattle.rules.specs.13-History.{Ask, ask_rule}

-- a question, its working schema left open: *name* alone asks under none
pub data Question : Type 0 where
  scan_object : ℕ → ℕ → ℕ → Question
  scan_link : ℕ → ℕ → ℕ → Question
  profile : ℕ → ℕ → Question
  find : Name → Question
  depth_of : ℕ → Question
  descendant_set : ℕ → Question
  modes_of : ℕ → Question

abbrev pub under : List ℕ → Question → Ask
under w (scan_object t code room) = Ask.scan_object w t code room
under w (scan_link t code room) = Ask.scan_link w t code room
under w (profile t room) = Ask.profile w t room
under w (find n) = Ask.find w n
under w (depth_of t) = Ask.depth_of w t
under w (descendant_set t) = Ask.descendant_set w t
under w (modes_of t) = Ask.modes_of w t

-- ---- "An empty list now makes nothing visible, so every question about a type is 6 where no lower number applies." (02, Q-7)

-- the lower numbers: no SDS is listed that 2 could refuse; 4 is a malformed name, 5 an unknown code
abbrev pub unseen : Question → ℕ
unseen (scan_object t code room) = cond (unknown_object_scan code) 5 6
unseen (scan_link t code room) = cond (unknown_link_scan code) 5 6
unseen (profile t room) = 6
unseen (find n) = cond (malformed n) 4 6
unseen (depth_of t) = 6
unseen (descendant_set t) = 6
unseen (modes_of t) = 6

-- where the condition holds the one number, else the other
either : (outcome : ℕ → Outcome (List ℕ)) (m n : ℕ) (x : Bool) → cond x (outcome m) (outcome n) ≡ outcome (cond x m n)
either outcome m n true = refl
either outcome m n false = refl

pub empty_shows_nothing : (q : Question) (s : Schema) → ask_rule (under [] q) s ≡ refused (unseen q) 0
unfolding any visible verdict no_name_listed not_visible Asks.scan_object Asks.scan_link Asks.profile Asks.find Asks.depth_of Asks.descendant_set Asks.modes_of
empty_shows_nothing (scan_object t code room) s = either (λ n. refused n 0) 5 6 (unknown_object_scan code)
empty_shows_nothing (scan_link t code room) s = either (λ n. refused n 0) 5 6 (unknown_link_scan code)
empty_shows_nothing (profile t room) s = refl
empty_shows_nothing (find n) s = either (λ n. refused n 0) 4 6 (malformed n)
empty_shows_nothing (depth_of t) s = refl
empty_shows_nothing (descendant_set t) s = refl
empty_shows_nothing (modes_of t) s = refl
