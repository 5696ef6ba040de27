-- What the calls which apply and unapply attribute types test of the types that they are given.
use Rattle.std.specs.Prelude.{ℕ, Bool, ◌&&◌, ◌||◌}
use Rattle.rules.specs.03-Names.{Name}
use Rattle.rules.specs.04-Schema.{Schema}
use Rattle.rules.specs.09-Refusals.{Refusals, no_object, no_attribute, no_link}
use Rattle.rules.specs.10-Changes.{application_refusals}
use Rattle.base.specs.Tested.{onward}

-- a is no attribute type, or t is neither an object nor a link type
abbrev pub wrong_kind : Schema → ℕ → ℕ → Bool
wrong_kind s a t = no_attribute s a || (no_object s t && no_link s t)

-- the refusals of both calls that come after those of the SDS and the names
abbrev pub kind_refusals : Schema → ℕ → Name → Name → Refusals
kind_refusals s d a n = onward 6 (application_refusals d a n s)
