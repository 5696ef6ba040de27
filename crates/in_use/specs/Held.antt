-- What a row tells of a type that is held in an SDS: the type that holds it; and the lowest type that is told.
use Rattle.std.specs.Prelude.{ℕ, zero, suc, ◌<◌, List, Bool, false, ◌&&◌, ◌||◌, eqb, Option, IfSome}
use Rattle.std.specs.Option.{unwrap_or}
use Rattle.rules.specs.01-Lists.{among}
use Rattle.rules.specs.02-Limits.{limits}
use Rattle.rules.specs.04-Schema.{Schema, Presence, Application, End, is_parent}
use Rattle.type_set.specs.Set.{Lowest}

-- r is the lowest type that passes, none where none does
pub record LowestOf (p : ℕ → Bool) (r : Option ℕ) : Type 0 where
  pub is : Lowest p (unwrap_or r limits.types)
  pub below : IfSome r (λ t. t < limits.types)

-- one of the numbers below n passes
unfoldable pub any_below : (ℕ → Bool) → ℕ → Bool
any_below p zero = false
any_below p (suc n) = any_below p n || p n

-- a row puts a child x of type t into SDS d
abbrev pub child_told : Schema → ℕ → ℕ → Presence → ℕ → Bool
child_told s d t p x = eqb p.sds d && (is_parent s p.type t && eqb p.type x)

-- of two types one is among ts, and the other is x
abbrev pub other_told : List ℕ → ℕ → ℕ → ℕ → Bool
other_told ts one two x = (among ts one && eqb two x) || (among ts two && eqb one x)

-- in SDS d a row joins x to one of the types ts: the one is applied to the other, or is an end of it
abbrev pub application_told : ℕ → List ℕ → Application → ℕ → Bool
application_told d ts a x = eqb a.sds d && other_told ts a.to a.attribute x

abbrev pub end_told : ℕ → List ℕ → End → ℕ → Bool
end_told d ts e x = eqb e.sds d && other_told ts e.link e.object x
