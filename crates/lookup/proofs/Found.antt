-- A number that was found is below all that there are. Assumes nothing.
use Prim.Native.Nat.{ℕ, ◌<◌}
use native.Mathlib.Omega.{arith}
use mathlib.Core.Path.{◌≡◌, sym}
use lib.Dec.{ltb}
use borrow.Author.Tests.{lt-ltb, le-ltb}
use Rattle.std.specs.Prelude.{Option, Some, None, IfSome, is_some}
use Rattle.std.specs.Option.{unwrap_or}

pub found_below : (o : Option ℕ) (n : ℕ) → IfSome o (λ i. i < n) → is_some o ≡ ltb (unwrap_or o n) n
found_below (Some i) n h = sym (lt-ltb i n h)
found_below None n h = sym (le-ltb n n (omega arith))
