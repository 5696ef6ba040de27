-- `fill`: with bytes left nothing is read; else what is to be gathered is what the read put at the buffer's start, and nothing
-- where it failed.
use Rattle.std.proofs.Common.{◌≤◌, ℕ, List, length, arith}
use Rattle.std.specs.Prelude.{Result, Ok, Err}
use Rattle.std.specs.Io.{ReadsAtMost}
use Rattle.std.specs.Result.{result_unwrap_or}
use Rattle.run_words.proofs.InputLaws.{filled_left, filled_read}
use Rattle.run_words.proofs.input.Input.fill.Goals as goal

-- a read that fails brings nothing
few : {E : Type 0} (r : Result ℕ E) (xs : List ℕ) → ReadsAtMost r xs → result_unwrap_or r 0 ≤ length xs
few (Ok n) xs h = h.0
few (Err e) xs h = omega arith

pub returns-then-self : goal.returns-then-self
returns-then-self g c =
    let x = c.self.inside in
    filled_left x.read x.from x.n c.self.view_is c.self.invariant.0 (omega (arith, c.self.told, c.self.invariant.1)) c.if-self.true

pub returns : goal.returns
returns g c =
    let x = c.self.inside in
    let few_read : c.unwrap_or-self-inside.result ≤ length c.read.new.buf = rw c.unwrap_or-self-inside.ensures (few _ _ c.read.ensures.bound) in
    filled_read x.read x.from x.n c.self.view_is c.self.invariant.0 (omega (arith, c.self.told, c.self.invariant.1)) c.read.new.buf
    c.if-self.false few_read
