-- what `rows::parted` keeps: the two numbers beside the ends tell for their sides
use Rattle.std.proofs.Common.{◌≡◌, ℕ, ◌+◌, ◌-◌, ◌<◌, ◌≤◌, true, false}
use Rattle.rows.proofs.parted.Given as goal

abbrev pub invariant-loop-low : goal.invariant-loop-low
invariant-loop-low g l = record {
  order : l.low ≤ l.high;
  most : l.high ≤ l.n;
  last : (k : ℕ) → l.low ≡ k + 1 → goal.P-post g l.passes k true;
  next : l.high < l.n → goal.P-post g l.passes l.high false;
}

abbrev pub decreases-loop-low : goal.decreases-loop-low
decreases-loop-low g l = l.high - l.low
