-- Each SDS passed is alone with its name, and its mark was seen.
use Rattle.std.proofs.Common.{ℕ, ◌<◌, ◌≡◌}
use Rattle.base.specs.Rows.{sds_at}
use Rattle.check_sdss.specs.Fields.{Alone, Seen}
use Rattle.check_sdss.proofs.names_differ.Given as goal

abbrev pub invariant-loop-d : goal.invariant-loop-d
invariant-loop-d l = record { place : l.at ≡ sds_at l.d; seen : Seen l.base l.d l.seen; alone : (k : ℕ) → k < l.d → Alone l.base k }
