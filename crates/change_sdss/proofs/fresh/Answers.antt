-- A fresh base: its length, and what is written.
use Rattle.std.proofs.Common.{refl}
use Rattle.change_sdss.proofs.fresh.Goals as goal

pub returns-then-base-ne-LENGTH : goal.returns-then-base-ne-LENGTH
returns-then-base-ne-LENGTH c = record { wrong_length = λ n. (refl, refl); written = λ l. absurd (c.if-base-ne-LENGTH.true l) }

pub returns : goal.returns
returns c = record { wrong_length = λ n. absurd (n c.if-base-ne-LENGTH.false); written = λ l. (refl, c.write_fresh.ensures) }
