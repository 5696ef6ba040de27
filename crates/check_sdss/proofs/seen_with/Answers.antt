-- An unused number has no mark, and a used one gets its mark where it is alone.
use Rattle.std.proofs.Common.{◌≡◌, ℕ, arith, sym, ap, ◌∙◌}
use Rattle.rows.specs.Rows.{part}
use Rattle.rows.specs.Order.{number, folded}
use Rattle.check_sdss.specs.Fields.{first_half}
use Rattle.check_sdss.proofs.SdsLaws.{fine_low, seen_unused, seen_used}
use Rattle.check_sdss.proofs.seen_with.Goals as goal

pub returns-then-not-is_sds : goal.returns-then-not-is_sds
returns-then-not-is_sds c = seen_unused c.requires.seen (sym c.is_sds.ensures ∙ c.if-not-is_sds.true)

pub folded-first-requires : goal.folded-first-requires
folded-first-requires c =
    let x = c.requires in
    let d = c.args.d in
    let below = x.base_len.1.0 in
    (omega (arith, x.base_len), fine_low c.args.base.now x.base_len.0 d c.args.at below (x.fields_fine d below) x.base_len.1.1)

pub returns : goal.returns
returns c =
    let x = c.requires in
    let first : c.folded-first.result ≡ first_half c.args.base.now c.args.d
    = c.folded-first.ensures ∙ ap (λ (k : ℕ). number 0 (folded (part c.args.base.now k 8))) x.base_len.1.1 in
    seen_used x.seen (c.is_new.ensures.holds c.if-not-is_new.false) c.folded-first.result first
