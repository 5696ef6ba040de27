-- A name whose mark was not seen is new; of another one `unlike_earlier` decides.
use Rattle.std.proofs.Common.{◌/◌, ◌%◌, ◌^◌, bit_and}
use borrow.Author.Tests.{ne_eqb}
use Rattle.rows.proofs.Decides.{decides_yes}
use Rattle.check_sdss.proofs.SdsLaws.{unseen_new}
use Rattle.check_sdss.proofs.is_new.Goals as goal

pub returns-then-seen-first-ne1 : goal.returns-then-seen-first-ne1
returns-then-seen-first-ne1 c =
    let x = c.requires in
    rw (ne_eqb (bit_and (c.args.seen / 2 ^ (c.args.first % 61)) 1) 1 c.if-seen-first-ne1.true)
    (decides_yes (unseen_new c.args.base.now x.base_len.0 (λ j. (c.type_inv.base j).fits) x.fields_fine x.base_len.1
    x.d_value.1.1 x.d_value.0 c.args.first x.d_value.1.0 c.if-seen-first-ne1.true))
