-- Mirrors stand behind where the reverse has the lower number, and else the link type is asked; what stands in `starts` is of no matter.
use Rattle.std.proofs.Common.{◌<◌, arith}
use Rattle.check_ends.proofs.ReverseLaws.{reverse_below}
use Rattle.check_ends.proofs.GroupLaws.{link_small, first_ahead, first_behind}
use Rattle.check_ends.proofs.pair.Goals as goal
use Rattle.check_ends.proofs.pair.Goals.{then-side-eq0, else-side-eq0}

pub reverse-reverse-requires : goal.reverse-reverse-requires
reverse-reverse-requires c = (c.requires.reached.0.long, omega (arith, c.requires.number_value.1.is, link_small c.requires.reached.0))

pub bounds-starts-place : goal.bounds-starts-place
bounds-starts-place c =
    let link : c.args.link < 128 = omega (arith, c.requires.number_value.1.is, link_small c.requires.reached.0) in
    let reverse = reverse_below c.requires.reached.1.types c.args.link link in
    elim c.if-side-eq0.branch [
      | then-side-eq0 w ↦ omega (arith, w.place-is, link, c.requires.starts_len)
      | else-side-eq0 w ↦ omega (arith, w.place-is, reverse, c.reverse-reverse.ensures.is, c.requires.starts_len)
    ]

pub returns-then-reverse-link : goal.returns-then-reverse-link
returns-then-reverse-link c =
    let p = c.requires.number_value.1 in
    first_behind c.requires.reached.0 c.requires.number_value.0 p.is p.paired c.reverse-reverse.ensures.is c.end_side-side.ensures.is
    c.if-reverse-link.true (omega (arith, c.saturating_sub.ensures))

pub bounds-starts-place-2 : goal.bounds-starts-place-2
bounds-starts-place-2 c =
    let link : c.args.link < 128 = omega (arith, c.requires.number_value.1.is, link_small c.requires.reached.0) in
    let reverse = reverse_below c.requires.reached.1.types c.args.link link in
    elim c.if-side-eq0.branch [
      | then-side-eq0 w ↦ omega (arith, w.place-is, link, c.requires.starts_len)
      | else-side-eq0 w ↦ omega (arith, w.place-is, reverse, c.reverse-reverse.ensures.is, c.requires.starts_len)
    ]

pub returns : goal.returns
returns c =
    let p = c.requires.number_value.1 in
    first_ahead c.requires.reached.0 c.requires.number_value.0 p.is p.paired c.reverse-reverse.ensures.is
    (c.link_fine.ensures.holds c.if-not-link_fine.false) c.if-reverse-link.false
