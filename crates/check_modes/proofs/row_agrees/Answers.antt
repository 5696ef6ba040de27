-- The word of the reverse tells whether it was passed in the SDS, and then its modes.
use Rattle.std.proofs.Common.{◌≡◌, ◌+◌, ◌*◌, arith}
use borrow.Author.Tests.{lt-ltb}
use Rattle.base.specs.Back.{presence_shown}
use Rattle.check_modes.specs.Pairs.{word}
use Rattle.check_modes.proofs.PairLaws.{row_room, type_small, sds_small, modes_known, row_read, agreed_alone, other_room, agreed_first, agreed_pair}
use Rattle.check_modes.proofs.row_agrees.Goals as goal

pub presence_type-t-requires : goal.presence_type-t-requires
presence_type-t-requires c = let x = c.requires in (x.fine.long, row_room x.fine _ x.i_bound.0)

pub reverse-reverse-requires : goal.reverse-reverse-requires
reverse-reverse-requires c =
    let x = c.requires in (x.fine.long, omega (arith, c.presence_type-t.ensures.is, type_small x.fine _ x.i_bound.0))

pub returns-then-reverse-eq0 : goal.returns-then-reverse-eq0
returns-then-reverse-eq0 c =
    let x = c.requires in
    agreed_alone (row_read x.fine x.i_bound c.presence_type-t.ensures.is c.reverse-reverse.ensures.is) c.if-reverse-eq0.true

pub presence_sds-start-requires : goal.presence_sds-start-requires
presence_sds-start-requires c = let x = c.requires in (x.fine.long, row_room x.fine _ x.i_bound.0)

pub presence_usage-requires : goal.presence_usage-requires
presence_usage-requires c = let x = c.requires in (x.fine.long, row_room x.fine _ x.i_bound.0)

pub presence_definition-requires : goal.presence_definition-requires
presence_definition-requires c = let x = c.requires in (x.fine.long, row_room x.fine _ x.i_bound.0)

pub bounds-words-reverse : goal.bounds-words-reverse
bounds-words-reverse c =
    let x = c.requires in
    other_room (row_read x.fine x.i_bound c.presence_type-t.ensures.is c.reverse-reverse.ensures.is) c.if-reverse-eq0.false

pub overflow_cast-words : goal.overflow_cast-words
overflow_cast-words c =
    let x = c.requires in
    let modes = modes_known x.fine _ x.i_bound.0 in
    omega (
      arith,
      c.presence_sds-start.ensures.is,
      c.presence_usage.ensures.is,
      c.presence_definition.ensures.is,
      sds_small x.fine _ x.i_bound.0,
      modes.usage,
      modes.definition,
    )

pub bounds-words-t : goal.bounds-words-t
bounds-words-t c =
    let x = c.requires in omega (arith, c.presence_type-t.ensures.is, x.i_bound.1.room, type_small x.fine _ x.i_bound.0)

pub returns-then-other-start : goal.returns-then-other-start
returns-then-other-start c =
    let x = c.requires in
    let row = row_read x.fine x.i_bound c.presence_type-t.ensures.is c.reverse-reverse.ensures.is in
    let p = presence_shown c.args.base.now c.args.i in
    let start : c.presence_sds-start.result * 1024 ≡ p.sds * 1024 = omega (arith, c.presence_sds-start.ensures.is) in
    let is : c.presence_sds-start.result * 1024 + c.presence_usage.result * 32 + c.presence_definition.result ≡ word p
    = omega (arith, c.presence_sds-start.ensures.is, c.presence_usage.ensures.is, c.presence_definition.ensures.is) in
    rw (lt-ltb c.from-other.result (c.presence_sds-start.result * 1024) c.if-other-start.true)
    (agreed_first row c.if-reverse-eq0.false start is
    (omega (arith, c.from-other.ensures, c.if-other-start.true)))

pub returns-else-other-start : goal.returns-else-other-start
returns-else-other-start c =
    let x = c.requires in
    let row = row_read x.fine x.i_bound c.presence_type-t.ensures.is c.reverse-reverse.ensures.is in
    let p = presence_shown c.args.base.now c.args.i in
    let start : c.presence_sds-start.result * 1024 ≡ p.sds * 1024 = omega (arith, c.presence_sds-start.ensures.is) in
    let is : c.presence_sds-start.result * 1024 + c.presence_usage.result * 32 + c.presence_definition.result ≡ word p
    = omega (arith, c.presence_sds-start.ensures.is, c.presence_usage.ensures.is, c.presence_definition.ensures.is) in
    rw c.from-other.ensures (agreed_pair row c.if-reverse-eq0.false start is
    (omega (arith, c.from-other.ensures, c.if-other-start.false)))
