-- The first byte of the row tells the kind.
use Rattle.std.proofs.Common.{◌∙◌}
use borrow.Author.Tests.{le-ltb}
use Rattle.lookup.proofs.KindBytes.{code_past, code_byte}
use Rattle.lookup.proofs.types.is_kind.Goals as goal

pub returns-then-t-lt-TYPES : goal.returns-then-t-lt-TYPES
returns-then-t-lt-TYPES c =
    let x = c.args in
    let code = c.requires.1 in
    code_byte x.base.now x.t x.code code.0 code.1 c.kind.result c.if-t-lt-TYPES.true c.kind.ensures.is

pub returns-else-t-lt-TYPES : goal.returns-else-t-lt-TYPES
returns-else-t-lt-TYPES c =
    let x = c.args in
    let past = c.if-t-lt-TYPES.false in
    le-ltb x.t 128 past ∙ code_past x.base.now x.t x.code c.requires.1.0 past
