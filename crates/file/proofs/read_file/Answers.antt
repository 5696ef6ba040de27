-- Each test is one of the four cases.
use Rattle.std.proofs.Common.{refl}
use Rattle.file.proofs.FileLaws.{read_malformed, read_done}
use Rattle.file.proofs.read_file.Goals as goal

pub returns-in-Err : goal.returns-in-Err
returns-in-Err c = read_malformed c.if-base-ne-LENGTH.false c.in-Err.ensures refl

pub returns : goal.returns
returns c = read_done c.if-base-ne-LENGTH.false c.in_default.ensures c.accept.ensures c.if-not-accept.false refl
