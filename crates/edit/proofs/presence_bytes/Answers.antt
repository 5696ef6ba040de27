-- `edit::presence_bytes` meets its contract: the four bytes, and the name over the zeros between them.
use Rattle.edit.proofs.EditLaws.{presence_built}
use Rattle.edit.proofs.presence_bytes.Goals as goal

pub returns : goal.returns
returns c =
    let x = c.args in presence_built x.d x.t x.usage x.definition x.name.now _ c.requires.d_bound.1.1 c.write.ensures
