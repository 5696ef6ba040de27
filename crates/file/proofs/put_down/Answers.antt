-- `file::put_down` meets its contract: part behind part. Assumes nothing.
use Rattle.std.proofs.Common.{ℕ, List, arith}
use mathlib.Core.Path.{subst}
use Rattle.base.specs.Back.{schema_of}
use Rattle.file_out_presences.specs.Out.{PutDown}
use Rattle.file.proofs.PartsLaws.{parts_many, down_none, down_room, down_more, down_all}
use Rattle.file.proofs.FileLaws.{whole, fits}
use Rattle.file.proofs.put_down.Goals as goal

pub loop-j-init : goal.loop-j-init
loop-j-init c = down_none _ _ (fits c.requires.0 c.args.out.now c.requires.1)

pub part-at-requires-clause-j_in_bounds : goal.part-at-requires-clause-j_in_bounds
part-at-requires-clause-j_in_bounds c = down_room _ c.loop-j.j c.loop-j.invariant (omega (arith, parts_many (schema_of c.args.base.now)))

pub loop-j-preserved : goal.loop-j-preserved
loop-j-preserved c = down_more _ c.loop-j.j c.loop-j.invariant (omega (arith, parts_many (schema_of c.args.base.now))) c.part-at.ensures

pub returns : goal.returns
returns c =
    let loop = c.loop-j in
    subst (λ (l : List ℕ). PutDown l c.args.out.now loop.out loop.at) (whole c.requires.0)
    (down_all _ loop.j loop.invariant (omega (arith, parts_many (schema_of c.args.base.now))))
