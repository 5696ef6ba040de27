-- `file::is_file_of` meets its contract: what is left of the file decides, part by part. Assumes nothing.
use Rattle.std.proofs.Common.{Some, None, arith}
use Rattle.std.proofs.lemmas.Bool.Decides.{Decides-eqb}
use Rattle.std.proofs.lemmas.Slice.Eq.{strip_prefix_is}
use Rattle.base.specs.Back.{schema_of}
use Rattle.base.proofs.Back.{sound_good}
use Rattle.file_out.proofs.PartLaws.{part_most}
use Rattle.file.proofs.PartsLaws.{parts_many, met_not, met_more, met_end}
use Rattle.file.proofs.FileLaws.{taken_back, decided}
use Rattle.file.proofs.is_file_of.Goals as goal

pub part-n-requires-clause-j_in_bounds : goal.part-n-requires-clause-j_in_bounds
part-n-requires-clause-j_in_bounds c = omega (arith, part_most (sound_good c.requires) c.loop-j.j, c.loop-j.invariant.room)

pub returns-in_default : goal.returns-in_default
returns-in_default c =
    let other = strip_prefix_is Decides-eqb c.loop-j.rest.now _ None c.in_default.ensures.cases in
    decided c.requires c.args.file.now
    (met_not _ c.loop-j.invariant.met (omega (arith, parts_many (schema_of c.args.base.now))) (taken_back c.part-n.ensures) other)

pub loop-j-preserved : goal.loop-j-preserved
loop-j-preserved c =
    let begins = strip_prefix_is Decides-eqb c.loop-j.rest.now _ (Some c.in-Some.behind) c.in-Some.ensures.cases in
    record {
      room = omega arith;
      met = met_more _ c.loop-j.invariant.met (omega (arith, parts_many (schema_of c.args.base.now))) (taken_back c.part-n.ensures) begins;
    }

pub returns : goal.returns
returns c =
    let empty = c.is_empty.ensures in
    rw empty (decided c.requires c.args.file.now (met_end _ c.loop-j.invariant.met (omega (arith, parts_many (schema_of c.args.base.now)))))
