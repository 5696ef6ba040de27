-- `keep`: what there is room for is put behind what is kept.
use Rattle.run_words.proofs.LineLaws.{kept}
use Rattle.run_words.proofs.line.keep.Goals as goal

pub returns : goal.returns
returns c =
    kept c.args.line.now c.requires.0 c.args.n c.requires.1 c.args.piece.now c.min-more.result c.min-more.ensures c.copy_from_slice.ensures.after
