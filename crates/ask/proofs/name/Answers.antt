-- `name_place` answers a stretch that lies in the base, sound or not, and the slice of the base is that stretch.
use Rattle.std.proofs.Common.{arith}
use Rattle.ask.proofs.Laws.{within, handed}
use Rattle.ask.proofs.name.Goals as goal

pub overflow_add-end : goal.overflow_add-end
overflow_add-end c = let w = within c.args.sds c.args.t c.in-Ok.ensures in omega (arith, w, c.well_formed)

pub slice_bounds-result-end-2 : goal.slice_bounds-result-end-2
slice_bounds-result-end-2 c = let w = within c.args.sds c.args.t c.in-Ok.ensures in omega (arith, w)

pub returns : goal.returns
returns c = handed c.args.sds c.args.t c.in-Ok.ensures
