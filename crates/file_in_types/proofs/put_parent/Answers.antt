-- `file_in_types::put_parent` meets its contract: a number past the last type, a type that has its four parents, or one parent more.
-- Assumes nothing.
use Rattle.std.proofs.Common.{◌+◌, get_or, set, sym, ap, arith, ◌∙◌}
use Rattle.std.proofs.lemmas.List.{get_or-set_other}
use Rattle.rules.specs.Read.{parents_offset, count_offset}
use Rattle.base.specs.Rows.{type_at}
use Rattle.file_in_types.proofs.StepLaws.{parent_past, parent_full, parent_done}
use Rattle.file_in_types.proofs.put_parent.Goals as goal

pub returns-then-t-ge-TYPES : goal.returns-then-t-ge-TYPES
returns-then-t-ge-TYPES c = parent_past c.args.entry.now c.args.area.now c.from-t.result c.from-t.ensures (omega arith)

pub returns-then-n-ge-MOST_PARENTS : goal.returns-then-n-ge-MOST_PARENTS
returns-then-n-ge-MOST_PARENTS c =
    parent_full c.args.entry.now c.args.area.now c.from-t.result c.from-t.ensures (omega arith) c.parent_count-n.result
    c.parent_count-n.ensures.is (omega arith)

-- the parent that is put in leaves the count as it was
pub returns : goal.returns
returns c =
    let area = c.args.area.now in
    let a = get_or c.args.entry.now 1 0 in
    let at = type_at c.from-t.result in
    let free = at + parents_offset + c.parent_count-n.result in
    let count = get_or-set_other area free (at + count_offset) a 0 (omega arith) ∙ sym c.parent_count-n.ensures.is in
    parent_done c.args.entry.now area c.from-t.result c.from-t.ensures (omega arith) c.parent_count-n.result
    c.parent_count-n.ensures.is (omega arith) (ap (λ n. set (set area free a) (at + count_offset) (n + 1)) count)
