-- Whether the types are of the wrong kinds: their codes, one after the other.
use Rattle.std.proofs.Common.{not, ap, ◌∙◌}
use Rattle.change_applications.proofs.ApplyLaws.{wrong_attribute, right_object, link_or_wrong}
use Rattle.change_applications.proofs.is_wrong_kind.Goals as goal

pub returns-then-not-is_kind : goal.returns-then-not-is_kind
returns-then-not-is_kind c =
    let x = c.args in
    ap not c.if-not-is_kind.true ∙ wrong_attribute x.base.now x.a x.t c.is_kind.ensures c.if-not-is_kind.true

pub returns-then-not-is_kind-2 : goal.returns-then-not-is_kind-2
returns-then-not-is_kind-2 c =
    let x = c.args in
    link_or_wrong x.base.now x.a x.t c.is_kind.ensures c.if-not-is_kind.false c.is_kind-else-not-is_kind.ensures c.if-not-is_kind-2.true
    c.is_kind-then-not-is_kind-2.ensures

pub returns-else-not-is_kind-2 : goal.returns-else-not-is_kind-2
returns-else-not-is_kind-2 c =
    let x = c.args in
    ap not c.if-not-is_kind-2.false
    ∙ right_object x.base.now x.a x.t c.is_kind.ensures c.if-not-is_kind.false c.is_kind-else-not-is_kind.ensures c.if-not-is_kind-2.false
