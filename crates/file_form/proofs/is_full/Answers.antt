-- `file_form::is_full` meets its contract: byte by byte. Assumes nothing.
use Rattle.std.proofs.Common.{rules, eqb, sym, ◌∙◌}
use Rattle.std.proofs.lemmas.Iterator.{YieldsList-from_slice}
use Rattle.std.proofs.lemmas.Iterator.Search.{all_from_yields_List}
use Rattle.file_form.proofs.Scan.{full_all}
use Rattle.file_form.proofs.is_full.Goals as goal

pub returns : goal.returns
returns c =
    let l = c.args.l.now in
    all_from_yields_List (λ b. eqb b 255) _ _ c.all.result c.all.ensures.ran (YieldsList-from_slice l cc) (λ x b q k. search rules)
    ∙ sym (full_all l)
