-- The low byte, then the high one. Assumes nothing.
use Rattle.std.proofs.Common.{◌≡◌, ◌/◌, ◌%◌, [], ◌∷◌, ap, refl, arith, ◌∙◌}
use Rattle.rows.specs.Table.{written}
use Rattle.file_out.specs.Parts.{count_bytes}
use Rattle.file_out.proofs.put_count.Goals as goal

pub returns : goal.returns
unfolding count_bytes
returns c =
    let n = c.args.n in
    let high : n / 256 % 256 ≡ n / 256 = omega arith in
    let bytes = c.to_le_bytes.ensures ∙ ap (λ k. n % 256 ∷ k ∷ []) high in
    record { long = refl; is = c.write.ensures ∙ ap (written c.args.out.now 0) bytes }
