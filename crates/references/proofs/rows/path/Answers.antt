use Rattle.std.specs.Prelude.{◌≡◌}
use Rattle.std.proofs.Common.{arith, ap, ◌∙◌}
use Rattle.references.specs.RowLaws.{path_in, count_in, path_length, path_part}
use Rattle.references.proofs.rows.path.Goals as goal

pub returns : goal.returns
returns c =
    let x = c.args.x.now in
    let n : c.labels.result ≡ count_in x = c.labels.ensures.0 ∙ path_length x _ in
    path_part x 0 c.labels.result (omega arith) ∙ ap (path_in x) n
