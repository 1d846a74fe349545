use Rattle.references.specs.RowLaws.{starts_by, path_length, count_in}
use mathlib.Core.Path.{◌≡◌, ◌∙◌}
use lib.Dec.{eqb, ltb}
use mathlib.Core.Bool.{◌||◌, ◌&&◌}
use Rattle.references.proofs.rows.starts_with.Goals as goal

pub returns : goal.returns
returns c = let a =
    c.args in
    let len_of_lem = c.len_of-k in
    let number_of_lem = c.number_of-l in
    let labels = c.labels-n in
    let e : labels.result ≡ count_in a.x.now = labels.ensures.0 ∙ path_length a.x.now _ in
    (λ i. eqb len_of_lem.result 0 || (ltb 0 (e i) && eqb number_of_lem.result (c.label.ensures i))) ∙ starts_by a.path a.x.now len_of_lem.result number_of_lem.result _ len_of_lem.ensures.0 number_of_lem.ensures.0
