use mathlib.Core.Path.{◌∙◌}
use Rattle.references.specs.Models.{row_of}
use Rattle.references.proofs.rows.renamed.Goals as goal

pub returns : goal.returns
returns c = let a =
    c.args in
    let x = row_of a.x.now in
    c.remade.ensures.0
    ∙ (λ i. record {
      parent = a.parent.0;
      child = a.child.0;
      blurred = c.is_blurred-b.ensures i;
      edge = record { strong = x.edge.strong; path = x.edge.path; offset = c.offset-loc.ensures i };
    })
