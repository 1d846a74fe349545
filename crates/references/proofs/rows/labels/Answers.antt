use mathlib.Core.Path.{sym, ◌∙◌}
use Rattle.references.specs.RowLaws.{path_length}
use native.Mathlib.Omega.{arith}
use Rattle.references.proofs.rows.labels.Goals as goal

pub returns : goal.returns
returns c = (c.min.ensures ∙ sym (path_length c.args.x.now _), omega (arith, c.min.ensures))
