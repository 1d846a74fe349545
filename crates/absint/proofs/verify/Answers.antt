use mathlib.Core.Path.{◌∙◌}
use Rattle.absint.specs.WholeLaws.{cleared_left}
use Rattle.absint.proofs.verify.Goals as goal

pub returns : goal.returns
returns c =
    let clear = c.clear in
    let analyze = c.analyze-v in
    let args = c.args in
    (analyze.ensures.0, clear.ensures ∙ cleared_left args.listing.now args.area.now _ analyze.auto.area analyze.ensures.1)
