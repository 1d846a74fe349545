use native.Mathlib.Omega.{arith}
use Rattle.std.proofs.Common.{ℕ, List, ◌++◌, ap, ◌∙◌}
use Rattle.loader_line.specs.Text.{decimal_of}
use Rattle.loader_line.specs.TextLaws.{same_digits}
use Rattle.loader_line.proofs.put_decimal.Goals as goal

pub returns-clause-text : goal.returns-clause-text
unfolding decimal_of
returns-clause-text c =
    c.push_str.ensures.bytes ∙ ap (λ (ds : List ℕ). c.args.l.now.bytes ++ ds) (c.format.ensures.text ∙ same_digits 19 c.args.n (omega arith) (omega arith))
