use Rattle.meaning.specs.EntryPoints.{value_for}
use Rattle.meaning.specs.Steps.{pushed}
use Rattle.file_format.specs.Models.{token_of}
use Rattle.reference_safety.specs.MachineLaws.{gives, steps_from}
use Rattle.reference_safety.proofs.machine.push_one.Goals as goal

pub returns : goal.returns
returns c = λ ls es. steps_from (λ vs s. pushed vs (value_for (token_of c.args.token) s)) (gives (c.value_for-m.ensures ls es) (c.push_answer.ensures ls _ es))
