use Rattle.meaning.specs.Blocks.{machine_at}
use Rattle.abstract_state.specs.Models.{words, running_of}
use Rattle.abstract_state.specs.ModelLaws.{halted_then}
use Rattle.operand_stack.specs.Models.{held}
use Rattle.reference_safety.specs.Models.{with}
use Rattle.reference_safety.proofs.machine.Machine.at_offset.Goals as goal

pub returns : goal.returns
returns c =
    λ ls ns es.
    let m = c.args.self.now in
    let s = m.state in
    record {
      fits = λ h. record { locals = h.locals; tells = h.tells };
      steps = λ h. halted_then s.blurred s.violation s.borrowed_at.0 s.refusal (with (held m.stack) (running_of (words ls ns es s))) (machine_at c.args.offset.0);
    }
