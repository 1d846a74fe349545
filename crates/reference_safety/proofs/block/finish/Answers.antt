use Rattle.std.specs.Prelude.{◌≡◌, length}
use mathlib.Core.Path.{sym, ap, ◌∙◌}
use Rattle.meaning.specs.Answers.{Outcome, refused}
use Rattle.meaning.specs.EntryPoints.{Running}
use Rattle.listing.specs.Models.{block_of}
use Rattle.abstract_state.specs.Models.{words, running_of}
use Rattle.operand_stack.specs.Models.{held}
use Rattle.operand_stack.specs.StackLaws.{stack_length}
use Rattle.abstract_state_join.specs.Models.{canonical_end}
use Rattle.reference_safety.specs.Models.{placed}
use Rattle.abstract_state.specs.ModelLaws.{goes}
use Rattle.reference_safety.specs.BlockLaws.{not_halted, finish_left, finish_none, finish_some}
use native.Mathlib.Omega.{arith}
use Rattle.reference_safety.proofs.block.finish.Goals as goal

pub returns-then-depth-ne0 : goal.returns-then-depth-ne0
returns-then-depth-ne0 c =
    let a = c.args in
    let s = a.m.now.state in
    let r = running_of (words a.locals.now a.names.now a.edges.now s) in
    let d = c.refuse.ensures a.locals.now a.names.now a.edges.now in
    record {
      fits = d.fits;
      ends = λ h.
          ap (λ (o : Outcome Running). placed (block_of a.b).successors a.b.exit.0 o) (d.does h ∙ sym (goes s.blurred s.violation s.borrowed_at.0 s.refusal r (λ q. refused 14) (c.requires)))
          ∙ finish_left a.b.entry.0 a.b.exit.0 a.b.count a.b.first.0 a.b.second.0 r (held a.m.now.stack) (λ z. c.if-depth-ne0.true (omega (arith, stack_length a.m.now.stack.operands.list a.m.now.stack.operands.len)));
    }

pub returns-then-b-eq0 : goal.returns-then-b-eq0
returns-then-b-eq0 c =
    let a = c.args in
    let s = a.m.now.state in
    let r = running_of (words a.locals.now a.names.now a.edges.now s) in
    let z : length (held a.m.now.stack) ≡ 0 = omega (arith, stack_length a.m.now.stack.operands.list a.m.now.stack.operands.len) in
    record {
      fits = λ h. h;
      ends = λ h.
          ap (λ (o : Outcome Running). placed (block_of a.b).successors a.b.exit.0 o) (not_halted s.blurred s.violation s.borrowed_at.0 s.refusal r (c.requires))
          ∙ finish_none a.b.entry.0 a.b.exit.0 a.b.count a.b.first.0 a.b.second.0 r (held a.m.now.stack) z c.if-b-eq0.true;
    }

pub returns : goal.returns
returns c =
    let a = c.args in
    let s = a.m.now.state in
    let r = running_of (words a.locals.now a.names.now a.edges.now s) in
    let d = c.construct_canonical_state.ensures in
    let z : length (held a.m.now.stack) ≡ 0 = omega (arith, stack_length a.m.now.stack.operands.list a.m.now.stack.operands.len) in
    record {
      fits = d.fits;
      ends = λ h.
          ap (λ (o : Outcome Running). placed (block_of a.b).successors a.b.exit.0 o) (d.does h ∙ sym (goes s.blurred s.violation s.borrowed_at.0 s.refusal r canonical_end (c.requires)))
          ∙ finish_some a.b.entry.0 a.b.exit.0 a.b.count a.b.first.0 a.b.second.0 r (held a.m.now.stack) z c.if-b-eq0.false;
    }
