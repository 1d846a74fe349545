use Rattle.std.specs.Prelude.{◌≡◌, ℕ, ◌+◌, ◌-◌, length}
use Rattle.std.proofs.Common.{sym, ap, ◌∙◌, arith}
use Rattle.abstract_state.specs.Models.{operand_of}
use Rattle.meaning.specs.Steps.{pop_values}
use Rattle.operand_stack.specs.Models.{stack_in, held, pop_rest}
use Rattle.operand_stack.specs.StackLaws.{stack_cut, values_out, values_ref, values_turn}
use Rattle.operand_stack.proofs.OperandStack.pop_values.Goals as goal

pub loop-i-init : goal.loop-i-init
loop-i-init c =
    let s = c.args.self.now.operands in
    record { within = omega arith; rest = let z : c.args.n - 0 ≡ c.args.n = omega arith in ap (λ (m : ℕ). pop_rest m (stack_in s.list c.depth-k.result)) z ∙ sym (ap (pop_rest c.args.n) (stack_cut s.list s.len c.depth-k.result c.depth-k.ensures.room c.depth-k.ensures.least)) }

pub returns-then-k-eq0-clause-takes : goal.returns-then-k-eq0-clause-takes
returns-then-k-eq0-clause-takes c =
    let l = c.loop-i in
    let n = c.args.n in
    values_out c.args.self.now.operands.list (n - l.i) (n - (l.i + 1)) (omega arith) (pop_rest n (held c.args.self.now)) l.k c.if-k-eq0.true l.invariant.rest

pub returns-in-Reference-clause-takes : goal.returns-in-Reference-clause-takes
returns-in-Reference-clause-takes c =
    let l = c.loop-i in
    let n = c.args.n in
    let xs = c.args.self.now.operands.list in
    let r : length xs ≡ 16 = c.depth-k.ensures.room in
    values_ref xs (n - l.i) (n - (l.i + 1)) (omega arith) (pop_rest n (held c.args.self.now)) l.k (l.k - 1) (omega arith) (omega arith) l.invariant.rest _ (sym c.value_of.ensures ∙ ap operand_of c.in-Reference.is)

pub loop-i-preserved : goal.loop-i-preserved
loop-i-preserved c =
    let l = c.loop-i in
    let n = c.args.n in
    let xs = c.args.self.now.operands.list in
    let r : length xs ≡ 16 = c.depth-k.ensures.room in
    record {
      within = omega arith;
      rest = values_turn xs (n - l.i) (n - (l.i + 1)) (omega arith) (pop_rest n (held c.args.self.now)) l.k (l.k - 1) (omega arith) (omega arith) l.invariant.rest (sym c.value_of.ensures ∙ ap operand_of c.in_default.is);
    }

pub returns-clause-takes : goal.returns-clause-takes
unfolding pop_values
returns-clause-takes c =
    let l = c.loop-i in
    let z : c.args.n - l.i ≡ 0 = omega arith in
    rw z at l.invariant.rest
