use Rattle.std.specs.Prelude.{◌≡◌, ℕ, ◌+◌, List, length, map}
use Rattle.std.proofs.Common.{ap, ◌∙◌, arith}
use Rattle.std.proofs.lemmas.Slice.{take-put_mid}
use Rattle.std.proofs.lemmas.List.{length-map}
use Rattle.abstract_state.specs.Models.{operand_in}
use Rattle.operand_stack.specs.Models.{held, push_each}
use Rattle.operand_stack.specs.StackLaws.{stack_length, pushed_on, push_full}
use Rattle.operand_stack.proofs.OperandStack.push_all.Goals as goal

pub returns-then-end-gt-MAX_OPERANDS-clause-pushes : goal.returns-then-end-gt-MAX_OPERANDS-clause-pushes
returns-then-end-gt-MAX_OPERANDS-clause-pushes c =
    let s = c.args.self.now.operands in
    let w = c.words-words in
    push_full (map operand_in w.result.now) (held c.args.self.now) (omega (arith, stack_length s.list s.len)) (omega (arith, stack_length s.list s.len, length-map w.result.now operand_in))
    ∙ ap (push_each (held c.args.self.now)) w.ensures.all

pub returns-clause-pushes : goal.returns-clause-pushes
returns-clause-pushes c =
    let s = c.args.self.now.operands in
    let r : length s.list ≡ 16 = c.depth-k.ensures.room in
    let k = c.depth-k.result in
    let w = c.words-words in
    let n = length w.result.now in
    let ys = c.copy_from_slice.new.self in
    let l : length ys ≡ n = ap (λ (l : List ℕ). length l) c.copy_from_slice.ensures.after in
    pushed_on s.list _ ys s.len k (k + n) c.depth-k.ensures.room c.depth-k.ensures.least (take-put_mid k _ s.list ys (k + n) (omega arith) (omega arith)) (omega arith)
    ∙ ap (push_each (held c.args.self.now)) (ap (map operand_in) c.copy_from_slice.ensures.after ∙ w.ensures.all)
