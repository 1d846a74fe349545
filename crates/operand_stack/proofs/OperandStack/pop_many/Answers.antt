use Rattle.std.specs.Prelude.{◌≡◌, ℕ, ◌+◌, ◌-◌, ◌++◌, [], List, length, take, drop, replicate}
use Rattle.std.proofs.Common.{sym, ap, ◌∙◌, arith, length-take, length-drop}
use Rattle.operand_stack.specs.Models.{taken, pop_some, held}
use Rattle.operand_stack.specs.StackLaws.{stack_cut, stack_length, many_short, many_taken}
use Rattle.std.proofs.Math.Seq.{take-append_seam}
use Rattle.operand_stack.proofs.OperandStack.pop_many.Goals as goal

pub returns-then-top-len-clause-takes : goal.returns-then-top-len-clause-takes
returns-then-top-len-clause-takes c =
    let s = c.args.self.now.operands in
    sym (many_short c.args.n [] (held c.args.self.now) taken (omega (arith, stack_length s.list s.len)))

pub returns-clause-takes : goal.returns-clause-takes
returns-clause-takes c =
    let s = c.args.self.now.operands in
    let n = c.args.n in
    let u = c.depth-top.result - n in
    let ws = c.copy_from_slice.new.self in
    let r : length s.list ≡ 16 = c.depth-top.ensures.room in
    let q : c.depth-top.result - u ≡ n = omega arith in
    let e : take n (drop u s.list) ≡ ws = sym (c.copy_from_slice.ensures.after ∙ ap (λ (m : ℕ). take m (drop u s.list)) q) in
    let l : length ws ≡ n = sym (ap (λ (l : List ℕ). length l) e) ∙ omega (arith, length-take n (drop u s.list), length-drop u s.list) in
    many_taken s.list _ ws u n (ap (λ (m : ℕ). take m (ws ++ drop n (replicate 16 0))) (sym l) ∙ take-append_seam ws (drop n (replicate 16 0))) e l
    ∙ sym (ap (pop_some n) (stack_cut s.list s.len (u + n) c.depth-top.ensures.room (omega arith)))
