use Rattle.std.specs.Prelude.{◌≡◌, ℕ, zero, suc, ◌+◌, ◌-◌, ◌∷◌, List, length, take, drop, map, replicate, refl}
use Rattle.std.proofs.Common.{ap, ◌∙◌, arith, length-take, length-drop}
use Rattle.std.proofs.lemmas.List.{length-replicate}
use Rattle.std.proofs.lemmas.Slice.{take-put_mid}
use Rattle.meaning.specs.AbstractState.{non_ref}
use Rattle.abstract_state.specs.Models.{operand_in}
use Rattle.operand_stack.specs.Models.{held, push_each}
use Rattle.operand_stack.specs.StackLaws.{stack_length, pushed_on, push_full}
use Rattle.operand_stack.proofs.OperandStack.push_values.Goals as goal

pub returns-then-end-gt-MAX_OPERANDS-clause-pushes : goal.returns-then-end-gt-MAX_OPERANDS-clause-pushes
returns-then-end-gt-MAX_OPERANDS-clause-pushes c =
    let s = c.args.self.now.operands in
    push_full (replicate c.args.n non_ref) (held c.args.self.now) (omega (arith, stack_length s.list s.len)) (omega (arith, stack_length s.list s.len, length-replicate c.args.n non_ref))

map_replicate : {A B : Type 0} (f : A → B) (x : A) (n : ℕ) → map f (replicate n x) ≡ replicate n (f x)
map_replicate f x zero = refl
map_replicate f x (suc n) = ap (λ ys. f x ∷ ys) (map_replicate f x n)

pub returns-clause-pushes : goal.returns-clause-pushes
returns-clause-pushes c =
    let s = c.args.self.now.operands in
    let k = c.depth-k.result in
    let n = c.args.n in
    let ys = c.fill.new.self in
    let r : length s.list ≡ 16 = c.depth-k.ensures.room in
    let w = c.value_word.result in
    let q : length (take (k + n - k) (drop k s.list)) ≡ n = omega (arith, length-take (k + n - k) (drop k s.list), length-drop k s.list) in
    let f : ys ≡ replicate n w = c.fill.ensures.after (λ y e. e) ∙ ap (λ (m : ℕ). replicate m w) q in
    let l : length ys ≡ n = ap (λ (l : List ℕ). length l) f ∙ length-replicate n w in
    pushed_on s.list _ ys s.len k (k + n) c.depth-k.ensures.room c.depth-k.ensures.least (take-put_mid k _ s.list ys (k + n) (omega arith) (omega arith)) (omega arith)
    ∙ ap (push_each (held c.args.self.now)) (ap (map operand_in) f ∙ map_replicate operand_in w n ∙ ap (replicate n) c.value_word.ensures.0)
