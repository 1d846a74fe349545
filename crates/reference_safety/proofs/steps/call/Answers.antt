use Rattle.std.specs.Prelude.{◌≡◌, ℕ, min, List, length, take}
use Rattle.std.proofs.Common.{rules, sym, ap, ◌∙◌, arith, length-take}
use Rattle.std.proofs.lemmas.List.{take_min, take_all}
use Rattle.meaning.specs.Limits.{max_operands}
use Rattle.abstract_state.specs.Models.{operands_of}
use Rattle.reference_safety.specs.MachineLaws.{many_runs, answers_runs, push_runs, stops}
use Rattle.reference_safety.proofs.steps.call.Goals as goal

pub returns-in_err-arguments : goal.returns-in_err-arguments
returns-in_err-arguments c = λ ls. many_runs _ _ _ c.in_err-arguments.ensures.takes (stops (search rules))

-- the slices of the lent arrays are what counts of them
front : {A : Type 0} (n k : ℕ) (xs : List A) → length xs ≡ 16 → k ≡ min n 16 → take k xs ≡ take n xs
front n k xs z e = ap (λ (j : ℕ). take j xs) (e ∙ ap (min n) (sym z)) ∙ take_min n xs

pub returns : goal.returns
returns c =
    let d = c.args.d in
    let x : length d.acquired ≡ 16 = search rules in
    let y : length d.tokens ≡ 16 = search rules in
    let e : take c.lesser.result d.acquired ≡ take d.acquired_count d.acquired = front _ _ _ x c.lesser.ensures in
    let f : take max_operands (take c.lesser-2.result d.tokens) ≡ take d.token_count d.tokens = take_all max_operands (take c.lesser-2.result d.tokens) (omega (arith, length-take c.lesser-2.result d.tokens)) ∙ front _ _ _ y c.lesser-2.ensures in
    rw (← e, ← f)
    (λ ls. many_runs _ _ _ c.in_ok-arguments.ensures.takes (answers_runs _ (operands_of c.call-a.result.values) _ (c.call-a.ensures ls).0 (c.call-a.ensures ls).1 (push_runs _ _ c.push_all.result c.push_all.ensures.pushes)))
