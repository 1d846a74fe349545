use Rattle.std.specs.Prelude.{◌≡◌, refl, ◌-◌, ◌+◌, Err}
use Rattle.std.proofs.Common.{ap, rules, arith}
use Rattle.file_format.specs.Models.{token_of}
use Rattle.meaning.specs.Steps.{push_new}
use Rattle.reference_safety.specs.Models.{board}
use Rattle.reference_safety.specs.MachineLaws.{push_runs, values_runs, runs_from, new_turn, new_out, new_end}
use Rattle.reference_safety.proofs.machine.push_new.Goals as goal

pub returns-in-Value : goal.returns-in-Value
returns-in-Value c = λ ls es. values_runs _ c.args.n (token_of c.args.token) (ap token_of c.in-Value.is) (push_runs _ _ c.push_values.result c.push_values.ensures.pushes)

pub loop-i-init : goal.loop-i-init
loop-i-init c =
    λ ls es.
    let a = board ls c.args.names.now es c.args.m.now in
    record { fits = λ h. h; turns = λ h. let z : c.args.n - 0 ≡ c.args.n = omega arith in rw z refl }

pub loop-i-preserved : goal.loop-i-preserved
loop-i-preserved c = λ ls es. new_turn (c.loop-i.invariant ls es) (c.args.n - (c.loop-i.i + 1)) (omega arith) (c.push_one.ensures ls es) (search rules)

pub returns-in_err-push_one : goal.returns-in_err-push_one
returns-in_err-push_one c =
    let e : c.from_residual.result ≡ Err c.in_err-push_one.field-0.0 = search rules in
    λ ls es. runs_from (push_new c.args.n (token_of c.args.token)) (new_out (c.loop-i.invariant ls es) (c.args.n - (c.loop-i.i + 1)) (omega arith) (c.in_err-push_one.ensures ls es) refl e)

pub returns : goal.returns
returns c = λ ls es. runs_from (push_new c.args.n (token_of c.args.token)) (new_end (c.loop-i.invariant ls es) (omega arith))
