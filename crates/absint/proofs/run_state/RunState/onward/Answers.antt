use Prim.Native.Nat.{◌+◌}
use mathlib.Core.Path.{refl, ap}
use Rattle.absint.specs.Models.{statuses_of, next_by}
use Rattle.absint.proofs.run_state.RunState.onward.Goals as goal

pub returns : goal.returns
unfolding statuses_of
returns c =
    let t = c.args.self in
    (λ e. ap (next_by (t.next + 1)) e, refl, refl, refl, refl)
