use Rattle.std.specs.Prelude.{◌≡◌, ◌+◌, ◌/◌, ◌%◌}
use mathlib.Core.Path.{refl}
use native.Mathlib.Omega.{arith}
use Rattle.abstract_state.proofs.words.value_word.Goals as goal

pub returns-in-Reference : goal.returns-in-Reference
returns-in-Reference c =
    let n = c.in-Reference.id.0 in
    let p : (131072 + n) / 65536 ≡ 2 = omega arith in
    let q : (131072 + n) % 65536 ≡ n = omega arith in
    rw (c.in-Reference.is, p, q) (refl, refl)
