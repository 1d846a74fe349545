use mathlib.Core.Path.{ap}
use Prim.Native.Nat.{ℕ, ◌+◌, ◌≤◌}
use lib.ListN.{length}
use mathlib.Core.List.{List, map, [], ◌∷◌}
use lib.ListN.{take}
use Rattle.meaning.specs.Limits.{area_words, u32_most}
use Rattle.listing.specs.Models.{block_of}
use Rattle.abstract_state.specs.Models.{words, state_of}
use Rattle.absint.specs.Models.{blurred_end}
use Rattle.absint.specs.PropagateLaws as H
use native.Mathlib.Omega.{arith}
use Rattle.absint.proofs.propagate.propagate.Goals as goal

pub propagate_to-u-requires : goal.propagate_to-u-requires
propagate_to-u-requires c =
    let pre = c.requires in
    let small : c.args.t.blurred + u32_most ≤ blurred_end = pre.4 in
    (pre.0, pre.1, pre.2, omega (arith, small))

pub returns-then-b-eq1 : goal.returns-then-b-eq1
returns-then-b-eq1 c =
    let a = c.args in
    H.propagate_one (map block_of a.blocks.now) a.s.num_locals (block_of a.b) (state_of (words a.locals.now a.names.now a.edges.now a.s)) a.area.now a.t
    a.b.first.0 c.propagate_to-u.new.area c.propagate_to-u.result (ap {B = List ℕ} (λ (n : ℕ). take n (a.b.first.0 ∷ a.b.second.0 ∷ [])) c.if-b-eq1.true) c.propagate_to-u.ensures.0

pub propagate_to-requires : goal.propagate_to-requires
propagate_to-requires c =
    let first = c.propagate_to-u in
    let wide : area_words ≤ length c.args.area.now = c.requires.1 in
    let k = first.auto.area in
    let small : c.args.t.blurred + u32_most ≤ blurred_end = c.requires.4 in
    let passed = first.ensures.0.passed in
    let b = passed.blurred in
    let f = passed.few in
    (c.requires.0, omega (arith, wide, k), record { fits = c.requires.2.fits; sound = first.ensures.1; strong = c.requires.2.strong }, omega (arith, small, b, f))

pub returns : goal.returns
returns c =
    let pre = c.requires in
    let a = c.args in
    H.propagate_two (map block_of a.blocks.now) a.s.num_locals (block_of a.b) (state_of (words a.locals.now a.names.now a.edges.now a.s)) a.area.now a.t
    a.b.first.0 a.b.second.0 c.propagate_to-u.new.area c.propagate_to.new.area c.propagate_to-u.result c.propagate_to.result
    (H.take_two a.b.count a.b.first.0 a.b.second.0 (let h : 1 ≤ a.b.count = pre.3 in λ z. omega (arith, h, z)) c.if-b-eq1.false) c.propagate_to-u.ensures.0 c.propagate_to.ensures.0
