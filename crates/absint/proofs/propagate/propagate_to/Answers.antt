use mathlib.Core.List.{map}
use mathlib.Core.Path.{◌≡◌, sym, ◌∙◌}
use lib.ListN.{length}
use Rattle.std.proofs.lemmas.List.{length-map}
use Rattle.listing.specs.Models.{block_of}
use Rattle.abstract_state.specs.Models.{words, state_of}
use Rattle.absint.specs.PropagateLaws as H
use native.Mathlib.Omega.{arith}
use Rattle.absint.proofs.propagate.propagate_to.Goals as goal

pub returns-then-is_some : goal.returns-then-is_some
returns-then-is_some c =
    let a = c.args in (
      H.propagated_stopped (map block_of a.blocks.now) a.s.num_locals (block_of a.b) (state_of (words a.locals.now a.names.now a.edges.now a.s)) a.e.0 a.area.now
          a.t (sym c.is_some.ensures ∙ c.if-is_some.true),
      c.requires.2.sound,
    )

pub returns-in-None : goal.returns-in-None
returns-in-None c =
    let a = c.args in
    let far = c.in-None.ensures in
    let n : length (map block_of a.blocks.now) ≡ length a.blocks.now = simp length-map in (
      H.propagated_nowhere (map block_of a.blocks.now) a.s.num_locals (block_of a.b) (state_of (words a.locals.now a.names.now a.edges.now a.s)) a.e.0 a.area.now
          a.t (H.no_stop a.t.stopped (sym c.is_some.ensures ∙ c.if-is_some.false)) (omega (arith, far, n)),
      c.requires.2.sound,
    )

pub propagate_at-requires : goal.propagate_at-requires
propagate_at-requires c =
    let few = c.requires.0 in
    let z = c.in-Some.ensures.1 in
    (H.no_stop c.args.t.stopped (sym c.is_some.ensures ∙ c.if-is_some.false), omega (arith, few, z), c.requires.1, c.requires.2, c.requires.3)

pub returns-in-Some : goal.returns-in-Some
returns-in-Some c =
    let found = c.in-Some.ensures in
    let few = c.requires.0 in
    let z = found.1 in
    let n : length (map block_of c.args.blocks.now) ≡ length c.args.blocks.now = simp length-map in
    let at = c.propagate_at.ensures in
    (at.0 (map block_of c.args.blocks.now) found.0 (omega (arith, n, z)) (omega (arith, n, few)), at.1)
