use Rattle.std.proofs.Common.{arith, ◌∙◌}
use Rattle.references.specs.Models.{edges_in, set_of}
use Rattle.references.specs.ModelLaws.{edges_count}
use Rattle.borrow_graph_edit.specs.Replaces.{cut_in, replaced_still, replaced_over, replaced_fits}
use Rattle.borrow_graph_edit.proofs.pairs.replace_set.Goals as goal

pub returns-then-shrinking-at : goal.returns-then-shrinking-at
returns-then-shrinking-at c =
    let a = c.args in (
      c.requires,
      λ e w. (
        e,
        replaced_still (set_of a.set.now) a.shrinking a.parent.0 a.child.0 (edges_in a.edges.now a.m) c.place-at.result.size c.len-k.result
            (c.place-at.ensures.1 e).1 c.len-k.ensures.0 c.if-shrinking-at.true,
      ),
    )

pub returns-then-m-at-gt-MAX_EDGES : goal.returns-then-m-at-gt-MAX_EDGES
returns-then-m-at-gt-MAX_EDGES c =
    let a = c.args in (
      tt,
      λ e w.
          let n = edges_count a.edges.now a.m (omega (arith, e, c.requires)) in (
            e,
            replaced_over (set_of a.set.now) a.shrinking a.parent.0 a.child.0 (edges_in a.edges.now a.m) c.place-at.result.size c.len-k.result
                (c.place-at.ensures.1 e).1 c.len-k.ensures.0 c.if-shrinking-at.false (omega (arith, n, c.if-m-at-gt-MAX_EDGES.true, c.place-at.ensures.0)),
          ),
    )

pub returns : goal.returns
returns c =
    let place = c.place-at in
    let a = c.args in
    let es = edges_in a.edges.now a.m in (
      omega (arith, c.replace.ensures.0, c.if-m-at-gt-MAX_EDGES.false, c.len-k.ensures),
      λ e w.
          let n = edges_count a.edges.now a.m (omega (arith, e, c.requires)) in
          let z = c.replace.ensures.1 e in (
            z.0,
            replaced_fits (set_of a.set.now) a.shrinking a.parent.0 a.child.0 es place.result.size c.len-k.result
                (place.ensures.1 e).1 c.len-k.ensures.0 c.if-shrinking-at.false _
                (z.1 ∙ cut_in es a.parent.0 a.child.0 place.result.low place.result.size (set_of a.set.now) w (place.ensures.1 e).0 (place.ensures.1 e).1)
                (omega (arith, n, c.if-m-at-gt-MAX_EDGES.false, place.ensures.0)),
          ),
    )
