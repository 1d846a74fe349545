use Rattle.std.proofs.Common.{sym, ◌∙◌}
use Rattle.std.proofs.Math.Path.{refl}
use Rattle.meaning.specs.BorrowGraph.{borrow_strong}
use Rattle.references.specs.Models.{edges_in, path_at}
use Rattle.borrow_graph_edit.specs.Edits.{graph_with}
use Rattle.borrow_graph_edit.specs.BorrowLaws.{strong_ends}
use Rattle.borrow_graph_edit.proofs.borrow.factor_below.Goals as goal

pub returns-then-not-none_ends_at : goal.returns-then-not-none_ends_at
returns-then-not-none_ends_at c =
    let a = c.args in
    (tt, λ e ns t. (sym (strong_ends ns (edges_in a.edges.now a.m) a.parent.0 (path_at a.path) a.child.0 a.loc.0 (sym (c.none_ends_at.ensures e) ∙ c.if-not-none_ends_at.true)), e, refl, tt))

pub returns : goal.returns
returns c =
    let a = c.args in (
      c.settled.ensures.0,
      λ e ns t.
          let z = c.move_below-r.ensures.1 refl e ns t (sym (c.none_ends_at.ensures e) ∙ c.if-not-none_ends_at.false) in
          c.settled.ensures.1 z.0 e ns (borrow_strong (graph_with ns (edges_in a.edges.now a.m)) a.parent.0 (path_at a.path) a.child.0 a.loc.0) z.1,
    )
