use mathlib.Core.Path.{sym, ◌∙◌, subst}
use Rattle.meaning.specs.BorrowGraph.{GEdge, well_formed, pair_ok}
use Rattle.meaning.proofs.Laws.Base.{and_l}
use Rattle.meaning.proofs.Laws.Pass.{wf_neat}
use Rattle.references.specs.Models.{edges_in, path_at}
use Rattle.borrow_graph_edit.specs.Edits.{graph_with, Added, added_edits}
use Rattle.borrow_graph_edit.specs.BorrowLaws.{strong, strong_idle}
use Rattle.borrow_graph_edit.proofs.borrow.factor.Goals as goal

pub returns : goal.returns
returns c =
    let a = c.args in
    let es = edges_in a.edges.now a.m in (
      c.add_edge.ensures.0,
      λ e ns t.
          let w = and_l (well_formed (graph_with ns es)) (pair_ok ns a.parent.0 a.child.0) t in
          let d = subst (λ (x : GEdge). Added x a.edges.now a.m c.add_edge.new.edges c.add_edge.result) c.edge-x.ensures
          (c.add_edge.ensures.1 e (wf_neat (graph_with ns es) w)) in
          let u = added_edits (strong ns es a.parent.0 (path_at a.path) a.child.0 a.loc.0) a.edges.now a.m c.add_edge.new.edges c.add_edge.result d ns in
          let idle = sym (c.any_moves.ensures e) ∙ c.if-any_moves.false in
          (u.0 ∙ sym (strong_idle ns es a.parent.0 (path_at a.path) a.child.0 a.loc.0 t idle), u.1, u.2, u.3),
    )
