use Rattle.std.proofs.Common.{◌∙◌}
use Rattle.meaning.specs.Laws.Graph.{insert_all}
use Rattle.meaning.specs.Refinement.Passes.{splices, splice_set}
use Rattle.meaning.proofs.Laws.Pass.{neat_few}
use Rattle.references.specs.Models.{edges_in}
use Rattle.borrow_graph_edit.specs.Edits.{err_is}
use Rattle.borrow_graph_edit.proofs.release.spliced.Goals as goal

pub returns-in_err-splice_each : goal.returns-in_err-splice_each
unfolding splice_set
returns-in_err-splice_each c =
    let a = c.args in
    let es = edges_in a.edges.now a.m in
    rw (err_is c.from_residual.result c.in_err-splice_each.field-0.0 c.from_residual.ensures.1)
    (λ l n.
    let p = c.set_between-parents.ensures l (neat_few es a.parent.0 a.id.0 n) in
    let q = c.set_between-children.ensures l (neat_few es a.id.0 a.child.0 n) in
    let s = c.set_between-set.ensures l (neat_few es a.parent.0 a.child.0 n) in
    c.in_err-splice_each.ensures ∙ (λ i. insert_all (splices (p i).edges (q i).edges) (s i)))

pub returns : goal.returns
unfolding splice_set
returns c =
    let a = c.args in
    let es = edges_in a.edges.now a.m in
    λ l n.
    let p = c.set_between-parents.ensures l (neat_few es a.parent.0 a.id.0 n) in
    let q = c.set_between-children.ensures l (neat_few es a.id.0 a.child.0 n) in
    let s = c.set_between-set.ensures l (neat_few es a.parent.0 a.child.0 n) in
    c.in_ok-splice_each.ensures ∙ (λ i. insert_all (splices (p i).edges (q i).edges) (s i))
