use Rattle.borrow_graph_edit.specs.Edits.{err_is}
use mathlib.Core.Path.{sym, ap, ◌∙◌}
use Rattle.meaning.specs.Answers.{Ans, and_then}
use Rattle.meaning.specs.References.{EdgeSet}
use Rattle.meaning.specs.Laws.Graph.{insert_all}
use Rattle.meaning.specs.Refinement.Pairs.{replace_one}
use Rattle.meaning.specs.Refinement.Passes.{uncovered, join_set}
use Rattle.meaning.proofs.Laws.Pass.{neat_few, pass_one}
use Rattle.references.specs.Models.{edges_in}
use Rattle.borrow_graph_edit.proofs.join.join_pair.Goals as goal

pub returns : goal.returns
unfolding join_set
returns c = (
  c.replace_set.ensures.0,
  λ le lo lt ne no nt.
      let a = c.args in
      let es = edges_in a.ours.now a.k in
      let fs = edges_in a.theirs.now a.n in
      let p = a.parent.0 in
      let c' = a.child.0 in
      let z = c.in_ok-join_sets.ensures in
      let u = c.set_between-x.ensures lo (neat_few es p c' no) in
      let v = c.set_between-y.ensures lt (neat_few fs p c' nt) in
      let w = c.replace_set.ensures.1 le ne in (
        w.0,
        w.1 ∙ ap (λ (b : Ans EdgeSet). and_then b (λ s. replace_one a.shrinking p c' s (edges_in a.edges.now a.m))) (z ∙ (λ i. insert_all (uncovered (u i).edges (v i).edges) (u i)))
            ∙ sym (pass_one a.shrinking (join_set es fs) p c' (edges_in a.edges.now a.m)),
      ),
)

pub returns-in_err-join_sets : goal.returns-in_err-join_sets
unfolding join_set
returns-in_err-join_sets c =
    let a = c.args in
    let es = edges_in a.ours.now a.k in
    let fs = edges_in a.theirs.now a.n in
    rw (err_is c.from_residual.result c.in_err-join_sets.field-0.0 c.from_residual.ensures.1) (
      tt,
      λ le lo lt ne no nt.
          let z = c.in_err-join_sets.ensures in
          let u = c.set_between-x.ensures lo (neat_few es a.parent.0 a.child.0 no) in
          let v = c.set_between-y.ensures lt (neat_few fs a.parent.0 a.child.0 nt) in (
            le,
            ap (λ (b : Ans EdgeSet). and_then b (λ s. replace_one a.shrinking a.parent.0 a.child.0 s (edges_in a.edges.now a.m))) (z ∙ (λ i. insert_all (uncovered (u i).edges (v i).edges) (u i)))
                ∙ sym (pass_one a.shrinking (join_set es fs) a.parent.0 a.child.0 (edges_in a.edges.now a.m)),
          ),
    )
