use mathlib.Core.Path.{ap, sym, ◌∙◌}
use Rattle.meaning.proofs.Laws.Base.{eqb_eq, eqb_ne}
use Rattle.borrow_graph_edit.specs.Edits.{err_is}
use Rattle.meaning.specs.Answers.{Ans, and_then}
use Rattle.meaning.specs.References.{EdgeSet}
use Rattle.meaning.specs.Refinement.Pairs.{replace_one}
use Rattle.meaning.specs.Refinement.Passes.{splice_set}
use Rattle.meaning.proofs.Laws.Pass.{pass_cycle, pass_across}
use Rattle.references.specs.Models.{edges_in}
use Rattle.borrow_graph_edit.proofs.release.splice_pair.Goals as goal

pub returns-then-eq : goal.returns-then-eq
returns-then-eq c =
    let a = c.args in
    let new = splice_set (edges_in a.old.now a.m) a.id.0 in (
      c.requires.0,
      λ e o k n. (e, pass_cycle a.shrinking new a.id.0 a.parent.0 a.child.0 (edges_in a.edges.now a.k) (eqb_eq (sym c.eq.ensures ∙ c.if-eq.true))),
    )

pub returns : goal.returns
returns c =
    let a = c.args in
    let es = edges_in a.edges.now a.k in (
      c.replace_set.ensures.0,
      λ e o k n.
          let r = c.replace_set.ensures.1 e k in (
            r.0,
            r.1 ∙ ap (λ (x : Ans EdgeSet). and_then x (λ t. replace_one a.shrinking a.parent.0 a.child.0 t es)) (c.in_ok-set.ensures o n)
                ∙ pass_across a.shrinking (splice_set (edges_in a.old.now a.m) a.id.0) a.id.0 a.parent.0 a.child.0 es (eqb_ne {m = a.parent.0} {n = a.child.0} (sym c.eq.ensures ∙ c.if-eq.false)),
          ),
    )

pub returns-in_err-set : goal.returns-in_err-set
returns-in_err-set c =
    let a = c.args in
    let es = edges_in a.edges.now a.k in
    rw (err_is c.from_residual.result c.in_err-set.field-0.0 c.from_residual.ensures.1) (
      tt,
      λ e o k n. (
        e,
        ap (λ (x : Ans EdgeSet). and_then x (λ t. replace_one a.shrinking a.parent.0 a.child.0 t es)) (c.in_err-set.ensures o n)
            ∙ pass_across a.shrinking (splice_set (edges_in a.old.now a.m) a.id.0) a.id.0 a.parent.0 a.child.0 es
            (eqb_ne {m = a.parent.0} {n = a.child.0} (sym c.eq.ensures ∙ c.if-eq.false)),
      ),
    )
