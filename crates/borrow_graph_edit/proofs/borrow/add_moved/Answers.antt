use Rattle.std.proofs.Common.{arith, sym, ap, ◌∙◌, subst, drop, get_or, ◌+◌, List, []}
use Rattle.std.proofs.Math.Path.{refl}
use Rattle.meaning.specs.Lists.{keep}
use Rattle.meaning.specs.BorrowGraph.{GEdge, moves}
use Rattle.meaning.proofs.Laws.Pass.{wf_neat}
use Rattle.references.specs.Models.{row_of, edges_in, path_at}
use Rattle.references.specs.ModelLaws.{edges_over}
use Rattle.std.specs.Prelude.{Ok, Err}
use Rattle.borrow_graph_edit.specs.Edits.{Added, graph_with, err_is}
use Rattle.borrow_graph_edit.specs.BorrowLaws.{Going, going_turn, going_on, going_end}
use Rattle.borrow_graph_edit.specs.RowLaws.{keep_yes, keep_no, row_short}
use Rattle.borrow_graph_edit.proofs.borrow.add_moved.Goals.{then-is_moved+in_ok-n, else-is_moved}
use Rattle.borrow_graph_edit.proofs.borrow.add_moved.Goals as goal

pub loop-i-init : goal.loop-i-init
loop-i-init c = (c.requires.0, λ e o ns w r p. record { full = e; formed = w; room = r; pairs = p; rest = refl })

pub returns-in_err-n : goal.returns-in_err-n
returns-in_err-n c =
    let l = c.loop-i in
    let a = c.args in
    let q = moves a.parent.0 (path_at a.path) in
    let es = edges_in a.old.now a.m in
    let y = row_of (get_or a.old.now l.i []) in
    let ys = keep q (drop (l.i + 1) es) in
    rw (err_is c.from_residual.result c.in_err-n.field-0.0 c.from_residual.ensures.1) (
      tt,
      λ e o ns w r p.
          let s = keep_yes q a.old.now a.m (omega (arith, o, c.requires)) l.i c.loop-i-test.true [] (sym c.is_moved.ensures ∙ c.if-is_moved.true) in
          let v = l.invariant.1 e o ns w r p in
          let u = subst (λ (zs : List GEdge). Going ns (edges_in a.edges.now a.k) a.child.0 (path_at a.path) (keep q es) l.edges l.n zs) s v in
          let d = c.in_err-n.ensures.1 v.full (wf_neat (graph_with ns (edges_in l.edges l.n)) v.formed) in
          absurd (going_on ns (edges_in a.edges.now a.k) a.child.0 (path_at a.path) (keep q es) l.edges l.n y ys u (row_short (get_or a.old.now l.i [])) c.add_edge.new.edges c.in_err-n.field-0.0
          (subst (λ (x : GEdge). Added x l.edges l.n c.add_edge.new.edges (Err c.in_err-n.field-0.0)) c.factor-x.ensures d)),
    )

pub loop-i-preserved : goal.loop-i-preserved
loop-i-preserved c =
    let l = c.loop-i in
    let a = c.args in
    let q = moves a.parent.0 (path_at a.path) in
    let es = edges_in a.old.now a.m in
    let y = row_of (get_or a.old.now l.i []) in
    let ys = keep q (drop (l.i + 1) es) in
    elim c.if-is_moved.branch [
      | then-is_moved+in_ok-n w ↦ rw (w.edges-is, w.n-is) (
        w.in_ok-n.ensures.0,
        λ e o ns f r p.
            let s = keep_yes q a.old.now a.m (omega (arith, o, c.requires)) l.i c.loop-i-test.true [] (sym c.is_moved.ensures ∙ w.if-is_moved.true) in
            let v = l.invariant.1 e o ns f r p in
            let u = subst (λ (zs : List GEdge). Going ns (edges_in a.edges.now a.k) a.child.0 (path_at a.path) (keep q es) l.edges l.n zs) s v in
            let d = w.in_ok-n.ensures.1 v.full (wf_neat (graph_with ns (edges_in l.edges l.n)) v.formed) in
            going_turn ns (edges_in a.edges.now a.k) a.child.0 (path_at a.path) (keep q es) l.edges l.n y ys u (row_short (get_or a.old.now l.i [])) w.add_edge.new.edges w.in_ok-n.field-0 w.in_ok-n.ensures.0
            (subst (λ (x : GEdge). Added x l.edges l.n w.add_edge.new.edges (Ok w.in_ok-n.field-0)) w.factor-x.ensures d),
      )
      | else-is_moved w ↦ rw (w.edges-is, w.n-is) (
        l.invariant.0,
        λ e o ns f r p.
            subst (λ (zs : List GEdge). Going ns (edges_in a.edges.now a.k) a.child.0 (path_at a.path) (keep q es) l.edges l.n zs)
            (keep_no q a.old.now a.m (omega (arith, o, c.requires)) l.i c.loop-i-test.true [] (sym c.is_moved.ensures ∙ w.if-is_moved.false)) (l.invariant.1 e o ns f r p),
      )
    ]

pub returns : goal.returns
returns c =
    let l = c.loop-i in
    let a = c.args in
    let q = moves a.parent.0 (path_at a.path) in
    let es = edges_in a.old.now a.m in (
      l.invariant.0,
      λ e o ns w r p.
          let v = l.invariant.1 e o ns w r p in (
            v.full,
            going_end ns (edges_in a.edges.now a.k) a.child.0 (path_at a.path) (keep q es) l.edges l.n
                (subst (λ (ys : List GEdge). Going ns (edges_in a.edges.now a.k) a.child.0 (path_at a.path) (keep q es) l.edges l.n ys)
                (ap (λ (ys : List GEdge). keep q ys) (edges_over a.old.now a.m l.i c.loop-i-test.false (omega (arith, o, c.requires)))) v),
          ),
    )
