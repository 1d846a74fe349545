use Rattle.std.proofs.Common.{arith, sym, ap, ◌∙◌, length, take, drop, ◌++◌, ◌+◌}
use Rattle.std.proofs.Math.Path.{refl}
use Rattle.vm_status.specs.Models.{number_of}
use Rattle.meaning.specs.References.{EdgeSet, fits, offer, offer_report}
use Rattle.meaning.specs.Lists.{keep}
use Rattle.meaning.specs.BorrowGraph.{is_before, set_at, tagged}
use Rattle.meaning.proofs.Laws.Pass.{neat_few, offer_ok}
use Rattle.references.specs.Models.{row_of, edges_in, set_of, report_of}
use Rattle.references.specs.ModelLaws.{edges_count}
use Rattle.borrow_graph_edit.specs.Edits.{err_is}
use Rattle.borrow_graph_edit.specs.Replaces.{cut_in, more_refused, more_over, more_blurs, more_fits}
use Rattle.borrow_graph_edit.proofs.edges.add_more.Goals as goal

pub returns-in_err-report : goal.returns-in_err-report
returns-in_err-report c =
    let a = c.args in
    let es = edges_in a.edges.now a.m in
    let x = row_of a.x in
    let r = c.in_err-report.field-0.0 in
    rw (err_is c.from_residual.result r c.from_residual.ensures.1) (
      tt,
      λ e w.
          let s = (c.between-at.ensures.1 e (neat_few es c.parent-p.result.0 c.child-c.result.0 w)).0 ∙ (λ i. set_at (c.parent-p.ensures i) (c.child-c.ensures i) es) in
          (e, more_refused x es (number_of r) (c.in_err-report.ensures.0 ∙ ap (λ (t : EdgeSet). offer t (fits x.edge)) s ∙ offer_ok _ _), refl, tt),
    )

pub returns-then-m-size-gt-MAX_EDGES : goal.returns-then-m-size-gt-MAX_EDGES
returns-then-m-size-gt-MAX_EDGES c =
    let a = c.args in
    let es = edges_in a.edges.now a.m in
    let x = row_of a.x in (
      tt,
      λ e w.
          let n = edges_count a.edges.now a.m (omega (arith, e, c.requires)) in
          let s = (c.between-at.ensures.1 e (neat_few es c.parent-p.result.0 c.child-c.result.0 w)).0 ∙ (λ i. set_at (c.parent-p.ensures i) (c.child-c.ensures i) es) in
          let t = c.in_ok-report.ensures.0 ∙ ap (λ (u : EdgeSet). offer u (fits x.edge)) s ∙ offer_ok _ _ in
          let size = c.len-size.ensures.0 ∙ ap (λ (u : EdgeSet). length u.edges) s in (
            e,
            more_over x es (set_of c.insert.new.self) (sym t) (omega (arith, n, size, c.len-size.ensures.0, c.len.ensures.0, c.if-m-size-gt-MAX_EDGES.true, c.between-at.ensures.0)),
            refl,
            tt,
          ),
    )

pub returns : goal.returns
unfolding offer_report
returns c =
    let a = c.args in
    let es = edges_in a.edges.now a.m in
    let x = row_of a.x in (
      omega (arith, c.replace.ensures.0, c.if-m-size-gt-MAX_EDGES.false, c.len.ensures.0),
      λ e w.
          let n = edges_count a.edges.now a.m (omega (arith, e, c.requires)) in
          let b = c.between-at.ensures.1 e (neat_few es c.parent-p.result.0 c.child-c.result.0 w) in
          let s = b.0 ∙ (λ i. set_at (c.parent-p.ensures i) (c.child-c.ensures i) es) in
          let t = c.in_ok-report.ensures.0 ∙ ap (λ (u : EdgeSet). offer u (fits x.edge)) s ∙ offer_ok _ _ in
          let size = c.len-size.ensures.0 ∙ ap (λ (u : EdgeSet). length u.edges) s in
          let low = c.between-at.result.low in
          let old = c.len-size.result in
          let set = set_of c.insert.new.self in
          let z = c.replace.ensures.1 e in
          let y = z.1 ∙ (λ i. take low es ++ (tagged (c.parent-p.ensures i) (c.child-c.ensures i) set.blurred set.edges ++ drop (low + old) es)) in
          let cut = y ∙ cut_in es x.parent x.child low old set w (b.1 ∙ (λ i. length (keep (is_before (c.parent-p.ensures i) (c.child-c.ensures i)) es))) size in (
            z.0,
            more_fits x es set (sym t) _ cut (omega (arith, n, size, c.len.ensures.0, c.if-m-size-gt-MAX_EDGES.false, c.len-size.ensures.0, c.between-at.ensures.0)),
            tt,
            c.blurs.ensures ∙ sym (more_blurs x es set (sym t) _ cut (report_of c.in_ok-report.report) (sym (c.in_ok-report.ensures.2 ∙ ap (λ (u : EdgeSet). offer_report u (fits x.edge)) s))),
          ),
    )
