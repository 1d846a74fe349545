use Rattle.std.proofs.Common.{arith, ◌≡◌, ◌≤◌, sym, ap, ◌∙◌, subst, length, not, List, ℕ}
use Rattle.std.specs.Prelude.{Ok, Err}
use Rattle.meaning.specs.Lists.{keep}
use Rattle.meaning.specs.BorrowGraph.{GEdge, moves}
use Rattle.meaning.proofs.Laws.Pass.{wf_neat}
use Rattle.references.specs.Models.{edges_in, path_at}
use Rattle.references.specs.ModelLaws.{edges_few, edges_count}
use Rattle.borrow_graph_edit.specs.Edits.{graph_with, Added, added_edits, err_is}
use Rattle.borrow_graph_edit.specs.BorrowLaws.{strong, staying_formed, moving_fits, moving_pairs, strong_moved}
use Rattle.borrow_graph_edit.proofs.borrow.move_below.Goals as goal

pub returns-in_err-n : goal.returns-in_err-n
returns-in_err-n c =
    let a = c.args in
    let es = edges_in a.old.now a.m in
    let p = a.parent.0 in
    let path = path_at a.path in
    let k = a.child.0 in
    rw (err_is c.from_residual.result c.in_err-n.field-0.0 c.from_residual.ensures.1) (
      tt,
      λ h e ns t s.
          let few : length es ≤ 96 = edges_few a.old.now a.m e in
          let o = c.take_out-k.ensures.1 (ap length h ∙ e) in
          let fs = edges_in c.take_out-k.new.edges c.take_out-k.result in
          let q = o.1 ∙ ap (λ (rows : List (List ℕ)). keep (λ (x : GEdge). not (moves p path x)) (edges_in rows a.m)) h in
          let n : length fs ≡ c.take_out-k.result = edges_count c.take_out-k.new.edges c.take_out-k.result (omega (arith, o.0, c.take_out-k.ensures.0, c.requires)) in
          absurd (c.in_err-n.ensures.1 o.0 e ns (staying_formed ns es p path k a.loc.0 t s few fs q) (moving_fits ns es p path k a.loc.0 t s few c.take_out-k.result fs n q)
          (moving_pairs ns es p path k a.loc.0 t s few)).1,
    )

pub returns-in_err-add_edge : goal.returns-in_err-add_edge
returns-in_err-add_edge c =
    let a = c.args in
    let es = edges_in a.old.now a.m in
    let p = a.parent.0 in
    let path = path_at a.path in
    let k = a.child.0 in
    let r = c.in_err-add_edge.field-0.0 in
    let hs = edges_in c.add_moved.new.edges c.in_ok-n.n in
    rw (err_is c.from_residual-in_err-add_edge.result r c.from_residual-in_err-add_edge.ensures.1) (
      tt,
      λ h e ns t s.
          let few : length es ≤ 96 = edges_few a.old.now a.m e in
          let o = c.take_out-k.ensures.1 (ap length h ∙ e) in
          let fs = edges_in c.take_out-k.new.edges c.take_out-k.result in
          let q = o.1 ∙ ap (λ (rows : List (List ℕ)). keep (λ (x : GEdge). not (moves p path x)) (edges_in rows a.m)) h in
          let n : length fs ≡ c.take_out-k.result = edges_count c.take_out-k.new.edges c.take_out-k.result (omega (arith, o.0, c.take_out-k.ensures.0, c.requires)) in
          let v = c.in_ok-n.ensures.1 o.0 e ns (staying_formed ns es p path k a.loc.0 t s few fs q) (moving_fits ns es p path k a.loc.0 t s few c.take_out-k.result fs n q)
          (moving_pairs ns es p path k a.loc.0 t s few) in
          let d = subst (λ (x : GEdge). Added x c.add_moved.new.edges c.in_ok-n.n c.add_edge.new.edges (Err r)) c.edge-x.ensures
          (c.in_err-add_edge.ensures.1 v.0 (wf_neat (graph_with ns hs) v.1.formed)) in
          (d.0, (added_edits (strong ns es p path k a.loc.0) c.add_moved.new.edges c.in_ok-n.n c.add_edge.new.edges (Err r) d ns).0 ∙ sym (strong_moved ns es p path k a.loc.0 t s few fs hs q v.1)),
    )

pub returns : goal.returns
returns c =
    let a = c.args in
    let es = edges_in a.old.now a.m in
    let p = a.parent.0 in
    let path = path_at a.path in
    let k = a.child.0 in
    let r = c.in_ok-add_edge.field-0 in
    let hs = edges_in c.add_moved.new.edges c.in_ok-n.n in (
      c.in_ok-add_edge.ensures.0,
      λ h e ns t s.
          let few : length es ≤ 96 = edges_few a.old.now a.m e in
          let o = c.take_out-k.ensures.1 (ap length h ∙ e) in
          let fs = edges_in c.take_out-k.new.edges c.take_out-k.result in
          let q = o.1 ∙ ap (λ (rows : List (List ℕ)). keep (λ (x : GEdge). not (moves p path x)) (edges_in rows a.m)) h in
          let n : length fs ≡ c.take_out-k.result = edges_count c.take_out-k.new.edges c.take_out-k.result (omega (arith, o.0, c.take_out-k.ensures.0, c.requires)) in
          let v = c.in_ok-n.ensures.1 o.0 e ns (staying_formed ns es p path k a.loc.0 t s few fs q) (moving_fits ns es p path k a.loc.0 t s few c.take_out-k.result fs n q)
          (moving_pairs ns es p path k a.loc.0 t s few) in
          let d = subst (λ (x : GEdge). Added x c.add_moved.new.edges c.in_ok-n.n c.add_edge.new.edges (Ok r)) c.edge-x.ensures
          (c.in_ok-add_edge.ensures.1 v.0 (wf_neat (graph_with ns hs) v.1.formed)) in
          (d.0, (added_edits (strong ns es p path k a.loc.0) c.add_moved.new.edges c.in_ok-n.n c.add_edge.new.edges (Ok r) d ns).0 ∙ sym (strong_moved ns es p path k a.loc.0 t s few fs hs q v.1)),
    )
