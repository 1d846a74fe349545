use Rattle.std.proofs.Common.{◌≡◌, sym, ap, ◌∙◌, true, false, ◌&&◌, Bool, leb}
use Rattle.std.proofs.Math.Path.{refl}
use Rattle.meaning.specs.Limits.{max_edges}
use Rattle.meaning.proofs.Laws.Base.{and_l, and_r, and_i, le_leb}
use Rattle.meaning.specs.BorrowGraph.{well_formed, same_names, join_graphs}
use Rattle.meaning.proofs.Laws.Pass.{join_9, join_when, join_neat}
use Rattle.meaning.proofs.Laws.Call.{join_graphs_law}
use Rattle.references.specs.Models.{edges_in}
use Rattle.vm_status.specs.declared.Refusal.TheVariants.{IllFormed}
use Rattle.borrow_graph.specs.Models.{graph_in}
use Rattle.borrow_graph_edit.specs.Models.{replaced_in}
use Rattle.borrow_graph_edit.specs.Edits.{graph_with, answer_as, answers_ok, answers_err, answers_refused, err_is}
use Rattle.borrow_graph_edit.proofs.join.join.Goals as goal

pub returns-then-not-few-same : goal.returns-then-not-few-same
returns-then-not-few-same c =
    λ t u.
    let a = c.args in
    let g = graph_in a.names.now a.edges.now a.graph.now in
    let h = graph_in a.their_names.now a.their_edges.now a.other in
    let few : leb a.graph.now.edges 96 && leb a.other.edges 96 ≡ true = and_i (le_leb t.edges) (le_leb u.edges) in
    let same : c.joinable-same.result ≡ false = ap (λ (b : Bool). b && c.joinable-same.result) (sym few) ∙ c.if-not-few-same.true in
    answers_refused (join_graphs g h) a.names.now a.edges.now a.graph.now t IllFormed (join_9 g h (sym (c.joinable-same.ensures a.edges.now a.their_edges.now t u) ∙ same))

pub returns-in_err-c : goal.returns-in_err-c
returns-in_err-c c =
    let a = c.args in
    let g = graph_in a.names.now a.edges.now a.graph.now in
    let h = graph_in a.their_names.now a.their_edges.now a.other in
    let r = c.join_all-r.result in
    let new = c.join_all-r.new.edges in
    let k = c.in_err-c.field-0.0 in
    rw (err_is c.from_residual.result k c.from_residual.ensures.1)
    (λ t u.
    let e = sym (c.joinable-same.ensures a.edges.now a.their_edges.now t u) ∙ and_r (leb a.graph.now.edges max_edges && leb a.other.edges max_edges) c.joinable-same.result c.if-not-few-same.false in
    let n = join_neat g h e in
    let z = c.join_all-r.ensures.1 refl t.rows u.rows n.0 n.1 in
    let s = c.in_err-c.ensures.1 z.0 t.rows g.names (join_graphs g h)
    (answer_as (edges_in new) (graph_with g.names) r (replaced_in new r) refl ∙ sym (join_when g h e (replaced_in new r) z.1)) in
    answers_err (join_graphs g h) a.names.now a.edges.now a.graph.now t c.settled.new.edges g.names k s)

pub returns : goal.returns
returns c =
    λ t u.
    let a = c.args in
    let g = graph_in a.names.now a.edges.now a.graph.now in
    let h = graph_in a.their_names.now a.their_edges.now a.other in
    let r = c.join_all-r.result in
    let new = c.join_all-r.new.edges in
    let few = leb a.graph.now.edges max_edges && leb a.other.edges max_edges in
    let same = sym (c.joinable-same.ensures a.edges.now a.their_edges.now t u) in
    let e = same ∙ and_r few c.joinable-same.result c.if-not-few-same.false in
    let n = join_neat g h e in
    let z = c.join_all-r.ensures.1 refl t.rows u.rows n.0 n.1 in
    let s = c.in_ok-c.ensures.1 z.0 t.rows g.names (join_graphs g h)
    (answer_as (edges_in new) (graph_with g.names) r (replaced_in new r) refl ∙ sym (join_when g h e (replaced_in new r) z.1)) in
    answers_ok (join_graphs g h) a.names.now a.edges.now a.graph.now t c.settled.new.edges g.names (λ k q. (join_graphs_law g h k q).formed) c.in_ok-c.c s c.in_ok-c.ensures.0
    a.names.now a.graph.now.refs refl t.refs t.words a.graph.now.formed (t.formed ∙ and_l (well_formed g) (well_formed h) (and_l (well_formed g && well_formed h) (same_names g h) e))
