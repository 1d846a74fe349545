use Rattle.std.specs.Prelude.{Ok, Err, false}
use Rattle.std.proofs.Common.{sym, ◌∙◌, subst}
use Rattle.std.proofs.Math.Path.{refl}
use Rattle.vm_status.specs.declared.Refusal.TheVariants.{IllFormed}
use Rattle.meaning.specs.BorrowGraph.{GEdge, well_formed, pair_ok, between, borrow_weak}
use Rattle.meaning.proofs.Laws.Base.{and_l, and_r}
use Rattle.meaning.proofs.Laws.Borrow.{borrow_weak_law}
use Rattle.meaning.proofs.Laws.CallCases.{weak_9, weak_ok}
use Rattle.meaning.proofs.Laws.Pass.{wf_neat}
use Rattle.references.specs.Models.{path_at}
use Rattle.borrow_graph.specs.Models.{graph_in}
use Rattle.borrow_graph_edit.specs.Edits.{Added, added_edits, answers_refused, answers_err, answers_ok, err_is}
use Rattle.borrow_graph_edit.specs.BorrowLaws.{test_formed, test_yes, test_no}
use Rattle.borrow_graph_edit.proofs.borrow.add_weak_borrow.Goals as goal

pub returns-then-not-g-pair_ok : goal.returns-then-not-g-pair_ok
returns-then-not-g-pair_ok c =
    let a = c.args in
    let g = graph_in a.names.now a.edges.now a.g.now in
    let p = a.parent.0 in
    let k = a.child.0 in
    λ t. answers_refused (borrow_weak g p (path_at a.path) k a.loc.0) a.names.now a.edges.now a.g.now t IllFormed (sym (weak_9 g p (path_at a.path) k a.loc.0
    (test_no a.g.now.formed c.pair_ok.result a.g.now.edges (well_formed g) (pair_ok g.names p k) t.formed (c.pair_ok.ensures t.words) t.edges c.if-not-g-pair_ok.true)))

pub returns-in_err-c : goal.returns-in_err-c
returns-in_err-c c =
    let a = c.args in
    let es = a.edges.now in
    let g = graph_in a.names.now es a.g.now in
    let p = a.parent.0 in
    let k = a.child.0 in
    let n = c.in_err-c.field-0.0 in
    let new = c.add_edge.new.edges in
    rw (err_is c.from_residual.result n c.from_residual.ensures.1)
    (λ t.
    let y = test_yes a.g.now.formed c.pair_ok.result a.g.now.edges (well_formed g) (pair_ok g.names p k) t.formed (c.pair_ok.ensures t.words) c.if-not-g-pair_ok.false in
    let w = and_l (well_formed g) (pair_ok g.names p k) y in
    let d = subst (λ (x : GEdge). Added x es a.g.now.edges new (Err n)) c.edge-x.ensures (c.in_err-c.ensures.1 t.rows (wf_neat g w)) in
    let u = added_edits (between p (record { strong = false; path = path_at a.path; offset = a.loc.0 }) k) es a.g.now.edges new (Err n) d g.names in
    answers_err (borrow_weak g p (path_at a.path) k a.loc.0) a.names.now es a.g.now t new g.names n
    (u.0 ∙ weak_ok g p (path_at a.path) k a.loc.0 w (and_r (well_formed g) (pair_ok g.names p k) y), u.1, u.2, u.3))

pub returns : goal.returns
returns c =
    let a = c.args in
    let es = a.edges.now in
    let g = graph_in a.names.now es a.g.now in
    let p = a.parent.0 in
    let k = a.child.0 in
    let new = c.add_edge.new.edges in
    λ t.
    let test = c.if-not-g-pair_ok.false in
    let y = test_yes a.g.now.formed c.pair_ok.result a.g.now.edges (well_formed g) (pair_ok g.names p k) t.formed (c.pair_ok.ensures t.words) test in
    let w = and_l (well_formed g) (pair_ok g.names p k) y in
    let d = subst (λ (x : GEdge). Added x es a.g.now.edges new (Ok c.in_ok-c.c)) c.edge-x.ensures (c.in_ok-c.ensures.1 t.rows (wf_neat g w)) in
    let u = added_edits (between p (record { strong = false; path = path_at a.path; offset = a.loc.0 }) k) es a.g.now.edges new (Ok c.in_ok-c.c) d g.names in
    answers_ok (borrow_weak g p (path_at a.path) k a.loc.0) a.names.now es a.g.now t new g.names (λ h e. (borrow_weak_law g p (path_at a.path) k a.loc.0 h e).formed) c.in_ok-c.c
    (u.0 ∙ weak_ok g p (path_at a.path) k a.loc.0 w (and_r (well_formed g) (pair_ok g.names p k) y), u.1, u.2, u.3)
    c.in_ok-c.ensures.0 a.names.now a.g.now.refs refl t.refs t.words a.g.now.formed (test_formed a.g.now.formed c.pair_ok.result a.g.now.edges test)
