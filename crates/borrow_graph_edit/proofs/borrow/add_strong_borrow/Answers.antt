use Rattle.meaning.specs.BorrowGraph.{well_formed, pair_ok, borrow_strong}
use Rattle.meaning.proofs.Laws.Borrow.{borrow_strong_law}
use Rattle.std.proofs.Math.Path.{refl}
use Rattle.vm_status.specs.declared.Refusal.TheVariants.{IllFormed}
use Rattle.references.specs.Models.{path_at}
use Rattle.borrow_graph.specs.Models.{graph_in}
use Rattle.borrow_graph_edit.specs.Edits.{answers_refused, answers_err, answers_ok, err_is}
use Rattle.borrow_graph_edit.specs.BorrowLaws.{test_formed, test_yes, test_no, strong_names}
use Rattle.borrow_graph_edit.proofs.borrow.add_strong_borrow.Goals as goal

pub returns-then-not-g-pair_ok : goal.returns-then-not-g-pair_ok
returns-then-not-g-pair_ok c =
    let a = c.args in
    let g = graph_in a.names.now a.edges.now a.g.now in
    let p = a.parent.0 in
    let k = a.child.0 in
    λ t. answers_refused (borrow_strong g p (path_at a.path) k a.loc.0) a.names.now a.edges.now a.g.now t IllFormed (strong_names g.names g.edges p (path_at a.path) k a.loc.0
    (test_no a.g.now.formed c.pair_ok.result a.g.now.edges (well_formed g) (pair_ok g.names p k) t.formed (c.pair_ok.ensures t.words) t.edges c.if-not-g-pair_ok.true))

pub returns-in_err-c : goal.returns-in_err-c
returns-in_err-c c =
    let a = c.args in
    let g = graph_in a.names.now a.edges.now a.g.now in
    let p = a.parent.0 in
    let k = a.child.0 in
    let n = c.in_err-c.field-0.0 in
    rw (err_is c.from_residual.result n c.from_residual.ensures.1)
    (λ t.
    let y = test_yes a.g.now.formed c.pair_ok.result a.g.now.edges (well_formed g) (pair_ok g.names p k) t.formed (c.pair_ok.ensures t.words) c.if-not-g-pair_ok.false in
    answers_err (borrow_strong g p (path_at a.path) k a.loc.0) a.names.now a.edges.now a.g.now t c.factor.new.edges g.names n (c.in_err-c.ensures.1 t.rows g.names y))

pub returns : goal.returns
returns c =
    let a = c.args in
    let g = graph_in a.names.now a.edges.now a.g.now in
    let p = a.parent.0 in
    let k = a.child.0 in
    λ t.
    let test = c.if-not-g-pair_ok.false in
    let y = test_yes a.g.now.formed c.pair_ok.result a.g.now.edges (well_formed g) (pair_ok g.names p k) t.formed (c.pair_ok.ensures t.words) test in
    answers_ok (borrow_strong g p (path_at a.path) k a.loc.0) a.names.now a.edges.now a.g.now t c.factor.new.edges g.names (λ h e. (borrow_strong_law g p (path_at a.path) k a.loc.0 h e).formed)
    c.in_ok-c.c (c.in_ok-c.ensures.1 t.rows g.names y) c.in_ok-c.ensures.0 a.names.now a.g.now.refs refl t.refs t.words a.g.now.formed (test_formed a.g.now.formed c.pair_ok.result a.g.now.edges test)
