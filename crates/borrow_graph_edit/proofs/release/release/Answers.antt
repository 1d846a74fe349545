use Rattle.meaning.specs.Lists.{keep}
use Rattle.meaning.specs.BorrowGraph.{well_formed, holds, other, release}
use Rattle.meaning.proofs.Laws.Call.{release_law}
use Rattle.meaning.proofs.Laws.Pass.{release_9}
use Rattle.vm_status.specs.declared.Refusal.TheVariants.{IllFormed}
use Rattle.borrow_graph.specs.Models.{graph_in}
use Rattle.borrow_graph_edit.specs.Edits.{answers_err, answers_ok, answers_refused, err_is}
use Rattle.borrow_graph_edit.specs.BorrowLaws.{test_formed, test_yes, test_no}
use Rattle.borrow_graph_edit.proofs.release.release.Goals as goal

pub returns-then-not-g-holds : goal.returns-then-not-g-holds
returns-then-not-g-holds c =
    let a = c.args in
    let g = graph_in a.names.now a.edges.now a.g.now in
    let n = a.id.0 in
    λ t. answers_refused (release g n) a.names.now a.edges.now a.g.now t IllFormed (release_9 g n
    (test_no a.g.now.formed c.holds.result a.g.now.edges (well_formed g) (holds g.names n) t.formed (c.holds.ensures t.words) t.edges c.if-not-g-holds.true))

pub returns-in_err-c : goal.returns-in_err-c
returns-in_err-c c =
    let a = c.args in
    let g = graph_in a.names.now a.edges.now a.g.now in
    let n = a.id.0 in
    let r = c.in_err-c.field-0.0 in
    rw (err_is c.from_residual.result r c.from_residual.ensures.1)
    (λ t.
    let y = test_yes a.g.now.formed c.holds.result a.g.now.edges (well_formed g) (holds g.names n) t.formed (c.holds.ensures t.words) c.if-not-g-holds.false in
    answers_err (release g n) a.names.now a.edges.now a.g.now t c.release_edges.new.edges (keep (other n) g.names) r (c.in_err-c.ensures.1 t.rows g.names y))

pub returns : goal.returns
returns c =
    let a = c.args in
    let g = graph_in a.names.now a.edges.now a.g.now in
    let n = a.id.0 in
    λ t.
    let test = c.if-not-g-holds.false in
    let y = test_yes a.g.now.formed c.holds.result a.g.now.edges (well_formed g) (holds g.names n) t.formed (c.holds.ensures t.words) test in
    let u = c.without-g.ensures t.words in
    answers_ok (release g n) a.names.now a.edges.now a.g.now t c.release_edges.new.edges (keep (other n) g.names) (λ h e. (release_law g n h e).formed) c.in_ok-c.c
    (c.in_ok-c.ensures.1 t.rows g.names y) c.in_ok-c.ensures.0 c.without-g.new.names c.without-g.result u.0 u.1 u.2 a.g.now.formed (test_formed a.g.now.formed c.holds.result a.g.now.edges test)
