use Rattle.std.proofs.Common.{sym, ap, ◌∙◌, subst, true, List}
use Rattle.vm_status.specs.Models.{number_of}
use Rattle.meaning.specs.BorrowGraph.{GEdge}
use Rattle.meaning.specs.Laws.Pair.{Neat}
use Rattle.meaning.specs.Refinement.Pairs.{replace_lim}
use Rattle.meaning.proofs.Laws.Pass.{pass_neat}
use Rattle.borrow_graph_edit.specs.Edits.{turn_on, turn_off, err_is}
use Rattle.borrow_graph_edit.specs.PassLaws.{first_pass, next_pass}
use Rattle.borrow_graph_edit.proofs.pairs.two_passes.Goals as goal

pub returns-then-not-passes_limit-clause-rows : goal.returns-then-not-passes_limit-clause-rows
returns-then-not-passes_limit-clause-rows g c =
    λ new rs l k good starts runs.
    let p = runs _ _ _ _ _ c.pass-r.ensures l k in
    (p.0, first_pass new rs _ _ c.pass-r.result p.1 (sym c.passes_limit.ensures ∙ c.if-not-passes_limit.true))

pub returns-in_err-m-clause-rows : goal.returns-in_err-m-clause-rows
returns-in_err-m-clause-rows g c =
    rw (err_is c.from_residual.result c.in_err-m.field-0.0 c.from_residual.ensures.1)
    (λ new rs l k good starts runs.
    let p = runs _ _ _ _ _ c.pass-r.ensures l k in
    let t = next_pass new rs _ _ c.pass-r.result p.1 (sym c.passes_limit.ensures ∙ c.if-not-passes_limit.false) in
    let x = starts _ _ _ c.start-n.ensures p.0 in
    let y = runs _ _ _ _ _ c.in_err-m.ensures x.0 (subst (λ (es : List GEdge). Neat es) (sym x.1) k) in
    (y.0, turn_off _ _ _ t (number_of c.in_err-m.field-0.0) (y.1 ∙ ap (λ (es : List GEdge). replace_lim true new rs es) x.1)))

pub returns-clause-rows : goal.returns-clause-rows
returns-clause-rows g c =
    λ new rs l k good starts runs.
    let p = runs _ _ _ _ _ c.pass-r.ensures l k in
    let t = next_pass new rs _ _ c.pass-r.result p.1 (sym c.passes_limit.ensures ∙ c.if-not-passes_limit.false) in
    let x = starts _ _ _ c.start-n.ensures p.0 in
    let y = runs _ _ _ _ _ c.in_ok-m.ensures x.0 (subst (λ (es : List GEdge). Neat es) (sym x.1) k) in
    let z = y.1 ∙ ap (λ (es : List GEdge). replace_lim true new rs es) x.1 in
    let v = runs _ _ _ _ _ c.pass-2.ensures y.0 (pass_neat true new good rs _ _ k (sym z)) in
    (v.0, v.1 ∙ turn_on _ _ _ t _ z)
