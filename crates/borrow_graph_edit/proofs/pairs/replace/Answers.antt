use Rattle.std.proofs.Math.Path.{refl}
use Rattle.std.proofs.Common.{arith, ◌≡◌, ◌≤◌, get_or, set, sym, ap, ◌∙◌, length, take, drop, length-set, add-zero, ◌+◌, ◌-◌, ℕ, List, [], ◌∷◌, ◌++◌}
use Rattle.std.proofs.lemmas.List.{drop-set-lt}
use Rattle.meaning.specs.BorrowGraph.{GEdge, tagged}
use Rattle.references.specs.Models.{edges_in, edge_in, set_of}
use Rattle.references.specs.ModelLaws.{edges_count, edges_front, edges_push, rows_count, rows_step}
use Rattle.borrow_graph_edit.specs.Walks.{exchanged, exchanged_front, exchanged_set, exchanged_behind}
use Rattle.borrow_graph_edit.specs.Shifts.{rows_before, rows_behind}
use Rattle.borrow_graph_edit.proofs.pairs.replace.Goals as goal

pub loop-i-init : goal.loop-i-init
loop-i-init c =
    let a = c.args in
    let es = edges_in a.edges.now a.m in
    let ds = (set_of a.set.now).edges in (
      λ e.
          let n = edges_count a.edges.now a.m (omega (arith, e, c.requires)) in
          let fits : a.low + a.old ≤ length es = omega (arith, n, c.requires) in
          let front : edges_in c.copy_within.new.self a.low ≡ take a.low es =
          ap (λ (rows : List (List ℕ)). edges_in rows a.low) c.copy_within.ensures.after
          ∙ rows_before a.edges.now (a.low + a.old) (a.low + c.len-k.result) a.m c.requires.1 (omega (arith, e, c.requires)) (omega (arith, e, c.requires, c.len-k.ensures)) a.low (omega arith)
          ∙ edges_front a.edges.now a.m a.low (omega (arith, n, c.requires)) in (
            c.copy_within.ensures.len ∙ e,
            fits,
            simp add-zero (ap (λ (xs : List GEdge). edges_in c.copy_within.new.self a.low ++ xs) (exchanged_front es a.parent.0 a.child.0 a.low a.old (set_of a.set.now).blurred ds fits)
                ∙ ap (λ (ys : List GEdge). ys ++ (tagged a.parent.0 a.child.0 (set_of a.set.now).blurred ds ++ drop (a.low + a.old) es)) front),
          ),
      λ i. drop (a.low + c.len-k.result) c.copy_within.new.self,
    )

pub loop-i-preserved : goal.loop-i-preserved
loop-i-preserved c =
    let l = c.loop-i in
    let a = c.args in
    let es = edges_in a.edges.now a.m in
    let ds = (set_of a.set.now).edges in
    let j : ℕ = a.low + l.i in
    let next : a.low + (l.i + 1) ≡ j + 1 = omega arith in
    let back : j - a.low ≡ l.i = omega arith in (
      λ e.
          let h = l.invariant.0 e in
          let whole : List GEdge = exchanged es a.parent.0 a.child.0 a.low a.old (set_of a.set.now).blurred ds h.1 in
          let here : drop (j - a.low) ds ≡ edge_in (get_or c.rows-rows.result.now l.i []) ∷ drop (j - a.low + 1) ds =
          rw back (rows_step c.rows-rows.result.now ds c.rows-rows.ensures [] l.i (omega (arith, rows_count c.rows-rows.result.now ds c.rows-rows.ensures, c.loop-i-test.true, c.len-k.ensures))) in (
            simp length-set h.0,
            h.1,
            ap (λ (z : ℕ). edges_in (set l.edges j c.tagged.result) z ++ drop z whole) next
                ∙ edges_push l.edges c.tagged.result j (j + 1) (drop (j + 1) whole) refl (omega (arith, h.0, c.loop-i-test.true, c.requires, c.len-k.ensures))
                ∙ ap (λ (x : GEdge). edges_in l.edges j ++ (x ∷ drop (j + 1) whole)) (c.tagged.ensures ∙ (λ i. record { parent = a.parent.0; child = a.child.0; blurred = c.is_overflown-blurred.ensures i; edge = edge_in (get_or c.rows-rows.result.now l.i []) }))
                ∙ ap (λ (xs : List GEdge). edges_in l.edges j ++ xs)
                (sym (exchanged_set es a.parent.0 a.child.0 a.low a.old (set_of a.set.now).blurred ds h.1 j _ (omega arith) here))
                ∙ h.2,
          ),
      drop-set-lt (a.low + c.len-k.result) l.edges j c.tagged.result (omega (arith, c.loop-i-test.true)) ∙ l.invariant.1,
    )

pub returns : goal.returns
returns c =
    let l = c.loop-i in
    let a = c.args in
    let es = edges_in a.edges.now a.m in
    let ds = (set_of a.set.now).edges in
    let to : ℕ = a.low + c.len-k.result in
    let all : a.low + l.i ≡ to = omega (arith, c.loop-i-test.false, l.auto.i-end) in (
      omega (arith, c.len-k.ensures),
      λ e.
          let h = l.invariant.0 e in
          let whole : List GEdge = exchanged es a.parent.0 a.child.0 a.low a.old (set_of a.set.now).blurred ds h.1 in
          let size : a.m - a.old + c.len-k.result ≡ to + (a.m - (a.low + a.old)) = omega (arith, c.requires) in (
            h.0,
            ap (λ (z : ℕ). edges_in l.edges z) size
                ∙ rows_behind a.edges.now (a.low + a.old) to a.m c.requires.1 (omega (arith, e, c.requires)) (omega (arith, e, c.requires, c.len-k.ensures)) l.edges
                (l.invariant.1 ∙ ap (λ (rows : List (List ℕ)). drop to rows) c.copy_within.ensures.after)
                ∙ ap (λ (xs : List GEdge). edges_in l.edges to ++ xs) (sym (exchanged_behind es a.parent.0 a.child.0 a.low a.old (set_of a.set.now).blurred ds h.1 to (omega (arith, c.len-k.ensures))))
                ∙ ap (λ (z : ℕ). edges_in l.edges z ++ drop z whole) (sym all)
                ∙ h.2,
          ),
    )
