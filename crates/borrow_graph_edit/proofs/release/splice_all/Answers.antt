use Rattle.std.proofs.Common.{rules, ◌≡◌, sym, ap, ◌∙◌, subst, length, List}
use Rattle.meaning.specs.Limits.{max_edges}
use Rattle.meaning.specs.Lists.{keep}
use Rattle.meaning.specs.BorrowGraph.{GEdge}
use Rattle.meaning.specs.Laws.Pair.{Neat}
use Rattle.meaning.specs.Refinement.Pairs.{two_pass, replace_lim}
use Rattle.meaning.specs.Refinement.Passes.{apart, splice_set, splice_pairs}
use Rattle.meaning.proofs.Laws.Pass.{splice_set_ok}
use Rattle.references.specs.Models.{edges_in}
use Rattle.borrow_graph_edit.specs.Models.{replaced_in}
use Rattle.borrow_graph_edit.proofs.release.splice_all.Goals as goal

pub returns : goal.returns
returns c =
    let a = c.args in
    let es = edges_in a.old.now a.m in
    let new = splice_set es a.id.0 in
    let rs = splice_pairs es a.id.0 in (
      c.two_passes.ensures.few,
      λ l o k s.
          let w = c.without-k.ensures.1 l o in
          let p = c.two_passes.ensures.rows new rs w.0 (subst (λ (fs : List GEdge). Neat fs) (sym w.1) k) (splice_set_ok es a.id.0 s)
          (λ e n f q u.
          let z : length e.now ≡ max_edges → length a.old.now ≡ max_edges → (length f.now ≡ max_edges) × (edges_in f.now n ≡ keep (apart a.id.0) es) = search rules in
          ((z u o).0, (z u o).1 ∙ sym w.1))
          (λ e n b r f q u t.
          let z : length e.now ≡ max_edges → length a.old.now ≡ max_edges → Neat (edges_in e.now n) → Neat es → (length f.now ≡ max_edges) × (replaced_in f.now r ≡ replace_lim b new rs (edges_in e.now n)) = search rules in
          z u o t s) in
          (p.0, p.1 ∙ ap (two_pass new rs) w.1),
    )
