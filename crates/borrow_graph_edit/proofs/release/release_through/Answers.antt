use Rattle.std.proofs.Common.{sym, ◌∙◌}
use Rattle.std.proofs.Math.Path.{refl}
use Rattle.meaning.specs.Lists.{keep}
use Rattle.meaning.proofs.Laws.Base.{and_l}
use Rattle.meaning.specs.BorrowGraph.{well_formed, holds, other, release}
use Rattle.meaning.specs.Refinement.Passes.{apart}
use Rattle.meaning.proofs.Laws.Pass.{release_when, without_neat, wf_neat}
use Rattle.references.specs.Models.{edges_in}
use Rattle.borrow_graph_edit.specs.Models.{replaced_in}
use Rattle.borrow_graph_edit.specs.Edits.{graph_with, answer_as}
use Rattle.borrow_graph_edit.proofs.release.release_through.Goals as goal

pub returns : goal.returns
returns c =
    let a = c.args in
    let n = a.id.0 in
    let r = c.splice_all-r.result in
    let new = c.splice_all-r.new.edges in (
      c.settled.ensures.0,
      λ e ns t.
          let g = graph_with ns (edges_in a.edges.now a.m) in
          let ms = keep (other n) ns in
          let w = and_l (well_formed g) (holds ns n) t in
          let s = c.splice_all-r.ensures.1 e e (without_neat g n w (keep (apart n) g.edges) refl) (wf_neat g w) in
          c.settled.ensures.1 s.0 e ms (release g n)
          (answer_as (edges_in new) (graph_with ms) r (replaced_in new r) refl ∙ sym (release_when g n t (keep (apart n) g.edges) refl (replaced_in new r) s.1 ms refl)),
    )
