use Rattle.std.proofs.Common.{◌≡◌, sym, ap, ◌∙◌, List, ℕ}
use Rattle.std.proofs.lemmas.Bool.{false≢true}
use Rattle.std.specs.Prelude.{true, Option, Result, Ok, Err}
use Rattle.meaning.specs.Answers.{Ans, ok}
use Rattle.meaning.specs.Lists.{keep}
use Rattle.meaning.specs.BorrowGraph.{Name, GEdge, Graph, other, between, newly_blurred, release}
use Rattle.meaning.proofs.Laws.Blurs.{newly_keep, newly_apart}
use Rattle.meaning.proofs.Laws.Call.{release_law}
use Rattle.meaning.proofs.Laws.Pass.{wf_neat}
use Rattle.meaning.specs.Refinement.Passes.{apart}
use Rattle.references.specs.Models.{row_of, edges_in}
use Rattle.vm_status.specs.declared.Refusal.{Refusal}
use Rattle.vm_status.specs.Models.{answer_of}
use Rattle.borrow_graph_edit.specs.declared.blurs.Changed.{Changed}
use Rattle.borrow_graph_edit.specs.Edits.{graph_with, Edits, added_edits}
use Rattle.borrow_graph_edit.specs.RowLaws.{row_short}
use Rattle.borrow_graph_edit.specs.Ways.{answered, put_of, formed_apart, without_edges, left_formed, release_none, release_one}
use Rattle.borrow_graph_edit.proofs.release.splice_one_way.Goals as goal

-- an edge put in that is not refused: what it does to the rows gs is what b does to es
edits_on : (a b : Ans Graph) (ms : List Name) (es : List (List ℕ)) (m : ℕ) (gs : List (List ℕ)) (k : ℕ) (hs : List (List ℕ)) (r : Result Changed Refusal) → Edits a ms gs k hs r
    → (answer_of (λ c. graph_with ms (edges_in hs c.edges)) r ≡ b) × (answered (answer_of (λ c. graph_with ms (edges_in hs c.edges)) r) ≡ true)
    → ((ds : List GEdge) → ok (graph_with ms ds) ≡ b → newly_blurred (edges_in gs k) ds ≡ newly_blurred (edges_in es m) ds) → Edits b ms es m hs r
edits_on a b ms es m gs k hs (Ok c) e v f = (v.0, e.1, tt, e.3 ∙ f (edges_in hs c.edges) v.0)
edits_on a b ms es m gs k hs (Err n) e v f = absurd (false≢true v.1)

pub returns-in-Some : goal.returns-in-Some
returns-in-Some c =
    let a = c.args in
    let n = a.id.0 in
    let es = edges_in a.edges.now a.m in
    let x = row_of c.in-Some.x in
    let new = c.add_edge.new.edges in
    let r = c.add_edge.result in (
      c.add_edge.ensures.0,
      λ e ns t w.
          let d = c.left_out-k.ensures.1 e in
          let g = graph_with ns es in
          let ms = keep (other n) ns in
          let fs = edges_in c.left_out-k.new.edges c.left_out-k.result in
          let q = without_edges ns es fs n d.1 in
          let u = added_edits (between x.parent x.edge x.child) c.left_out-k.new.edges c.left_out-k.result new r
          (c.add_edge.ensures.1 d.0 (wf_neat (graph_with ms fs) (left_formed g n t (graph_with ms fs) q))) ms in
          let z = ap (λ (o : Option (List ℕ)). put_of o) c.in-Some.is in
          let v = release_one g n t (graph_with ms fs) q (put_of a.b) w x.parent x.edge x.child z (row_short c.in-Some.x) (answer_of (λ (k : Changed). graph_with ms (edges_in new k.edges)) r) u.0 in
          edits_on _ (release g n) ms a.edges.now a.m c.left_out-k.new.edges c.left_out-k.result new r u v
          (λ ds o. ap (λ (l : List GEdge). newly_blurred l ds) d.1 ∙ sym (newly_apart n es ds (formed_apart n ns ds (release_law g n (graph_with ms ds) (sym o)).formed))),
    )

pub returns-in-None : goal.returns-in-None
returns-in-None c =
    let a = c.args in
    let n = a.id.0 in
    let es = edges_in a.edges.now a.m in (
      c.left_out-k.ensures.0,
      λ e ns t w.
          let d = c.left_out-k.ensures.1 e in
          let ms = keep (other n) ns in
          let fs = edges_in c.left_out-k.new.edges c.left_out-k.result in
          let q = without_edges ns es fs n d.1 in
          let z = ap (λ (o : Option (List ℕ)). put_of o) c.in-None.is in
          (sym (release_none (graph_with ns es) n t (graph_with ms fs) q (put_of a.b) w z), d.0, tt, sym (ap (newly_blurred es) d.1 ∙ newly_keep (apart n) es)),
    )
