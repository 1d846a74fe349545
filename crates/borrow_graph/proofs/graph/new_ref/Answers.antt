use mathlib.Core.Path.{sym, ap, ◌∙◌}
use mathlib.Core.List.{◌∷◌, ◌++◌}
use lib.ListN.{take, drop}
use Rattle.meaning.specs.Answers.{Ans, leaves}
use Rattle.meaning.specs.BorrowGraph.{Graph}
use Rattle.meaning.specs.Laws.Add.{place_at}
use Rattle.meaning.proofs.Laws.Borrow.{new_name_law}
use Rattle.meaning.proofs.Laws.CallCases.{new_9, new_8, new_23, new_ok}
use Rattle.references.specs.Models.{names_in}
use Rattle.references.specs.ModelLaws.{names_size, names_made}
use Rattle.vm_status.specs.declared.Refusal.TheVariants.{IllFormed, NameHeld, ManyNames}
use Rattle.borrow_graph.specs.Models.{graph_in}
use Rattle.borrow_graph.specs.ModelLaws.{declines, names_put}
use native.Mathlib.Omega.{arith}
use Rattle.borrow_graph.proofs.graph.new_ref.Goals as goal

pub returns-then-not-g : goal.returns-then-not-g
returns-then-not-g c =
    λ es t.
    let a = c.args in
    declines _ a.names.now es a.g.now IllFormed (sym (new_9 (graph_in a.names.now es a.g.now) a.id.0 a.mutable (sym t.formed ∙ c.if-not-g.true))) t

pub returns-then-holds : goal.returns-then-holds
returns-then-holds c =
    λ es t.
    let a = c.args in
    declines _ a.names.now es a.g.now NameHeld (sym (new_8 (graph_in a.names.now es a.g.now) a.id.0 a.mutable (sym t.formed ∙ c.if-not-g.false) (sym (c.holds.ensures t.words) ∙ c.if-holds.true))) t

pub returns-then-g-ge-MAX_NAMES : goal.returns-then-g-ge-MAX_NAMES
returns-then-g-ge-MAX_NAMES c =
    λ es t.
    let a = c.args in
    declines _ a.names.now es a.g.now ManyNames (sym (new_23 (graph_in a.names.now es a.g.now) a.id.0 a.mutable (sym t.formed ∙ c.if-not-g.false)
    (sym (c.holds.ensures t.words) ∙ c.if-holds.false) (omega (arith, names_size a.names.now a.g.now.refs)))) t

pub returns : goal.returns
returns c =
    λ es t.
    let a = c.args in
    let g = graph_in a.names.now es a.g.now in
    let n = names_in a.names.now a.g.now.refs in
    let k = c.place-k.ensures.at ∙ ap (place_at a.id.0) (sym (names_made a.names.now a.g.now.refs)) in
    let y = names_put a.names.now _ a.g.now.refs _ _ (c.insert_at.ensures.front (omega (arith, c.place-k.ensures.within)) (omega arith)) ∙ (λ i. take (k i) n ++ (c.name_word-w.ensures i ∷ drop (k i) n)) in
    let formed = c.if-not-g.false in
    let e = new_ok g a.id.0 a.mutable (sym t.formed ∙ formed) (sym (c.holds.ensures t.words) ∙ c.if-holds.false) (omega (arith, names_size a.names.now a.g.now.refs)) _ y in
    record {
      answer = e;
      left = sym (ap (λ (b : Ans Graph). leaves g b) (sym e));
      tells = record {
        words = c.insert_at.ensures.len ∙ t.words;
        rows = t.rows;
        refs = omega arith;
        edges = t.edges;
        formed = formed ∙ sym (new_name_law g a.id.0 a.mutable _ (omega arith) (sym e)).formed;
      };
    }
