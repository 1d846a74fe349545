use mathlib.Core.Path.{ap, ◌∙◌}
use mathlib.Core.List.{List}
use Rattle.meaning.specs.BorrowGraph.{Change, name_after, renamed}
use Rattle.borrow_graph.specs.Models.{graph_in}
use Rattle.abstract_state.specs.Models.{words, running_of, state_of}
use Rattle.abstract_state.specs.ModelLaws.{stays}
use Rattle.abstract_state_join.specs.Models.{canonical_end}
use Rattle.abstract_state_join.specs.CanonicalLaws.{canonical_as, end_goes}
use Rattle.abstract_state_join.proofs.canonical.construct_canonical_state.Goals as goal

pub returns-then-state : goal.returns-then-state
returns-then-state c =
    let if1 = c.if-state in
    let own_names_lem = c.own_names in
    let a = c.args in
    let s = a.state in
    let before = words a.locals.now a.names.now a.edges.now s in
    record {
      fits = λ f. record { locals = (own_names_lem.ensures f.locals).1; tells = (c.renamed-h.ensures f.tells).1 };
      does = λ f. end_goes s.blurred s.violation s.borrowed_at.0 s.refusal (running_of before) _ _ if1.true
          (canonical_as s.num_locals (state_of before) _ _ (own_names_lem.ensures f.locals).0
          ((c.renamed-h.ensures f.tells).0 ∙ ap (λ (ms : List Change). renamed (name_after ms) (graph_in a.names.now a.edges.now s.borrow_graph)) (c.id_map-map.ensures f.locals)));
    }

pub returns : goal.returns
returns c =
    let a = c.args in
    let s = a.state in
    let r = running_of (words a.locals.now a.names.now a.edges.now s) in
    record {
      fits = λ f. f;
      does = λ f. stays s.blurred s.violation s.borrowed_at.0 s.refusal r r canonical_end c.if-state.false;
    }
