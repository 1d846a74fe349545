use mathlib.Core.Path.{sym, ap, ◌∙◌}
use Rattle.std.specs.Prelude.{cond, not}
use mathlib.Core.Option.{none, some}
use Rattle.meaning.specs.Labels.{local_label}
use Rattle.meaning.specs.BorrowGraph.{of_name, borrows_mutably, lowest_of}
use Rattle.meaning.proofs.Laws.Lowest.{lowest_guard}
use Rattle.borrow_graph.specs.Models.{low_of}
use Rattle.abstract_state.specs.Models.{words, running_of}
use Rattle.abstract_state.specs.ModelLaws.{gives_as, gives_then, asked_map}
use Rattle.abstract_state_steps.specs.EntryLaws as E
use Rattle.abstract_state_steps.proofs.borrow_loc.Goals as goal

pub returns : goal.returns
returns c =
    λ ls.
    let a = c.args in
    let w = words ls a.names.now a.edges.now a.state in
    let r = running_of w in
    let b = c.is_local_mutably_borrowed-b.result in
    let o = c.only_if-c in
    let p = borrows_mutably r.graph r.root (some (local_label a.i.0)) in
    gives_as _ _ w _
    (λ h. E.borrow_loc_at r c.fresh-new.result.0 c.fresh-new.ensures a.mutable a.i.0 _
    (o.ensures
    ∙ asked_map r.graph r.root (λ l. cond (not a.mutable) l none) (low_of b) (lowest_of p r.graph.edges) (c.is_local_mutably_borrowed-b.ensures ls h)
    ∙ ap (of_name r.graph r.root) (sym (lowest_guard (not a.mutable) p r.graph.edges))))
    (gives_then _ _ _ _ _ (c.violate_if-s.ensures ls _ _)
    (gives_then _ _ _ _ _ (c.new_ref-t.ensures ls _)
    (gives_then _ _ _ _ _ (c.add_local_borrow-u.ensures ls)
    (c.give.ensures ls _ _))))
