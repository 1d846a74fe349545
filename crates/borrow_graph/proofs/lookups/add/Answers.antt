use mathlib.Core.Path.{ap, ◌∙◌}
use mathlib.Core.Bool.{◌&&◌}
use Rattle.meaning.specs.BorrowGraph.{mutable_in}
use Rattle.references.specs.Models.{row_of, names_in}
use Rattle.borrow_graph.specs.Models.{low_in}
use Rattle.borrow_graph.specs.Folds.{lower_if, add_borrow, bare_path}
use Rattle.borrow_graph.proofs.lookups.add.Goals as goal

pub returns : goal.returns
unfolding add_borrow
returns c =
    λ fit.
    let a = c.args in
    let x = row_of a.x.now in
    let bare = bare_path x.edge.path c.labels-bare.result c.labels-bare.ensures.0 in
    let loc = c.offset-loc in
    let meets = c.meets-counts in
    let writes = c.is_mutable_in-writes.ensures fit ∙ ap (mutable_in (names_in a.names.now a.n)) c.child-c.ensures in
    λ i. record {
      full = (c.lower.ensures ∙ (λ j. lower_if (bare j) (loc.ensures j) (low_in a.found.full))) i;
      consistent = (c.lower-2.ensures ∙ (λ j. lower_if (meets.ensures j) (loc.ensures j) (low_in a.found.consistent))) i;
      mutable = (c.lower-3.ensures ∙ (λ j. lower_if (meets.ensures j && writes j) (loc.ensures j) (low_in a.found.mutable))) i;
    }
