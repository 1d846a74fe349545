use mathlib.Core.Path.{sym, ap, ◌∙◌}
use mathlib.Core.List.{List, map}
use Prim.Native.Nat.{min}
use Rattle.meaning.specs.Listing.{token_as}
use Rattle.meaning.specs.EntryPoints.{Running, answer}
use Rattle.meaning.specs.BorrowGraph.{Name, well_formed}
use Rattle.meaning.specs.AbstractState.{non_ref}
use Rattle.references.specs.Models.{edges_in}
use Rattle.abstract_state_join.specs.FirstLaws.{bare, first_made, first_formed}
use native.Mathlib.Omega.{arith}
use Rattle.abstract_state_join.proofs.first.new.Goals as goal

pub returns : goal.returns
unfolding edges_in
returns c =
    λ es hl hn he.
    let n = c.count-n.result in
    let ts = map token_as c.args.params.now in
    let p = c.first_locals.ensures hl in
    let q = c.first_names-refs.ensures.1 hn in (
      record {
        locals = p.1;
        tells = record {
          words = q.1;
          rows = he;
          refs = c.first_names-refs.ensures.0;
          edges = omega arith;
          formed = sym (ap (λ (ms : List Name). well_formed (bare ms)) q.0 ∙ first_formed n ts (omega (arith, c.count-n.ensures)));
        };
      },
      ap (λ (r : Running). answer r non_ref) (first_made n (min c.args.num_locals 16) ts _ _ c.count-n.ensures p.0 (ap bare q.0)),
    )
