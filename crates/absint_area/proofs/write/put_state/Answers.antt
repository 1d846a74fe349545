use mathlib.Core.Option.{Option, some}
use mathlib.Core.Path.{ap, ◌∙◌}
use Rattle.meaning.specs.AbstractState.{State}
use Rattle.meaning.proofs.Laws.Area.{put_frame, put_decode}
use Rattle.absint_area.specs.ModelLaws.{local_at, name_at, row_at, state_made}
use native.Mathlib.Omega.{arith}
use Rattle.absint_area.proofs.write.put_state.Goals as goal

pub returns : goal.returns
returns c =
    let put-edges = c.put_edges in
    let put-refs = c.put_refs in
    let put-locals = c.put_locals in
    let lesser2 = c.lesser-m in
    let lesser = c.lesser-n in
    let args = c.args in
    let ls = args.locals.now in
    let ns = args.names.now in
    let es = args.edges.now in
    let n = lesser.result in
    let m = lesser2.result in
    let p = put-locals.ensures in
    let q = put-refs.ensures in
    let r = put-edges.ensures in (
      put_frame (local_at ls) (name_at ns) (row_at es) args.at n m args.ws.now _ _ _ (omega arith) (omega arith) p q r,
      λ hl hn he. put_decode (local_at ls) (name_at ns) (row_at es) args.at n m args.ws.now _ _ _ (omega arith) (omega arith) p q r args.s.num_locals
          ∙ ap {B = Option State} some (state_made ls ns es args.s n m hl hn he lesser.ensures lesser2.ensures),
    )
