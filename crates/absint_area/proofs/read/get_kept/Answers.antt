use native.Mathlib.Omega.{arith}
use Rattle.absint_area.specs.ModelLaws.{loaded, absent_in}
use Rattle.absint_area.proofs.read.get_kept.Goals as goal

pub returns-then-kept-eq0 : goal.returns-then-kept-eq0
returns-then-kept-eq0 c = (tt, λ hl hn he. (absent_in c.args.num_locals c.args.at c.args.ws.now c.if-kept-eq0.true, hl, hn, he))

pub returns : goal.returns
returns c =
    let a = c.args in (
      (omega arith, omega arith),
      λ hl hn he.
          let p = c.get_words.ensures hl in
          let q = c.get_words-2.ensures hn in
          let r = c.get_edges.ensures he in (
            loaded a.num_locals a.at c.lesser-l.result c.lesser-n.result c.lesser-m.result a.ws.now _ _ _ c.if-kept-eq0.false c.lesser-l.ensures c.lesser-n.ensures c.lesser-m.ensures p q r,
            p.size,
            q.size,
            r.size,
          ),
    )
