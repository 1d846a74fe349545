use mathlib.Core.Path.{refl, sym, ap}
use Rattle.meaning.specs.EntryPoints.{Running}
use Rattle.abstract_state.specs.Models.{words, state_of}
use Rattle.abstract_state_join.proofs.join.join.Goals as goal

pub returns-in-Ok : goal.returns-in-Ok
returns-in-Ok c =
    λ fa fb.
    let a = c.args in
    let m = c.in-Ok.ensures fa fb in
    let o = state_of (words a.locals2.now a.names2.now a.edges2.now a.o) in
    ((m.0, c.changed-changed.ensures fa m.0.fits (sym (ap (λ (r : Running). r.root) m.0.rest)) o (sym m.0.answer)), m.1, m.2)

pub returns-in-Err : goal.returns-in-Err
returns-in-Err c = λ fa fb. let m = c.in-Err.ensures fa fb in ((m.0, refl), m.1, m.2)
