use mathlib.Core.Path.{refl, sym, subst}
use Rattle.std.specs.Prelude.{Option}
use Rattle.meaning.specs.Area.{kept_of}
use Rattle.abstract_state.specs.declared.state.AbstractState.{AbstractState}
use Rattle.absint.specs.Models.{StartsFrom}
use Rattle.absint.proofs.kept.start_from.Goals as goal

pub returns-in_err-k : goal.returns-in_err-k
returns-in_err-k c hl hn he =
    let a = c.args in
    subst (λ (r : Option AbstractState). StartsFrom (kept_of a.num_locals a.area.now a.b) a.num_locals c.load.new.locals c.load.new.names c.load.new.edges r) (sym c.from_residual.ensures)
    (sym ((c.in_err-k.ensures).1 hl hn he).0)

pub returns : goal.returns
returns c hl hn he =
    let p = c.in_ok-k.ensures in
    let e = p.1 hl hn he in
    record {
      fits = record {
        locals = e.1;
        tells = record { words = e.2; rows = e.3; refs = p.0.0; edges = p.0.1; formed = sym (c.requires _ (sym e.0)) };
      };
      kept = sym e.0;
      locals = refl;
    }
