use mathlib.Core.Path.{sym, ap, ◌∙◌}
use mathlib.Core.Bool.{Bool, cond}
use Rattle.meaning.specs.Loop.{at}
use Rattle.absint.specs.Models.{statuses_of, next_by}
use Rattle.absint.specs.PropagateLaws.{going, not_stopped}
use Rattle.absint.proofs.run_state.RunState.revisit.Goals as goal

pub returns-then-back : goal.returns-then-back
unfolding statuses_of
returns-then-back c =
    let clear = c.clear-t in
    let u = clear.result in
    let off = not_stopped u _ (clear.ensures.0 ∙ going c.args.self c.requires.1) in (
      ap (next_by c.args.j) off
          ∙ ap (λ (b : Bool). at (cond b c.args.j c.args.self.next)) (sym c.if-back.true),
      clear.ensures.1,
      record { visits = clear.ensures.2.visits; turns = clear.ensures.2.turns; blurred = clear.ensures.2.blurred },
      clear.ensures.3,
    )

pub returns-else-back : goal.returns-else-back
returns-else-back c =
    let clear = c.clear-t in (
      clear.ensures.0 ∙ going c.args.self c.requires.1 ∙ ap (λ (b : Bool). at (cond b c.args.j c.args.self.next)) (sym c.if-back.false),
      clear.ensures.1,
      clear.ensures.2,
      clear.ensures.3,
    )
