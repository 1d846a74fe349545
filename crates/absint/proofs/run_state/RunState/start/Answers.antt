use mathlib.Core.Path.{refl}
use Rattle.meaning.specs.Loop.{fine}
use Rattle.absint.specs.Models.{statuses_of}
use Rattle.absint.specs.LoopLaws.{all_fine}
use Rattle.absint.proofs.run_state.RunState.start.Goals as goal

pub returns : goal.returns
unfolding statuses_of
returns c = record { next = refl; fines = λ j. all_fine 16 fine j refl; visits = refl; turns = refl; blurred = refl }
