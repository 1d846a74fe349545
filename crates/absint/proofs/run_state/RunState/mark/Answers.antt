use mathlib.Core.Path.{◌≡◌, refl}
use lib.ListN.{length}
use Rattle.meaning.proofs.Laws.Array.{length_of_map}
use Rattle.absint.specs.LoopLaws.{statuses_set, statuses_count}
use Rattle.absint.specs.Models.{statuses_of}
use Rattle.absint.proofs.run_state.RunState.mark.Goals as goal

pub returns : goal.returns
unfolding statuses_of
returns c =
    let full : length c.args.self.statuses ≡ 16 = search length_of_map in
    (refl, statuses_set c.args.self c.args.j c.args.x, record { visits = refl; turns = refl; blurred = refl }, statuses_count c.args.self full)
