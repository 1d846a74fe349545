use Rattle.absint_area.specs.ModelLaws.{copied_from}
use Rattle.absint_area.proofs.read.get_words.Goals as goal

pub returns : goal.returns
returns g c e = copied_from g.row.N c.args.n c.args.at c.args.ws.now c.args.out.now _ c.requires.1 c.requires.0 e c.copy_from_slice.ensures.after
