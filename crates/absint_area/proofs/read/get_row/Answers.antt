use Rattle.std.proofs.Common.{ap, ◌∙◌, List, ℕ, get_or, rules}
use Rattle.std.proofs.lemmas.List.{places}
use Rattle.meaning.specs.Area.{word_at}
use Rattle.absint_area.specs.ModelLaws.{row_words}
use Rattle.absint_area.proofs.read.get_row.Goals as goal

pub returns : goal.returns
returns c =
    row_words c.copy_from_slice.new.self (word_at c.args.ws.now) c.args.at
    (λ k l. ap (λ (zs : List ℕ). get_or zs k 0) c.copy_from_slice.ensures.after ∙ search (rules, places))
