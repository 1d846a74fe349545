use mathlib.Core.Path.{ap, ◌∙◌}
use Rattle.meaning.specs.Listing.{token_as}
use Rattle.listing.proofs.decode.token_at.Goals as goal

pub returns : goal.returns
returns c = c.from.ensures ∙ ap token_as c.byte_at.ensures
