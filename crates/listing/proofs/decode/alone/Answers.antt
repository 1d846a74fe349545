use mathlib.Core.Path.{refl}
use Rattle.listing.specs.Models.{decoded_of}
use Rattle.listing.proofs.decode.alone.Goals as goal

pub returns : goal.returns
unfolding decoded_of
returns c = refl
