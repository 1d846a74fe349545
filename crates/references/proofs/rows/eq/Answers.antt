use Rattle.std.specs.Prelude.{◌≡◌}
use Rattle.std.proofs.Common.{ap, ◌∙◌, refl}
use Rattle.std.specs.declared.cmp.Ordering.{Ordering}
use Rattle.std.specs.declared.cmp.Ordering.TheVariants.{Less, Equal, Greater}
use Rattle.std.specs.Ordering.{is_eq}
use Rattle.meaning.proofs.Laws.Place.{is_equal, eq_of}
use Rattle.paths.specs.Models.{ordering_of}
use Rattle.references.proofs.rows.eq.Goals as goal

by_order : (o : Ordering) → is_eq o ≡ is_equal (ordering_of o)
by_order Less = refl
by_order Equal = refl
by_order Greater = refl

pub returns : goal.returns
returns c = c.is_eq.ensures ∙ by_order c.cmp.result ∙ ap is_equal c.cmp.ensures ∙ eq_of _ _
