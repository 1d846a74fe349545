use Rattle.std.specs.Prelude.{◌≡◌, get_or}
use Rattle.std.proofs.Common.{rules, ap, ◌∙◌}
use Rattle.meaning.specs.Listing.{token_as}
use Rattle.abstract_state_join.specs.FirstLaws.{at_value, at_reference}
use Rattle.abstract_state_join.proofs.first.first_local.Goals as goal

pub returns-in-Value : goal.returns-in-Value
returns-in-Value c =
    let e : c.in_ok-get.field-0.now ≡ get_or c.args.params.now c.args.i 0 = search rules in
    at_value c.args.params.now c.args.i _ (search rules) (c.from.ensures ∙ ap token_as e) c.in-Value.is

pub returns-in_default : goal.returns-in_default
returns-in_default c =
    let e : c.in_ok-get.field-0.now ≡ get_or c.args.params.now c.args.i 0 = search rules in
    at_reference c.args.params.now c.args.i _ (search rules) (c.from.ensures ∙ ap token_as e) c.in_default.not-Value
