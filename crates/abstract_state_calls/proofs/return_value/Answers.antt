use Rattle.std.proofs.Common.{ap}
use Rattle.meaning.specs.EntryPoints.{return_values}
use Rattle.file_format.specs.Models.{token_of}
use Rattle.abstract_state_calls.specs.Models.{ids_of}
use Rattle.abstract_state_calls.specs.CallLaws.{calls_value}
use Rattle.abstract_state_calls.proofs.return_value.Goals as goal

pub returns-in-Value : goal.returns-in-Value
returns-in-Value c = λ ls. rw (ap token_of c.in-Value.is) (calls_value (ids_of c.args.mutable.now) (ids_of c.args.all.now) _ _ (c.give.ensures ls _ _))

pub returns-in-Reference : goal.returns-in-Reference
unfolding return_values
returns-in-Reference c = λ ls. rw (ap token_of c.in-Reference.is) (c.return_ref.ensures ls)

pub returns-in-MutableReference : goal.returns-in-MutableReference
unfolding return_values
returns-in-MutableReference c = λ ls. rw (ap token_of c.in-MutableReference.is) (c.return_ref-in-MutableReference.ensures ls)
