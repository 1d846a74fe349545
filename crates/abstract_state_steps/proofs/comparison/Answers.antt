use mathlib.Core.Path.{refl}
use Rattle.meaning.specs.EntryPoints as R
use Rattle.abstract_state.specs.ModelLaws.{gives_as, gives_then}
use Rattle.abstract_state_steps.proofs.comparison.Goals as goal
use Rattle.abstract_state_steps.proofs.comparison.Goals.{in_default-via-in-Reference+in_default, in_default-via-in-NonReference+in_default}

pub returns-in-NonReference-NonReference : goal.returns-in-NonReference-NonReference
unfolding R.comparison
returns-in-NonReference-NonReference c = λ ls. rw (c.in-NonReference-NonReference.is-0, c.in-NonReference-NonReference.is-1) (c.give.ensures ls _ _)

pub returns-in_default : goal.returns-in_default
unfolding R.comparison
returns-in_default c =
    λ ls.
    elim c.in_default.branch [
      | in_default-via-in-Reference+in_default w ↦ rw (w.in_default.is-0, w.in_default.is-1) (gives_as _ _ _ _ (λ h. refl) (gives_then _ _ _ _ _ (c.refuse-s.ensures ls _ _) (c.give-in_default.ensures ls _ _)))
      | in_default-via-in-NonReference+in_default w ↦ rw (w.in_default.is-0, w.in_default.is-1) (gives_as _ _ _ _ (λ h. refl) (gives_then _ _ _ _ _ (c.refuse-s.ensures ls _ _) (c.give-in_default.ensures ls _ _)))
    ]
