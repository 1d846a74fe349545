use mathlib.Core.Path.{sym, ap, ◌∙◌}
use Rattle.std.specs.Prelude.{ℕ, ◌/◌, ◌%◌, Bool, cond, not}
use borrow.Author.Tests.{ne_eqb}
use Rattle.meaning.specs.Area.{local_as}
use Rattle.meaning.specs.AbstractState as S
use Rattle.meaning.specs.EntryPoints as R
use Rattle.abstract_state.specs.Models.{operand_of}
use Rattle.abstract_state.specs.ModelLaws.{local_kind}
use Rattle.abstract_state.proofs.words.local_of.Goals as goal

pub returns-then-w-eq0 : goal.returns-then-w-eq0
returns-then-w-eq0 c = ap (λ (k : ℕ). local_as k (c.args.w % 65536)) (sym c.if-w-eq0.true)

pub returns : goal.returns
returns c =
    let v = operand_of c.value_of.result in
    ap (λ (b : Bool). cond (not b) (R.local_of v) S.Local.absent) (sym (ne_eqb _ _ c.if-w-eq0.false)) ∙ local_kind (c.args.w / 65536 % 4) (c.args.w % 65536) v c.value_of.ensures
