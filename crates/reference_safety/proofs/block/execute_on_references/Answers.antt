use Rattle.std.proofs.Common.{rules}
use mathlib.Core.Path.{◌∙◌}
use Rattle.reference_safety.specs.BlockLaws.{stepped}
use Rattle.reference_safety.proofs.Arms.{no_other}
use Rattle.reference_safety.proofs.block.execute_on_references.Goals as goal

pub returns-in-FreezeRef : goal.returns-in-FreezeRef
returns-in-FreezeRef c = λ ls returns d e. stepped returns d (e ∙ c.in-FreezeRef.is) (c.freeze_ref.ensures ls)

pub returns-in-Compare : goal.returns-in-Compare
returns-in-Compare c = λ ls returns d e. stepped returns d (e ∙ c.in-Compare.is) (c.compare.ensures ls)

pub returns-in-ReadRef : goal.returns-in-ReadRef
returns-in-ReadRef c = λ ls returns d e. stepped returns d (e ∙ c.in-ReadRef.is) (c.read_ref.ensures ls)

pub returns-in-WriteRef : goal.returns-in-WriteRef
returns-in-WriteRef c = λ ls returns d e. stepped returns d (e ∙ c.in-WriteRef.is) (c.write_ref.ensures ls)

pub returns-in-BorrowLoc : goal.returns-in-BorrowLoc
returns-in-BorrowLoc c = λ ls returns d e. stepped returns d (e ∙ c.in-BorrowLoc.is) (c.borrow_loc.ensures ls)

pub returns-in-BorrowField : goal.returns-in-BorrowField
returns-in-BorrowField c = λ ls returns d e. stepped returns d (e ∙ c.in-BorrowField.is) (c.borrow_field.ensures ls)

pub returns-in-BorrowGlobal : goal.returns-in-BorrowGlobal
returns-in-BorrowGlobal c = λ ls returns d e. stepped returns d (e ∙ c.in-BorrowGlobal.is) (c.borrow_global.ensures ls)

pub returns-in-VectorOp : goal.returns-in-VectorOp
returns-in-VectorOp c = λ ls returns d e. stepped returns d (e ∙ c.in-VectorOp.is) (c.vector_op.ensures ls)

pub returns-in-BorrowElement : goal.returns-in-BorrowElement
returns-in-BorrowElement c = λ ls returns d e. stepped returns d (e ∙ c.in-BorrowElement.is) (c.borrow_element.ensures ls)

pub returns-in_default : goal.returns-in_default
returns-in_default c = absurd (no_other c.args.i c.requires (search rules))
