-- Laws of the numbers.
use Rattle.std.specs.Prelude.{◌≡◌, false, ◌==◌, refl}
use Rattle.std.proofs.Common.{ne_eqb, arith}
use Rattle.std.specs.Int.NonZero.{non_zero_u8_get}
use Rattle.std.specs.declared.num.NonZeroU8.{NonZeroU8}
use Rattle.vm_status.specs.Models.{code_of, number_of}
use Rattle.vm_status.specs.declared.StatusCode.{StatusCode}
use Rattle.vm_status.specs.declared.StatusCode.TheVariants.{CopyLocExistsBorrow, MoveLocExistsBorrow, StLocUnsafeToDestroy, FreezeRefExistsMutableBorrow, ReadRefExistsMutableBorrow, WriteRefExistsBorrow, BorrowLocExistsBorrow, BorrowFieldExistsMutableBorrow, GlobalReference, VecUpdateExistsMutableBorrow, VecBorrowElementExistsMutableBorrow, CallBorrowedMutableReference, UnsafeRet, RetBorrowedMutableReference}
use Rattle.vm_status.specs.declared.Refusal.{Refusal}
use Rattle.vm_status.specs.declared.Refusal.TheVariants.{Short, UnknownKind, BadBody, MisplacedFunction, BadBlocks, PastLimit, SmallArea, NameHeld, IllFormed, EmptyStack, WrongOperand, AbsentLocal, Immutable, OperandsLeft, UnlikeLocals, NamesClash, FullStack, ManyEdges, LongPath, ManyNames, LateBlock}

-- each code is a violation's
pub code_known : (s : StatusCode) → (code_of s == 0) ≡ false
code_known CopyLocExistsBorrow = refl
code_known MoveLocExistsBorrow = refl
code_known StLocUnsafeToDestroy = refl
code_known FreezeRefExistsMutableBorrow = refl
code_known ReadRefExistsMutableBorrow = refl
code_known WriteRefExistsBorrow = refl
code_known BorrowLocExistsBorrow = refl
code_known BorrowFieldExistsMutableBorrow = refl
code_known GlobalReference = refl
code_known VecUpdateExistsMutableBorrow = refl
code_known VecBorrowElementExistsMutableBorrow = refl
code_known CallBorrowedMutableReference = refl
code_known UnsafeRet = refl
code_known RetBorrowedMutableReference = refl

-- and each number is a refusal's
pub number_known : (r : Refusal) → (number_of r == 0) ≡ false
number_known Short = refl
number_known UnknownKind = refl
number_known BadBody = refl
number_known MisplacedFunction = refl
number_known BadBlocks = refl
number_known PastLimit = refl
number_known SmallArea = refl
number_known NameHeld = refl
number_known IllFormed = refl
number_known EmptyStack = refl
number_known WrongOperand = refl
number_known AbsentLocal = refl
number_known Immutable = refl
number_known OperandsLeft = refl
number_known UnlikeLocals = refl
number_known NamesClash = refl
number_known FullStack = refl
number_known ManyEdges = refl
number_known LongPath = refl
number_known ManyNames = refl
number_known LateBlock = refl

pub non_zero_known : (n : NonZeroU8) → (non_zero_u8_get n == 0) ≡ false
non_zero_known n = ne_eqb n.value 0 (λ (e : n.value ≡ 0). omega (arith, n.ok))
