-- The numbers of document 01 for the codes and refusals of the code.
use Rattle.std.specs.Prelude.{ℕ, Result, Ok, Err}
use Rattle.meaning.specs.Answers.{Ans, ok, refuse}
use Rattle.vm_status.specs.declared.StatusCode.{StatusCode}
use Rattle.vm_status.specs.declared.StatusCode.TheVariants.{CopyLocExistsBorrow, MoveLocExistsBorrow, StLocUnsafeToDestroy, FreezeRefExistsMutableBorrow, ReadRefExistsMutableBorrow, WriteRefExistsBorrow, BorrowLocExistsBorrow, BorrowFieldExistsMutableBorrow, GlobalReference, VecUpdateExistsMutableBorrow, VecBorrowElementExistsMutableBorrow, CallBorrowedMutableReference, UnsafeRet, RetBorrowedMutableReference}
use Rattle.vm_status.specs.declared.Refusal.{Refusal}
use Rattle.vm_status.specs.declared.Refusal.TheVariants.{Short, UnknownKind, BadBody, MisplacedFunction, BadBlocks, PastLimit, SmallArea, NameHeld, IllFormed, EmptyStack, WrongOperand, AbsentLocal, Immutable, OperandsLeft, UnlikeLocals, NamesClash, FullStack, ManyEdges, LongPath, ManyNames, LateBlock}

-- the code of a violation
abbrev pub code_of : StatusCode → ℕ
code_of CopyLocExistsBorrow = 101
code_of MoveLocExistsBorrow = 102
code_of StLocUnsafeToDestroy = 103
code_of FreezeRefExistsMutableBorrow = 104
code_of ReadRefExistsMutableBorrow = 105
code_of WriteRefExistsBorrow = 106
code_of BorrowLocExistsBorrow = 107
code_of BorrowFieldExistsMutableBorrow = 108
code_of GlobalReference = 109
code_of VecUpdateExistsMutableBorrow = 110
code_of VecBorrowElementExistsMutableBorrow = 111
code_of CallBorrowedMutableReference = 112
code_of UnsafeRet = 113
code_of RetBorrowedMutableReference = 114

-- the number of a refusal
abbrev pub number_of : Refusal → ℕ
number_of Short = 1
number_of UnknownKind = 2
number_of BadBody = 3
number_of MisplacedFunction = 4
number_of BadBlocks = 5
number_of PastLimit = 6
number_of SmallArea = 7
number_of NameHeld = 8
number_of IllFormed = 9
number_of EmptyStack = 10
number_of WrongOperand = 11
number_of AbsentLocal = 12
number_of Immutable = 13
number_of OperandsLeft = 14
number_of UnlikeLocals = 15
number_of NamesClash = 16
number_of FullStack = 20
number_of ManyEdges = 21
number_of LongPath = 22
number_of ManyNames = 23
number_of LateBlock = 33

-- an answer of the code: what its value stands for, or the number of what refused it
abbrev pub answer_by : {A B E : Type 0} → (E → ℕ) → (A → B) → Result A E → Ans B
answer_by n f (Ok a) = ok (f a)
answer_by n f (Err e) = refuse (n e)

abbrev pub answer_of : {A B : Type 0} → (A → B) → Result A Refusal → Ans B
answer_of f r = answer_by number_of f r
