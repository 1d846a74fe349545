-- The two matches of an instruction, by its variant's tag: what the first leaves to the second is on references.
use Rattle.std.specs.Prelude.{◌≡◌, ℕ, Bool, true, false, cond, List, [], ◌∷◌}
use mathlib.Core.Path.{refl, subst}
use types.Run.{OneOf, miss}
use denote.Enum.Declared.{tag_of}
use Rattle.listing.specs.contracts.decode.Instruction.{the_type}
use Rattle.listing.specs.declared.decode.Instruction.{Instruction}
use Rattle.listing.specs.declared.decode.Instruction.TheVariants.{Pop, CopyLoc, MoveLoc, StLoc, FreezeRef, Compare, ReadRef, WriteRef, BorrowLoc, BorrowField, BorrowGlobal, MoveFrom, Call, Ret, Values, MoveTo, VectorOp, BorrowElement}
use Rattle.reference_safety.specs.Models.{on_references}

abbrev tag : Instruction → ℕ
tag i = tag_of the_type i

-- the tags of instructions on references, and of the others
abbrev ours : List ℕ
ours = 4 ∷ 5 ∷ 6 ∷ 7 ∷ 8 ∷ 9 ∷ 10 ∷ 16 ∷ 17 ∷ []

abbrev others : List ℕ
others = 0 ∷ 1 ∷ 2 ∷ 3 ∷ 11 ∷ 12 ∷ 13 ∷ 14 ∷ 15 ∷ []

apart : (i : Instruction) → OneOf (cond (on_references i) others ours) (tag i) → ⊥
apart Pop = miss ours 0 tt
apart (CopyLoc a) = miss ours 1 tt
apart (MoveLoc a) = miss ours 2 tt
apart (StLoc a) = miss ours 3 tt
apart FreezeRef = miss others 4 tt
apart Compare = miss others 5 tt
apart ReadRef = miss others 6 tt
apart WriteRef = miss others 7 tt
apart (BorrowLoc a b) = miss others 8 tt
apart (BorrowField a b) = miss others 9 tt
apart (BorrowGlobal a b) = miss others 10 tt
apart (MoveFrom a) = miss ours 11 tt
apart (Call a) = miss ours 12 tt
apart Ret = miss ours 13 tt
apart (Values a b c) = miss ours 14 tt
apart MoveTo = miss ours 15 tt
apart (VectorOp a b c d) = miss others 16 tt
apart (BorrowElement a) = miss others 17 tt

pub left : (i : Instruction) → OneOf ours (tag i) → on_references i ≡ true
left i h = go (on_references i) (apart i)
  where
    go : (b : Bool) → (OneOf (cond b others ours) (tag i) → ⊥) → b ≡ true
    go true p = refl
    go false p = absurd (p h)

pub no_other : (i : Instruction) → on_references i ≡ true → OneOf others (tag i) → ⊥
no_other i e = subst (λ (b : Bool). OneOf (cond b others ours) (tag i) → ⊥) e (apart i)
