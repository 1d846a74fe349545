use Rattle.std.proofs.Common.{rules}
use mathlib.Core.Path.{refl}
use Rattle.reference_safety.specs.BlockLaws.{stepped}
use Rattle.reference_safety.proofs.Arms.{left}
use Rattle.reference_safety.proofs.block.execute_inner.Goals as goal

pub execute_on_references-requires : goal.execute_on_references-requires
execute_on_references-requires c = left c.args.d.instruction (search rules)

pub returns-in-Pop : goal.returns-in-Pop
returns-in-Pop c =
    let a = c.args in
    stepped a.returns a.d c.in-Pop.is (c.pop_top.ensures a.locals.now)

pub returns-in-CopyLoc : goal.returns-in-CopyLoc
returns-in-CopyLoc c =
    let a = c.args in
    stepped a.returns a.d c.in-CopyLoc.is c.copy_loc.ensures

pub returns-in-MoveLoc : goal.returns-in-MoveLoc
returns-in-MoveLoc c =
    let a = c.args in
    stepped a.returns a.d c.in-MoveLoc.is c.move_loc.ensures

pub returns-in-StLoc : goal.returns-in-StLoc
returns-in-StLoc c =
    let a = c.args in
    stepped a.returns a.d c.in-StLoc.is c.st_loc.ensures

pub returns-in-MoveFrom : goal.returns-in-MoveFrom
returns-in-MoveFrom c =
    let a = c.args in
    stepped a.returns a.d c.in-MoveFrom.is (c.move_from.ensures a.locals.now)

pub returns-in-Call : goal.returns-in-Call
returns-in-Call c =
    let a = c.args in
    stepped a.returns a.d c.in-Call.is (c.call.ensures a.locals.now)

pub returns-in-Ret : goal.returns-in-Ret
returns-in-Ret c =
    let a = c.args in
    stepped a.returns a.d c.in-Ret.is c.ret.ensures

pub returns-in-Values : goal.returns-in-Values
returns-in-Values c =
    let a = c.args in
    stepped a.returns a.d c.in-Values.is (c.values.ensures a.locals.now a.edges.now)

pub returns-in-MoveTo : goal.returns-in-MoveTo
returns-in-MoveTo c =
    let a = c.args in
    stepped a.returns a.d c.in-MoveTo.is (c.move_to.ensures a.locals.now)

pub returns-in_default : goal.returns-in_default
returns-in_default c =
    let a = c.args in
    c.execute_on_references.ensures a.locals.now a.returns a.d refl
