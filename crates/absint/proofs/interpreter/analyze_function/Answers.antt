use mathlib.Core.Path.{◌≡◌, refl, sym, ap, ◌∙◌}
use Rattle.std.proofs.lemmas.List.{take_min}
use Rattle.std.proofs.Common.{rules}
use Prim.Native.Nat.{◌≤◌}
use mathlib.Core.List.{map}
use lib.ListN.{length, take, replicate}
use borrow.Author.Tests.{ltb-true}
use Rattle.std.specs.Prelude.{min}
use Rattle.meaning.specs.Listing.{token_as}
use Rattle.meaning.specs.Limits.{area_words}
use Rattle.listing.specs.Models.{routine_of}
use Rattle.abstract_state.specs.Models.{words}
use Rattle.absint.specs.TurnLaws as Law
use native.Mathlib.Omega.{arith}
use Rattle.absint.proofs.interpreter.analyze_function.Goals as goal

pub loop-t-init : goal.loop-t-init
loop-t-init c =
    let start = c.start-t in
    let args = c.args in
    let pre = c.requires in
    let z : length args.routine.params ≡ 16 = search rules in
    let params : take c.lesser.result args.routine.params ≡ take args.routine.param_count args.routine.params =
    ap (λ k. take k args.routine.params) (c.lesser.ensures ∙ ap (min args.routine.param_count) (sym z)) ∙ take_min args.routine.param_count args.routine.params in
    let made-new = rw params at c.new-s.ensures (replicate 96 (replicate 10 0)) refl refl refl in
    let small = Law.promised_small (routine_of args.listing.now args.code.now args.routine) pre.0.promise in
    let made = Law.first_made (words c.new-s.new.locals c.new-s.new.names (replicate 96 (replicate 10 0)) c.new-s.result) args.routine.locals (map token_as (take args.routine.param_count args.routine.params)) small made-new.1 in
    let area : area_words ≤ length args.area.now = pre.1 in
    record {
      read = pre.0;
      long = refl;
      going = Law.goes_again args.listing.now args.code.now args.routine pre.0.promise pre.0.count pre.0.some args.area.now c.forget.new.area
          c.store.new.area start.result area (Law.forgot _ _ area c.forget.ensures)
          (Law.stored_as c.new-s.result.num_locals args.routine.locals _ _ c.forget.new.area c.store.new.area made.0 made.1 (c.store.ensures made-new.0.locals made-new.0.tells.words made-new.0.tells.rows))
          start.ensures;
    }

pub turn-t-requires : goal.turn-t-requires
turn-t-requires c =
    let loop = c.loop-t in
    let pre = c.requires in
    let args = c.args in
    let on = Law.test_on loop.t.stopped _ _ c.is_none.ensures c.loop-t-test.true in
    let g = loop.invariant.going in
    let few = pre.0.blocks in
    let long = loop.invariant.long in
    let a = c.store.auto.area in
    let b = c.forget.auto.area in
    let wide : area_words ≤ length args.area.now = pre.1 in
    Law.ready args.listing.now args.code.now args.routine loop.invariant.read.promise loop.invariant.read.count loop.invariant.read.some _ loop.area loop.t g on.0
    (ltb-true _ _ on.1) few (Law.promised_small (routine_of args.listing.now args.code.now args.routine) pre.0.promise)
    (omega (arith, long, a, b, wide))

pub loop-t-smaller : goal.loop-t-smaller
loop-t-smaller c =
    let loop = c.loop-t in
    let args = c.args in
    let on = Law.test_on loop.t.stopped _ _ c.is_none.ensures c.loop-t-test.true in
    let b = Law.bound args.listing.now args.code.now args.routine loop.invariant.read.promise loop.invariant.read.count loop.invariant.read.some _ loop.area loop.t
    loop.invariant.going on.0 (ltb-true _ _ on.1) in
    let t = c.turn-t.ensures.turns in
    omega (arith, b, t)

pub loop-t-preserved : goal.loop-t-preserved
loop-t-preserved c =
    let turn = c.turn-t in
    let loop = c.loop-t in
    let args = c.args in
    let on = Law.test_on loop.t.stopped _ _ c.is_none.ensures c.loop-t-test.true in
    record {
      read = loop.invariant.read;
      long = turn.auto.area ∙ loop.invariant.long;
      going = Law.goes_on args.listing.now args.code.now args.routine loop.invariant.read.promise loop.invariant.read.count loop.invariant.read.some _ loop.area loop.t
          loop.invariant.going on.0 (ltb-true _ _ on.1) _ turn.result turn.ensures;
    }

pub shape_of-area : goal.shape_of-area
shape_of-area c = c.loop-t.invariant.long ∙ c.store.auto.area ∙ c.forget.auto.area

pub returns : goal.returns
returns c =
    let forget = c.forget in
    let loop = c.loop-t in
    let args = c.args in
    let pre = c.requires in
    let new = c.new-s in
    let made-new = new.ensures (replicate 96 (replicate 10 0)) refl refl refl in
    Law.from args.listing.now args.code.now args.routine args.area.now c.store.new.area loop.area loop.t
    ((c.store.ensures made-new.0.locals made-new.0.tells.words made-new.0.tells.rows).beyond ∙ (Law.forgot _ _ pre.1 forget.ensures).beyond)
    (Law.ends args.listing.now args.code.now args.routine loop.invariant.read.promise loop.invariant.read.count loop.invariant.read.some _ loop.area loop.t loop.invariant.going (Law.test_off loop.t.stopped _ _ _ c.is_none.ensures c.loop-t-test.false))
