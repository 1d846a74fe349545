use Rattle.std.specs.Prelude.{◌≡◌, ◌+◌, ◌<◌, ℕ, List, ◌∷◌, map, length, take, drop}
use Rattle.std.proofs.Common.{refl, sym, ap, ◌∙◌, arith, length-take, length-set}
use Rattle.std.proofs.lemmas.List.{take_min}
use Rattle.meaning.specs.Limits.{max_operands}
use Rattle.meaning.specs.AbstractState.{Token}
use Rattle.meaning.specs.Listing.{token_as}
use Rattle.abstract_state.specs.Models.{operands_in}
use Rattle.abstract_state_calls.specs.ModelLaws.{map_step, map_end, operands_none, operands_push}
use Rattle.abstract_state_calls.specs.CallLaws.{pending_all, pending_turn, pending_none}
use Rattle.abstract_state_calls.proofs.return_values.Goals as goal

pub loop-i-init : goal.loop-i-init
loop-i-init c = record { long = refl; left = λ ls. pending_all _ _ _ _ _ (operands_none _) }

pub loop-i-preserved : goal.loop-i-preserved
loop-i-preserved c =
    let l = c.loop-i in
    let n = c.lesser-n.result in
    let ts : List ℕ = c.args.tokens.now in
    let here = map_step token_as (take n ts) l.i 0 c.loop-i-test.true ∙ ap (λ (t : Token). t ∷ drop (l.i + 1) (map token_as (take n ts))) (sym c.from.ensures) in
    let room : l.i < length l.list = omega (arith, length-take n ts, c.loop-i-test.true, c.lesser-n.ensures, l.invariant.long) in
    record {
      long = simp length-set l.invariant.long;
      left = λ ls. pending_turn _ _ (map token_as (take n ts)) l.i _ _ _ _ _ (operands_in l.list l.i) _ here (operands_push l.list l.i _ _ c.value_word.ensures.0 room) (c.return_value-s.ensures ls) (l.invariant.left ls);
    }

pub returns : goal.returns
returns c =
    let l = c.loop-i in
    let n = c.lesser-n.result in
    let ts : List ℕ = c.args.tokens.now in
    let read : take n ts ≡ take max_operands ts = ap (λ (m : ℕ). take m ts) c.lesser-n.ensures ∙ take_min max_operands ts in
    let end : l.i ≡ n = omega (arith, length-take n ts, c.loop-i-test.false, c.lesser-n.ensures) in
    λ ls. rw (← read) (rw end at (pending_none _ _ (map token_as (take n ts)) l.i _ _ (operands_in l.list l.i) (map_end token_as (take n ts) l.i c.loop-i-test.false) (l.invariant.left ls)))
