use Prim.Native.Nat.{ℕ, suc}
use native.Mathlib.Numerals.{add-one}
use mathlib.Core.Path.{◌≡◌, sym, ap, ◌∙◌, subst}
use mathlib.Core.List.{List, [], ◌∷◌}
use lib.ListN.{length, take, get_or, set}
use Rattle.meaning.specs.AbstractState.{State}
use Rattle.meaning.specs.Blocks.{Routine, exec}
use Rattle.meaning.specs.Laws.Forms.{Strong}
use Rattle.meaning.specs.Loop.{Status, fine, failed, at, Result, Block}
use Rattle.listing.specs.Models.{block_of, blocks_in, routine_of}
use Rattle.borrow_graph.specs.Models.{Tells, graph_in}
use Rattle.borrow_graph.specs.declared.graph.BorrowGraph.{BorrowGraph}
use Rattle.abstract_state.specs.Models.{Words, words, Fits, locals_in, state_of, running_of}
use Rattle.reference_safety.specs.Models.{state_in, ran_of, end_for}
use Rattle.absint.specs.Models.{statuses_of, next_of, Sound, Propagated}
use Rattle.listing.specs.declared.Block.{Block as Listed}
use Rattle.absint.specs.LoopLaws.{past_block}
use Rattle.absint.specs.PropagateLaws.{take_some}
use Rattle.absint.specs.TurnLaws as Law
use native.Mathlib.Omega.{arith}
use Rattle.std.proofs.Common.{length-take}
use Rattle.absint.proofs.interpreter.visit.Goals as goal
use Rattle.absint.proofs.interpreter.visit.Lts as lts
use Rattle.absint.proofs.interpreter.visit.Reads as reads
use Rattle.absint.proofs.interpreter.visit.Tie as tie

-- ---- what is known once the block was run

abbrev routine : (lts.After-run_block tie.the-claims reads.Pre reads.Post) → Routine
routine c = routine_of c.args.listing.now c.args.code.now c.args.routine

-- the words that it started from, and those that it left
abbrev first : (lts.After-run_block tie.the-claims reads.Pre reads.Post) → Words
first c = words c.args.locals.now c.args.names.now c.args.edges.now c.args.start

abbrev last : (lts.After-run_block tie.the-claims reads.Pre reads.Post) → Words
last c = words c.run_block-r.new.locals c.run_block-r.new.names c.run_block-r.new.edges c.run_block-r.result.state

-- the block as listed, and what it stands for
abbrev listed : (lts.After-run_block tie.the-claims reads.Pre reads.Post) → Listed
listed c = get_or c.args.routine.blocks c.args.t.next past_block

abbrev block : (lts.After-run_block tie.the-claims reads.Pre reads.Post) → Block
block c = block_of (listed c)

ran : (c : (lts.After-run_block tie.the-claims reads.Pre reads.Post)) → ran_of (block c) (last c) c.run_block-r.result.place.0 ≡ exec (routine c) c.args.t.next (state_of (first c))
ran c =
    sym
    (Law.ran (routine c) c.args.t.next (block c) (state_of (first c)) (state_in c.args.routine.locals (first c)) (ran_of (block c) (last c) c.run_block-r.result.place.0)
    (Law.block_at_lem c.args.routine.blocks c.args.routine.block_count c.args.t.next c.requires.0.within)
    (λ z. record { locals = locals_in (first c).locals (sym c.requires.1.locals z); graph = (running_of (first c)).graph }) (c.run_block-r.ensures.ends c.requires.1.fits))

-- without a number it came to its end
ended : (c : (lts.After-run_block tie.the-claims reads.Pre reads.Post)) → c.run_block-r.result.state.violation ≡ 0 → c.run_block-r.result.state.refusal ≡ 0
    → exec (routine c) c.args.t.next (state_of (first c)) ≡ end_for (block c).successors (running_of (last c))
ended c =
    let x = c.run_block-r.result in
    Law.placed_end (block c).successors x.state.blurred x.state.violation x.state.borrowed_at.0 x.state.refusal (running_of (last c)) x.place.0 _ (ran c)

ended_some : (c : (lts.After-run_block tie.the-claims reads.Pre reads.Post)) → c.run_block-r.result.state.violation ≡ 0 → c.run_block-r.result.state.refusal ≡ 0
    → ((listed c).count ≡ 0 → ⊥) → exec (routine c) c.args.t.next (state_of (first c)) ≡ Result.ended c.run_block-r.result.state.blurred (state_of (last c))
ended_some c v n h =
    let b = listed c in
    ended c v n ∙ ap {B = Result State} (λ (es : List ℕ). end_for es (running_of (last c))) (take_some b.count b.first.0 b.second.0 (Law.positive b.count h))

-- the block listed after it is next
after : (c : (lts.After-onward tie.the-claims reads.Pre reads.Post)) → next_of c.onward-u.result ≡ at (suc c.args.t.next)
after c = c.onward-u.ensures.0 c.requires.0.going ∙ ap at (add-one c.args.t.next)

-- a number of statuses, and one of them set
counted : (c : (lts.After-onward tie.the-claims reads.Pre reads.Post)) → length (statuses_of c.onward-u.result) ≡ 16 → length (statuses_of c.args.t) ≡ 16
counted c e = ap length (sym c.onward-u.ensures.1) ∙ e

marked : (c : (lts.After-onward tie.the-claims reads.Pre reads.Post)) (x : Status) → let t = c.args.t in
    set (statuses_of c.onward-u.result) t.next x ≡ set (statuses_of t) t.next x
marked c x = ap (λ (xs : List Status). set xs c.args.t.next x) c.onward-u.ensures.1

-- ---- what is known of the end state that is handed on

-- the run of the block, from here
abbrev its-run : (lts.After-with_locals tie.the-claims reads.Pre reads.Post) → (lts.After-run_block tie.the-claims reads.Pre reads.Post)
its-run c = c.before.before.before.before.before.before.before.before.before.before.before.before.before

strong : (c : (lts.After-with_locals tie.the-claims reads.Pre reads.Post)) → Strong (its-run c).args.routine.locals (state_of (last (its-run c)))
unfolding statuses_of
strong c =
    let s = its-run c in
    Law.ended_strong s.args.listing.now s.args.code.now s.args.routine s.args.area.now s.args.t s.requires.0
    (state_of (first s)) s.requires.1.kept (counted c.before.before.before.before.before.before.before.before.before.before c.clear-v.ensures.3)
    (its-run c).run_block-r.result.state.blurred (state_of (last (its-run c))) (ended_some (its-run c) c.if-s-ne0.false c.if-s-ne0-2.false c.if-b-eq0.false)

abbrev sent : (lts.After-with_locals tie.the-claims reads.Pre reads.Post) → Words
sent c = words (last (its-run c)).locals (last (its-run c)).names (last (its-run c)).edges c.with_locals-e.result

same_state : (c : (lts.After-with_locals tie.the-claims reads.Pre reads.Post)) → state_of (sent c) ≡ state_of (last (its-run c))
same_state c =
    let r = its-run c in
    let n = Law.locals_same (last r).locals r.run_block-r.result.state.num_locals (its-run c).args.routine.locals (strong c).form.count in
    (λ z. record { locals = locals_in (last r).locals (c.with_locals-e.ensures.0 z); graph = graph_in (last r).names (last r).edges (c.with_locals-e.ensures.1 z) })
    ∙ (λ z. record { locals = n z; graph = (running_of (last r)).graph })

fit : (c : (lts.After-with_locals tie.the-claims reads.Pre reads.Post)) → Fits (sent c)
fit c =
    let r = its-run c in
    let f = r.run_block-r.ensures.fits (its-run c).requires.1.fits in
    record { locals = f.locals; tells = subst (λ (g : BorrowGraph). Tells (last r).names (last r).edges g) (sym c.with_locals-e.ensures.1) f.tells }

-- ---- the needs

pub bounds-routine-i : goal.bounds-routine-i
bounds-routine-i c =
    let p = c.requires.0 in
    let h = p.within in
    let k = p.blocks in
    omega (arith, h, k)

pub onward-u-requires : goal.onward-u-requires
onward-u-requires c =
    let p = c.requires.0 in
    let h = p.within in
    let k = p.blocks in
    (omega (arith, h, k), p.few)

pub overflow_add-u : goal.overflow_add-u
overflow_add-u c =
    let p = c.requires.0 in
    let h = p.few in
    let k = p.fewer in
    omega (arith, h, k)

pub plus-requires : goal.plus-requires
plus-requires c =
    let p = c.requires.0 in
    let h = p.few in
    let k = p.small in
    omega (arith, h, k)

pub fail-requires : goal.fail-requires
fail-requires c =
    let p = c.requires.0 in
    let h = p.within in
    let k = p.blocks in
    omega (arith, h, k)

pub returns-then-s-ne0 : goal.returns-then-s-ne0
unfolding statuses_of
returns-then-s-ne0 c =
    let x = c.run_block-r.result in
    let fail = c.fail in
    Law.turned_violated c.args.listing.now c.args.code.now c.args.routine c.args.area.now c.args.t c.requires.0
    (state_of (first c.before.before.before.before.before.before.before.before.before.before)) c.requires.1.kept (counted c.before.before.before.before.before.before.before fail.ensures.3) fail.result x.state.blurred x.state.violation x.place.0 x.state.borrowed_at.0
    (Law.placed_violated (block c.before.before.before.before.before.before.before.before.before.before).successors x.state.blurred x.state.violation x.state.borrowed_at.0 x.state.refusal (running_of (last c.before.before.before.before.before.before.before.before.before.before)) x.place.0 _ (ran c.before.before.before.before.before.before.before.before.before.before) c.if-s-ne0.true)
    (fail.ensures.1 ∙ marked c.before.before.before.before.before.before.before (failed x.state.violation x.place.0 x.state.borrowed_at.0)) (fail.ensures.0 ∙ after c.before.before.before.before.before.before.before)
    (fail.ensures.2.visits ∙ add-one c.args.t.visits) (fail.ensures.2.turns ∙ c.onward-u.ensures.3)
    (fail.ensures.2.blurred ∙ c.plus.ensures.0) c.plus.ensures.1

pub returns-then-s-ne0-2 : goal.returns-then-s-ne0-2
unfolding statuses_of
returns-then-s-ne0-2 c =
    let x = c.run_block-r.result in
    let stop = c.stop in
    Law.turned_refused c.args.listing.now c.args.code.now c.args.routine c.args.area.now c.args.t c.requires.0
    (state_of (first c.before.before.before.before.before.before.before.before.before.before)) c.requires.1.kept (counted c.before.before.before.before.before.before.before stop.ensures.3) stop.result x.state.refusal x.place.0
    (Law.placed_refused (block c.before.before.before.before.before.before.before.before.before.before).successors x.state.blurred x.state.violation x.state.borrowed_at.0 x.state.refusal (running_of (last c.before.before.before.before.before.before.before.before.before.before)) x.place.0 _ (ran c.before.before.before.before.before.before.before.before.before.before) c.if-s-ne0.false c.if-s-ne0-2.true)
    (stop.ensures.1 ∙ c.onward-u.ensures.1) stop.ensures.0 (stop.ensures.2.visits ∙ add-one c.args.t.visits) (stop.ensures.2.turns ∙ c.onward-u.ensures.3)
    (stop.ensures.2.blurred ∙ c.onward-u.ensures.4)

pub plus-requires-2 : goal.plus-requires-2
plus-requires-2 c =
    let p = c.requires.0 in
    let h = p.few in
    let k = p.small in
    omega (arith, h, k)

pub clear-v-requires : goal.clear-v-requires
clear-v-requires c =
    let p = c.requires.0 in
    let h = p.within in
    let k = p.blocks in
    omega (arith, h, k)

pub returns-then-b-eq0 : goal.returns-then-b-eq0
unfolding statuses_of
returns-then-b-eq0 c =
    let b = listed c.before.before.before.before.before.before.before.before.before.before.before.before.before in
    let clear = c.clear-v in
    let none = ap {B = List ℕ} (λ (n : ℕ). take n (b.first.0 ∷ b.second.0 ∷ [])) c.if-b-eq0.true in
    Law.turned_returned c.args.listing.now c.args.code.now c.args.routine c.args.area.now c.args.t c.requires.0
    (state_of (first c.before.before.before.before.before.before.before.before.before.before.before.before.before)) c.requires.1.kept (counted c.before.before.before.before.before.before.before.before.before.before clear.ensures.3) clear.result c.run_block-r.result.state.blurred
    (ended c.before.before.before.before.before.before.before.before.before.before.before.before.before c.if-s-ne0.false c.if-s-ne0-2.false ∙ ap {B = Result State} (λ (es : List ℕ). end_for es (running_of (last c.before.before.before.before.before.before.before.before.before.before.before.before.before))) none)
    (clear.ensures.1 ∙ marked c.before.before.before.before.before.before.before.before.before.before fine) (clear.ensures.0 ∙ after c.before.before.before.before.before.before.before.before.before.before) (clear.ensures.2.visits ∙ add-one c.args.t.visits) (clear.ensures.2.turns ∙ c.onward-u.ensures.3)
    (clear.ensures.2.blurred ∙ c.plus-2.ensures.0) c.plus-2.ensures.1

pub propagate-requires : goal.propagate-requires
propagate-requires c =
    let p = c.requires.0 in
    let l = c.with_locals-e.ensures.0 in
    let k = p.blocks in (
      omega (arith, k, length-take c.args.routine.block_count c.args.routine.blocks),
      p.area,
      record {
        fits = fit c.before.before.before.before;
        sound = subst (λ (n : ℕ). Sound n (its-run c.before.before.before.before).args.area.now) (sym l) p.sound;
        strong = subst (λ (n : ℕ). Strong n (state_of (sent c.before.before.before.before))) (sym l) (subst (Strong (its-run c.before.before.before.before).args.routine.locals) (sym (same_state c.before.before.before.before)) (strong c.before.before.before.before));
      },
      Law.positive _ c.if-b-eq0.false,
      (let h = p.few in let k = p.small in let b = c.clear-v.ensures.2.blurred in let a = c.plus-2.ensures.0 in let f = c.plus-2.ensures.1 in omega (arith, h, k, b, a, f)),
    )

pub returns : goal.returns
unfolding statuses_of blocks_in
returns c =
    let clear = c.clear-v in
    Law.turned_ended c.args.listing.now c.args.code.now c.args.routine c.args.area.now c.args.t c.requires.0
    (state_of (first c.before.before.before.before.before.before.before.before.before.before.before.before.before.before.before.before.before.before.before.before)) c.requires.1.kept (counted c.before.before.before.before.before.before.before.before.before.before.before.before.before.before.before.before.before clear.ensures.3)
    c.run_block-r.result.state.blurred (state_of (sent c.before.before.before.before.before.before.before)) (block c.before.before.before.before.before.before.before.before.before.before.before.before.before.before.before.before.before.before.before.before) c.propagate.new.area clear.result c.propagate.result
    (ended_some c.before.before.before.before.before.before.before.before.before.before.before.before.before.before.before.before.before.before.before.before c.if-s-ne0.false
    c.if-s-ne0-2.false c.if-b-eq0.false
    ∙ ap {B = Result State} (Result.ended c.run_block-r.result.state.blurred) (sym (same_state c.before.before.before.before.before.before.before)))
    (Law.block_at_lem c.args.routine.blocks c.args.routine.block_count c.args.t.next c.requires.0.within) (clear.ensures.1 ∙ marked c.before.before.before.before.before.before.before.before.before.before.before.before.before.before.before.before.before fine) (clear.ensures.0 ∙ after c.before.before.before.before.before.before.before.before.before.before.before.before.before.before.before.before.before) (clear.ensures.2.visits ∙ add-one c.args.t.visits) (clear.ensures.2.turns ∙ c.onward-u.ensures.3)
    (clear.ensures.2.blurred ∙ c.plus-2.ensures.0) c.plus-2.ensures.1
    (subst (λ (n : ℕ). Propagated (blocks_in c.args.routine.blocks c.args.routine.block_count) n (block c.before.before.before.before.before.before.before.before.before.before.before.before.before.before.before.before.before.before.before.before) (state_of (sent c.before.before.before.before.before.before.before)) c.args.area.now c.propagate.new.area clear.result c.propagate.result)
    c.with_locals-e.ensures.0 c.propagate.ensures)
