use mathlib.Core.Path.{refl, sym, ap, ◌∙◌}
use Rattle.meaning.specs.EntryPoints.{Running}
use Rattle.meaning.proofs.Laws.Join.{join_strong}
use native.Mathlib.Omega.{arith}
use Rattle.listing.specs.Models.{block_of}
use Rattle.abstract_state.specs.Models.{words, state_of}
use Rattle.meaning.specs.Loop.{stopped}
use Rattle.absint.specs.Models.{statuses_of}
use Rattle.absint.specs.PropagateLaws as H
use Rattle.absint.specs.LoopLaws.{le_asks}
use Rattle.absint.specs.TurnLaws.{kept_root}
use mathlib.Core.Bool.{Bool, cond}
use Rattle.absint.proofs.propagate.propagate_at.Goals as goal

pub start_from-requires : goal.start_from-requires
start_from-requires c = λ k e. (c.requires.3.sound _ k e).form.formed

pub returns-in_default : goal.returns-in_default
returns-in_default c =
    let a = c.args in
    let p = c.requires.3 in
    let clear = c.clear in
    let s = state_of (words a.locals.now a.names.now a.edges.now a.s) in
    let w = c.store.ensures p.fits.locals p.fits.tells.words p.fits.tells.rows in (
      λ bs e within few. H.propagated_fresh bs a.s.num_locals (block_of a.b) s a.e.0 a.area.now a.t c.requires.0 a.j e within few c.requires.2
          clear.result clear.ensures.3 a.s.num_locals c.store.new.area (λ us i. refl) (c.in_default.ensures refl refl refl) w
          clear.ensures.0 clear.ensures.1 clear.ensures.2,
      H.stored_sound a.s.num_locals a.s.num_locals a.j s a.area.now c.store.new.area refl w p.sound p.strong,
    )

pub plus-requires : goal.plus-requires
plus-requires c = c.requires.4

pub returns-in-Err : goal.returns-in-Err
unfolding statuses_of
returns-in-Err c =
    let a = c.args in
    let ours = words a.locals.now a.names.now a.edges.now a.s in
    let old = words c.start_from.new.locals c.start_from.new.names c.start_from.new.edges c.in-Some.old in
    let from = c.in-Some.ensures refl refl refl in
    let j = c.in-Err.ensures from.fits c.requires.3.fits in
    let stop = c.stop in (
      λ bs e within few. H.propagated_refused bs a.s.num_locals (block_of a.b) (state_of ours) a.e.0 a.area.now a.t c.requires.0 a.j e within few c.requires.2
          stop.result stop.ensures.3 (state_of old) _ 0 from.kept
          (sym j.0.0.answer) j.0.0.blurs (stop.ensures.0 ∙ ap (λ n. stopped n a.b.exit.0) c.from.ensures) stop.ensures.1
          (record { visits = stop.ensures.2.visits; turns = stop.ensures.2.turns; blurred = omega (arith, stop.ensures.2.blurred); few = omega arith }),
      c.requires.3.sound,
    )

pub revisit-requires : goal.revisit-requires
revisit-requires c = (c.requires.1, c.requires.0)

pub returns-then-x : goal.returns-then-x
unfolding statuses_of
returns-then-x c =
    let a = c.args in
    let x = c.in-Ok.x in
    let p = c.requires.3 in
    let ours = words a.locals.now a.names.now a.edges.now a.s in
    let old = words c.start_from.new.locals c.start_from.new.names c.start_from.new.edges c.in-Some.old in
    let joined = words c.join.new.locals c.join.new.names c.join.new.edges x.state in
    let from = c.in-Some.ensures refl refl refl in
    let j = c.in-Ok.ensures from.fits p.fits in
    let f = j.0.0.fits in
    let t = sym j.0.0.answer in
    let root = ap (λ (r : Running). r.root) j.0.0.rest ∙ from.locals in
    let r = c.revisit in
    let w = c.store-then-x.ensures f.locals f.tells.words f.tells.rows in (
      λ bs e within few. H.propagated_changed bs a.s.num_locals (block_of a.b) (state_of ours) a.e.0 a.area.now a.t c.requires.0 a.j e within few c.requires.2
          r.result r.ensures.3 (state_of old) (state_of joined) x.state.num_locals c.store-then-x.new.area _ x.blurred (kept_root x.state.num_locals a.s.num_locals root)
          from.kept t j.0.0.blurs (sym j.0.1 ∙ c.if-x.true) w (ap (λ (t : Bool). cond t a.j a.t.next) (sym (c.le.ensures ∙ le_asks a.e.0 a.b.entry.0))) r.ensures.0 r.ensures.1
          (record { visits = r.ensures.2.visits; turns = r.ensures.2.turns; blurred = r.ensures.2.blurred ∙ c.plus.ensures.0; few = c.plus.ensures.1 }),
      H.stored_sound x.state.num_locals a.s.num_locals a.j (state_of joined) a.area.now c.store-then-x.new.area root w p.sound
          (join_strong a.s.num_locals (state_of old) (state_of ours) (state_of joined) t (p.sound a.j _ from.kept) p.strong),
    )

pub returns : goal.returns
unfolding statuses_of
returns c =
    let a = c.args in
    let x = c.in-Ok.x in
    let ours = words a.locals.now a.names.now a.edges.now a.s in
    let old = words c.start_from.new.locals c.start_from.new.names c.start_from.new.edges c.in-Some.old in
    let joined = words c.join.new.locals c.join.new.names c.join.new.edges x.state in
    let from = c.in-Some.ensures refl refl refl in
    let j = c.in-Ok.ensures from.fits c.requires.3.fits in
    let t = sym j.0.0.answer in (
      λ bs e within few. H.propagated_same bs a.s.num_locals (block_of a.b) (state_of ours) a.e.0 a.area.now a.t c.requires.0 a.j e within few c.requires.2
          _ (state_of old) (state_of joined) x.blurred from.kept t j.0.0.blurs (sym j.0.1 ∙ c.if-x.false) refl refl
          (record { visits = refl; turns = refl; blurred = c.plus.ensures.0; few = c.plus.ensures.1 }),
      c.requires.3.sound,
    )
