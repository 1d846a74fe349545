use mathlib.Core.Path.{◌∙◌, refl, ap}
use native.Mathlib.Numerals.{add-one}
use Rattle.meaning.specs.Loop.{at}
use Rattle.absint.specs.TurnLaws as Law
use native.Mathlib.Omega.{arith}
use Rattle.absint.proofs.interpreter.turn.Goals as goal

pub start_from-requires : goal.start_from-requires
start_from-requires c = λ k e. (c.requires.sound _ k e).form.formed

pub visit-requires : goal.visit-requires
visit-requires c = (c.requires, c.in-Some.ensures refl refl refl)

pub onward-requires : goal.onward-requires
onward-requires c =
    let p = c.requires in
    let h = p.within in
    let k = p.blocks in
    (omega (arith, h, k), p.few)

pub returns-in-None : goal.returns-in-None
returns-in-None c =
    let o = c.onward in
    Law.turned_over c.args.listing.now c.args.code.now c.args.routine c.args.area.now c.args.t c.requires o.result
    (c.in-None.ensures refl refl refl) o.ensures.1 (o.ensures.0 c.requires.going ∙ ap at (add-one c.args.t.next)) o.ensures.2 o.ensures.3 o.ensures.4
