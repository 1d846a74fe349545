use Rattle.std.proofs.Common.{◌≡◌, ◌++◌, ◌∙◌, ℕ, List, sym, ap, length, take, drop, replicate, arith, length-take}
use Rattle.meaning.specs.Area.{zeros}
use Rattle.meaning.proofs.Laws.Area.{cleared_long, cleared_short}
use Rattle.absint_area.proofs.clear.Goals as goal

pub returns-then-area-ge-AREA_WORDS : goal.returns-then-area-ge-AREA_WORDS
unfolding zeros
returns-then-area-ge-AREA_WORDS c =
    let ws = c.args.area.now in
    let long = c.if-area-ge-AREA_WORDS.true in
    let n : length (take 16384 ws) ≡ 16384 = length-take 16384 ws ∙ omega (arith, long) in
    ap (λ (us : List ℕ). us ++ drop 16384 ws) (c.fill.ensures.after (λ y e. e) ∙ ap (λ (n : ℕ). replicate n 0) n)
    ∙ sym (cleared_long ws long)

pub returns-else-area-ge-AREA_WORDS : goal.returns-else-area-ge-AREA_WORDS
returns-else-area-ge-AREA_WORDS c = sym (cleared_short _ c.if-area-ge-AREA_WORDS.false)
