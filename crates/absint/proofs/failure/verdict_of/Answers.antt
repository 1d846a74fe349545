use Rattle.std.specs.Prelude.{◌≡◌, ◌+◌, ◌<◌, refl, List, Option, None, map, length, drop, get_or}
use Rattle.std.proofs.Common.{arith, sym, ap, ◌∙◌, add-one, drop-cons, drop_of_length-le}
use Rattle.std.proofs.Math.Option.{none}
use Rattle.std.proofs.lemmas.List.{length-map}
use Rattle.meaning.proofs.Laws.Array.{length_of_map, map_step}
use Rattle.absint.specs.declared.failure.FailedBlock.{FailedBlock}
use Rattle.meaning.specs.Loop.{Block, Status, verdict_for}
use Rattle.meaning.specs.Laws.Fit.{lowest_by}
use Rattle.listing.specs.Models.{block_of}
use Rattle.absint.specs.Models.{statuses_of, status_of, failure_of, verdict_by}
use Rattle.absint.specs.LoopLaws.{past_block, statuses_step, statuses_count, lowest_step, lowest_all, verdict_going}
use Rattle.absint.proofs.failure.verdict_of.Goals as goal

pub loop-i-init : goal.loop-i-init
loop-i-init c = refl

pub loop-i-preserved : goal.loop-i-preserved
loop-i-preserved c =
    let loop = c.loop-i in
    let blocks = c.args.blocks.now in
    let t = c.args.t.now in
    let few = c.requires in
    let rows : length t.statuses ≡ 16 = search length_of_map in
    let i = loop.i in
    let h : i < length blocks = c.loop-i-test.true in
    let bs : List Block = drop (i + 1) (map block_of blocks) in
    let xs : List Status = drop (i + 1) (statuses_of t) in
    ap (lowest_by bs xs) c.lower-lowest.ensures
    ∙ sym (lowest_step (block_of (get_or blocks i past_block)) bs (status_of (get_or t.statuses i None)) xs (failure_of loop.lowest))
    ∙ (λ k. lowest_by (sym (map_step block_of blocks i (get_or blocks i past_block) (rw add-one (drop-cons blocks i past_block h))) k) (sym (statuses_step t i (omega (arith, rows, h, few))) k) (failure_of loop.lowest))
    ∙ loop.invariant

pub returns-in-Some : goal.returns-in-Some
returns-in-Some c =
    let t = c.args.t.now in
    let rows : length t.statuses ≡ 16 = search length_of_map in
    (sym (ap (verdict_by (verdict_for (lowest_by (map block_of c.args.blocks.now) (statuses_of t) none))) c.in-Some.is), statuses_count t rows)

pub returns-in-Some-lowest : goal.returns-in-Some-lowest
returns-in-Some-lowest c =
    let loop = c.loop-i in
    let blocks = c.args.blocks.now in
    let t = c.args.t.now in
    let rows : length t.statuses ≡ 16 = search length_of_map in
    let all = lowest_all (map block_of blocks) (statuses_of t) loop.i (failure_of loop.lowest) (drop_of_length-le (map block_of blocks) {i = loop.i} (simp length-map c.loop-i-test.false)) loop.invariant in
    (ap (λ (l : Option FailedBlock). verdict_for (failure_of l)) (sym c.in-Some-lowest.is) ∙ verdict_going (map block_of blocks) t loop.lowest c.in_default.is all, statuses_count t rows)

pub returns-in-None : goal.returns-in-None
returns-in-None c =
    let loop = c.loop-i in
    let blocks = c.args.blocks.now in
    let t = c.args.t.now in
    let rows : length t.statuses ≡ 16 = search length_of_map in
    let all = lowest_all (map block_of blocks) (statuses_of t) loop.i (failure_of loop.lowest) (drop_of_length-le (map block_of blocks) {i = loop.i} (simp length-map c.loop-i-test.false)) loop.invariant in
    (ap (λ (l : Option FailedBlock). verdict_for (failure_of l)) (sym c.in-None.is) ∙ verdict_going (map block_of blocks) t loop.lowest c.in_default.is all, statuses_count t rows)
